-- Reading a rulebook: what an answer says, which answer is given, and what is then in the lent tables.
-- Assumes nothing.
use Rattle.std.specs.Prelude.{◌≡◌, cond, ◌&&◌, List, [], ◌∷◌, ℕ, zero, suc, ◌+◌, ◌*◌, ltb, leb, length, take, drop, Ok, Err}
use Rattle.items.specs.Names.{name_room}
use Rattle.rules.specs.Table.{rule_words}
use Rattle.laws.specs.Over.{over}
use Rattle.refusals.specs.Said.{Said, success, said_refusal}
use Rattle.refusals.specs.Sizes.{most_text}
use Rattle.refusals.specs.declared.Fault.{Fault}
use Rattle.reader.specs.Lines.{State, start, Result, result_of, Turn, on, stop, refused_at, step, ReadBook}

-- What an answer says: the number of items and the number of rules, or a refusal.
abbrev pub said_read : ReadBook → Said
said_read (Ok h) = success 0 (h.items ∷ h.rules ∷ [])
said_read (Err r) = said_refusal r

-- Line after line; "the first faulty line decides". The text is no longer than the first number, and each line has a byte.
abbrev pub go_on : (State → ℕ → Result) → Turn → Result
go_on more (on next k) = more next k
go_on more (stop r) = r

unfoldable pub read_from : ℕ → State → List ℕ → Result
read_from zero st l = result_of st (refused_at Fault.EndCount (st.counts.lines + 1))
read_from (suc f) st l = go_on (λ next k. read_from f next (drop k l)) (step st l)

abbrev pub read_text : List ℕ → Result
read_text l = read_from (length l) start l

-- "Reading: 1, then the lines, then 11." The lent tables have a bytes and b words.
abbrev pub fitted : ℕ → ℕ → ReadBook → ReadBook
fitted a b (Ok h) =
    cond (leb (h.items * name_room) a && leb (h.rules * rule_words) b) (Ok h) (refused_at Fault.NoRoom 0)
fitted a b (Err r) = Err r

unfoldable pub read_answer : List ℕ → ℕ → ℕ → ReadBook
read_answer l a b = cond (ltb most_text (length l)) (refused_at Fault.TooLong 0) (fitted a b (read_text l).answer)

-- What reading answers where the lent tables have room for every book: 1, then the lines.
abbrev pub read_whole : List ℕ → ReadBook
read_whole l = cond (ltb most_text (length l)) (refused_at Fault.TooLong 0) (read_text l).answer

-- "A success writes from the front .. and leaves the rest of the buffer"; "Every refusal leaves each lent buffer untouched."
abbrev pub items_after : ReadBook → List ℕ → List ℕ → List ℕ
items_after (Ok h) read before = over before 0 (take (h.items * name_room) read)
items_after (Err r) read before = before

abbrev pub rules_after : ReadBook → List ℕ → List ℕ → List ℕ
rules_after (Ok h) read before = over before 0 (take (h.rules * rule_words) read)
rules_after (Err r) read before = before

-- The promise of `read`: what its answer says of the text l, and what the tables, which held `items` and `rules`, hold then.
pub record ReadSays (l items rules : List ℕ) (s : Said) (items' rules' : List ℕ) : Type 0 where
  pub answer : s ≡ said_read (read_answer l (length items) (length rules))
  pub items_are : items' ≡ items_after (read_answer l (length items) (length rules)) (read_text l).names items
  pub rules_are : rules' ≡ rules_after (read_answer l (length items) (length rules)) (read_text l).words rules
