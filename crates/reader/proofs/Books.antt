-- A text that was read as a book: both tables are right, the lent tables hold them up to their counts, and tables that have room for every book never lack it.
-- They rest on what reading promises, and on what is read being right.
-- Assumes nothing.
use mathlib.Core.Path.{◌≡◌, refl, sym, ap, ◌∙◌, subst}
use mathlib.Core.Bool.{Bool, true, false, cond, ◌&&◌}
use mathlib.Core.List.{List}
use Prim.Native.Nat.{ℕ, ◌*◌, ◌≤◌}
use native.Mathlib.Omega.{arith}
use lib.Dec.{ltb, leb}
use lib.ListN.{length, take}
use lib.Seq.{length-take-le}
use borrow.Author.Tests.{le-ltb, ltb-false, le-leb, leb-true}
use Rattle.std.specs.Prelude.{Ok, Err}
use Rattle.laws.specs.Over.{over}
use Rattle.laws.proofs.Bools.{and_left, and_right}
use Rattle.laws.proofs.Buffers.{front_over}
use Rattle.refusals.specs.Sizes.{most_text, most_items, most_rules}
use Rattle.refusals.specs.declared.Fault.{Fault}
use Rattle.items.specs.Names.{name_room}
use Rattle.rules.specs.Table.{rule_words}
use Rattle.rules.specs.declared.Head.{Head}
use Rattle.accepts.specs.Tables.{Tables, SameTables}
use Rattle.accepts.proofs.Counted.{tables_counted}
use Rattle.reader.specs.Lines.{refused_at, ReadBook}
use Rattle.reader.specs.Reading.{said_read, read_text, fitted, read_answer, read_whole, ReadSays}
use Rattle.reader.proofs.ReadRight.{read_right}
use Rattle.reader.proofs.Unique.{read_told}

-- The answer of reading is a book exactly where the text is not too long, it is that book, and the lent tables, of a bytes and b words, have room for it.
pub record Accepted (l : List ℕ) (a b : ℕ) (h : Head) : Type 0 where
  pub short : length l ≤ most_text
  pub book : (read_text l).answer ≡ Ok h
  pub items : h.items * name_room ≤ a
  pub rules : h.rules * rule_words ≤ b

abbrev AnswerSays : List ℕ → ℕ → ℕ → ReadBook → Type 0
AnswerSays l a b (Ok h) = Accepted l a b h
AnswerSays l a b (Err r) = Unit

answer_says : (l : List ℕ) (a b : ℕ) → AnswerSays l a b (read_answer l a b)
unfolding read_answer
answer_says l a b = long (ltb most_text (length l)) refl
  where
    room : length l ≤ most_text → (h : Head) → (read_text l).answer ≡ Ok h → (c : Bool)
        → (leb (h.items * name_room) a && leb (h.rules * rule_words) b) ≡ c → AnswerSays l a b (cond c (Ok h) (refused_at Fault.NoRoom 0))
    room s h e true f = record {
      short = s;
      book = e;
      items = leb-true (h.items * name_room) a (and_left (leb (h.items * name_room) a) (leb (h.rules * rule_words) b) f);
      rules = leb-true (h.rules * rule_words) b (and_right (leb (h.items * name_room) a) (leb (h.rules * rule_words) b) f);
    }
    room s h e false f = tt

    fits : length l ≤ most_text → (x : ReadBook) → (read_text l).answer ≡ x → AnswerSays l a b (fitted a b x)
    fits s (Ok h) e = room s h e (leb (h.items * name_room) a && leb (h.rules * rule_words) b) refl
    fits s (Err r) e = tt

    long : (c : Bool) → ltb most_text (length l) ≡ c → AnswerSays l a b (cond c (refused_at Fault.TooLong 0) (fitted a b (read_text l).answer))
    long true e = tt
    long false e = fits (ltb-false most_text (length l) e) (read_text l).answer refl

pub accepted_answer : {l : List ℕ} {a b : ℕ} {h : Head} → Accepted l a b h → read_answer l a b ≡ Ok h
unfolding read_answer
accepted_answer {l} {a} {b} {h} s =
    rw (le-ltb most_text (length l) s.short, s.book, le-leb (h.items * name_room) a s.items, le-leb (h.rules * rule_words) b s.rules)

-- A front of one buffer that was put over the front of another.
front_put : (n : ℕ) (d x : List ℕ) → n ≤ length x → n ≤ length d → take n (over d 0 (take n x)) ≡ take n x
front_put n d x h room = front_over d (take n x) n (length-take-le n x h) room

-- Reading answered with a book.
module _ {l items rules : List ℕ} {r : ReadBook} {items' rules' : List ℕ} (read : ReadSays l items rules (said_read r) items' rules') {h : Head}
    (e : r ≡ Ok h) where
  told : read_answer l (length items) (length rules) ≡ Ok h
  told = sym (read_told read) ∙ e

  pub accepted : Accepted l (length items) (length rules) h
  accepted = subst (AnswerSays l (length items) (length rules)) told (answer_says l (length items) (length rules))

  right : Tables h (read_text l).names (read_text l).words
  right = read_right l accepted.book

  -- The lent tables hold what was read, up to the counts.
  pub tables_read : SameTables h (read_text l).names (read_text l).words items' rules'
  tables_read = record {
    items = sym (ap (take (h.items * name_room)) (rw told at read.items_are) ∙ front_put _ items _ right.items.room accepted.items);
    rules = sym (ap (take (h.rules * rule_words)) (rw told at read.rules_are) ∙ front_put _ rules _ right.rules.room accepted.rules);
  }

  passes : Tables h items' rules'
  passes = tables_counted tables_read right

-- What is read passes the table tests.
pub read_passes : {l items rules : List ℕ} {h : Head} {items' rules' : List ℕ} → ReadSays l items rules (said_read (Ok h)) items' rules'
    → Tables h items' rules'
read_passes read = passes read refl

-- Tables that have room for every book never lack it.
pub read_whole_lem : (l : List ℕ) → read_answer l (most_items * name_room) (most_rules * rule_words) ≡ read_whole l
unfolding read_answer
read_whole_lem l = ap (cond (ltb most_text (length l)) (refused_at Fault.TooLong 0)) (fits (read_text l).answer refl)
  where
    fits : (x : ReadBook) → (read_text l).answer ≡ x → fitted (most_items * name_room) (most_rules * rule_words) x ≡ x
    fits (Ok h) e =
        let right = read_right l e in
        rw (
          le-leb (h.items * name_room) (most_items * name_room) (omega (arith, right.items.size)),
          le-leb (h.rules * rule_words) (most_rules * rule_words) (omega (arith, right.rules.accepted.rules)),
        )
    fits (Err r) e = refl

pub answer_whole : {l items rules : List ℕ} {r : ReadBook} {items' rules' : List ℕ} → ReadSays l items rules (said_read r) items' rules'
    → length items ≡ most_items * name_room → length rules ≡ most_rules * rule_words → {a : ReadBook} → r ≡ a → read_whole l ≡ a
answer_whole {l} read bytes words e = sym (read_whole_lem l) ∙ sym (read_told read ∙ rw (bytes, words)) ∙ e

-- A book that is read is the book of the lines, and its tables are right.
pub book_of_lines : (l : List ℕ) {h : Head} → read_whole l ≡ Ok h → (read_text l).answer ≡ Ok h
book_of_lines l {h} = go (ltb most_text (length l))
  where
    go : (b : Bool) → cond b (refused_at Fault.TooLong 0) (read_text l).answer ≡ Ok h → (read_text l).answer ≡ Ok h
    go true e = let never : ◌≡◌ {A = ℕ} 1 0 = cc in absurd (omega arith)
    go false e = e

pub read_tables : (l : List ℕ) {h : Head} → read_whole l ≡ Ok h → Tables h (read_text l).names (read_text l).words
read_tables l e = read_right l (book_of_lines l e)
