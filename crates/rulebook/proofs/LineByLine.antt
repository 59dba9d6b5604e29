-- Reading line after line: what reading gives after one line is what reading the rest gives from the next state. They rest on the definition of
-- reading, with any number that the text is no longer than.
-- Assumes nothing.
use mathlib.Core.Path.{◌≡◌, refl, sym, ◌∙◌}
use mathlib.Core.Bool.{true}
use mathlib.Core.List.{List, [], ◌∷◌, ◌++◌}
use Prim.Native.Nat.{ℕ, zero, suc, ◌≤◌}
use native.Mathlib.Omega.{arith}
use lib.ListN.{length, drop, length-append, length-drop}
use lib.Seq.{drop_at}
use Rattle.std.specs.Prelude.{Some}
use Rattle.keys.specs.Keys.{key_number, next_allowed}
use Rattle.lines.specs.Lines.{line_at, line_len}
use Rattle.lines.specs.declared.Line.{Line}
use Rattle.reader.specs.Lines.{State, Result, on, stop, key_step, line_step, step}
use Rattle.reader.specs.Reading.{go_on, read_from}

-- From a state, the text gives a result of which Q holds, whatever number bounds the text's length.
pub record Reads (Q : Result → Type 0) (st : State) (l : List ℕ) : Type 0 where
  pub reads : (f : ℕ) → length l ≤ f → Q (read_from f st l)

reads_turn : {Q : Result → Type 0} {st : State} {l : List ℕ} → 1 ≤ length l
    → ((f : ℕ) → length l ≤ suc f → Q (go_on (λ next k. read_from f next (drop k l)) (step st l))) → Reads Q st l
unfolding read_from
reads_turn {Q} {st} {l} some g = record { reads = λ f h. go f h }
  where
    go : (f : ℕ) → length l ≤ f → Q (read_from f st l)
    go zero h = absurd (omega arith)
    go (suc f) h = g f h

module _ {Q : Result → Type 0} {st : State} {l : List ℕ} (some : 1 ≤ length l) where
  pub reads_on : {next : State} {k : ℕ} → step st l ≡ on next k → 1 ≤ k → Reads Q next (drop k l) → Reads Q st l
  reads_on {next} {k} e h r =
      reads_turn some
      (λ f s. rw e (r.reads f (omega (arith, length-drop k l))))

  pub reads_stop : {r : Result} → step st l ≡ stop r → Q r → Reads Q st l
  reads_stop e q = reads_turn some (λ f s. rw e q)

-- A line, with its LF, reads as y, whatever follows it.
pub record LineRead (line : List ℕ) (y : Line) : Type 0 where
  pub found : (rest : List ℕ) → line_at (line ++ rest) ≡ Some y
  pub size : line_len y ≡ length line

step_line : (st : State) (l : List ℕ) → 1 ≤ length l → step st l ≡ line_step st l (line_at l)
unfolding step
step_line st [] h = absurd (omega arith)
step_line st (b ∷ l) h = refl

-- Where its key may come next, the line is as its key says.
module _ {line : List ℕ} {y : Line} (x : LineRead line y) (rest : List ℕ) where
  some : 1 ≤ length (line ++ rest)
  some = omega (arith, x.size, length-append line rest)

  step_key : (st : State) → next_allowed st.counts.after (key_number y.key) ≡ true
      → step st (line ++ rest) ≡ key_step y.key st (line ++ rest) y
  unfolding line_step
  step_key st e = step_line st (line ++ rest) some ∙ rw (x.found rest, e)

  module _ {Q : Result → Type 0} {st : State} (e : next_allowed st.counts.after (key_number y.key) ≡ true) where
    pub reads_line : {next : State} → key_step y.key st (line ++ rest) y ≡ on next (line_len y) → Reads Q next rest
        → Reads Q st (line ++ rest)
    reads_line g r =
        reads_on some (step_key st e ∙ g) (omega arith) (rw (drop_at line rest (line_len y) (sym x.size)) r)

    pub reads_end : {r : Result} → key_step y.key st (line ++ rest) y ≡ stop r → Q r → Reads Q st (line ++ rest)
    reads_end g q = reads_stop some (step_key st e ∙ g) q
