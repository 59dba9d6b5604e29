-- Demand 3, of texts: two rulebooks that differ only in the classes written there, and agree in those on one mark or on the level. If both are labelled, each item has that
-- mark in both answers or in neither, or the same level. It rests on the theorem about solving.
-- Assumes nothing.
use mathlib.Core.Path.{◌≡◌}
use mathlib.Core.List.{List}
use Prim.Native.Nat.{ℕ, ◌<◌}
use Rattle.std.specs.Prelude.{Ok}
use Rattle.classes.specs.Parts.{part_count}
use Rattle.meaning.specs.Classes.{ClassesAgree}
use Rattle.refusals.specs.Said.{Said, success, refused}
use Rattle.rules.specs.declared.Head.{Head}
use Rattle.reader.specs.Reading.{read_text, read_whole}
use Rattle.reader.specs.Agreeing.{TextsAgree}
use Rattle.reader.proofs.Agreeing.{texts_agree}
use Rattle.solver.specs.Solving.{said_solved, labels_of, SolveSays}
use Rattle.solver.proofs.Alone.{solve_one_part_alone}
use Rattle.assign.specs.Assigning.{said_head, Lent, BookSays, short_items, unsolved, solved, AssignSays, unread, read}
use Rattle.assign.proofs.Unique.{head_of}

-- An answer with labels: the text is read as the book under the head h, and solving labels it.
record Solves (l : List ℕ) (before : Lent) (h : Head) (after : Lent) : Type 0 where
  whole : read_whole l ≡ Ok h
  count : ℕ
  labels : SolveSays h (read_text l).words before.labels (said_solved (Ok count)) after.labels

abbrev SaysSolves : List ℕ → Lent → Said → Lent → Type 0
SaysSolves l before (success c x) after = Solves l before (head_of x) after
SaysSolves l before (refused n p) after = Unit

book_solves : (l : List ℕ) {h : Head} → read_whole l ≡ Ok h → {before : Lent} {s : Said} {after : Lent}
    → BookSays h (read_text l).names (read_text l).words before s after → SaysSolves l before s after
book_solves l e (short_items s) = tt
book_solves l e (unsolved room x) = tt
book_solves l e (solved {k} room x) = record { whole = e; count = k; labels = x }

says_solves : {l : List ℕ} {before : Lent} {s : Said} {after : Lent} → AssignSays l before s after → SaysSolves l before s after
says_solves (unread e) = tt
says_solves {l} (read e x) = book_solves l e x

pub assign_one_part_alone : {l m : List ℕ} {h k : Head} {before after before' after' : Lent} {p : ℕ} → p < part_count → TextsAgree p l m
    → AssignSays l before (said_head h) after → AssignSays m before' (said_head k) after'
    → (i : ℕ) → i < h.items → ClassesAgree p (labels_of after.labels i) (labels_of after'.labels i)
assign_one_part_alone is_part agree x y =
    let one = says_solves x in
    let two = says_solves y in
    solve_one_part_alone is_part (texts_agree agree one.whole two.whole) one.labels two.labels
