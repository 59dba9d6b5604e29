-- What a labelled book says: the items and labels that were lent hold the names and the wanted labels of the book that was read, and pass the tests of lent items and
-- labels. It rests on the promise of `assign`, and on what is read being right.
-- Assumes nothing.
use mathlib.Core.Path.{◌≡◌, refl, sym}
use mathlib.Core.List.{List}
use Prim.Native.Nat.{ℕ, ◌*◌, ◌≤◌, ◌<◌}
use native.Mathlib.Omega.{arith}
use lib.ListN.{length, take}
use lib.Seq.{length-take-le}
use Rattle.std.specs.Prelude.{Ok}
use Rattle.laws.specs.First.{AllBelow}
use Rattle.laws.proofs.Buffers.{front_over}
use Rattle.meaning.specs.Classes.{classes}
use Rattle.meaning.specs.Labelling.{Wanted}
use Rattle.refusals.specs.Said.{Said, success, refused}
use Rattle.items.specs.Names.{name_room}
use Rattle.items.specs.Table.{name_of, ItemsOk}
use Rattle.labels.specs.Labels.{LevelInRange, Room}
use Rattle.rules.specs.declared.Head.{Head}
use Rattle.rules.specs.Table.{book_of}
use Rattle.accepts.specs.Tables.{Tables, SameTables}
use Rattle.accepts.proofs.Counted.{tables_counted, name_same}
use Rattle.reader.specs.Reading.{read_text, read_whole}
use Rattle.reader.proofs.Books.{read_tables}
use Rattle.solver.specs.Solving.{Buffers, labels_of, WritesLabels, writes_labels}
use Rattle.assign.specs.Assigning.{said_head, Lent, lent, items_over, short_items, unsolved, solved, AssignSays, unread, read}
use Rattle.assign.proofs.Unique.{head_of}

-- The book that was read has its names and its wanted labels in the buffers.
pub record LabelledAs (l : List ℕ) (h : Head) (b : Lent) : Type 0 where
  pub whole : read_whole l ≡ Ok h
  pub items : ItemsOk b.items h.items
  pub names : (i : ℕ) → i < h.items → name_of b.items i ≡ name_of (read_text l).names i
  pub room : Room h.items b.labels.levels b.labels.marks
  pub wanted : Wanted classes (book_of h (read_text l).words) (labels_of b.labels)

-- Its levels are in range.
pub levels_in_range : {l : List ℕ} {h : Head} {b : Lent} → LabelledAs l h b → AllBelow (LevelInRange b.labels.levels) h.items
levels_in_range x = record { each = λ i s. record { most = (x.wanted.labelling.labels i s).level } }

module _ (l : List ℕ) {h : Head} (whole : read_whole l ≡ Ok h) (before : Lent) (fits : h.items * name_room ≤ length before.items) where
  right : Tables h (read_text l).names (read_text l).words
  right = read_tables l whole

  -- The lent items hold the names that were read.
  same : SameTables h (read_text l).names (read_text l).words (items_over h (read_text l).names before.items) (read_text l).words
  same = record {
    items =
        sym (front_over before.items (take (h.items * name_room) (read_text l).names) (h.items * name_room)
        (length-take-le (h.items * name_room) (read_text l).names right.items.room) fits);
    rules = refl;
  }

  pub labelled_as : {k : ℕ} {labels : Buffers} → WritesLabels h (read_text l).words k before.labels labels
      → LabelledAs l h (lent (items_over h (read_text l).names before.items) labels)
  labelled_as x = record {
    whole = whole;
    items = (tables_counted same right).items;
    names = name_same same right;
    room = record { for_levels = omega (arith, x.levels.sized, x.room.for_levels); for_marks = omega (arith, x.marks.sized, x.room.for_marks) };
    wanted = x.wanted;
  }

-- What is told by what is said.
abbrev IfLabelled : List ℕ → Lent → Said → Type 0
IfLabelled l b (success c values) = LabelledAs l (head_of values) b
IfLabelled l b (refused n p) = Unit {0}

if_labelled : {l : List ℕ} {before : Lent} {s : Said} {after : Lent} → AssignSays l before s after → IfLabelled l after s
if_labelled (unread e) = tt
if_labelled (read e (short_items short)) = tt
if_labelled (read e (unsolved fits x)) = tt
if_labelled {l} {before} (read e (solved fits (writes_labels x))) = labelled_as l e before fits x

pub labelled_right : {l : List ℕ} {before : Lent} {h : Head} {after : Lent} → AssignSays l before (said_head h) after → LabelledAs l h after
labelled_right p = if_labelled p
