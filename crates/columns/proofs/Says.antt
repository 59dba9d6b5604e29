-- What is said of a class and of labelled items, one law for each answer that the code can give. They rest on what each test tells.
-- Assumes nothing.
use mathlib.Core.Path.{◌≡◌, sym, ap, ◌∙◌}
use mathlib.Core.Bool.{Bool, true, false, not}
use mathlib.Core.List.{List}
use Prim.Native.Nat.{ℕ, ◌≤◌, ◌<◌}
use lib.ListN.{length}
use borrow.Author.Tests.{eq-eqb, ne_eqb}
use Rattle.std.specs.Prelude.{Option, Some, None, Result, Ok, Err}
use Rattle.laws.specs.First.{Sought}
use Rattle.laws.specs.Tells.{Tells}
use Rattle.laws.proofs.Tells.{told_no, told_yes}
use Rattle.classes.specs.declared.Class.{Class}
use Rattle.items.specs.Table.{ItemsOk}
use Rattle.labels.specs.Labels.{labels_in, LevelInRange, Room}
use Rattle.rules.specs.declared.Head.{Head}
use Rattle.tokens.specs.Tokens.{class_at}
use Rattle.tokens.specs.declared.ClassToken.{ClassToken}
use Rattle.refusals.specs.Said.{Said, refusal_at, said_refusal}
use Rattle.refusals.specs.declared.Fault.{Fault}
use Rattle.columns.specs.Reader.{said_reader, whole_class, ReaderSays}
use Rattle.columns.specs.Columns.{HeaderSays, ColumnsSays, bad_items, few_labels, bad_label, headed}
use Rattle.refusals.specs.declared.Refusal.{Refusal}

-- The class that was read.
module _ {l : List ℕ} {x : Option ClassToken} (p : x ≡ class_at l) where
  reads : (y : Option ClassToken) → x ≡ y → (r : Result Class Refusal) → r ≡ whole_class (length l) y → ReaderSays l (said_reader r)
  reads y e r f = record { answer = ap said_reader (f ∙ ap (whole_class (length l)) (sym e ∙ p)) }

  -- It is none; it is not the whole text; it is.
  pub class_bad : {f : Refusal} → x ≡ None → f ≡ refusal_at Fault.BadLabel 0 → ReaderSays l (said_reader (Err f))
  class_bad {f} e g = reads None e (Err f) (ap Err g)

  module _ {y : ClassToken} (e : x ≡ Some y) where
    pub class_long : {f : Refusal} → (y.len ≡ length l → ⊥) → f ≡ refusal_at Fault.BadLabel 0 → ReaderSays l (said_reader (Err f))
    class_long {f} h g = reads (Some y) e (Err f) (rw (ne_eqb y.len (length l) h) (ap Err g))

    pub class_whole : y.len ≡ length l → ReaderSays l (said_reader (Ok y.class))
    class_whole h = reads (Some y) e (Ok y.class) (rw (eq-eqb y.len (length l) h))

-- Labelled items, test by test: the table is not right; there are too few labels; a level is too high; then the header says.
module _ {t : List ℕ} {h : Head} {levels marks : List ℕ} {reader : Class} {l : List ℕ} {last : Bool} {before : List Bool} {b : Bool}
    (items : Tells (ItemsOk t h.items) b) where
  pub says_items : {f : Refusal} → not b ≡ true → f ≡ refusal_at Fault.BadTable 0
      → ColumnsSays t h levels marks reader l last before (said_refusal f) before
  says_items e f = rw f (bad_items (told_no items e))

  module _ (good : not b ≡ false) {d : Bool} (room : Tells (Room h.items levels marks) d) where
    pub says_labels : {f : Refusal} → not d ≡ true → f ≡ refusal_at Fault.NoRoom 0
        → ColumnsSays t h levels marks reader l last before (said_refusal f) before
    says_labels e f = rw f (few_labels (told_yes items good) (told_no room e))

    module _ (enough : not d ≡ false) {i : ℕ} (sought : Sought (LevelInRange levels) h.items i) where
      pub says_label : {f : Refusal} → i < h.items → f ≡ refusal_at Fault.BadLabel i
          → ColumnsSays t h levels marks reader l last before (said_refusal f) before
      says_label e f = rw f (bad_label (told_yes items good) (told_yes room enough) (sought.found e))

      pub says_header : {s : Said} {after : List Bool} → h.items ≤ i
          → HeaderSays t h.items (labels_in levels marks) reader l last before s after → ColumnsSays t h levels marks reader l last before s after
      says_header e p = headed (told_yes items good) (told_yes room enough) (sought.nowhere e) p
