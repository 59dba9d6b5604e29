-- What an answer with columns says: the header is good, and at the front of the buffer it is said of each column whether the class covers its label. It
-- rests on the promise.
-- Assumes nothing.
use mathlib.Core.Path.{◌≡◌, refl}
use mathlib.Core.Bool.{Bool}
use mathlib.Core.List.{List, [], ◌∷◌}
use Prim.Native.Nat.{ℕ, ◌≤◌}
use native.Mathlib.Omega.{arith}
use lib.ListN.{length, take, drop, length-append}
use lib.Seq.{take_at}
use Rattle.classes.specs.declared.Class.{Class}
use Rattle.labels.specs.Labels.{labels_in}
use Rattle.rules.specs.declared.Head.{Head}
use Rattle.refusals.specs.Said.{Said, success, refused}
use Rattle.records.specs.Rows.{whole}
use Rattle.exports.specs.Names.{HeaderOk, KeepsCovered}
use Rattle.columns.specs.Columns.{said_kept, header_at, HeaderSays, bad_header, more_header, bad_names, no_room, keeps}
use Rattle.columns.specs.Columns.{ColumnsSays, bad_items, few_labels, bad_label, headed}

-- A header by which k columns are kept, with this in the buffer.
pub record KeptBy (t : List ℕ) (n : ℕ) (labels : ℕ → Class) (reader : Class) (l : List ℕ) (last : Bool) (k : ℕ)
    (after : List Bool) : Type 0 where
  pub fields : List (List ℕ)
  pub bytes : ℕ
  pub header : header_at last l ≡ whole fields bytes
  pub names : HeaderOk t n fields
  pub count : k ≡ length fields
  pub within : k ≤ length after
  pub covered : KeepsCovered t n labels reader fields (take k after)

-- What is said with a value: that so many columns are kept.
abbrev ByValues : List ℕ → ℕ → (ℕ → Class) → Class → List ℕ → Bool → List Bool → List ℕ → Type 0
ByValues t n labels reader l last after [] = Unit {0}
ByValues t n labels reader l last after (k ∷ values) = KeptBy t n labels reader l last k after

abbrev BySaid : List ℕ → ℕ → (ℕ → Class) → Class → List ℕ → Bool → List Bool → Said → Type 0
BySaid t n labels reader l last after (success c values) = ByValues t n labels reader l last after values
BySaid t n labels reader l last after (refused number place) = Unit {0}

by_header : {t : List ℕ} {n : ℕ} {labels : ℕ → Class} {reader : Class} {l : List ℕ} {last : Bool} {before : List Bool} {s : Said}
    {after : List Bool} → HeaderSays t n labels reader l last before s after → BySaid t n labels reader l last after s
by_header (bad_header e) = tt
by_header (more_header e) = tt
by_header (bad_names e b) = tt
by_header (no_room e g h) = tt
by_header {before = before} (keeps {fs = fs} {k = k} {kept = kept} e g h c) = record {
  fields = fs;
  bytes = k;
  header = e;
  names = g;
  count = refl;
  within = omega (arith, c.columns, length-append kept (drop (length fs) before));
  covered = rw (take_at kept (drop (length fs) before) (length fs) c.columns) c;
}

by_columns : {t : List ℕ} {h : Head} {levels marks : List ℕ} {reader : Class} {l : List ℕ} {last : Bool} {before : List Bool} {s : Said}
    {after : List Bool} → ColumnsSays t h levels marks reader l last before s after
    → BySaid t h.items (labels_in levels marks) reader l last after s
by_columns (bad_items b) = tt
by_columns (few_labels o b) = tt
by_columns (bad_label o r f) = tt
by_columns (headed o r f p) = by_header p

-- What is said where the answer is that there are k columns.
pub columns_kept : {t : List ℕ} {h : Head} {levels marks : List ℕ} {reader : Class} {l : List ℕ} {last : Bool} {before : List Bool} {k : ℕ}
    {after : List Bool} → ColumnsSays t h levels marks reader l last before (said_kept k) after
    → KeptBy t h.items (labels_in levels marks) reader l last k after
columns_kept p = by_columns p
