-- One record by the number of columns. It rests on what the promise of `read_row` says.
-- Assumes nothing.
use mathlib.Core.Path.{◌≡◌, refl, sym, ap, subst, ◌∙◌}
use mathlib.Core.Bool.{Bool, true, false, cond}
use mathlib.Core.List.{List}
use Prim.Native.Nat.{ℕ, ◌≤◌, ◌<◌}
use native.Mathlib.Omega.{arith}
use lib.Dec.{eqb}
use lib.ListN.{length, drop}
use borrow.Author.Tests.{eqb-true, eq-eqb, ne_eqb}
use Rattle.records.specs.Rows.{whole, more, bad, RowSays}
use Rattle.records.specs.Inner.{fields_to}
use Rattle.records.specs.declared.Extent.{Extent}
use Rattle.records.specs.declared.Size.{Size}
use Rattle.records.proofs.Parts.{fields_count, WholeAt, row_whole, row_more, row_bad}
use Rattle.exports.specs.Rows.{record_of, fitting}
use Rattle.stripping.specs.Inner.{fitted_size}

-- A whole record with as many fields as there are columns.
pub record RowFits (l : List ℕ) (at : ℕ) (last : Bool) (columns : ℕ) (ends : List ℕ) (x : Extent) : Type 0 where
  pub row : WholeAt l at last columns ends x
  pub all : x.fields ≡ columns

pub fits_found : {l : List ℕ} {at : ℕ} {last : Bool} {columns : ℕ} {ends : List ℕ} {x : Extent} → RowFits l at last columns ends x
    → record_of last columns (drop at l) ≡ whole (fields_to l at ends columns) x.bytes
fits_found {l} {at} {columns = columns} {ends} {x} p =
    ap (fitting columns) p.row.is
    ∙ rw (p.all, eq-eqb (length (fields_to l at ends columns)) columns (fields_count l at ends columns))

-- What is found of a record at a place of l, with the ends that are then known.
pub data RowFound (l : List ℕ) (at : ℕ) (last : Bool) (columns : ℕ) (ends : List ℕ) : Size → Type 0 where
  is_whole : {x : Extent} → RowFits l at last columns ends x → RowFound l at last columns ends (Size.Whole x)
  is_more : record_of last columns (drop at l) ≡ more → RowFound l at last columns ends Size.More
  is_bad_lem : record_of last columns (drop at l) ≡ bad → RowFound l at last columns ends Size.Bad

pub row_found : {l : List ℕ} {at : ℕ} {last : Bool} {columns : ℕ} {ends₀ : List ℕ} {s : Size} {ends : List ℕ} {t : Size}
    → RowSays l at last columns ends₀ s ends → t ≡ fitted_size columns s → columns ≤ length ends₀ → at < length l → RowFound l at last columns ends t
row_found {l} {at} {last} {columns} {ends₀} {s} {ends} p e room h = subst (RowFound l at last columns ends) (sym e) (by s refl)
  where
    counted : {x : Extent} → WholeAt l at last columns ends x → (t : Bool) → eqb x.fields columns ≡ t
        → RowFound l at last columns ends (cond t (Size.Whole x) Size.Bad)
    counted {x} w true f = is_whole (record { row = w; all = eqb-true x.fields columns f })
    counted {x} w false f = is_bad_lem (ap (fitting columns) w.is ∙ rw (fields_count l at ends x.fields, f))

    by : (r : Size) → s ≡ r → RowFound l at last columns ends (fitted_size columns r)
    by (Size.Whole x) f = counted (row_whole p room f (omega arith)) (eqb x.fields columns) refl
    by Size.More f = is_more (ap (fitting columns) (row_more p room f))
    by Size.Bad f = is_bad_lem (ap (fitting columns) (row_bad p room f))

-- What the test of the number of fields answers.
module _ {columns : ℕ} {found : Size} where
  pub fitted_same : {x : Extent} → found ≡ Size.Whole x → x.fields ≡ columns → Size.Whole x ≡ fitted_size columns found
  fitted_same {x} e h = sym (ap (fitted_size columns) e ∙ rw (eq-eqb x.fields columns h))

  pub fitted_unlike : {x : Extent} → found ≡ Size.Whole x → (x.fields ≡ columns → ⊥) → Size.Bad ≡ fitted_size columns found
  fitted_unlike {x} e h = sym (ap (fitted_size columns) e ∙ rw (ne_eqb x.fields columns h))
