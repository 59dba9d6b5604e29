-- A record read field by field, from one comma to the next: the start, a field further, and how it ends. They rest on the
-- definitions of a row and of a record.
-- Assumes nothing.
use mathlib.Core.Path.{◌≡◌, refl, sym, ap, ◌∙◌}
use mathlib.Core.Bool.{Bool, true, false, cond}
use mathlib.Core.List.{List, [], ◌∷◌, ◌++◌, append_assoc}
use Prim.Native.Nat.{ℕ, suc, ◌+◌, ◌≤◌, zero-le}
use native.Mathlib.Nat.{zero-add, add_assoc}
use native.Mathlib.Omega.{arith}
use lib.ListN.{length, take, drop, length-drop, length-append}
use lib.Seq.{drop-drop}
use Rattle.records.specs.Fields.{field_at}
use Rattle.records.specs.Rows.{Row, line, bare, halved, cut, broken, field_before, row_from, row_of, line_end}
use Rattle.records.specs.Rows.{whole, more, bad, few_bytes, judged, record_at, size_of}
use Rattle.records.specs.Inner.{ended_by}
use Rattle.records.specs.declared.Field.{Field}
use Rattle.records.specs.declared.Size.{Size}
use Rattle.records.proofs.Within.{comma_within}

-- The row of which these fields, k bytes with their commas, stand before this one.
abbrev pub onto : List (List ℕ) → ℕ → Row → Row
onto fs k (line gs n) = line (fs ++ gs) (k + n)
onto fs k (bare gs n) = bare (fs ++ gs) (k + n)
onto fs k (halved n) = halved (k + n)
onto fs k cut = cut
onto fs k broken = broken

-- Reading the row at the front of l has come to the place k, past the fields fs; `left` more may stand there.
pub record Come (most : ℕ) (l : List ℕ) (fs : List (List ℕ)) (k left : ℕ) : Type 0 where
  pub row : row_of most l ≡ onto fs k (row_of left (drop k l))
  pub count : length fs + left ≡ most
  pub within : k ≤ length l

-- No field before a row.
onto_none : (r : Row) → r ≡ onto [] 0 r
onto_none (line gs n) = rw (zero-add n)
onto_none (bare gs n) = rw (zero-add n)
onto_none (halved n) = rw (zero-add n)
onto_none cut = refl
onto_none broken = refl

-- The bytes of a field and its comma, counted with those before or with those behind.
sum : (k n m : ℕ) → k + (n + 1 + m) ≡ k + n + 1 + m
sum k n m = omega arith

-- A field and a comma more before a row.
onto_before : (fs : List (List ℕ)) (k : ℕ) (f : List ℕ) (n : ℕ) (r : Row) → onto fs k (field_before f n r) ≡ onto (fs ++ f ∷ []) (k + n + 1) r
onto_before fs k f n (line gs m) = rw (append_assoc fs (f ∷ []) gs) (ap (line (fs ++ f ∷ gs)) (sum k n m))
onto_before fs k f n (bare gs m) = rw (append_assoc fs (f ∷ []) gs) (ap (bare (fs ++ f ∷ gs)) (sum k n m))
onto_before fs k f n (halved m) = ap halved (sum k n m)
onto_before fs k f n cut = refl
onto_before fs k f n broken = refl

-- Nothing is read.
pub come_start : (most : ℕ) (l : List ℕ) → Come most l [] 0 most
come_start most l = record { row = onto_none (row_of most l); count = zero-add most; within = zero-le }

-- A field too many.
pub come_too_many : (last : Bool) {most : ℕ} {l : List ℕ} {fs : List (List ℕ)} {k : ℕ} → Come most l fs k 0 → record_at last most l ≡ bad
unfolding record_at row_of
come_too_many last {l = l} p = ap (judged last (length l)) p.row

module _ {most : ℕ} {l : List ℕ} {fs : List (List ℕ)} {k left : ℕ} (p : Come most l fs k (suc left)) where
  -- The row by the field that is next.
  row_by : {f : Field} → field_at (drop k l) ≡ f → row_of most l ≡ onto fs k (row_from (row_of left) (drop k l) f)
  unfolding row_of
  row_by e = p.row ∙ ap (λ (g : Field). onto fs k (row_from (row_of left) (drop k l) g)) e

  -- The record by the field that is next.
  record_by : (last : Bool) {f : Field} → field_at (drop k l) ≡ f
      → record_at last most l ≡ judged last (length l) (onto fs k (row_from (row_of left) (drop k l) f))
  unfolding record_at
  record_by last e = ap (judged last (length l)) (row_by e)

  -- A field more.
  one_more : (f : List ℕ) → length (fs ++ f ∷ []) ≡ length fs + 1
  one_more f = length-append fs (f ∷ [])

  -- A comma stands behind the next field.
  pub come_on : {n : ℕ} → field_at (drop k l) ≡ Field.Comma n → Come most l (fs ++ take n (drop k l) ∷ []) (k + n + 1) left
  come_on {n} e = record {
    row =
        row_by e ∙ onto_before fs k (take n (drop k l)) n (row_of left (drop (n + 1) (drop k l)))
        ∙ ap (λ (d : List ℕ). onto (fs ++ take n (drop k l) ∷ []) (k + n + 1) (row_of left d)) place;
    count = omega (arith, one_more (take n (drop k l)), p.count);
    within = omega (arith, comma_within (drop k l) e, length-drop k l);
  }
    where
      place : drop (n + 1) (drop k l) ≡ drop (k + n + 1) l
      place = drop-drop (n + 1) k l ∙ ap (λ (i : ℕ). drop i l) (sym (add_assoc k n 1))

  -- The size of what a test of the length chooses.
  sized_closed : (t : Bool) (f : List ℕ) (m : ℕ) → size_of (cond t (whole (fs ++ f ∷ []) m) bad) ≡ cond t (Size.Whole (record { fields = length fs + 1; bytes = m })) Size.Bad
  sized_closed true f m = ap (λ (c : ℕ). Size.Whole (record { fields = c; bytes = m })) (one_more f)
  sized_closed false f m = refl

  sized_unfinished : (t : Bool) → size_of (cond t more bad) ≡ cond t Size.More Size.Bad
  sized_unfinished true = refl
  sized_unfinished false = refl

  -- No comma stands behind the next field: it is the last one.
  pub come_ended : (last : Bool) (f : Field) → field_at (drop k l) ≡ f → ((n : ℕ) → f ≡ Field.Comma n → ⊥)
      → size_of (record_at last most l) ≡ ended_by last (length l) (length fs + 1) k f
  come_ended last (Field.Comma n) e h = absurd (h n refl)
  come_ended last (Field.Line n) e h = ap size_of (record_by last e) ∙ sized_closed (few_bytes (k + n)) (take n (drop k l)) (k + n + line_end)
  come_ended true (Field.End n) e h = ap size_of (record_by true e) ∙ sized_closed (few_bytes (k + n)) (take n (drop k l)) (k + n + 0)
  come_ended false (Field.End n) e h = ap size_of (record_by false e) ∙ sized_unfinished (few_bytes (k + n))
  come_ended true (Field.Cr n) e h = ap size_of (record_by true e)
  come_ended false (Field.Cr n) e h = ap size_of (record_by false e) ∙ sized_unfinished (few_bytes (k + n))
  come_ended true Field.Open e h = ap size_of (record_by true e)
  come_ended false Field.Open e h = ap size_of (record_by false e) ∙ sized_unfinished (few_bytes (length l + 1))
  come_ended last Field.Bad e h = ap size_of (record_by last e)
