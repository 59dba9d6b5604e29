-- A field lies within the text, with what stands behind it. It rests on induction over the bytes.
-- Assumes nothing.
use mathlib.Core.Path.{◌≡◌, refl, subst}
use mathlib.Core.Bool.{Bool, true, false, cond}
use mathlib.Core.List.{List, [], ◌∷◌}
use Prim.Native.Nat.{ℕ, ◌+◌, ◌≤◌}
use native.Mathlib.Omega.{arith}
use lib.Dec.{eqb}
use lib.ListN.{length}
use Rattle.records.specs.Fields.{plain_byte, longer_by, after_cr, behind}
use Rattle.scans.specs.Ascii.{comma, quote, cr, lf}
use Rattle.records.specs.Fields.{Where, start, plain, quoted, closed, scan, field_at, field_len}
use Rattle.records.specs.declared.Field.{Field}

-- What a field says of the text that it stands in.
abbrev Lies : List ℕ → Field → Type 0
Lies l (Field.Comma n) = n + 1 ≤ length l
Lies l (Field.Line n) = n + 2 ≤ length l
Lies l (Field.End n) = n ≡ length l
Lies l (Field.Cr n) = n + 1 ≡ length l
Lies l Field.Open = Unit {0}
Lies l Field.Bad = Unit {0}

-- A byte more before the text, and the field one byte longer.
longer_lies : (b : ℕ) (l : List ℕ) (f : Field) → Lies l f → Lies (b ∷ l) (longer_by 1 f)
longer_lies b l (Field.Comma n) h = omega arith
longer_lies b l (Field.Line n) h = omega arith
longer_lies b l (Field.End n) h = omega arith
longer_lies b l (Field.Cr n) h = omega arith
longer_lies b l Field.Open h = tt
longer_lies b l Field.Bad h = tt

-- What holds of both answers of a test holds of the one that is taken.
either : (P : Field → Type 0) (t : Bool) (f g : Field) → P f → P g → P (cond t f g)
either P true f g h i = h
either P false f g h i = i

-- What stands behind a field of no bytes.
behind_lies : (l : List ℕ) → Lies l (behind l)
unfolding behind after_cr
behind_lies [] = refl
behind_lies (b ∷ []) = either (Lies (b ∷ [])) (eqb b comma) _ _ (omega arith) (either (Lies (b ∷ [])) (eqb b cr) _ _ (omega arith) tt)
behind_lies (b ∷ d ∷ l) =
    either (Lies (b ∷ d ∷ l)) (eqb b comma) _ _ (omega arith)
    (either (Lies (b ∷ d ∷ l)) (eqb b cr) _ _ (either (Lies (b ∷ d ∷ l)) (eqb d lf) _ _ (omega arith) tt) tt)

-- The same of what the machine finds.
further : (w : Where) (b : ℕ) (l : List ℕ) → Lies l (scan w l) → Lies (b ∷ l) (longer_by 1 (scan w l))
further w b l h = longer_lies b l (scan w l) h

-- What the machine finds lies within the text.
scan_lies : (w : Where) (l : List ℕ) → Lies l (scan w l)
unfolding scan
scan_lies quoted [] = tt
scan_lies start [] = behind_lies []
scan_lies plain [] = behind_lies []
scan_lies closed [] = behind_lies []
scan_lies start (b ∷ l) =
    either (Lies (b ∷ l)) (eqb b quote) _ _ (further quoted b l (scan_lies quoted l))
    (either (Lies (b ∷ l)) (plain_byte b) _ _ (further plain b l (scan_lies plain l)) (behind_lies (b ∷ l)))
scan_lies plain (b ∷ l) = either (Lies (b ∷ l)) (plain_byte b) _ _ (further plain b l (scan_lies plain l)) (behind_lies (b ∷ l))
scan_lies quoted (b ∷ l) =
    either (Lies (b ∷ l)) (eqb b quote) _ _ (further closed b l (scan_lies closed l)) (further quoted b l (scan_lies quoted l))
scan_lies closed (b ∷ l) = either (Lies (b ∷ l)) (eqb b quote) _ _ (further quoted b l (scan_lies quoted l)) (behind_lies (b ∷ l))

-- A comma, a CRLF, nothing and a CR stand behind the field within the text.
module _ (l : List ℕ) {n : ℕ} where
  pub comma_within : field_at l ≡ Field.Comma n → n + 1 ≤ length l
  comma_within e = subst (Lies l) e (scan_lies start l)

  pub line_within : field_at l ≡ Field.Line n → n + 2 ≤ length l
  line_within e = subst (Lies l) e (scan_lies start l)

  pub end_within : field_at l ≡ Field.End n → n ≡ length l
  end_within e = subst (Lies l) e (scan_lies start l)

  pub cr_within : field_at l ≡ Field.Cr n → n + 1 ≡ length l
  cr_within e = subst (Lies l) e (scan_lies start l)

-- A field has no more bytes than the text.
pub len_within : (l : List ℕ) → field_len (field_at l) ≤ length l
len_within l = by (field_at l) refl
  where
    by : (f : Field) → field_at l ≡ f → field_len f ≤ length l
    by (Field.Comma n) e = omega (arith, comma_within l e)
    by (Field.Line n) e = omega (arith, line_within l e)
    by (Field.End n) e = omega (arith, end_within l e)
    by (Field.Cr n) e = omega (arith, cr_within l e)
    by Field.Open e = omega arith
    by Field.Bad e = omega arith
