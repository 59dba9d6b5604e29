-- What a reader's text holds of columns that are held back: nothing. It rests on induction over the records. Three exports show what is meant.
-- Assumes nothing.
use mathlib.Core.Path.{◌≡◌, refl, ap₂}
use mathlib.Core.Bool.{Bool, true, false}
use mathlib.Core.List.{List, [], ◌∷◌, ◌++◌}
use Prim.Native.Nat.{ℕ, zero, suc, ◌<◌}
use native.Mathlib.Omega.{arith}
use lib.ListN.{length, get_or}
use Rattle.scans.specs.Ascii.{cr, lf}
use Rattle.records.specs.Fields.{plain_byte, after_cr, behind, scan}
use Rattle.records.specs.Rows.{row_of, record_at}
use Rattle.exports.specs.Rows.{taken_from, taken}
use Rattle.exports.specs.Text.{kept_of, with_commas, record_lines, stripped_from, HeldBackApart}

-- Records that differ only in columns held back have the same lines.
lines_same : (kept kept_too : List Bool) (a b : List (List (List ℕ))) → HeldBackApart kept kept_too a b → record_lines kept a ≡ record_lines kept_too b
unfolding record_lines
lines_same kept kept_too [] [] s = refl
lines_same kept kept_too [] (y ∷ b) s = absurd (omega (arith, s.count))
lines_same kept kept_too (x ∷ a) [] s = absurd (omega (arith, s.count))
lines_same kept kept_too (x ∷ a) (y ∷ b) s =
    ap₂ (λ f r. with_commas f ++ (cr ∷ lf ∷ []) ++ r) (s.same 0 (omega arith))
    (lines_same kept kept_too a b (record { count = omega (arith, s.count); same = λ r h. s.same (suc r) (omega arith) }))

-- Exports that differ only in columns held back give a reader the same text.
pub held_back_leaves_no_trace : (kept kept_too : List Bool) (number number_too : ℕ) (l m : List ℕ)
    → HeldBackApart kept kept_too (taken true (length kept) l).rows (taken true (length kept_too) m).rows
    → (stripped_from kept number l).text ≡ (stripped_from kept_too number_too m).text
unfolding stripped_from
held_back_leaves_no_trace kept kept_too number number_too l m s =
    lines_same kept kept_too (taken true (length kept) l).rows (taken true (length kept_too) m).rows s

-- Three exports of two records with a column "a", which is kept: "a,b" and "1,2"; without the column "b"; and with "b" first.
abbrev behind_it : List ℕ
behind_it = 97 ∷ 44 ∷ 98 ∷ 13 ∷ 10 ∷ 49 ∷ 44 ∷ 50 ∷ 13 ∷ 10 ∷ []

abbrev without : List ℕ
without = 97 ∷ 13 ∷ 10 ∷ 49 ∷ 13 ∷ 10 ∷ []

abbrev before_it : List ℕ
before_it = 98 ∷ 44 ∷ 97 ∷ 13 ∷ 10 ∷ 51 ∷ 44 ∷ 49 ∷ 13 ∷ 10 ∷ []

pub a_column_may_be_missing : HeldBackApart (true ∷ false ∷ []) (true ∷ []) (taken true 2 behind_it).rows (taken true 1 without).rows
unfolding taken_from record_at row_of scan behind after_cr plain_byte kept_of
a_column_may_be_missing = record { count = refl; same = same }
  where
    same : (r : ℕ) → r < 2 → kept_of (true ∷ false ∷ []) (get_or (taken true 2 behind_it).rows r []) ≡ kept_of (true ∷ []) (get_or (taken true 1 without).rows r [])
    same zero h = refl
    same (suc zero) h = refl
    same (suc (suc r)) h = absurd (omega arith)

pub a_column_may_stand_elsewhere : HeldBackApart (true ∷ false ∷ []) (false ∷ true ∷ []) (taken true 2 behind_it).rows (taken true 2 before_it).rows
unfolding taken_from record_at row_of scan behind after_cr plain_byte kept_of
a_column_may_stand_elsewhere = record { count = refl; same = same }
  where
    same : (r : ℕ) → r < 2 → kept_of (true ∷ false ∷ []) (get_or (taken true 2 behind_it).rows r []) ≡ kept_of (false ∷ true ∷ []) (get_or (taken true 2 before_it).rows r [])
    same zero h = refl
    same (suc zero) h = refl
    same (suc (suc r)) h = absurd (omega arith)
