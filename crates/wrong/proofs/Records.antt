-- Wrong answers of `records`.
-- Assumes nothing.
use mathlib.Core.Path.{◌≡◌, ap}
use mathlib.Core.Bool.{false}
use mathlib.Core.List.{List, [], ◌∷◌}
use Prim.Native.Nat.{ℕ}
use native.Mathlib.Omega.{arith}
use lib.ListN.{drop, get_or}
use Rattle.laws.specs.Over.{over}
use Rattle.records.specs.Fields.{plain_byte, after_cr, behind, scan, field_at}
use Rattle.records.specs.Rows.{row_of, record_at, ends_of, RowSays, nth_field}
use Rattle.records.specs.declared.Field.{Field}
use Rattle.records.specs.declared.Size.{Size}

-- Two quotes are a field of two bytes.
pub read_field_is_open_of_two_quotes : Field.Open ≡ field_at (drop 0 (34 ∷ 34 ∷ [])) → ⊥
unfolding scan behind after_cr plain_byte
read_field_is_open_of_two_quotes e = let f : Field.Open ≡ Field.End 2 = e in let z : ◌≡◌ {A = ℕ} 0 1 = cc in omega arith

-- "a", a CR and "b": no line ends there.
pub read_field_ends_a_line_at_a_bare_cr : Field.Line 1 ≡ field_at (drop 0 (97 ∷ 13 ∷ 98 ∷ [])) → ⊥
unfolding scan behind after_cr plain_byte
read_field_ends_a_line_at_a_bare_cr e = let f : Field.Line 1 ≡ Field.Bad = e in let z : ◌≡◌ {A = ℕ} 0 1 = cc in omega arith

-- "a" and a CR at the text's end: no quote is open, and the record waits for its LF.
pub read_field_is_open_of_a_cr : Field.Open ≡ field_at (drop 0 (97 ∷ 13 ∷ [])) → ⊥
unfolding scan behind after_cr plain_byte
read_field_is_open_of_a_cr e = let f : Field.Open ≡ Field.Cr 1 = e in let z : ◌≡◌ {A = ℕ} 0 1 = cc in omega arith

pub read_row_is_bad_before_its_lf : (d : List ℕ) → RowSays (97 ∷ 13 ∷ []) 0 false 1 (0 ∷ []) Size.Bad d → ⊥
unfolding record_at row_of scan behind after_cr plain_byte
read_row_is_bad_before_its_lf d x = let f : Size.Bad ≡ Size.More = x.size in let z : ◌≡◌ {A = ℕ} 0 1 = cc in omega arith

-- "a" and CRLF, one field: the record is whole.
abbrev row : List ℕ
row = 97 ∷ 13 ∷ 10 ∷ []

pub read_row_is_bad_of_a_record : (d : List ℕ) → RowSays row 0 false 1 (0 ∷ []) Size.Bad d → ⊥
unfolding record_at row_of scan behind after_cr plain_byte
read_row_is_bad_of_a_record d x = let f : Size.Bad ≡ Size.Whole (record { fields = 1; bytes = 3 }) = x.size in let z : ◌≡◌ {A = ℕ} 0 1 = cc in omega arith

-- Its field ends at 1.
pub read_row_leaves_the_ends : (s : Size) → RowSays row 0 false 1 (0 ∷ []) s (0 ∷ []) → ⊥
unfolding ends_of scan behind after_cr plain_byte over
read_row_leaves_the_ends s x = let f : ◌≡◌ {A = List ℕ} (0 ∷ []) (1 ∷ []) = x.ends_after in let z : ◌≡◌ {A = ℕ} 0 1 = ap (λ (l : List ℕ). get_or l 0 0) f in omega arith

-- "a,b", whose fields end at 1 and 3: field 1 is "b".
abbrev fields : List ℕ
fields = 97 ∷ 44 ∷ 98 ∷ []

pub nth_field_is_the_first : (97 ∷ []) ≡ nth_field fields 0 (1 ∷ 3 ∷ []) 1 → ⊥
nth_field_is_the_first e = let z : ◌≡◌ {A = ℕ} 97 98 = ap (λ (l : List ℕ). get_or l 0 0) e in omega arith

pub nth_field_has_the_comma_before_it : (44 ∷ 98 ∷ []) ≡ nth_field fields 0 (1 ∷ 3 ∷ []) 1 → ⊥
nth_field_has_the_comma_before_it e = let z : ◌≡◌ {A = ℕ} 44 98 = ap (λ (l : List ℕ). get_or l 0 0) e in omega arith
