-- Wrong answers of `scans`.
-- Assumes nothing.
use mathlib.Core.Path.{◌≡◌, ap}
use mathlib.Core.Bool.{true, true≢false}
use mathlib.Core.List.{[], ◌∷◌}
use Prim.Native.Nat.{ℕ}
use native.Mathlib.Omega.{arith}
use lib.ListN.{drop}
use Rattle.scans.specs.Bytes.{byte_at, name_byte, decimal_byte, kind_of, run_len}
use Rattle.scans.specs.declared.Kind.{Kind}

-- In the text "ab".
pub byte_at_is_zero_inside_the_text : 0 ≡ byte_at (drop 1 (97 ∷ 98 ∷ [])) → ⊥
byte_at_is_zero_inside_the_text e = let z : ◌≡◌ {A = ℕ} 0 98 = e in omega arith

pub byte_at_is_the_last_byte_past_the_end : 98 ≡ byte_at (drop 2 (97 ∷ 98 ∷ [])) → ⊥
byte_at_is_the_last_byte_past_the_end e = let z : ◌≡◌ {A = ℕ} 98 0 = e in omega arith

pub rest_is_one_byte_short : drop {A = ℕ} 2 (97 ∷ 98 ∷ []) ≡ drop 1 (97 ∷ 98 ∷ []) → ⊥
rest_is_one_byte_short e = let z : ◌≡◌ {A = ℕ} 0 98 = ap byte_at e in omega arith

-- A capital A.
pub is_name_byte_of_upper_case : true ≡ name_byte 65 → ⊥
unfolding name_byte
is_name_byte_of_upper_case e = true≢false e

-- In "a:b".
pub run_goes_past_a_colon : 3 ≡ run_len (kind_of Kind.Name) (drop 0 (97 ∷ 58 ∷ 98 ∷ [])) → ⊥
unfolding run_len name_byte
run_goes_past_a_colon e = let z : ◌≡◌ {A = ℕ} 3 1 = e in omega arith

-- In "1a".
pub run_of_decimal_digits_takes_a_hex_digit : 2 ≡ run_len (kind_of Kind.Decimal) (drop 0 (49 ∷ 97 ∷ [])) → ⊥
unfolding run_len decimal_byte
run_of_decimal_digits_takes_a_hex_digit e = let z : ◌≡◌ {A = ℕ} 2 1 = e in omega arith
