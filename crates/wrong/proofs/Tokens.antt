-- Wrong answers of `tokens`.
-- Assumes nothing.
use mathlib.Core.Path.{◌≡◌}
use mathlib.Core.List.{[], ◌∷◌}
use Prim.Native.Nat.{ℕ}
use native.Mathlib.Omega.{arith}
use lib.ListN.{drop, replicate}
use Rattle.std.specs.Prelude.{Some, None}
use Rattle.classes.specs.Class.{class_of}
use Rattle.scans.specs.Bytes.{name_byte, decimal_byte, hex_byte, run_len}
use Rattle.tokens.specs.Numbers.{digit_value, value_after}
use Rattle.tokens.specs.Tokens.{name_of_run, name_at, leading_zero, decimal_of_run, count_found, count_at, class_found, class_after, class_at}

-- Seventeen bytes a.
pub read_name_finds_17_bytes : Some 17 ≡ name_at (drop 0 (replicate 17 97)) → ⊥
unfolding name_of_run run_len name_byte
read_name_finds_17_bytes e = let f : Some 17 ≡ None = e in let z : ◌≡◌ {A = ℕ} 0 1 = cc in omega arith

pub read_name_finds_no_bytes : Some 0 ≡ name_at (drop 0 []) → ⊥
unfolding name_of_run run_len name_byte
read_name_finds_no_bytes e = let f : Some 0 ≡ None = e in let z : ◌≡◌ {A = ℕ} 0 1 = cc in omega arith

-- "111111", of any value.
pub read_count_finds_six_digits : (v : ℕ) → count_found v 6 ≡ count_at (drop 0 (replicate 6 49)) → ⊥
unfolding decimal_of_run run_len decimal_byte
read_count_finds_six_digits v e = let f : count_found v 6 ≡ None = e in let z : ◌≡◌ {A = ℕ} 0 1 = cc in omega arith

-- "07"
pub read_count_finds_a_leading_zero : count_found 7 2 ≡ count_at (drop 0 (48 ∷ 55 ∷ [])) → ⊥
unfolding decimal_of_run leading_zero run_len decimal_byte
read_count_finds_a_leading_zero e = let f : count_found 7 2 ≡ None = e in let z : ◌≡◌ {A = ℕ} 0 1 = cc in omega arith

-- "0"
pub read_count_is_bad_of_zero : None ≡ count_at (drop 0 (48 ∷ [])) → ⊥
unfolding decimal_of_run leading_zero run_len decimal_byte value_after digit_value
read_count_is_bad_of_zero e = let f : None ≡ count_found 0 1 = e in let z : ◌≡◌ {A = ℕ} 0 1 = cc in omega arith

-- "16/0000000000000000"
pub read_class_finds_level_16 : class_found (class_of 16 0) 19 ≡ class_at (drop 0 (49 ∷ 54 ∷ 47 ∷ replicate 16 48)) → ⊥
unfolding class_after decimal_of_run leading_zero run_len decimal_byte hex_byte value_after digit_value
read_class_finds_level_16 e = let f : class_found (class_of 16 0) 19 ≡ None = e in let z : ◌≡◌ {A = ℕ} 0 1 = cc in omega arith

-- "1/000000000000000"
pub read_class_finds_fifteen_hex_digits : class_found (class_of 1 0) 17 ≡ class_at (drop 0 (49 ∷ 47 ∷ replicate 15 48)) → ⊥
unfolding class_after decimal_of_run leading_zero run_len decimal_byte hex_byte value_after digit_value
read_class_finds_fifteen_hex_digits e = let f : class_found (class_of 1 0) 17 ≡ None = e in let z : ◌≡◌ {A = ℕ} 0 1 = cc in omega arith
