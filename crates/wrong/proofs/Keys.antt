-- Wrong answers of `keys`.
-- Assumes nothing.
use mathlib.Core.Path.{◌≡◌, ap}
use mathlib.Core.Bool.{true, false, true≢false}
use mathlib.Core.List.{[], ◌∷◌}
use Prim.Native.Nat.{ℕ}
use native.Mathlib.Omega.{arith}
use lib.ListN.{get_or, drop}
use Rattle.std.specs.Prelude.{None}
use Rattle.keys.specs.Keys.{key_text, starts_with, key_found, key_at, key_number, next_allowed}
use Rattle.keys.specs.declared.Key.{Key}

pub may_follow_lets_end_be_first : true ≡ next_allowed 0 5 → ⊥
unfolding next_allowed
may_follow_lets_end_be_first e = true≢false e

-- A key's number is not that of the row after it.
pub may_follow_forbids_an_item_behind_an_item : false ≡ next_allowed 2 1 → ⊥
unfolding next_allowed
may_follow_forbids_an_item_behind_an_item e = let z : true ≡ false = cc in true≢false z

pub key_number_of_end_is_0 : 0 ≡ key_number Key.End → ⊥
key_number_of_end_is_0 e = let z : ◌≡◌ {A = ℕ} 0 5 = e in omega arith

pub text_of_item_is_that_of_form : key_text Key.Form ≡ key_text Key.Item → ⊥
text_of_item_is_that_of_form e = let z : ◌≡◌ {A = ℕ} 102 105 = ap (λ l. get_or l 0 0) e in omega arith

-- The text "end=".
pub read_key_is_bad_at_the_end_of_the_text : None ≡ key_at (drop 0 (key_text Key.End)) → ⊥
unfolding key_at starts_with
read_key_is_bad_at_the_end_of_the_text e = let f : None ≡ key_found Key.End 4 = e in let z : ◌≡◌ {A = ℕ} 0 1 = cc in omega arith

-- The text "end".
pub read_key_finds_end_without_its_sign : key_found Key.End 3 ≡ key_at (drop 0 (101 ∷ 110 ∷ 100 ∷ [])) → ⊥
unfolding key_at starts_with
read_key_finds_end_without_its_sign e = let f : key_found Key.End 3 ≡ None = e in let z : ◌≡◌ {A = ℕ} 0 1 = cc in omega arith
