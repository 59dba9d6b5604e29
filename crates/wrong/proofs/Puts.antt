-- Wrong answers of `puts`.
-- Assumes nothing.
use mathlib.Core.Path.{◌≡◌, sym, ap}
use mathlib.Core.List.{List, [], ◌∷◌, ◌++◌}
use Prim.Native.Nat.{ℕ}
use native.Mathlib.Omega.{arith}
use lib.ListN.{get_or, replicate}
use Rattle.std.specs.Prelude.{Option, Some}
use Rattle.std.proofs.lemmas.Option.{none-some}
use Rattle.classes.specs.Class.{class_of}
use Rattle.keys.specs.Keys.{key_text}
use Rattle.keys.specs.declared.Key.{Key}
use Rattle.tokens.specs.Numbers.{digit, digits_of, decimal_len}
use Rattle.tokens.specs.Tokens.{count_text, class_text}
use Rattle.laws.specs.Over.{over}
use Rattle.puts.specs.Writing.{Put}

-- Two bytes put into a buffer of one.
pub put_writes_what_has_room : (r : Option ℕ) → Put (0 ∷ []) 0 (1 ∷ 2 ∷ []) (1 ∷ []) r → ⊥
put_writes_what_has_room r x = let z : ◌≡◌ {A = ℕ} 1 0 = ap (λ (l : List ℕ). get_or l 0 0) x.buffer in omega arith

-- Without room there is no next place, not even the place of the put.
pub put_stays_where_there_is_no_room : (d : List ℕ) → Put (0 ∷ []) 0 (1 ∷ 2 ∷ []) d (Some 0) → ⊥
put_stays_where_there_is_no_room d x = none-some 0 (sym x.next)

-- The count 12, of which only "1" is written.
pub put_count_drops_a_digit : Put (0 ∷ 0 ∷ []) 0 (count_text 12) (49 ∷ 0 ∷ []) (Some 1) → ⊥
unfolding digits_of decimal_len digit
put_count_drops_a_digit x = let e : ◌≡◌ {A = Option ℕ} (Some 1) (Some 2) = x.next in let z : ◌≡◌ {A = ℕ} 1 2 = cc in omega arith

-- The key end without its sign.
pub put_key_drops_the_sign : Put (replicate 4 0) 0 (key_text Key.End) (101 ∷ 110 ∷ 100 ∷ 0 ∷ []) (Some 3) → ⊥
put_key_drops_the_sign x = let e : ◌≡◌ {A = Option ℕ} (Some 3) (Some 4) = x.next in let z : ◌≡◌ {A = ℕ} 3 4 = cc in omega arith

-- The class 0/000000000000000a, with its last digit in upper case.
pub put_class_in_upper_case : (r : Option ℕ) → Put (replicate 18 0) 0 (class_text (class_of 0 10)) (48 ∷ 47 ∷ replicate 15 48 ++ 65 ∷ []) r → ⊥
unfolding digits_of decimal_len digit over
put_class_in_upper_case r x = let z : ◌≡◌ {A = ℕ} 65 97 = ap (λ (l : List ℕ). get_or l 17 0) x.buffer in omega arith
