-- Wrong answers of `labels`.
-- Assumes nothing.
use mathlib.Core.Path.{◌≡◌, refl, ap}
use mathlib.Core.Bool.{true}
use mathlib.Core.List.{[], ◌∷◌}
use Prim.Native.Nat.{ℕ, ◌≤◌}
use native.Mathlib.Omega.{arith}
use Rattle.laws.specs.Tells.{Tells}
use Rattle.laws.specs.First.{Sought}
use Rattle.classes.specs.Class.{class_of}
use Rattle.classes.specs.declared.Class.{Class}
use Rattle.labels.specs.Labels.{labels_in, listed, LevelInRange, Room}

pub has_room_with_too_few_levels : Tells (Room 2 (1 ∷ []) (0 ∷ 0 ∷ [])) true → ⊥
has_room_with_too_few_levels t = let z : 2 ≤ 1 = (t.holds refl).for_levels in omega arith

pub has_room_with_too_few_marks : Tells (Room 2 (1 ∷ 2 ∷ []) (0 ∷ [])) true → ⊥
has_room_with_too_few_marks t = let z : 2 ≤ 1 = (t.holds refl).for_marks in omega arith

pub first_bad_answers_the_last : Sought (LevelInRange (16 ∷ 17 ∷ [])) 2 1 → ⊥
first_bad_answers_the_last x = let z : 16 ≤ 15 = ((x.found (omega arith)).before.each 0 (omega arith)).most in omega arith

pub first_bad_answers_the_count : Sought (LevelInRange (16 ∷ 17 ∷ [])) 2 2 → ⊥
first_bad_answers_the_count x = let z : 16 ≤ 15 = ((x.nowhere (omega arith)).each 0 (omega arith)).most in omega arith

pub first_bad_answers_past_the_count : Sought (LevelInRange (15 ∷ 15 ∷ 16 ∷ [])) 1 2 → ⊥
first_bad_answers_past_the_count x = omega (arith, x.within)

pub label_at_has_the_level_of_item_0 : class_of 1 0 ≡ labels_in (1 ∷ 2 ∷ []) (0 ∷ 0 ∷ []) 1 → ⊥
label_at_has_the_level_of_item_0 e = let z : ◌≡◌ {A = ℕ} 1 2 = ap (λ (c : Class). c.level) e in omega arith

-- The same of an array of classes.
pub label_is_that_of_item_0 : class_of 1 0 ≡ listed (class_of 1 0 ∷ class_of 2 0 ∷ []) 1 → ⊥
label_is_that_of_item_0 e = let z : ◌≡◌ {A = ℕ} 1 2 = ap (λ (c : Class). c.level) e in omega arith
