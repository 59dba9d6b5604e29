-- Wrong answers of `classes`.
-- Assumes nothing.
use mathlib.Core.Path.{◌≡◌, refl, ap}
use mathlib.Core.Bool.{true, false}
use Prim.Native.Nat.{ℕ}
use native.Mathlib.Nat.{le_refl}
use native.Mathlib.Omega.{arith}
use Rattle.laws.specs.Tells.{Tells}
use Rattle.classes.specs.Bits.{bit, LowestOne}
use Rattle.classes.specs.Class.{class_of, Covers, HasMark, joined, common_of, lowest, highest}
use Rattle.classes.specs.declared.Class.{Class}

pub new_has_no_marks : class_of 3 0 ≡ class_of 3 5 → ⊥
new_has_no_marks e = omega (arith, ap (λ (c : Class). c.marks) e)

-- No to a class about itself.
pub covers_wants_a_greater_level : (c : Class) → Tells (Covers c c) false → ⊥
covers_wants_a_greater_level c t = t.fails refl (record { level = le_refl _; marks = λ k l h. h })

-- Yes where the level is the same and mark 0 is the other's alone.
pub covers_looks_at_levels_alone : Tells (Covers (class_of 3 0) (class_of 3 1)) true → ⊥
unfolding bit
covers_looks_at_levels_alone t = let z : ◌≡◌ {A = ℕ} 0 1 = (t.holds refl).marks 0 (omega arith) refl in omega arith

pub join_keeps_its_own_level : class_of 1 0 ≡ joined (class_of 1 0) (class_of 2 0) → ⊥
unfolding joined
join_keeps_its_own_level e = let z : ◌≡◌ {A = ℕ} 1 2 = ap (λ (c : Class). c.level) e in omega arith

pub common_keeps_its_own_level : class_of 2 0 ≡ common_of (class_of 2 0) (class_of 1 0) → ⊥
unfolding common_of
common_keeps_its_own_level e = let z : ◌≡◌ {A = ℕ} 2 1 = ap (λ (c : Class). c.level) e in omega arith

pub has_mark_where_the_bit_is_clear : Tells (HasMark (class_of 3 2) 0) true → ⊥
unfolding bit
has_mark_where_the_bit_is_clear t = let z : ◌≡◌ {A = ℕ} 0 1 = t.holds refl in omega arith

pub has_mark_no_where_the_bit_is_set : Tells (HasMark (class_of 3 2) 1) false → ⊥
unfolding bit
has_mark_no_where_the_bit_is_set t = t.fails refl refl

pub lowest_has_mark_0 : class_of 0 1 ≡ lowest → ⊥
lowest_has_mark_0 e = omega (arith, ap (λ (c : Class). c.marks) e)

pub highest_has_level_14 : class_of 14 0xffff_ffff_ffff_ffff ≡ highest → ⊥
highest_has_level_14 e = omega (arith, ap (λ (c : Class). c.level) e)

-- The lowest mark of a word whose one bit is bit 2.
pub lowest_mark_is_always_0 : LowestOne 64 4 0 → ⊥
unfolding bit
lowest_mark_is_always_0 x = let z : ◌≡◌ {A = ℕ} 0 1 = x.one (omega arith) in omega arith

pub lowest_mark_is_64 : LowestOne 64 4 64 → ⊥
unfolding bit
lowest_mark_is_64 x = let z : ◌≡◌ {A = ℕ} 1 0 = x.zeros 2 (omega arith) in omega arith
