-- Which marks a class has: none is over 63, and the lowest bit after the shift tells of any other. Assumes nothing.
use Prim.Native.Nat.{ℕ, ◌^◌, ◌/◌, ◌%◌, ◌≤◌, ◌<◌}
use native.Mathlib.Omega.{arith}
use lib.Dec.{eqb, ltb}
use Rattle.classes.specs.declared.Class.{Class}
use Rattle.classes.specs.Bits.{bit}
use Rattle.classes.specs.Class.{HasMark}
use Rattle.laws.specs.Tells.{Tells}
use Rattle.classes.proofs.Bits.{bit_high}
use Rattle.laws.proofs.Tells.{tells_ltb, tells_eqb}

pub none_over_63 : (c : Class) (k n : ℕ) → c.marks < 2 ^ 64 → n ≤ k → 64 ≤ k → Tells (HasMark c k) (ltb k n)
none_over_63 c k n h past l = tells_ltb _ _ (λ s. absurd (omega arith)) (λ m. absurd (omega (arith, bit_high 64 k c.marks h l)))

pub shift_tells : (c : Class) (k : ℕ) → Tells (HasMark c k) (eqb (c.marks / 2 ^ k % 2) 1)
unfolding bit
shift_tells c k = tells_eqb _ _ (λ e. e) (λ e. e)
