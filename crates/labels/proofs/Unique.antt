-- The search for a bad label has one answer: a number that it found is below its bound, and is the first, so that no other number is, nor is there none.
-- Assumes nothing.
use mathlib.Core.Path.{◌≡◌, refl, ap}
use Prim.Native.Nat.{ℕ, ◌<◌}
use native.Mathlib.Omega.{arith}
use Rattle.std.specs.Prelude.{Option, Some, None, IfSome, unwrap_or}
use Rattle.laws.specs.First.{Sought}
use Rattle.laws.proofs.First.{sought_unique}

pub found_unique : {P : ℕ → Type 0} {n : ℕ} {a b : Option ℕ} → Sought P n (unwrap_or a n) → IfSome a (λ i. i < n) → Sought P n (unwrap_or b n)
    → IfSome b (λ i. i < n) → a ≡ b
found_unique {a = None} {b = None} x l y k = refl
found_unique {n = n} {a = None} {b = Some j} x l y k = absurd (let e : n ≡ j = sought_unique x y in omega (arith, k))
found_unique {n = n} {a = Some i} {b = None} x l y k = absurd (let e : i ≡ n = sought_unique x y in omega (arith, l))
found_unique {a = Some i} {b = Some j} x l y k = ap Some (sought_unique x y)
