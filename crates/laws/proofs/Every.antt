-- A test of every number below a bound says yes exactly if it says yes of each of them. It rests on induction from the low end.
-- Assumes nothing.
use mathlib.Core.Path.{◌≡◌, refl, ap₂}
use mathlib.Core.Bool.{Bool, true, ◌&&◌}
use Prim.Native.Nat.{ℕ, zero, suc, ◌<◌}
use native.Mathlib.Omega.{arith}
use Rattle.laws.specs.Every.{every_below}
use Rattle.laws.proofs.Bools.{and_left, and_right}

pub every_all : (n : ℕ) (f : ℕ → Bool) → ((k : ℕ) → k < n → f k ≡ true) → every_below n f ≡ true
unfolding every_below
every_all zero f h = refl
every_all (suc n) f h = ap₂ ◌&&◌ (h 0 (omega arith)) (every_all n (λ k. f (suc k)) (λ k l. h (suc k) (omega arith)))

pub every_at : (n : ℕ) (f : ℕ → Bool) → every_below n f ≡ true → (k : ℕ) → k < n → f k ≡ true
unfolding every_below
every_at zero f e k l = absurd (omega arith)
every_at (suc n) f e zero l = and_left (f 0) (every_below n (λ j. f (suc j))) e
every_at (suc n) f e (suc k) l = every_at n (λ j. f (suc j)) (and_right (f 0) (every_below n (λ j. f (suc j))) e) k (omega arith)
