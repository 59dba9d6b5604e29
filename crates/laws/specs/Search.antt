-- A search among the numbers below a bound, by a test that computes.
-- Assumes nothing.
use Rattle.std.specs.Prelude.{Bool, cond, ℕ, zero, suc}

-- The first number below n of which the test says yes, and n where it says no of each.
unfoldable pub first_below : ℕ → (ℕ → Bool) → ℕ
first_below zero f = 0
first_below (suc n) f = cond (f 0) 0 (suc (first_below n (λ k. f (suc k))))
