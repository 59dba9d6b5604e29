-- A test of every number below a bound, which computes.
-- Assumes nothing.
use Rattle.std.specs.Prelude.{Bool, true, ◌&&◌, ℕ, zero, suc}

-- Of each number below n the test says yes.
unfoldable pub every_below : ℕ → (ℕ → Bool) → Bool
every_below zero f = true
every_below (suc n) f = f 0 && every_below n (λ k. f (suc k))
