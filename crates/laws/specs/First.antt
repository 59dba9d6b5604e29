-- The first number below a bound of which a statement fails.
-- Assumes nothing.
use Rattle.std.specs.Prelude.{ℕ, ◌≤◌, ◌<◌}

-- P holds of every number below n.
pub record AllBelow (P : ℕ → Type 0) (n : ℕ) : Type 0 where
  pub each : (j : ℕ) → j < n → P j

-- i is the first number below n of which P does not hold.
pub record FirstFailing (P : ℕ → Type 0) (n i : ℕ) : Type 0 where
  pub below : i < n
  pub before : AllBelow P i
  pub fails : P i → ⊥

-- What a search for it answers: the first such number, and n where there is none.
pub record Sought (P : ℕ → Type 0) (n i : ℕ) : Type 0 where
  pub within : i ≤ n
  pub found : i < n → FirstFailing P n i
  pub nowhere : n ≤ i → AllBelow P n
