-- What the loop that values digits asks for.
-- Assumes nothing.
use Rattle.std.specs.Prelude.{List, ℕ, ◌≤◌, ◌<◌, length, get_or}
use Rattle.tokens.specs.Numbers.{digit_value}
use Rattle.tokens.specs.Tokens.{mark_digits}

-- The first n bytes are digits of the base, few enough that their value is below 2^64.
pub record Digits (base : ℕ) (l : List ℕ) (n : ℕ) : Type 0 where
  pub base_most : base ≤ 16
  pub most : n ≤ mark_digits
  pub within : n ≤ length l
  pub small : (k : ℕ) → k < n → digit_value (get_or l k 0) < base
