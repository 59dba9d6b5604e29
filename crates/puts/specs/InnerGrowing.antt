-- Several puts one behind the other, and a text at the front of a buffer, as the crates speak of them that make a text piece by piece.
-- Assumes nothing.
use Rattle.std.specs.Prelude.{◌≡◌, List, ℕ, ◌+◌, ◌≤◌, ◌<◌, length, take, Option, Some, None}
use Rattle.laws.specs.Over.{over}

-- The text x was to come at a place of the buffer d. It stands there if it has room, and the next place is behind it; else there is no next place, and
-- some of the pieces of x may stand there.
pub data Grown (d : List ℕ) (at : ℕ) (x : List ℕ) : List ℕ → Option ℕ → Type 0 where
  whole : at + length x ≤ length d → Grown d at x (over d at x) (Some (at + length x))
  full : {d' : List ℕ} → length d' ≡ length d → length d < at + length x → Grown d at x d' None

-- The text x stands at the front of the buffer d, and has r bytes.
pub record Front (x d : List ℕ) (r : ℕ) : Type 0 where
  pub within : r ≤ length d
  pub len : r ≡ length x
  pub text : take r d ≡ x
