-- The bytes of a buffer that are held, and of which some were taken.
-- Assumes nothing.
use Rattle.std.specs.Prelude.{ℕ, ◌+◌, ◌≤◌, List, length}
use Rattle.records.specs.Rows.{most_bytes, line_end}

-- `have` bytes are held in the buffer d, which has room for more than a record that is not at its end.
pub record Holds (have : ℕ) (d : List ℕ) : Type 0 where
  pub within : have ≤ length d
  pub large : most_bytes + line_end ≤ length d

-- Of the `have` bytes that are held in the buffer d, `used` were taken.
pub record Held (used have : ℕ) (d : List ℕ) : Type 0 where
  pub taken : used ≤ have
  pub within : have ≤ length d
