-- What the inner functions need and give: text at the front of a buffer that has room for every text.
-- Assumes nothing.
use Rattle.std.specs.Prelude.{◌≡◌, List, ℕ, ◌≤◌, length, take}
use Rattle.refusals.specs.Sizes.{most_text}
use Rattle.writer.specs.Writing.{Labels}

-- The buffer has room for every text.
pub record Whole (d : List ℕ) : Type 0 where
  pub size : length d ≡ most_text

-- Right labels, and a buffer with room for every text.
pub record PrintReady (t : List ℕ) (n : ℕ) (levels marks d : List ℕ) : Type 0 where
  pub labels : Labels t n levels marks
  pub buffer : Whole d

-- The first r bytes of the buffer are a text of which P holds.
pub record FrontWith (P : List ℕ → Type 0) (d : List ℕ) (r : ℕ) : Type 0 where
  pub holds : P (take r d)
  pub within : r ≤ length d
