-- A buffer with a text over a part of it: the library's `paste`, of the whole text.
-- Assumes nothing.
use Rattle.std.specs.Prelude.{List, ℕ, length}
use Rattle.std.proofs.Math.Seq.{paste}

-- The buffer d with x over what it had from the place on.
unfoldable pub over : List ℕ → ℕ → List ℕ → List ℕ
over d at x = paste d at x (length x)
