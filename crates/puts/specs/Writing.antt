-- What a put leaves in a lent buffer, and what it answers.
-- Assumes nothing.
use Rattle.std.specs.Prelude.{◌≡◌, Bool, cond, List, ℕ, ◌+◌, leb, length, Option, Some, None}
use Rattle.laws.specs.Over.{over}

-- There is room for n bytes.
abbrev pub has_room : List ℕ → ℕ → ℕ → Bool
has_room d at n = leb (at + n) (length d)

-- What putting x at a place gives: the buffer d' and the next place r. Where there is no room for all of x, nothing is written, and there is no next
-- place.
pub record Put (d : List ℕ) (at : ℕ) (x d' : List ℕ) (r : Option ℕ) : Type 0 where
  pub buffer : d' ≡ cond (has_room d at (length x)) (over d at x) d
  pub next : r ≡ cond (has_room d at (length x)) (Some (at + length x)) None
