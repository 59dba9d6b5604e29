-- What stands past the end of a list.
-- Assumes nothing.
use mathlib.Core.Path.{◌≡◌, sym}
use mathlib.Core.List.{List}
use Prim.Native.Nat.{ℕ, ◌≤◌}
use lib.ListN.{length, get_or, get_or-eq_default}

pub zero_past : (t : List ℕ) (i : ℕ) → length t ≤ i → 0 ≡ get_or t i 0
zero_past t i h = sym (get_or-eq_default t 0 h)
