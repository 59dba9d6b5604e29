-- The table of what may come next, as the code has it, compared with the key order at each of its 36 cells, which antt computes.
-- Assumes nothing.
use mathlib.Core.Path.{◌≡◌, refl}
use mathlib.Core.Bool.{Bool, true, false, beq}
use mathlib.Core.List.{[]}
use Prim.Native.Nat.{ℕ, ◌*◌, ◌/◌, ◌%◌}
use lib.ListN.{get_or}
use Rattle.laws.specs.Every.{every_below}
use Rattle.keys.specs.Keys.{next_allowed}
use Rattle.keys.specs.declared.TheConstants.{NEXT}
use Rattle.keys.proofs.KeyTexts.{key_count}

-- The cell of a row and a column says what the key order says.
abbrev pub right : ℕ → Bool
right i = beq (get_or (get_or NEXT (i / key_count) []) (i % key_count) false) (next_allowed (i / key_count) (i % key_count))

pub cells_right : every_below (key_count * key_count) right ≡ true
unfolding every_below next_allowed
cells_right = refl
