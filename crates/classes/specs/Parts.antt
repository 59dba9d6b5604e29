-- The parts of a class: part 0 is the level, part k + 1 is mark k.
-- Assumes nothing.
use Rattle.std.specs.Prelude.{ℕ, zero, suc}
use Rattle.classes.specs.Bits.{bit, word}
use Rattle.classes.specs.Class.{top_level, class_of}
use Rattle.classes.specs.declared.Class.{Class}

-- The level and 64 marks.
abbrev pub part_count : ℕ
part_count = 65

unfoldable pub part : ℕ → Class → ℕ
part zero c = c.level
part (suc k) c = bit k c.marks

-- The greatest value of a part: 15 for the level, 1 for a mark.
unfoldable pub top_of : ℕ → ℕ
top_of zero = top_level
top_of (suc k) = 1

-- The class whose parts are f 0, f 1, ..
unfoldable pub from_parts : (ℕ → ℕ) → Class
from_parts f = class_of (f 0) (word 64 (λ k. f (suc k)))
