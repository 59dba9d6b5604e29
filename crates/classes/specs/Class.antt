-- The class, as docs/RULES.md has it: a level 0 to 15 and a set of marks 0 to 63.
-- Assumes nothing.
use Rattle.std.specs.Prelude.{◌≡◌, ℕ, ◌^◌, ◌≤◌, ◌<◌, min, max}
use Rattle.classes.specs.Bits.{bit, word}
use Rattle.classes.specs.declared.Class.{Class}

-- The class of a level and of the marks whose bits are set.
abbrev pub class_of : ℕ → ℕ → Class
class_of l m = record { level = l; marks = m }

-- "a level 0 to 15".
abbrev pub top_level : ℕ
top_level = 15

-- A class is a level 0 to 15 and a set of marks 0 to 63.
pub record IsClass (c : Class) : Type 0 where
  pub level : c.level ≤ top_level
  pub marks : c.marks < 2 ^ 64

-- Mark k is the bit worth 2^k.
abbrev pub HasMark : Class → ℕ → Type 0
HasMark c k = bit k c.marks ≡ 1

-- Class x covers y if x's level is at least y's and x has every mark of y.
pub record Covers (x y : Class) : Type 0 where
  pub level : y.level ≤ x.level
  pub marks : (k : ℕ) → k < 64 → HasMark y k → HasMark x k

-- The join has the greatest level and every mark that any of them has.
unfoldable pub joined : Class → Class → Class
joined x y = class_of (max x.level y.level) (word 64 (λ k. max (bit k x.marks) (bit k y.marks)))

-- The common part has the smallest level and every mark that all of them have.
unfoldable pub common_of : Class → Class → Class
common_of x y = class_of (min x.level y.level) (word 64 (λ k. min (bit k x.marks) (bit k y.marks)))

-- The lowest class is 0/0000000000000000 and the highest 15/ffffffffffffffff.
abbrev pub lowest : Class
lowest = class_of 0 0x0000_0000_0000_0000

abbrev pub highest : Class
highest = class_of top_level 0xffff_ffff_ffff_ffff
