-- `Class::common` meets its contract: `&` makes the word of every mark that both classes have. Assumes nothing.
use mathlib.Core.Path.{◌≡◌, ap₂}
use Prim.Native.Nat.{ℕ, ◌^◌, ◌<◌, min}
use native.Mathlib.Omega.{arith}
use borrow.Author.Rules.{rules}
use lib.Bits.{bit_and}
use Rattle.classes.specs.declared.Class.{Class}
use Rattle.classes.specs.Class.{class_of, common_of}
use Rattle.classes.proofs.Bits.{and_word}
use Rattle.classes.proofs.Class.common.Goals as goal

-- The smaller level with `&` of the marks is the common part.
and_is_common : (x y : Class) (l : ℕ) → l ≡ min x.level y.level → x.marks < 2 ^ 64 → y.marks < 2 ^ 64
    → class_of l (bit_and x.marks y.marks) ≡ common_of x y
unfolding common_of
and_is_common x y l e h g = ap₂ class_of (omega arith) (and_word 64 x.marks y.marks h g)

pub returns : goal.returns
returns c = search (and_is_common, rules)
