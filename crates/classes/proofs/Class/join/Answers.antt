-- `Class::join` meets its contract: `|` makes the word of every mark that either class has. Assumes nothing.
use mathlib.Core.Path.{◌≡◌, ap₂}
use Prim.Native.Nat.{ℕ, ◌^◌, ◌<◌, max}
use native.Mathlib.Omega.{arith}
use borrow.Author.Rules.{rules}
use lib.Bits.{bit_or}
use Rattle.classes.specs.declared.Class.{Class}
use Rattle.classes.specs.Class.{class_of, joined}
use Rattle.classes.proofs.Bits.{or_word}
use Rattle.classes.proofs.Class.join.Goals as goal

-- The greater level with `|` of the marks is the join.
or_joins : (x y : Class) (l : ℕ) → l ≡ max x.level y.level → x.marks < 2 ^ 64 → y.marks < 2 ^ 64
    → class_of l (bit_or x.marks y.marks) ≡ joined x y
unfolding joined
or_joins x y l e h g = ap₂ class_of (omega arith) (or_word 64 x.marks y.marks h g)

pub returns : goal.returns
returns c = search (or_joins, rules)
