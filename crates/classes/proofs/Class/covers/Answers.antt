-- `Class::covers` meets its contract: the other class has no mark outside this one exactly if this one has each of its marks. Assumes nothing.
use Prim.Native.Nat.{◌-◌, ◌^◌, ◌≤◌, ◌<◌}
use native.Mathlib.Omega.{arith}
use borrow.Author.Rules.{rules}
use lib.Bits.{bit_and}
use lib.Dec.{eqb}
use Rattle.classes.specs.declared.Class.{Class}
use Rattle.classes.specs.Class.{Covers}
use Rattle.laws.specs.Tells.{Tells}
use Rattle.classes.proofs.Bits.{outside_none, none_outside}
use Rattle.laws.proofs.Tells.{tells_eqb}
use Rattle.classes.proofs.Class.covers.Goals as goal

-- Where the level is high enough the test of the marks outside this class tells.
outside_tells : (x y : Class) → y.level ≤ x.level → x.marks < 2 ^ 64 → y.marks < 2 ^ 64
    → Tells (Covers x y) (eqb (bit_and y.marks (2 ^ 64 - 1 - x.marks)) 0)
outside_tells x y l h g =
    tells_eqb _ _ (λ e. record { level = l; marks = λ k s. outside_none 64 x.marks y.marks h g e k (omega arith) })
    (λ v. none_outside 64 x.marks y.marks h g (λ k s. v.marks k (omega arith)))

pub returns-then-other-self : goal.returns-then-other-self
returns-then-other-self c = search (outside_tells, rules)
