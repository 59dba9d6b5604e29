-- `take` meets its contract. Assumes nothing.
use Prim.Native.Nat.{◌-◌}
use lib.ListN.{length}
use Rattle.stripping.proofs.Taking.{TakeAt}
use Rattle.stripping.proofs.take.Given as goal

abbrev pub invariant-loop-cut : goal.invariant-loop-cut
invariant-loop-cut l = TakeAt l.text l.last l.kept l.initial.out l.out l.ends l.cut

abbrev pub decreases-loop-cut : goal.decreases-loop-cut
decreases-loop-cut l = length l.text - l.cut.used
