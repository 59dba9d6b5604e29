-- `put_row` meets its contract. Assumes nothing.
use Prim.Native.Nat.{◌-◌}
use lib.ListN.{length}
use Rattle.stripping.proofs.Putting.{PutAt}
use Rattle.stripping.proofs.row.put_row.Given as goal

abbrev pub invariant-loop-c : goal.invariant-loop-c
invariant-loop-c l = PutAt l.text l.at l.ends l.kept l.initial.out l.to l.out l.n l.c

abbrev pub decreases-loop-c : goal.decreases-loop-c
decreases-loop-c l = length l.kept - l.c
