-- `rises` meets its contract. Assumes nothing.
use Rattle.reader.proofs.LookUps.{Rising}
use Rattle.reader.proofs.names.rises.Given as goal

abbrev pub invariant-loop-k : goal.invariant-loop-k
invariant-loop-k l = Rising l.left l.k
