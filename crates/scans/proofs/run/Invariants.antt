-- `run` meets its contract. The loop's invariant: n bytes are counted. Assumes nothing.
use Rattle.scans.specs.Bytes.{kind_of}
use Rattle.scans.proofs.Counted.{Counted}
use Rattle.scans.proofs.run.Given as goal

abbrev pub invariant-loop-n : goal.invariant-loop-n
invariant-loop-n l = Counted (kind_of l.kind) l.text l.n
