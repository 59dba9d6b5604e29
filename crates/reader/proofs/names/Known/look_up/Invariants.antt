-- `look_up` meets its contract. Assumes nothing.
use Rattle.reader.proofs.LookUps.{Looking}
use Rattle.reader.proofs.names.Known.look_up.Given as goal

abbrev pub invariant-loop-k : goal.invariant-loop-k
invariant-loop-k l = Looking l.text l.at l.count l.self.names.now l.self.count l.left l.place l.k
