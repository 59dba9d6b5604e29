-- `value` meets its contract. The loop's invariant: v is the value of the digits so far. Assumes nothing.
use lib.ListN.{drop}
use Rattle.tokens.proofs.Valued.{Valued}
use Rattle.tokens.proofs.numbers.value.Given as goal

abbrev pub invariant-loop-b : goal.invariant-loop-b
invariant-loop-b l = Valued l.base (drop l.at l.s) l.v l.b-index
