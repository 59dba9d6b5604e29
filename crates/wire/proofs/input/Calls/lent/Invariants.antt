-- `lent` meets its contract: what had not the form stays so. Assumes nothing.
use Rattle.std.proofs.Common.{◌≡◌, false}
use Rattle.wire.proofs.input.Calls.lent.Given as goal

abbrev pub invariant-loop-slot : goal.invariant-loop-slot
invariant-loop-slot g l = l.fn.self.good ≡ false → l.self.good ≡ false
