-- `fill` meets its contract: what is held is what the input had, and no more than there is room for. The measure is the room that is left. Assumes nothing.
use Rattle.std.proofs.Common.{length, take, ◌-◌, ◌≤◌}
use Rattle.std.specs.Io.KnownBytes.{Consumes}
use Rattle.fills.proofs.fill.Given as goal

abbrev pub invariant-loop-have : goal.invariant-loop-have
invariant-loop-have g l = record {
  within : l.have ≤ length l.buf;
  bytes : Consumes (g.R.Read.remaining l.initial.input) (g.R.Read.remaining l.input) (take l.have l.buf);
}

abbrev pub decreases-loop-have : goal.decreases-loop-have
decreases-loop-have g l = length l.buf - l.have
