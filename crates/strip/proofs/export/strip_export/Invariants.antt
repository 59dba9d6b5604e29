-- `strip_export` meets its contract. The loop's invariant: what is held lies in a buffer that has room for a record. Assumes nothing.
use Rattle.strip.specs.InnerHeld.{Holds}
use Rattle.strip.proofs.export.strip_export.Given as goal

abbrev pub invariant-loop : goal.invariant-loop
invariant-loop l = Holds l.input.have l.buf
