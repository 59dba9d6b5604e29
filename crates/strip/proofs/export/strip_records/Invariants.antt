-- `strip_records` meets its contract. The loop's invariant: what is held lies in a buffer that has room for a record. Assumes nothing.
use Rattle.std.proofs.Common.{◌≡◌, length}
use Rattle.strip.specs.InnerHeld.{Holds}
use Rattle.strip.proofs.export.strip_records.Given as goal

abbrev pub invariant-loop : goal.invariant-loop
invariant-loop l = record { held : Holds l.place.input.have l.buf; size : length l.buf ≡ length l.initial.buf }
