-- `quoted_run` meets its contract. The loop's invariant: up to i no byte is a quote. Assumes nothing.
use Rattle.records.specs.Fields.{quoted}
use Rattle.records.proofs.Past.{Past}
use Rattle.records.proofs.quoted_run.Given as goal

abbrev pub invariant-loop-i : goal.invariant-loop-i
invariant-loop-i l = Past quoted l.text l.at l.i
