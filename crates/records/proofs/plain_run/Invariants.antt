-- `plain_run` meets its contract. The loop's invariant: up to i every byte is plain. Assumes nothing.
use Rattle.records.specs.Fields.{plain}
use Rattle.records.proofs.Past.{Past}
use Rattle.records.proofs.plain_run.Given as goal

abbrev pub invariant-loop-i : goal.invariant-loop-i
invariant-loop-i l = Past plain l.text l.at l.i
