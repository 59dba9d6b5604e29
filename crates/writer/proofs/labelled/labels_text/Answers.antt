-- `labels_text` meets its contract. Assumes nothing.
use Prim.Native.Nat.{◌+◌}
use Rattle.puts.proofs.Growing.{grown_grown, grown_stops}
use Rattle.writer.specs.Texts.{end_line, labels_text}
use Rattle.writer.proofs.labelled.labels_text.Goals as goal

pub returns-in_err-end : goal.returns-in_err-end
unfolding labels_text
returns-in_err-end c = grown_stops (end_line (1 + c.args.n)) c.from_residual.ensures c.in_err-end.ensures

pub returns : goal.returns
unfolding labels_text
returns c = grown_grown c.in_ok-end.ensures c.end_line.ensures
