-- `form_line` meets its contract, piece by piece. Assumes nothing.
use Rattle.puts.proofs.Growing.{put_grown, grown_put, put_stops}
use Rattle.writer.proofs.book.form_line.Goals as goal

pub returns-in_err-value : goal.returns-in_err-value
returns-in_err-value c = put_stops _ c.from_residual.ensures c.in_err-value.ensures

pub returns : goal.returns
returns c = grown_put (put_grown c.in_ok-value.ensures) c.put.ensures
