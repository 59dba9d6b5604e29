-- `end_line` meets its contract, piece by piece. Assumes nothing.
use mathlib.Core.Path.{refl}
use mathlib.Core.List.{[], ◌∷◌}
use Rattle.scans.specs.Ascii.{lf}
use Rattle.tokens.specs.Tokens.{count_text}
use Rattle.puts.proofs.Growing.{put_grown, grown_stops, grown_put, put_stops}
use Rattle.writer.proofs.book.end_line.Goals as goal

pub returns-in_err-value : goal.returns-in_err-value
returns-in_err-value c = grown_stops (lf ∷ []) c.from_residual.ensures (put_stops (count_text c.args.count) refl c.in_err-value.ensures)

pub returns-in_err-lf : goal.returns-in_err-lf
returns-in_err-lf c = grown_stops (lf ∷ []) c.from_residual-in_err-lf.ensures (grown_put (put_grown c.in_ok-value.ensures) c.in_err-lf.ensures)

pub returns : goal.returns
returns c = grown_put (grown_put (put_grown c.in_ok-value.ensures) c.in_ok-lf.ensures) c.put.ensures
