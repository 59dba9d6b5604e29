-- `item_line` meets its contract, piece by piece. Assumes nothing.
use mathlib.Core.Path.{refl}
use mathlib.Core.List.{[], ◌∷◌}
use Rattle.scans.specs.Ascii.{lf}
use Rattle.items.specs.Table.{name_of}
use Rattle.puts.proofs.Growing.{put_grown, grown_stops, grown_put, put_stops}
use Rattle.writer.proofs.book.item_line.Goals as goal

pub returns-in_err-name : goal.returns-in_err-name
returns-in_err-name c = grown_stops (lf ∷ []) c.from_residual.ensures (put_stops (name_of c.args.items.now c.args.i) refl c.in_err-name.ensures)

pub returns-in_err-lf : goal.returns-in_err-lf
returns-in_err-lf c = grown_stops (lf ∷ []) c.from_residual-in_err-lf.ensures (grown_put (put_grown c.in_ok-name.ensures) c.in_err-lf.ensures)

pub returns : goal.returns
returns c = grown_put (grown_put (put_grown c.in_ok-name.ensures) c.in_ok-lf.ensures) c.put.ensures
