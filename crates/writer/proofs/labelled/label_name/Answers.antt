-- `label_name` meets its contract, piece by piece. Assumes nothing.
use mathlib.Core.Path.{refl}
use mathlib.Core.List.{[], ◌∷◌}
use Rattle.scans.specs.Ascii.{colon}
use Rattle.items.specs.Table.{name_of}
use Rattle.puts.proofs.Growing.{put_grown, grown_stops, grown_put, put_stops}
use Rattle.writer.proofs.labelled.label_name.Goals as goal

pub returns-in_err-name : goal.returns-in_err-name
returns-in_err-name c = grown_stops (colon ∷ []) c.from_residual.ensures (put_stops (name_of c.args.items.now c.args.i) refl c.in_err-name.ensures)

pub returns-in_err-colon : goal.returns-in_err-colon
returns-in_err-colon c = grown_stops (colon ∷ []) c.from_residual-in_err-colon.ensures (grown_put (put_grown c.in_ok-name.ensures) c.in_err-colon.ensures)

pub returns : goal.returns
returns c = grown_put (grown_put (put_grown c.in_ok-name.ensures) c.in_ok-colon.ensures) c.put-2.ensures
