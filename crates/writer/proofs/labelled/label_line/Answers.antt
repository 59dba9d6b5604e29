-- `label_line` meets its contract, piece by piece. Assumes nothing.
use mathlib.Core.Path.{refl}
use mathlib.Core.List.{[], ◌∷◌}
use Rattle.scans.specs.Ascii.{lf}
use Rattle.labels.specs.Labels.{labels_in}
use Rattle.tokens.specs.Tokens.{class_text}
use Rattle.puts.proofs.Growing.{grown_stops, grown_put}
use Rattle.writer.proofs.labelled.label_line.Goals as goal

pub returns-in_err-class : goal.returns-in_err-class
returns-in_err-class c =
    grown_stops (lf ∷ []) c.from_residual.ensures (grown_stops (class_text (labels_in c.args.labels.levels.now c.args.labels.marks.now c.args.i)) refl c.in_err-class.ensures)

pub returns-in_err-lf : goal.returns-in_err-lf
returns-in_err-lf c = grown_stops (lf ∷ []) c.from_residual-in_err-lf.ensures (grown_put c.in_ok-class.ensures (rw c.label_at.ensures at c.in_err-lf.ensures))

pub returns : goal.returns
returns c = grown_put (grown_put c.in_ok-class.ensures (rw c.label_at.ensures at c.in_ok-lf.ensures)) c.put.ensures
