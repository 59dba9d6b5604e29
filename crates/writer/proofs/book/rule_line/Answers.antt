-- `rule_line` meets its contract, piece by piece. Assumes nothing.
use mathlib.Core.Path.{refl}
use mathlib.Core.List.{[], ◌∷◌}
use Rattle.scans.specs.Ascii.{lf}
use Rattle.writer.specs.Texts.{right_text}
use Rattle.puts.proofs.Growing.{grown_stops, grown_put}
use Rattle.writer.proofs.book.rule_line.Goals as goal

pub returns-in_err-right : goal.returns-in_err-right
returns-in_err-right c = grown_stops (lf ∷ []) c.from_residual.ensures (grown_stops (right_text c.args.items.now c.args.rule) refl c.in_err-right.ensures)

pub returns-in_err-lf : goal.returns-in_err-lf
returns-in_err-lf c = grown_stops (lf ∷ []) c.from_residual-in_err-lf.ensures (grown_put c.in_ok-right.ensures c.in_err-lf.ensures)

pub returns : goal.returns
returns c = grown_put (grown_put c.in_ok-right.ensures c.in_ok-lf.ensures) c.put.ensures
