-- `refusal_text` meets its contract, line by line. Assumes nothing.
use mathlib.Core.Path.{refl}
use Rattle.keys.specs.Keys.{key_text, refused_key, at_key}
use Rattle.keys.specs.declared.Key.{Key}
use Rattle.refusals.specs.Numbers.{fault_number}
use Rattle.puts.proofs.Growing.{grown_grown, grown_stops}
use Rattle.answers.specs.Answering.{count_line, refusal_text}
use Rattle.answers.proofs.refusal_text.Goals as goal

pub returns-in_err-refused : goal.returns-in_err-refused
unfolding refusal_text
returns-in_err-refused c =
    grown_stops (count_line (key_text Key.End) 3) c.from_residual.ensures
    (grown_stops (count_line at_key c.args.refusal.place) refl
    (grown_stops (count_line refused_key (fault_number c.args.refusal.fault)) refl c.in_err-refused.ensures))

pub returns-in_err-at : goal.returns-in_err-at
unfolding refusal_text
returns-in_err-at c =
    grown_stops (count_line (key_text Key.End) 3) c.from_residual-in_err-at.ensures
    (grown_stops (count_line at_key c.args.refusal.place) refl
    (grown_grown c.in_ok-refused.ensures (rw c.fault_number.ensures at c.in_err-at.ensures)))

pub returns-in_err-end : goal.returns-in_err-end
unfolding refusal_text
returns-in_err-end c =
    grown_stops (count_line (key_text Key.End) 3) c.from_residual-in_err-end.ensures
    (grown_grown (grown_grown c.in_ok-refused.ensures (rw c.fault_number.ensures at c.in_ok-at.ensures)) c.in_err-end.ensures)

pub returns : goal.returns
unfolding refusal_text
returns c =
    grown_grown
    (grown_grown (grown_grown c.in_ok-refused.ensures (rw c.fault_number.ensures at c.in_ok-at.ensures)) c.in_ok-end.ensures)
    c.count_line-4.ensures
