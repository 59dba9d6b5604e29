-- `read_lines` meets its contract. Assumes nothing.
use mathlib.Core.Path.{refl, ap}
use Rattle.std.specs.Prelude.{Ok}
use borrow.Author.Rules.{rules}
use Rattle.std.proofs.lemmas.Result.{err_from_is_err_and}
use Rattle.reader.proofs.Whole.{reading_none, reading_end, reading_refused, reading_fits, reading_less, reading_on}
use Rattle.reader.proofs.read_lines.Goals as goal

pub loop-next-init : goal.loop-next-init
loop-next-init c = search (reading_none, rules)

pub step-requires : goal.step-requires
step-requires c = c.loop-next.invariant.ready

pub overflow_add-at : goal.overflow_add-at
overflow_add-at c = search (reading_fits c.loop-next.invariant _ _ _ c.in_ok-next.ensures (ap Ok c.in-Line.is), rules)

pub loop-next-smaller : goal.loop-next-smaller
loop-next-smaller c = reading_less c.loop-next.invariant _ _ _ c.in_ok-next.ensures (ap Ok c.in-Line.is)

pub loop-next-preserved : goal.loop-next-preserved
loop-next-preserved c = search (reading_on c.loop-next.invariant _ _ _ c.in_ok-next.ensures (ap Ok c.in-Line.is), rules)

pub returns-in_err-next : goal.returns-in_err-next
returns-in_err-next c =
    let p = err_from_is_err_and c.from_residual.result c.from_residual.ensures.1 in
    rw (p.1, p.2) (reading_refused c.loop-next.invariant _ _ _ c.in_err-next.ensures refl)

pub returns-in-End : goal.returns-in-End
returns-in-End c = reading_end c.loop-next.invariant _ _ _ c.in_ok-next.ensures (ap Ok c.in-End.is)
