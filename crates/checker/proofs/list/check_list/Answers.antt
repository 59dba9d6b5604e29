-- `check_list` meets its contract: before the first rule nothing is known, and each rule goes on from what is known before it.
-- Assumes nothing.
use native.Mathlib.Numerals.{add-one}
use native.Mathlib.Omega.{arith}
use Rattle.std.proofs.lemmas.List.{get_or_default}
use Rattle.checker.specs.List.{list_at}
use Rattle.checker.proofs.list.check_list.Goals as goal

pub loop-i-init : goal.loop-i-init
loop-i-init c = c.nothing-seen.ensures.start c.args.head (list_at c.args.rules.now) c.args.labels.levels.now c.args.labels.marks.now

pub loop-i-preserved : goal.loop-i-preserved
loop-i-preserved c =
    rw add-one (c.next-seen.ensures.on (list_at c.args.rules.now)
    (get_or_default c.args.rules.now c.loop-i.i _ _ (omega (arith, c.listed-count.ensures.room))) c.loop-i.invariant)
