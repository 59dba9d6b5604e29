-- `checker::list::answer` meets its contract.
-- Assumes nothing.
use Rattle.checker.proofs.Walking.{concludes_sizes, concludes_order, concludes_judged}
use borrow.Author.Rules.{rules}
use Rattle.checker.proofs.list.answer.Goals.{then-not-sizes_ok-via-then-not-sizes_ok, then-not-sizes_ok-via-else-not-sizes_ok+then-not-seen}
use Rattle.checker.proofs.list.answer.Goals as goal

pub returns-then-not-sizes_ok : goal.returns-then-not-sizes_ok
returns-then-not-sizes_ok c = elim c.then-not-sizes_ok.branch [
  | then-not-sizes_ok-via-then-not-sizes_ok w ↦ search (concludes_sizes, rules)
  | then-not-sizes_ok-via-else-not-sizes_ok+then-not-seen w ↦ search (concludes_order, rules)
]

pub returns : goal.returns
returns c = search (concludes_judged, rules)
