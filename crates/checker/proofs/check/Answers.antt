-- `checker::check` meets its contract: rules that are not accepted, and rules that are.
-- Assumes nothing.
use Rattle.checker.proofs.Says.{says_bad_table, says_judged}
use borrow.Author.Rules.{rules}
use Rattle.checker.proofs.check.Goals as goal

pub returns-then-not-rules_ok : goal.returns-then-not-rules_ok
returns-then-not-rules_ok c = search (says_bad_table, rules)

pub returns : goal.returns
returns c = search (says_judged, rules)
