-- `checker::judged` meets its contract: one law for each answer.
-- Assumes nothing.
use Rattle.checker.proofs.Says.{judges_no_room, judges_bad_label, judges_rules}
use borrow.Author.Rules.{rules}
use Rattle.checker.proofs.judged.Goals as goal

pub returns-then-not-has_room : goal.returns-then-not-has_room
returns-then-not-has_room c = search (judges_no_room, rules)

pub returns-in-Some : goal.returns-in-Some
returns-in-Some c = search (judges_bad_label, rules)

pub returns-in-None : goal.returns-in-None
returns-in-None c = search (judges_rules, rules)
