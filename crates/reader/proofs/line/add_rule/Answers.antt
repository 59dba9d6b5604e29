-- `add_rule` meets its contract. Assumes nothing.
use Rattle.reader.proofs.Adding.{rule_full, rule_ninth, rule_no_left, rule_no_right, rule_order, rule_new}
use borrow.Author.Rules.{rules}
use Rattle.reader.proofs.line.add_rule.Goals as goal

pub returns-then-c-ge-MOST_RULES : goal.returns-then-c-ge-MOST_RULES
returns-then-c-ge-MOST_RULES c = search (rule_full, rules)

pub returns-then-value-gt-MOST_LEFT : goal.returns-then-value-gt-MOST_LEFT
returns-then-value-gt-MOST_LEFT c = search (rule_ninth, rules)

pub returns-in_default : goal.returns-in_default
returns-in_default c = search (rule_no_left, rule_no_right, rules)

pub returns-then-not-rises : goal.returns-then-not-rises
returns-then-not-rises c = search (rule_order, rules)

pub returns : goal.returns
returns c = search (rule_new, rules)
