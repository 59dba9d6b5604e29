-- `step` meets its contract. Assumes nothing.
use Rattle.reader.proofs.Turns.{form_counts, line_ready, item_ready, rule_ready, step_none, step_syntax, step_order, step_form, step_item, step_rule, step_end}
use borrow.Author.Rules.{rules}
use Rattle.reader.proofs.line.step.Goals as goal

pub returns-then-text-at : goal.returns-then-text-at
returns-then-text-at c = search (step_none, rules)

pub returns-in_default : goal.returns-in_default
returns-in_default c = search (step_syntax, rules)

pub returns-then-not-may_follow : goal.returns-then-not-may_follow
returns-then-not-may_follow c = search (step_order, rules)

pub went-requires : goal.went-requires
went-requires c = search (form_counts, rules)

pub item_step-requires : goal.item_step-requires
item_step-requires c = search (item_ready, rules)

pub rule_step-requires : goal.rule_step-requires
rule_step-requires c = search (rule_ready, rules)

pub end_step-requires : goal.end_step-requires
end_step-requires c = search (line_ready, rules)

pub returns-in-Form : goal.returns-in-Form
returns-in-Form c = search (step_form, rules)

pub returns-in-Item : goal.returns-in-Item
returns-in-Item c = search (step_item, rules)

pub returns-in-Cap : goal.returns-in-Cap
returns-in-Cap c = search (step_rule, rules)

pub returns-in-End : goal.returns-in-End
returns-in-End c = search (step_end, rules)
