-- `rule_step` meets its contract. Assumes nothing.
use Rattle.reader.proofs.Turns.{line_counts, rule_from, names_ready, rule_counted, rule_took, rule_not}
use borrow.Author.Rules.{rules}
use Rattle.reader.proofs.line.rule_step.Goals as goal

pub overflow_add-at : goal.overflow_add-at
overflow_add-at c = search (rule_from, rules)

pub add_rule-requires : goal.add_rule-requires
add_rule-requires c = search (names_ready, rules)

pub overflow_add-c : goal.overflow_add-c
overflow_add-c c = search (rule_counted, rules)

pub went-requires : goal.went-requires
went-requires c = search (line_counts, rules)

pub returns-in-Ok : goal.returns-in-Ok
returns-in-Ok c = search (rule_took, rules)

pub returns-in-Err : goal.returns-in-Err
returns-in-Err c = search (rule_not, rules)
