-- `solve` meets its contract. Assumes nothing.
use Rattle.solver.proofs.Answers.{start_bounded, says_table, says_room, says_without, says_labelled}
use borrow.Author.Rules.{rules}
use Rattle.solver.proofs.solve.Goals as goal

pub returns-then-not-rules_ok : goal.returns-then-not-rules_ok
returns-then-not-rules_ok c = search (says_table, rules)

pub returns-then-not-has_room : goal.returns-then-not-has_room
returns-then-not-has_room c = search (says_room, rules)

pub label-requires : goal.label-requires
label-requires c = search (start_bounded, rules)

pub returns-in-Err : goal.returns-in-Err
returns-in-Err c = search (says_without, rules)

pub returns : goal.returns
returns c = search (says_labelled, rules)
