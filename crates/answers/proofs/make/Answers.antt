-- `make` meets its contract. Assumes nothing.
use borrow.Author.Rules.{rules}
use Rattle.answers.proofs.Says.{labels_ready, labels_written, labels_ok, refusal_some, refusal_front, answer_labelled, answer_refused}
use Rattle.answers.proofs.make.Goals as goal

pub unwrap-requires : goal.unwrap-requires
unwrap-requires c = search (labels_ready, labels_ok, rules)

pub unwrap-requires-in-Err : goal.unwrap-requires-in-Err
unwrap-requires-in-Err c = search (refusal_some, rules)

pub returns-in-Ok : goal.returns-in-Ok
returns-in-Ok c = search (labels_ready, labels_written, answer_labelled, rules)

pub returns-in-Err : goal.returns-in-Err
returns-in-Err c = search (refusal_front, answer_refused, rules)
