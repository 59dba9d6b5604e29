-- `keep` meets its contract. Assumes nothing.
use borrow.Author.Rules.{rules}
use Rattle.stripping.proofs.Making.{keeps_none, keep_some, keeps_put, comma_in, comma_fits}
use Rattle.stripping.proofs.row.keep.Goals as goal

pub returns-then-not-kept : goal.returns-then-not-kept
returns-then-not-kept c = search (keeps_none, rules)

pub unwrap-comma-requires : goal.unwrap-comma-requires
unwrap-comma-requires c = search (keep_some, rules)

pub bounds-out-comma : goal.bounds-out-comma
bounds-out-comma c = search (comma_in, rules)

pub overflow_add-result : goal.overflow_add-result
overflow_add-result c = search (comma_fits, rules)

pub returns : goal.returns
returns c = search (keeps_put, rules)
