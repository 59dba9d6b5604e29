-- `item_named` meets its contract. Assumes nothing.
use borrow.Author.Rules.{rules}
use Rattle.columns.proofs.Quoted.{before_quote, between_quotes, item_quoted, item_plain}
use Rattle.columns.proofs.header.item_named.Goals as goal

pub overflow_sub-end : goal.overflow_sub-end
overflow_sub-end c = search (before_quote, rules)

pub slice_bounds-find-count : goal.slice_bounds-find-count
slice_bounds-find-count c = search (between_quotes, rules)

pub slice_bounds-find-start : goal.slice_bounds-find-start
slice_bounds-find-start c = search (between_quotes, rules)

pub returns-then-is_quoted : goal.returns-then-is_quoted
returns-then-is_quoted c = search (item_quoted, rules)

pub returns : goal.returns
returns c = search (item_plain, rules)
