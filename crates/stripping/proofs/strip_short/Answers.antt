-- `strip_short` meets its contract. Assumes nothing.
use borrow.Author.Rules.{rules}
use Rattle.stripping.proofs.Says.{says_refused, made_within, made_long, says_no_room, says_text}
use Rattle.stripping.proofs.strip_short.Goals as goal

pub returns-in_default : goal.returns-in_default
returns-in_default c = search (says_refused, rules)

pub returns-then-out-len : goal.returns-then-out-len
returns-then-out-len c = search (says_no_room, rules)

pub slice_bounds-made-end : goal.slice_bounds-made-end
slice_bounds-made-end c = search (made_within, rules)

pub slice_bounds-put-end : goal.slice_bounds-put-end
slice_bounds-put-end c = search (made_long, rules)

pub returns : goal.returns
returns c = search (says_text, rules)
