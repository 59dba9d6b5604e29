-- `strip` meets its contract. Assumes nothing.
use borrow.Author.Rules.{rules}
use Rattle.stripping.proofs.Says.{says_long, says_wide, says_straight}
use Rattle.stripping.proofs.strip.Goals as goal

pub returns-then-text-gt-MOST_TEXT : goal.returns-then-text-gt-MOST_TEXT
returns-then-text-gt-MOST_TEXT c = search (says_long, rules)

pub returns-then-kept-gt-MOST_FIELDS : goal.returns-then-kept-gt-MOST_FIELDS
returns-then-kept-gt-MOST_FIELDS c = search (says_wide, rules)

pub returns : goal.returns
returns c = search (says_straight, rules)
