-- `rule_at` meets its contract. Assumes nothing.
use Rattle.rules.proofs.Words.{rule_made}
use borrow.Author.Rules.{rules}
use Rattle.rules.proofs.rule_at.Goals as goal

pub returns : goal.returns
returns c = search (rule_made, rules)
