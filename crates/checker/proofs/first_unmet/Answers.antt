-- `checker::first_unmet` meets its contract: what the test tells of each number, the search tells of all.
-- Assumes nothing.
use borrow.Author.Rules.{rules}
use Rattle.std.proofs.lemmas.Iterator.{first_from_Range}
use Rattle.laws.proofs.Tells.{told_no, told_yes}
use Rattle.rules.specs.Table.{rule_at}
use Rattle.checker.specs.Checking.{RuleMet}
use Rattle.checker.proofs.Meets.{sought_first}
use Rattle.checker.proofs.first_unmet.Goals as goal

pub returns-clause-sought : goal.returns-clause-sought
returns-clause-sought c =
    let met = RuleMet (rule_at c.args.rules.now) c.args.labels.levels.now c.args.labels.marks.now in
    sought_first _ (first_from_Range _ _ _ c.find.result (λ r. met r → ⊥) met c.find.ensures.ran (λ x q h. search (told_no, h, rules)) (λ x q h. search (told_yes, h, rules)))
