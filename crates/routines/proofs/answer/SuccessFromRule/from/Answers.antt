-- `from` of a rule meets its contract: the words of a rule, put over as many zeros, are all that is there then. Assumes nothing.
use Rattle.std.proofs.Common.{◌≡◌, ◌∙◌, ap, Bool, cond, List, ℕ, replicate}
use Rattle.laws.proofs.Over.{over_is}
use Rattle.laws.specs.Over.{over}
use Rattle.rules.specs.declared.Rule.{Rule}
use Rattle.rules.specs.Table.{words_of, rule_words, RulePut}
use Rattle.routines.proofs.answer.SuccessFromRule.from.Goals as goal

abbrev zeros : List ℕ
zeros = replicate rule_words 0

whole_put : (x : Rule) (b : Bool) (d : List ℕ) → RulePut x 0 zeros b d → d ≡ words_of x
unfolding over
whole_put x b d put = put.table ∙ ap (λ yes. cond yes (over zeros 0 (words_of x)) zeros) put.told ∙ over_is zeros 0 (words_of x)

pub returns : goal.returns
returns c = (c.at.ensures.0, c.at.ensures.1 ∙ whole_put c.args.rule _ _ c.put_rule.ensures)
