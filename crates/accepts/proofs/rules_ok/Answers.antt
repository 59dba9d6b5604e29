-- `rules_ok` meets its contract: what the test tells of each rule, the test of all tells of the table. Assumes nothing.
use mathlib.Core.Path.{refl}
use native.Mathlib.Omega.{arith}
use borrow.Author.Rules.{rules}
use Rattle.std.proofs.lemmas.Iterator.{cases_from_all, YieldsList-from_range}
use Rattle.rules.specs.Table.{rule_at}
use Rattle.accepts.specs.Accepted.{Standing}
use Rattle.accepts.proofs.Accepts.{all_told, table_stands}
use Rattle.accepts.proofs.rules_ok.Goals as goal

pub returns-then-head-rules : goal.returns-then-head-rules
returns-then-head-rules c =
    let stands = Standing c.args.head (rule_at c.args.rules.now) in
    let told = all_told {P = stands} c.args.head.rules c.all.result
    (cases_from_all _ _ c.all.result stands (λ r. stands r → ⊥) c.all.ensures.ran (YieldsList-from_range 0 c.args.head.rules c.args.head.rules refl (omega arith))
    (λ x q h. search (h, rules)) (λ x q h. search (h, rules))) in
    search (table_stands, told, rules)
