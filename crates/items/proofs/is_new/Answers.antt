-- `is_new` meets its contract. Assumes nothing.
use borrow.Author.Rules.{rules}
use Rattle.items.specs.Table.{SameEntry}
use Rattle.items.proofs.Told.{all_told, new_told}
use Rattle.laws.proofs.Tells.{told_no, told_yes}
use Rattle.items.proofs.is_new.Goals as goal

pub returns : goal.returns
returns c =
    new_told
    (all_told _ _ _ c.all.result (λ i. SameEntry c.args.items.now i c.args.items.now c.args.j → ⊥) c.all.ensures.ran (λ x q h. search (told_no, h, rules))
    (λ x q h. search (told_yes, h, rules)))
