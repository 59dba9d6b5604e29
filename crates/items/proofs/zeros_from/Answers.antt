-- `zeros_from` meets its contract. Assumes nothing.
use mathlib.Core.Path.{◌≡◌}
use borrow.Author.Rules.{rules}
use Rattle.items.specs.Table.{entry_byte}
use Rattle.items.proofs.Told.{all_told, zeros_told}
use Rattle.items.proofs.zeros_from.Goals as goal

pub returns : goal.returns
returns c =
    zeros_told
    (all_told _ _ _ c.all.result (λ k. entry_byte c.args.items.now c.args.i k ≡ 0) c.all.ensures.ran (λ x q h. search (h, rules)) (λ x q h. search (h, rules)))
