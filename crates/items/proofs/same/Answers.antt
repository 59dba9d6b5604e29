-- `same` meets its contract. Assumes nothing.
use mathlib.Core.Path.{◌≡◌}
use borrow.Author.Rules.{rules}
use Rattle.items.specs.Table.{entry_byte}
use Rattle.items.proofs.Told.{all_told, same_told}
use Rattle.items.proofs.same.Goals as goal

pub returns : goal.returns
returns c =
    same_told
    (all_told _ _ _ c.all.result (λ k. entry_byte c.args.a.now c.args.i k ≡ entry_byte c.args.b.now c.args.j k) c.all.ensures.ran (λ x q h. search (h, rules))
    (λ x q h. search (h, rules)))
