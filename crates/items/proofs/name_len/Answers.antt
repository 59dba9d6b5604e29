-- `name_len` meets its contract. Assumes nothing.
use mathlib.Core.Path.{◌≡◌}
use mathlib.Core.Bool.{Bool, true, false}
use Prim.Native.Nat.{ℕ}
use borrow.Author.Rules.{rules}
use lib.Dec.{eqb}
use Rattle.std.proofs.lemmas.Iterator.{first_from_Range}
use Rattle.laws.proofs.Search.{first_is}
use Rattle.items.specs.Table.{entry_byte, name_len}
use Rattle.items.proofs.Told.{first_told}
use Rattle.items.proofs.name_len.Goals as goal

pub returns : goal.returns
unfolding name_len
returns c =
    let f : ℕ → Bool = λ k. eqb (entry_byte c.args.items.now c.args.i k) 0 in
    rw c.unwrap_or.ensures
    (first_is
    (first_told f c.find.result
    (first_from_Range _ _ _ c.find.result (λ k. f k ≡ true) (λ k. f k ≡ false) c.find.ensures.ran (λ x q h. search (h, rules)) (λ x q h. search (h, rules)))))
