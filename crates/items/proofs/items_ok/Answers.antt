-- `items_ok` meets its contract. Assumes nothing.
use native.Mathlib.Omega.{arith}
use borrow.Author.Rules.{rules}
use Rattle.laws.proofs.Tells.{tells_no}
use Rattle.items.specs.Table.{NameAt, NewAt}
use Rattle.items.proofs.Told.{all_told, items_told}
use Rattle.items.proofs.items_ok.Goals as goal
use Rattle.items.proofs.items_ok.Goals.{then-n-gt-MOST_ITEMS-via-then-n-gt-MOST_ITEMS, then-n-gt-MOST_ITEMS-via-else-n-gt-MOST_ITEMS+then-items-n}

pub returns-then-n-gt-MOST_ITEMS : goal.returns-then-n-gt-MOST_ITEMS
returns-then-n-gt-MOST_ITEMS c =
    tells_no
    (λ o. elim c.then-n-gt-MOST_ITEMS.branch [
      | then-n-gt-MOST_ITEMS-via-then-n-gt-MOST_ITEMS w ↦ omega (arith, o.size)
      | then-n-gt-MOST_ITEMS-via-else-n-gt-MOST_ITEMS+then-items-n w ↦ omega (arith, o.room)
    ])

pub returns : goal.returns
returns c =
    items_told (omega arith) (omega arith)
    (all_told _ _ _ c.all.result (λ i. NameAt c.args.items.now i × NewAt c.args.items.now i) c.all.ensures.ran (λ x q h. search (h, rules))
    (λ x q h. search (h, rules)))
