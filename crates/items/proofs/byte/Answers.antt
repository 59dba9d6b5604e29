-- `byte` meets its contract. Assumes nothing.
use mathlib.Core.Path.{◌≡◌, ap, ◌∙◌}
use Prim.Native.Nat.{ℕ, ◌+◌}
use native.Mathlib.Omega.{arith}
use borrow.Author.Rules.{rules}
use lib.ListN.{get_or}
use Rattle.std.specs.Prelude.{min}
use Rattle.items.proofs.Table.{byte_at}
use Rattle.items.proofs.byte.Goals as goal

pub returns : goal.returns
returns c =
    let e : c.unwrap_or.result ≡ get_or c.args.items.now c.saturating_add-at.result 0 = search rules in
    e
    ∙ byte_at c.args.items.now c.args.i c.args.k 18446744073709551615 c.saturating_add-at.result (omega arith)
    (c.saturating_add-at.ensures ∙ ap (λ (m : ℕ). min (m + c.args.k) 18446744073709551615) c.saturating_mul.ensures)
