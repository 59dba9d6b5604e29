-- `is_name` meets its contract. Assumes nothing.
use mathlib.Core.Path.{◌≡◌}
use mathlib.Core.Bool.{true}
use Prim.Native.Nat.{ℕ, ◌<◌}
use native.Mathlib.Omega.{arith}
use borrow.Author.Rules.{rules}
use lib.ListN.{length, get_or}
use Rattle.std.specs.Prelude.{◌↔◌, IsTrue}
use Rattle.scans.specs.Bytes.{name_byte}
use Rattle.items.proofs.Names.{name_none, name_long, name_told}
use Rattle.items.proofs.is_name.Goals as goal
use Rattle.items.proofs.is_name.Goals.{then-is_empty-via-then-is_empty, then-is_empty-via-else-is_empty+then-name-gt-NAME_ROOM}

pub returns-then-is_empty : goal.returns-then-is_empty
returns-then-is_empty c =
    elim c.then-is_empty.branch [
      | then-is_empty-via-then-is_empty w ↦ name_none _ c.is_empty.ensures w.if-is_empty.true
      | then-is_empty-via-else-is_empty+then-name-gt-NAME_ROOM w ↦ name_long _ (omega arith)
    ]

pub returns : goal.returns
returns c =
    let e : IsTrue c.all.result ↔ ((k : ℕ) → k < length c.args.name.now → name_byte (get_or c.args.name.now k 0) ≡ true) = search rules in
    name_told _ c.is_empty.ensures c.if-is_empty.false (omega arith) e
