-- Demand 3, of solving: two tables that differ only in the classes written there, and agree in those on one mark or on the level. If both are labelled, each item has
-- that mark in both answers or in neither, or the same level. It rests on the theorem about books.
-- Assumes nothing.
use mathlib.Core.List.{List}
use Prim.Native.Nat.{ℕ, ◌<◌}
use Rattle.classes.specs.Parts.{part_count}
use Rattle.meaning.specs.Classes.{ClassesAgree}
use Rattle.meaning.proofs.Demands.{one_part_alone}
use Rattle.rules.specs.declared.Head.{Head}
use Rattle.rules.specs.Agreeing.{TablesAgree}
use Rattle.rules.proofs.Agreeing.{tables_agree}
use Rattle.accepts.proofs.Inside.{table_inside}
use Rattle.solver.specs.Solving.{said_solved, Buffers, labels_of, SolveSays, writes_labels}
use Rattle.std.specs.Prelude.{Ok}

pub solve_one_part_alone : {h k : Head} {t u : List ℕ} {n m : ℕ} {before after before' after' : Buffers} {p : ℕ} → p < part_count → TablesAgree p h t k u
    → SolveSays h t before (said_solved (Ok n)) after → SolveSays k u before' (said_solved (Ok m)) after'
    → (i : ℕ) → i < h.items → ClassesAgree p (labels_of after i) (labels_of after' i)
solve_one_part_alone is_part agree (writes_labels x) (writes_labels y) =
    one_part_alone (table_inside x.accepted) (table_inside y.accepted) is_part (tables_agree agree) x.wanted y.wanted
