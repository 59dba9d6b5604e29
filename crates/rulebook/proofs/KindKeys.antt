-- The key of each kind of rule: a line with it is read as a rule, and may come by its kind. They rest on the rows of the key table.
-- Assumes nothing.
use mathlib.Core.Path.{◌≡◌, refl}
use mathlib.Core.Bool.{true}
use mathlib.Core.List.{List}
use Prim.Native.Nat.{ℕ, zero, suc, ◌+◌, ◌≤◌}
use native.Mathlib.Omega.{arith}
use Rattle.keys.specs.Keys.{key_number, next_allowed}
use Rattle.lines.specs.declared.Line.{Line}
use Rattle.reader.specs.Lines.{State, rule_kind, rule_step, key_step}
use Rattle.reader.proofs.KeyRows.{row_next, key_of_kind}

pub record KindKey (k : ℕ) : Type 0 where
  pub kind : rule_kind (key_of_kind k) ≡ k
  pub number : key_number (key_of_kind k) ≡ suc (1 + k)

pub kind_key : (k : ℕ) → k ≤ 2 → KindKey k
kind_key zero h = record { kind = refl; number = refl }
kind_key (suc zero) h = record { kind = refl; number = refl }
kind_key (suc (suc zero)) h = record { kind = refl; number = refl }
kind_key (suc (suc (suc k))) h = absurd (omega arith)

-- A line with the key of a kind is read as a rule, and may come by its kind.
pub kind_step : (k : ℕ) (st : State) (l : List ℕ) (y : Line) → key_step (key_of_kind k) st l y ≡ rule_step st l y
kind_step zero st l y = refl
kind_step (suc zero) st l y = refl
kind_step (suc (suc k)) st l y = refl

pub kind_next : {after : ℕ} (k : ℕ) → k ≤ 2 → 1 ≤ after → after ≤ 3 + k → next_allowed after (key_number (key_of_kind k)) ≡ true
kind_next {after} k h some rise =
    rw (kind_key k h).number (row_next (record { some = some; rise = omega arith }) (omega arith) (omega arith))
