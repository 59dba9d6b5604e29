-- All rules of a table: what a test of every number of a range tells; and where the sizes are right, a table is accepted exactly if each of its rules stands.
-- Assumes nothing.
use mathlib.Core.Path.{◌≡◌, subst}
use mathlib.Core.Bool.{Bool, true, false}
use mathlib.Core.List.{List}
use Prim.Native.Nat.{ℕ, ◌*◌, ◌≤◌, ◌<◌}
use native.Mathlib.Omega.{arith}
use lib.ListN.{length, get_or}
use Rattle.std.specs.List.{range_with_len, AllWithin, HoldsAt}
use Rattle.std.specs.Bool.{MatchBool}
use Rattle.std.proofs.lemmas.List.FromFn.{length-range_with_len, get_or-range_with_len}
use Rattle.laws.specs.Tells.{Tells}
use Rattle.laws.specs.First.{AllBelow}
use Rattle.laws.proofs.Tells.{tells_no, tells_yes}
use Rattle.refusals.specs.Sizes.{most_items, most_rules}
use Rattle.rules.specs.declared.Head.{Head}
use Rattle.rules.specs.Table.{rule_words, rule_at}
use Rattle.accepts.specs.Accepted.{Standing, TableAccepted}

here : (Q : ℕ → Type 0) (n k : ℕ) → k < n → Q (get_or (range_with_len 0 n) k 0) → Q k
here Q n k l q = let e : get_or (range_with_len 0 n) k 0 ≡ k = omega (arith, get_or-range_with_len 0 n k 0 l) in subst Q e q

-- A test of every number below n.
module _ {P : ℕ → Type 0} (n : ℕ) where
  pub all_told : (b : Bool) → MatchBool b (AllWithin P (range_with_len 0 n) 0 (length (range_with_len 0 n)))
      ((k : ℕ) × (k < length (range_with_len 0 n)) × HoldsAt (λ i. P i → ⊥) (range_with_len 0 n) k) → Tells (AllBelow P n) b
  all_told true h = tells_yes (record { each = λ k l. here P n k l (h k 0 (omega arith) (omega (arith, length-range_with_len 0 n))) })
  all_told false h =
      let below : h.0 < n = omega (arith, h.1, length-range_with_len 0 n) in
      tells_no (λ p. here (λ i. P i → ⊥) n h.0 below (h.2 0) (p.each h.0 below))

pub table_stands : (t : List ℕ) (h : Head) {b : Bool} → h.items ≤ most_items → h.rules ≤ most_rules → h.rules * rule_words ≤ length t
    → Tells (AllBelow (Standing h (rule_at t)) h.rules) b → Tells (TableAccepted h t) b
table_stands t h a b d told = record {
  holds = λ e. record { room = d; accepted = record { items = a; rules = b; each = (told.holds e).each } };
  fails = λ e p. told.fails e (record { each = p.accepted.each });
}
