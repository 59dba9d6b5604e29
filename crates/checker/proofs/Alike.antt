-- A list and a flat table of equal rules are answered alike: checking looks at nothing but whether the rules are accepted and what each of them is.
-- Assumes nothing.
use mathlib.Core.Path.{◌≡◌, refl, sym, ap, ◌∙◌}
use mathlib.Core.List.{List}
use Prim.Native.Nat.{ℕ, zero, suc, ◌+◌, ◌*◌, ◌≤◌, ◌<◌}
use native.Mathlib.Omega.{arith}
use lib.ListN.{length}
use Rattle.std.specs.Prelude.{Option, Result}
use Rattle.refusals.specs.declared.Refusal.{Refusal}
use Rattle.laws.specs.First.{FirstFailing}
use Rattle.refusals.specs.Said.{Said}
use Rattle.rules.specs.declared.Head.{Head}
use Rattle.rules.specs.declared.Rule.{Rule}
use Rattle.rules.specs.Table.{rule_words, rule_at}
use Rattle.accepts.specs.Accepted.{TableAccepted}
use Rattle.accepts.proofs.Counted.{accepted_alike}
use Rattle.checker.specs.Answer.{said_checked}
use Rattle.checker.specs.Checking.{RuleMet, CheckSays, bad_table, no_room, bad_label, first_unmet, all_met}
use Rattle.checker.specs.List.{list_at, ListAccepted, SameAsList, decoded_from}
use Rattle.checker.proofs.Unique.{check_unique}

-- The rules of two are equal below a count: one is met where the other is.
module _ {m : ℕ} {at other : ℕ → Rule} (same : (r : ℕ) → r < m → at r ≡ other r) {levels marks : List ℕ} where
  met_alike : (r : ℕ) → r < m → RuleMet at levels marks r → RuleMet other levels marks r
  met_alike r s x = record { meets = rw (← same r s) x.meets }

  unmet_alike : (r : ℕ) → r < m → (RuleMet at levels marks r → ⊥) → RuleMet other levels marks r → ⊥
  unmet_alike r s bad x = bad (record { meets = rw (same r s) x.meets })

  first_alike : {r : ℕ} → FirstFailing (RuleMet at levels marks) m r → FirstFailing (RuleMet other levels marks) m r
  first_alike {r} p = record {
    below = p.below;
    before = record { each = λ j l. met_alike j (omega (arith, p.below)) (p.before.each j l) };
    fails = unmet_alike r p.below p.fails;
  }

-- The rules of two are equal under one head.
module _ {h : Head} {at other : ℕ → Rule} (same : (r : ℕ) → r < h.rules → at r ≡ other r) where
  -- What is said of the one is said of the other, if the one is accepted exactly if the other is.
  pub says_alike : {levels marks : List ℕ} {A B : Type 0} → (A → B) → (B → A) → {s : Said} → CheckSays A h at levels marks s → CheckSays B h other levels marks s
  says_alike f g (bad_table x) = bad_table (λ b. x (g b))
  says_alike f g (no_room x) = no_room (record { accepted = f x.accepted; short = x.short })
  says_alike f g (bad_label x) = bad_label (record { accepted = f x.accepted; room = x.room; label = x.label })
  says_alike f g (first_unmet x) =
      first_unmet (record { accepted = f x.accepted; room = x.room; labels = x.labels; rule = first_alike same x.rule })
  says_alike f g (all_met x) = all_met (record {
    accepted = f x.accepted;
    room = x.room;
    labels = x.labels;
    rules = record { each = λ r s. met_alike same r s (x.rules.each r s) };
  })

module _ {h : Head} {t : List ℕ} {rules : List Rule} (same : SameAsList h t rules) where
  tabled : ListAccepted h rules → TableAccepted h t
  tabled x = record { room = same.tabled x.room; accepted = accepted_alike (λ r s. sym (same.each r s)) x.accepted }

  listed : TableAccepted h t → ListAccepted h rules
  listed x = record { room = same.listed x.room; accepted = accepted_alike same.each x.accepted }

  -- "with equal answers": on equal rules `check` and `check_list` answer the same.
  pub check_alike : {levels marks : List ℕ} {a b : Result (Option ℕ) Refusal} → CheckSays (TableAccepted h t) h (rule_at t) levels marks (said_checked a)
      → CheckSays (ListAccepted h rules) h (list_at rules) levels marks (said_checked b) → a ≡ b
  check_alike x y = check_unique (says_alike same.each listed tabled x) y

-- A flat table decoded rule by rule has its rules.
decoded_length : (t : List ℕ) (r k : ℕ) → length (decoded_from t r k) ≡ k
decoded_length t r zero = refl
decoded_length t r (suc k) = ap suc (decoded_length t (suc r) k)

decoded_at : (t : List ℕ) (r k j : ℕ) → j < k → list_at (decoded_from t r k) j ≡ rule_at t (r + j)
decoded_at t r zero j s = absurd (omega arith)
decoded_at t r (suc k) zero s = ap (rule_at t) (omega arith)
decoded_at t r (suc k) (suc j) s = decoded_at t (suc r) k j (omega arith) ∙ ap (rule_at t) (omega arith)

pub decoded_same : (h : Head) (t : List ℕ) → h.rules * rule_words ≤ length t → SameAsList h t (decoded_from t 0 h.rules)
decoded_same h t room = record {
  listed = λ s. let e = decoded_length t 0 h.rules in omega arith;
  tabled = λ s. room;
  each = λ r s. sym (decoded_at t 0 h.rules r s ∙ ap (rule_at t) (omega arith));
}
