-- Whether one rule is met, by its kind: what covering tells of two classes it tells of the rule.
-- Assumes nothing.
use mathlib.Core.Path.{◌≡◌}
use mathlib.Core.Bool.{Bool, true, false, not}
use mathlib.Core.List.{List}
use Prim.Native.Nat.{ℕ, ◌≤◌, ◌<◌}
use native.Mathlib.Omega.{arith}
use Rattle.std.specs.Prelude.{Option, Some, None, IfSome, MatchOption, unwrap_or}
use Rattle.laws.specs.First.{Sought}
use Rattle.laws.specs.Tells.{Tells}
use Rattle.laws.proofs.Tells.{told_no, told_yes}
use Rattle.laws.proofs.First.{sought_here, sought_nowhere}
use Rattle.classes.specs.Class.{Covers}
use Rattle.classes.specs.declared.Class.{Class}
use Rattle.meaning.specs.Rules.{Met, join_over}
use Rattle.meaning.specs.Classes.{classes}
use Rattle.labels.specs.Labels.{labels_in}
use Rattle.rules.specs.declared.Rule.{Rule}
use Rattle.rules.specs.Record.{left_of, left_item, meaning_of}
use Rattle.rules.proofs.Meaning.{meaning_cap, meaning_floor, meaning_follow}
use Rattle.checker.specs.Checking.{RuleMet}
use Rattle.checker.specs.InnerJudging.{TellsUnmet}

module _ (x : Rule) (f : ℕ → Class) where
  pub cap_met : {label : Class} {b : Bool} → x.kind ≡ 0 → label ≡ f (left_item x 0) → Tells (Covers x.class label) b → Tells (Met classes (meaning_of x) f) b
  cap_met e same t = rw (meaning_cap x e, ← same) t

  pub floor_met : {join : Class} {b : Bool} → x.kind ≡ 1 → join ≡ join_over classes (left_of x) f → Tells (Covers join x.class) b
      → Tells (Met classes (meaning_of x) f) b
  floor_met e same t = rw (meaning_floor x e, ← same) t

  pub follow_met : {join label : Class} {b : Bool} → 2 ≤ x.kind → join ≡ join_over classes (left_of x) f → label ≡ f x.right
      → Tells (Covers join label) b → Tells (Met classes (meaning_of x) f) b
  follow_met p same right t = rw (meaning_follow x (λ e. omega arith) (λ e. omega arith), ← same, ← right) t

-- Rule r of several, x, as a test of it tells.
module _ {at : ℕ → Rule} {levels marks : List ℕ} {r : ℕ} {x : Rule} {b : Bool} (here : x ≡ at r) (told : Tells (Met classes (meaning_of x) (labels_in levels marks)) b) where
  pub rule_met : not b ≡ false → RuleMet at levels marks r
  rule_met e = record { meets = rw here at (told_yes told e) }

  pub rule_unmet : not b ≡ true → RuleMet at levels marks r → ⊥
  rule_unmet e p = told_no told e (rw (← here) at p.meets)

-- The answer of a search for the first rule that is not met tells which one it is.
pub sought_tells : {at : ℕ → Rule} {levels marks : List ℕ} {m : ℕ} (u : Option ℕ) → Sought (RuleMet at levels marks) m (unwrap_or u m) → IfSome u (λ r. r < m)
    → TellsUnmet at levels marks m u
sought_tells None x s = x.nowhere (omega arith)
sought_tells (Some r) x s = x.found s

-- What a search of a range tells.
pub sought_first : {P : ℕ → Type 0} {n : ℕ} (r : Option ℕ)
    → MatchOption r ((k : ℕ) → 0 ≤ k → k < n → P k) (λ i. (0 ≤ i) × (i < n) × (P i → ⊥) × ((k : ℕ) → 0 ≤ k → k < i → P k)) → Sought P n (unwrap_or r n)
sought_first None h = sought_nowhere (omega arith) (record { each = λ j l. h j (omega arith) l })
sought_first (Some i) h = sought_here h.1 (record { each = λ j l. h.3 j (omega arith) l }) h.2
