-- Pushing one rule: a cap and a follow lower their item, a floor nothing.
-- Assumes nothing.
use mathlib.Core.Path.{◌≡◌, refl, sym, ◌∙◌, ap, subst}
use mathlib.Core.Bool.{Bool, false}
use mathlib.Core.List.{List}
use Prim.Native.Nat.{ℕ, ◌<◌}
use native.Mathlib.Omega.{arith}
use Rattle.classes.specs.declared.Class.{Class}
use Rattle.meaning.specs.Rules.{RuleInside, follow, join_over}
use Rattle.meaning.specs.Classes.{classes}
use Rattle.labels.specs.Labels.{listed}
use Rattle.rules.specs.Record.{left_item, left_of, meaning_of}
use Rattle.rules.specs.Table.{rule_at}
use Rattle.rules.specs.declared.Rule.{Rule}
use Rattle.rules.proofs.Meaning.{meaning_cap, meaning_floor, meaning_follow}
use Rattle.refusals.specs.Sizes.{most_items}
use Rattle.solver.specs.InnerSteps.{meant_at, Named, LowersItem, PushesRule}
use Rattle.solver.proofs.OneItem.{tracks_same}

module _ (t : List ℕ) (r : ℕ) (x : Rule) (same : x ≡ rule_at t r) where
  -- The item that the rule lowers has a label.
  module _ (named : Named (meant_at t r)) where
    inside_size : {i : ℕ} → i < named.count → i < most_items
    inside_size s = omega (arith, s, named.size)

    pub cap_item : x.kind ≡ 0 → left_item x 0 < most_items
    cap_item e = inside_size (subst (RuleInside named.count) (sym (ap meaning_of same) ∙ meaning_cap x e) named.inside)

    pub follow_item : (x.kind ≡ 0 → ⊥) → (x.kind ≡ 1 → ⊥) → x.right < most_items
    follow_item p q = inside_size (subst (RuleInside named.count) (sym (ap meaning_of same) ∙ meaning_follow x p q) named.inside).1

  pub push_floor : (before : List Class) → x.kind ≡ 1 → PushesRule (meant_at t r) before before false
  push_floor before e =
      subst (λ m. PushesRule m before before false) (sym (meaning_floor x e) ∙ ap meaning_of same)
      (record { pushed = λ n j s. refl; met = λ z. tt; tracks = tracks_same before })

  module _ {before after : List Class} {b : Bool} where
    pub push_cap : x.kind ≡ 0 → LowersItem (left_item x 0) x.class before after b → PushesRule (meant_at t r) before after b
    push_cap e l =
        subst (λ m. PushesRule m before after b) (sym (meaning_cap x e) ∙ ap meaning_of same)
        (record { pushed = l.placed; met = l.covered; tracks = l.tracks })

    pub push_follow : (x.kind ≡ 0 → ⊥) → (x.kind ≡ 1 → ⊥) → {c : Class} → c ≡ join_over classes (left_of x) (listed before) → LowersItem x.right c before after b
        → PushesRule (meant_at t r) before after b
    push_follow p q e l =
        subst (λ m. PushesRule m before after b) (sym (meaning_follow x p q) ∙ ap meaning_of same)
        (subst (λ k. LowersItem x.right k before after b → PushesRule (follow (left_of x) x.right) before after b) (sym e)
        (λ m. record { pushed = m.placed; met = m.covered; tracks = m.tracks })
        l)
