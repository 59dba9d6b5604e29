-- The rule that a record stands for, by its kind.
-- Assumes nothing.
use mathlib.Core.Path.{◌≡◌, refl, sym, ap, ◌∙◌}
use Prim.Native.Nat.{ℕ, zero, suc, ◌≤◌, min}
use native.Mathlib.Omega.{arith}
use Rattle.std.specs.Prelude.{Option, Some, None}
use Rattle.meaning.specs.Rules as meant
use Rattle.rules.specs.declared.Rule.{Rule}
use Rattle.rules.specs.declared.RuleKind.{RuleKind}
use Rattle.rules.specs.Record.{kind_of, left_of, left_item, by_kind, meaning_of}
use Rattle.classes.specs.declared.Class.{Class}

-- what holds of a cap, of a floor and of a follow, each where the kind is its own, holds of the rule
pub by_kind_lem : {A : Type 0} (Q : A → Type 0) (k : ℕ) {c f g : A} → k ≤ 2 → (k ≡ 0 → Q c) → (k ≡ 1 → Q f) → (k ≡ 2 → Q g) → Q (by_kind k c f g)
by_kind_lem Q zero h p q r = p (omega arith)
by_kind_lem Q (suc zero) h p q r = q (omega arith)
by_kind_lem Q (suc (suc k)) h p q r = r (omega arith)

-- The rule that a record of each kind stands for.
pub meaning_cap : (x : Rule) → x.kind ≡ 0 → meaning_of x ≡ meant.cap (left_item x 0) x.class
unfolding meaning_of
meaning_cap x e = ap (λ k. by_kind k (meant.cap (left_item x 0) x.class) (meant.floor (left_of x) x.class) (meant.follow (left_of x) x.right)) e

pub meaning_floor : (x : Rule) → x.kind ≡ 1 → meaning_of x ≡ meant.floor (left_of x) x.class
unfolding meaning_of
meaning_floor x e = ap (λ k. by_kind k (meant.cap (left_item x 0) x.class) (meant.floor (left_of x) x.class) (meant.follow (left_of x) x.right)) e

other_kind : {A : Type 0} (k : ℕ) (c f g : A) → (k ≡ 0 → ⊥) → (k ≡ 1 → ⊥) → by_kind k c f g ≡ g
other_kind zero c f g p q = absurd (p refl)
other_kind (suc zero) c f g p q = absurd (q refl)
other_kind (suc (suc k)) c f g p q = refl

pub meaning_follow : (x : Rule) → (x.kind ≡ 0 → ⊥) → (x.kind ≡ 1 → ⊥) → meaning_of x ≡ meant.follow (left_of x) x.right
unfolding meaning_of
meaning_follow x p q = other_kind x.kind _ _ _ p q

-- what holds of every cap and of every follow holds of a record that is no floor
pub meaning_other : (Q : meant.Rule Class → Type 0) (x : Rule) → (x.kind ≡ 1 → ⊥) → ((i : ℕ) (v : Class) → Q (meant.cap i v)) → ((l : meant.Left) (i : ℕ) → Q (meant.follow l i)) → Q (meaning_of x)
unfolding meaning_of
meaning_other Q x ne c g = go x.kind ne
  where
    go : (k : ℕ) → (k ≡ 1 → ⊥) → Q (by_kind k (meant.cap (left_item x 0) x.class) (meant.floor (left_of x) x.class) (meant.follow (left_of x) x.right))
    go zero h = c _ _
    go (suc zero) h = absurd (h refl)
    go (suc (suc k)) h = g _ _

-- What the kind that a number names tells of the number.
abbrev number_of : Option RuleKind → ℕ
number_of (Some RuleKind.Cap) = 0
number_of (Some RuleKind.Floor) = 1
number_of (Some RuleKind.Follow) = 2
number_of None = 3

kind_numbered : (k : ℕ) → number_of (kind_of k) ≡ min k 3
kind_numbered zero = refl
kind_numbered (suc zero) = refl
kind_numbered (suc (suc zero)) = refl
kind_numbered (suc (suc (suc k))) = omega arith

module _ {o : Option RuleKind} {k : ℕ} (told : o ≡ kind_of k) where
  pub kind_cap : o ≡ Some RuleKind.Cap → k ≡ 0
  kind_cap e = omega (arith, kind_numbered k, ap number_of (sym told ∙ e))

  pub kind_floor : o ≡ Some RuleKind.Floor → k ≡ 1
  kind_floor e = omega (arith, kind_numbered k, ap number_of (sym told ∙ e))

  pub follow_past : o ≡ Some RuleKind.Follow → 2 ≤ k
  follow_past e = omega (arith, kind_numbered k, ap number_of (sym told ∙ e))

  pub none_past : o ≡ None → 2 ≤ k
  none_past e = omega (arith, kind_numbered k, ap number_of (sym told ∙ e))
