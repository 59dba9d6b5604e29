-- Caps and follows push labels down, floors hold them up. Below a bound there is a greatest labelling that meets all caps and follows, and it
-- decides whether all rules can be met below that bound.
-- Assumes nothing.
use Rattle.std.specs.Prelude.{◌≡◌, ℕ, ◌<◌}
use Rattle.meaning.specs.Values.{Values}
use Rattle.meaning.specs.Rules.{Rule, cap, floor, follow, Book, join_over, Met}

-- The rule is a floor, or it is met.
abbrev pub MetDown : (K : Values) → Rule K.Val → (ℕ → K.Val) → Type 0
MetDown K (cap i v) f = Met K (cap i v) f
MetDown K (floor l v) f = Unit {0}
MetDown K (follow l i) f = Met K (follow l i) f

-- The rule is a cap or a follow, or it is met.
abbrev pub MetUp : (K : Values) → Rule K.Val → (ℕ → K.Val) → Type 0
MetUp K (cap i v) f = Unit {0}
MetUp K (floor l v) f = Met K (floor l v) f
MetUp K (follow l i) f = Unit {0}

-- Every floor is met.
pub record HeldUp (K : Values) (b : Book K.Val) (f : ℕ → K.Val) : Type 0 where
  pub floors : (r : ℕ) → r < b.rules → MetUp K (b.rule r) f

-- The labels are below the bound u, and every cap and every follow is met.
pub record PushedDown (K : Values) (b : Book K.Val) (u f : ℕ → K.Val) : Type 0 where
  pub under : (i : ℕ) → i < b.items → K.Below (f i) (u i)
  pub meets : (r : ℕ) → r < b.rules → MetDown K (b.rule r) f

-- The labels are below the bound u, and above all labels that are below it and meet every cap and every follow.
pub record Between (K : Values) (b : Book K.Val) (u f : ℕ → K.Val) : Type 0 where
  pub under : (i : ℕ) → i < b.items → K.Below (f i) (u i)
  pub above : (h : ℕ → K.Val) → PushedDown K b u h → (i : ℕ) → i < b.items → K.Below (h i) (f i)

-- The greatest labels below the bound u that meet every cap and every follow.
pub record Greatest (K : Values) (b : Book K.Val) (u g : ℕ → K.Val) : Type 0 where
  pub pushed : PushedDown K b u g
  pub above : (h : ℕ → K.Val) → PushedDown K b u h → (i : ℕ) → i < b.items → K.Below (h i) (g i)

-- The labels f but for item i, which has v.
pub record Placed {A : Type 0} (n : ℕ) (f : ℕ → A) (i : ℕ) (v : A) (g : ℕ → A) : Type 0 where
  pub here : g i ≡ v
  pub other : (j : ℕ) → j < n → (j ≡ i → ⊥) → g j ≡ f j

-- g is f with the rule's item lowered to what the rule allows: the common part of its label and the cap's class, or the join of the left labels.
abbrev pub Pushed : (K : Values) → (K.Val → K.Val → K.Val) → ℕ → Rule K.Val → (ℕ → K.Val) → (ℕ → K.Val) → Type 0
Pushed K common n (cap i v) f g = Placed n f i (common (f i) v) g
Pushed K common n (floor l v) f g = (j : ℕ) → j < n → g j ≡ f j
Pushed K common n (follow l i) f g = Placed n f i (common (f i) (join_over K l f)) g
