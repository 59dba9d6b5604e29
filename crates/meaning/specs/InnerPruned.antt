-- Labels that are settled below a bound while what cannot be met is set aside: a number in each part that no labelling can do without, and that is joined to every left side.
-- Assumes nothing.
use Rattle.std.specs.Prelude.{◌≡◌, ℕ, ◌≤◌, ◌<◌, max}
use Rattle.meaning.specs.Values.{Values, numbers}
use Rattle.meaning.specs.Rules.{Left, Rule, cap, floor, follow, Book, join_over, Met}
use Rattle.meaning.specs.Labelling.{Labelling}

-- The rule is met with v joined to its left labels. A cap has none to join it to.
abbrev pub MetWith : (K : Values) → K.Val → Rule K.Val → (ℕ → K.Val) → Type 0
MetWith K v (cap i c) f = K.Below (f i) c
MetWith K v (floor l c) f = K.Below c (K.join (join_over K l f) v)
MetWith K v (follow l i) f = K.Below (f i) (K.join (join_over K l f) v)

-- Every rule is met so.
pub record MeetsWith (K : Values) (b : Book K.Val) (v : K.Val) (f : ℕ → K.Val) : Type 0 where
  pub meets : (r : ℕ) → r < b.rules → MetWith K v (b.rule r) f

-- The left labels of a rule are the same in both. A cap looks at none.
pub record SameLeft {A : Type 0} (l : Left) (f g : ℕ → A) : Type 0 where
  pub same : (k : ℕ) → k < l.count → g (l.item k) ≡ f (l.item k)

abbrev pub LeftKept : {A B : Type 0} → Rule A → (ℕ → B) → (ℕ → B) → Type 0
LeftKept (cap i c) f g = Unit {0}
LeftKept (floor l c) f g = SameLeft l f g
LeftKept (follow l i) f g = SameLeft l f g

-- In one part: a labelling that is below the bound u with w joined to it.
pub record LabellingWith (top : ℕ) (b : Book ℕ) (u : ℕ → ℕ) (w : ℕ) (k : ℕ → ℕ) : Type 0 where
  pub labelling : Labelling (numbers top) b k
  pub under : (i : ℕ) → i < b.items → k i ≤ max (u i) w

-- The labels f are below the bound u; a labelling that is below the bound with w joined to it is below f with w joined to it; and then w is at least bad.
pub record Pruned (top : ℕ) (b : Book ℕ) (u f : ℕ → ℕ) (bad : ℕ) : Type 0 where
  pub under : (i : ℕ) → i < b.items → f i ≤ u i
  pub above : {w : ℕ} {k : ℕ → ℕ} → LabellingWith top b u w k → (i : ℕ) → i < b.items → k i ≤ max (f i) w
  pub least : {w : ℕ} {k : ℕ → ℕ} → LabellingWith top b u w k → bad ≤ w

-- A rule is looked at: labels f become g, and bad becomes bad'. Labels fall and bad grows, neither further than labels that meet the rule allow; and the rule is met, with bad' joined to
-- its left labels, unless these fell.
pub record Visited (top n : ℕ) (r : Rule ℕ) (f : ℕ → ℕ) (bad : ℕ) (g : ℕ → ℕ) (bad' : ℕ) : Type 0 where
  pub falls : (i : ℕ) → i < n → g i ≤ f i
  pub grows : bad ≤ bad'
  pub above : (w : ℕ) (k : ℕ → ℕ) → Met (numbers top) r k → ((i : ℕ) → i < n → k i ≤ max (f i) w) → (i : ℕ) → i < n → k i ≤ max (g i) w
  pub least : (w : ℕ) (k : ℕ → ℕ) → Met (numbers top) r k → ((i : ℕ) → i < n → k i ≤ max (f i) w) → bad ≤ w → bad' ≤ w
  pub met : LeftKept r f g → MetWith (numbers top) bad' r g
