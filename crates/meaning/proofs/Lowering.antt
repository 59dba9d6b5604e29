-- Lowering, in one part: from the greatest labelling, each item in turn to the least value that still leaves a labelling. The end is least at the
-- first difference. Nothing is asked of the part but its top.
-- Assumes nothing.
use mathlib.Core.Path.{◌≡◌, refl, sym, ◌∙◌}
use mathlib.Core.Bool.{Bool, true, false}
use mathlib.Core.Logic.{◌⊎◌, inl, inr, ite, if_pos, if_neg}
use Prim.Native.Nat.{ℕ, zero, suc, ◌≤◌, ◌<◌, min}
use native.Mathlib.Decide.{ℕ_discrete, dec_le}
use native.Mathlib.Nat.{not-suc-le-zero}
use native.Mathlib.Omega.{arith}
use lib.Dec.{T, leb, leb→le, le→leb}
use Rattle.meaning.specs.Values.{Values, numbers}
use Rattle.meaning.specs.Rules.{Book, Inside}
use Rattle.meaning.specs.Labelling.{Labelling, Wanted}
use Rattle.meaning.specs.InnerGreatest.{HeldUp, Greatest, Placed}
use Rattle.meaning.specs.InnerLowered.{AgreeBefore, LabellingBelow, Lowered, NoneLess, WantedBelow}
use Rattle.meaning.proofs.Search.{below_suc, FirstYes, first_yes}
use Rattle.meaning.proofs.Lattice.{Lattice}
use Rattle.meaning.proofs.Ordered.{Ordered}
use Rattle.meaning.proofs.Placed.{placed_cases}
use Rattle.meaning.proofs.Settle.{labels_of, greatest_list, greatest_exists, greatest_labels, greatest_held, labelling_pushed, met_up, solvableb, solvable_held, labelling_solvable}

-- Numbers up to a top meet the laws: join is max, common part is min, and a number is its own height.
unfoldable pub numbers_lattice : (top : ℕ) → Lattice (numbers top)
numbers_lattice top = record {
  reflexive = λ x. omega arith;
  transitive = λ x y z p q. omega arith;
  antisymmetric = λ x y p q. omega arith;
  lowest_below = λ x. omega arith;
  join_left = λ x y. omega arith;
  join_right = λ x y. omega arith;
  join_least = λ x y z p q. omega arith;
  meet = min;
  meet_left = λ x y. omega arith;
  meet_right = λ x y. omega arith;
  meet_greatest = λ x y z p q. omega arith;
  is_below = λ x y p q. omega arith;
  belowb = leb;
  belowb_holds = leb→le;
  below_passes = le→leb;
  height = λ x. x;
  height_falls = λ x y p q. omega arith;
}

pub numbers_ordered : (top : ℕ) → Ordered (numbers top)
numbers_ordered top = record { discrete = ℕ_discrete; antisymmetric = λ x y ix iy p q. omega arith }

not_less : (v w : ℕ) → (w < v → ⊥) → v ≤ w
not_less v w never = pick (dec_le v w)
  where
    pick : Dec (v ≤ w) → v ≤ w
    pick (yes l) = l
    pick (no l) = absurd (never (omega arith))

-- Labels below f that have at most v at item i are below f with v there, and these are below f if v is.
placed_above : {n i v : ℕ} {f u : ℕ → ℕ} → Placed n f i v u → (h : ℕ → ℕ) → ((j : ℕ) → j < n → h j ≤ f j) → h i ≤ v → (j : ℕ) → j < n → h j ≤ u j
placed_above placed h below small = placed_cases (λ j y. h j ≤ y) placed small below

placed_below : {n i v : ℕ} {f u : ℕ → ℕ} → Placed n f i v u → v ≤ f i → (j : ℕ) → j < n → u j ≤ f j
placed_below {f = f} placed small = placed_cases (λ j y. y ≤ f j) placed small (λ j s. omega arith)

-- The labels f but for item i, which has v.
unfoldable pub place : (ℕ → ℕ) → ℕ → ℕ → ℕ → ℕ
place f i v j = ite (ℕ_discrete j i) v (f j)

pub place_placed : (n : ℕ) (f : ℕ → ℕ) (i v : ℕ) → Placed n f i v (place f i v)
unfolding place
place_placed n f i v = record { here = if_pos (ℕ_discrete i i) refl v (f i); other = λ j s ne. if_neg (ℕ_discrete j i) ne v (f j) }

module _ (top : ℕ) (b : Book ℕ) (inside : Inside b) (u : ℕ → ℕ) where
  abbrev Part : Values
  Part = numbers top

  abbrev Laws : Lattice Part
  Laws = numbers_lattice top

  -- The greatest labels below the bound, if they meet the floors, are where lowering begins.
  pub lowered_start : {g : ℕ → ℕ} → ((i : ℕ) → i < b.items → u i ≤ top) → Greatest Part b u g → HeldUp Part b g → Lowered Part b u 0 g
  lowered_start {g} tops x h = record {
    below = record { labelling = greatest_labels Part Laws b tops x h; under = x.pushed.under };
    greatest = λ f y agree. x.above f (labelling_pushed Part Laws b y.labelling y.under);
    least = λ j l. absurd (not-suc-le-zero l);
  }

  -- If the greatest labels with item i at w leave a floor unmet, no labelling below f has w or less there.
  pub attempt_fails : {f w g : ℕ → ℕ} {i v : ℕ} → Placed b.items f i v w → Greatest Part b w g → (HeldUp Part b g → ⊥) → NoneLess top b f i (suc v)
  attempt_fails placed x fails =
      record { never = λ h y below small. fails (greatest_held Part Laws b inside x y (placed_above placed h below (omega arith))) }

  -- The step: a labelling below f that at item i is least of all labellings below f, and greatest of those that have its value there.
  module _ {f g : ℕ → ℕ} {i : ℕ} (x : Lowered Part b u i f) (item : i < b.items) (labels : Labelling Part b g) (below : (j : ℕ) → j < b.items → g j ≤ f j)
      (least_here : (h : ℕ → ℕ) → Labelling Part b h → ((j : ℕ) → j < b.items → h j ≤ f j) → g i ≤ h i)
      (greatest_there : (h : ℕ → ℕ) → Labelling Part b h → ((j : ℕ) → j < b.items → h j ≤ f j) → h i ≡ g i → (j : ℕ) → j < b.items → h j ≤ g j) where
    to_labelling : LabellingBelow Part b u g
    to_labelling = record { labelling = labels; under = λ j s. omega (arith, below j s, x.below.under j s) }

    -- the items before i keep their labels
    to_keeps : (k : ℕ) → k ≤ i → AgreeBefore k f g
    to_keeps zero s j l = absurd (not-suc-le-zero l)
    to_keeps (suc k) s j l = go (to_keeps k (omega arith))
      where
        go : AgreeBefore k f g → f j ≡ g j
        go before = below_suc {P = λ m. f m ≡ g m} before (omega (arith, x.least k (omega arith) g to_labelling before, below k (omega arith))) j l

    agree_back : (k : ℕ) → k ≤ i → (h : ℕ → ℕ) → AgreeBefore k g h → AgreeBefore k f h
    agree_back k s h agree j l = to_keeps k s j l ∙ agree j l

    -- a labelling that agrees before item i is below f
    others_below : (h : ℕ → ℕ) → LabellingBelow Part b u h → AgreeBefore i g h → (j : ℕ) → j < b.items → h j ≤ f j
    others_below h z agree = x.greatest h z (agree_back i (omega arith) h agree)

    to_least : (j : ℕ) → j < suc i → (h : ℕ → ℕ) → LabellingBelow Part b u h → AgreeBefore j g h → g j ≤ h j
    to_least j l h z = below_suc {P = λ k. AgreeBefore k g h → g k ≤ h k} before (λ agree. least_here h z.labelling (others_below h z agree)) j l
      where
        before : (k : ℕ) → k < i → AgreeBefore k g h → g k ≤ h k
        before k s agree = omega (arith, x.least k s h z (agree_back k (omega arith) h agree), to_keeps i (omega arith) k s)

    pub lowered_to : Lowered Part b u (suc i) g
    lowered_to = record {
      below = to_labelling;
      greatest = λ h z agree. greatest_there h z.labelling (others_below h z (λ j l. agree j (omega arith))) (sym (agree i (omega arith)));
      least = to_least;
    }

  -- So are the greatest labels with item i at v, if they meet the floors and no labelling below f has less there.
  module _ {f w g : ℕ → ℕ} {i v : ℕ} (x : Lowered Part b u i f) (item : i < b.items) (placed : Placed b.items f i v w) (small : v ≤ f i) (y : Greatest Part b w g) (held : HeldUp Part b g) (none_less : NoneLess top b f i v) where
    step_here : g i ≤ v
    step_here = omega (arith, y.pushed.under i item, placed.here)

    pub lowered_step : Lowered Part b u (suc i) g
    lowered_step =
        lowered_to x item
        (greatest_labels Part Laws b (λ j s. omega (arith, placed_below placed small j s, x.below.labelling.labels j s)) y held)
        (λ j s. omega (arith, y.pushed.under j s, placed_below placed small j s))
        (λ h z below. omega (arith, step_here, not_less v (h i) (none_less.never h z below)))
        (λ h z below same. y.above h (labelling_pushed Part Laws b z (placed_above placed h below (omega (arith, step_here)))))

  -- Where no labelling below f has less at item i, f stays.
  pub lowered_stays : {f : ℕ → ℕ} {i : ℕ} → Lowered Part b u i f → i < b.items → NoneLess top b f i (f i) → Lowered Part b u (suc i) f
  lowered_stays {f} {i} x item none_less =
      lowered_step {w = f} x item (record { here = refl; other = λ j s ne. refl }) (omega arith)
      (record {
        pushed = labelling_pushed Part Laws b x.below.labelling (λ j s. omega arith);
        above = λ h down. down.under;
      })
      (record { floors = λ r s. met_up Part Laws b (b.rule r) f (x.below.labelling.meets r s) })
      none_less

  -- At the end the labels are least at the first difference.
  pub lowered_end : {f : ℕ → ℕ} → Lowered Part b u b.items f → WantedBelow Part b u f
  lowered_end {f} x = record {
    below = x.below;
    least = λ g y i d. record { covered = x.least i d.item g y d.before; differs = d.differs };
  }

  -- One item after the other can be lowered, to the first value at which a labelling is left.
  lowered_next : (i : ℕ) → i < b.items → (f : ℕ → ℕ) → Lowered Part b u i f → (g : ℕ → ℕ) × Lowered Part b u (suc i) g
  lowered_next i s f x = go (first_yes test (f i) (found f x.below.labelling (λ j t. omega arith)))
    where
      test : ℕ → Bool
      test v = solvableb Part Laws b (place f i v)

      found : (h : ℕ → ℕ) → Labelling Part b h → ((j : ℕ) → j < b.items → h j ≤ f j) → T (test (h i))
      found h z below = labelling_solvable Part Laws b inside (place f i (h i)) z (placed_above (place_placed b.items f i (h i)) h below (omega arith))

      go : (v : ℕ) × (v ≤ f i) × FirstYes test v → (g : ℕ → ℕ) × Lowered Part b u (suc i) g
      go (v, small, first) = (
        labels_of Part Laws (greatest_list Part Laws b (place f i v)),
        lowered_step x s (place_placed b.items f i v) small
            (greatest_exists Part Laws b inside (place f i v))
            (solvable_held Part Laws b (place f i v) first.here)
            (record { never = λ h z below l. first.before (h i) l (found h z below) }),
      )

  lowered_all : (g : ℕ → ℕ) → Lowered Part b u 0 g → (i : ℕ) → i ≤ b.items → (f : ℕ → ℕ) × Lowered Part b u i f
  lowered_all g x zero s = (g, x)
  lowered_all g x (suc i) s = go (lowered_all g x i (omega arith))
    where
      go : (f : ℕ → ℕ) × Lowered Part b u i f → (f : ℕ → ℕ) × Lowered Part b u (suc i) f
      go (f, y) = lowered_next i (omega arith) f y

-- Below the top are all labellings.
pub wanted_below_top : {top : ℕ} {b : Book ℕ} {u f : ℕ → ℕ} → ((i : ℕ) → i < b.items → u i ≡ top) → WantedBelow (numbers top) b u f → Wanted (numbers top) b f
wanted_below_top {top} {b} {u} tops x = record {
  labelling = x.below.labelling;
  least = λ g y. x.least g (record { labelling = y; under = λ i s. omega (arith, tops i s, y.labels i s) });
}

-- In one part there is a wanted labelling, or none at all meets the rules.
module _ (top : ℕ) (b : Book ℕ) (inside : Inside b) where
  abbrev Whole : Type 0
  Whole = ((f : ℕ → ℕ) × Wanted (numbers top) b f) ⊎ ((f : ℕ → ℕ) → Labelling (numbers top) b f → ⊥)

  abbrev possible : Bool
  possible = solvableb (numbers top) (numbers_lattice top) b (λ i. top)

  solvable_wanted : T possible → (f : ℕ → ℕ) × Wanted (numbers top) b f
  solvable_wanted t =
      go
      (lowered_all top b inside (λ i. top) _
      (lowered_start top b inside (λ i. top) (λ i s. omega arith)
      (greatest_exists (numbers top) (numbers_lattice top) b inside (λ i. top))
      (solvable_held (numbers top) (numbers_lattice top) b (λ i. top) t))
      b.items (omega arith))
    where
      go : (f : ℕ → ℕ) × Lowered (numbers top) b (λ i. top) b.items f → (f : ℕ → ℕ) × Wanted (numbers top) b f
      go (f, x) = (f, wanted_below_top (λ i s. refl) (lowered_end top b inside (λ i. top) x))

  pub wanted_or_none : ((f : ℕ → ℕ) × Wanted (numbers top) b f) ⊎ ((f : ℕ → ℕ) → Labelling (numbers top) b f → ⊥)
  wanted_or_none = go possible (λ t. t) (λ t. t)
    where
      go : (t : Bool) → (T possible → T t) → (T t → T possible) → Whole
      go true from to = inl (solvable_wanted (to tt))
      go false from to = inr (λ f y. from (labelling_solvable (numbers top) (numbers_lattice top) b inside (λ i. top) y y.labels))
