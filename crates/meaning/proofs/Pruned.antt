-- Settling with what cannot be met set aside, in one part: how it begins, what looking at a rule does, and where it ends. Then the law of an attempt at an item: the labels that
-- fell, each given its old value back as far as what cannot be met reaches, are lowered one item further.
-- Assumes nothing.
use mathlib.Core.Path.{◌≡◌, sym, subst}
use Prim.Native.Nat.{ℕ, zero, suc, ◌≤◌, ◌<◌, min, max}
use native.Mathlib.Decide.{ℕ_discrete, dec_le}
use native.Mathlib.Omega.{arith}
use Rattle.meaning.specs.Values.{Values, numbers}
use Rattle.meaning.specs.Rules.{Left, LeftInside, Rule, cap, floor, follow, Book, RuleInside, Inside, join_up_to, join_over, Met}
use Rattle.meaning.specs.Labelling.{Labelling}
use Rattle.meaning.specs.InnerGreatest.{Placed}
use Rattle.meaning.specs.InnerLowered.{LabellingBelow, Lowered}
use Rattle.meaning.specs.InnerPruned.{MetWith, MeetsWith, SameLeft, LeftKept, LabellingWith, Pruned, Visited}
use Rattle.meaning.proofs.Placed.{placed_cases}
use Rattle.meaning.proofs.Joins.{joins_same, join_over_grows}
use Rattle.meaning.proofs.Same.{labelling_same}
use Rattle.meaning.proofs.Lowering.{numbers_lattice, lowered_to}

-- Where labels are below others with w joined to them, so are their joins.
joins_with : (top n w : ℕ) (f g : ℕ → ℕ) → ((k : ℕ) → k < n → f k ≤ max (g k) w) → join_up_to (numbers top) n f ≤ max (join_up_to (numbers top) n g) w
joins_with top zero w f g h = omega arith
joins_with top (suc n) w f g h = omega (arith, joins_with top n w f g (λ k s. h k (omega arith)), h n (omega arith))

-- Where labels, as far as w reaches, are below others, so are their joins.
joins_old : (top n w : ℕ) (f g : ℕ → ℕ) → ((k : ℕ) → k < n → min (f k) w ≤ g k) → min (join_up_to (numbers top) n f) w ≤ join_up_to (numbers top) n g
joins_old top zero w f g h = omega arith
joins_old top (suc n) w f g h = omega (arith, joins_old top n w f g (λ k s. h k (omega arith)), h n (omega arith))

module _ (top : ℕ) where
  abbrev Part : Values
  Part = numbers top

  left_with : (n w : ℕ) (l : Left) (f g : ℕ → ℕ) → LeftInside n l → ((i : ℕ) → i < n → f i ≤ max (g i) w) → join_over Part l f ≤ max (join_over Part l g) w
  left_with n w l f g inside h = joins_with top l.count w (λ k. f (l.item k)) (λ k. g (l.item k)) (λ k s. h (l.item k) (inside.within k s))

  -- The same left labels have the same join.
  left_same : (l : Left) (f g : ℕ → ℕ) → SameLeft l f g → join_over Part l g ≡ join_over Part l f
  left_same l f g x = joins_same Part l.count (λ k. g (l.item k)) (λ k. f (l.item k)) x.same

  -- A rule that is met with v is met with more, by labels that fell elsewhere.
  met_with_kept : (n : ℕ) (r : Rule ℕ) → RuleInside n r → (f g : ℕ → ℕ) (v w : ℕ) → LeftKept r f g → ((i : ℕ) → i < n → g i ≤ f i) → v ≤ w → MetWith Part v r f → MetWith Part w r g
  met_with_kept n (cap i c) s f g v w kept falls more m = omega (arith, falls i s)
  met_with_kept n (floor l c) s f g v w kept falls more m = omega (arith, left_same l f g kept)
  met_with_kept n (follow l i) s f g v w kept falls more m = omega (arith, falls i s.1, left_same l f g kept)

  -- A rule is met exactly if it is met with 0.
  met_with_none : (r : Rule ℕ) (f : ℕ → ℕ) → Met Part r f → MetWith Part 0 r f
  met_with_none (cap i c) f m = m
  met_with_none (floor l c) f m = omega arith
  met_with_none (follow l i) f m = omega arith

  none_with_met : (r : Rule ℕ) (f : ℕ → ℕ) → MetWith Part 0 r f → Met Part r f
  none_with_met (cap i c) f m = m
  none_with_met (floor l c) f m = omega arith
  none_with_met (follow l i) f m = omega arith

  -- What looking at a rule does: nothing where it is met; a cap and a follow lower their item to what they allow, a follow no lower than bad; a floor that is not met joins its constant
  -- to bad.
  pub visited_met : {n : ℕ} {r : Rule ℕ} {f : ℕ → ℕ} {bad : ℕ} → MetWith Part bad r f → Visited top n r f bad f bad
  visited_met m = record { falls = λ i s. omega arith; grows = omega arith; above = λ w k met below. below; least = λ w k met below l. l; met = λ kept. m }

  pub visited_cap : {n i c : ℕ} {f g : ℕ → ℕ} {bad : ℕ} → i < n → Placed n f i (min (f i) c) g → Visited top n (cap i c) f bad g bad
  visited_cap {n} {i} {c} {f} {g} {bad} item x = record {
    falls = placed_cases (λ j y. y ≤ f j) x (omega arith) (λ j s. omega arith);
    grows = omega arith;
    above = λ w k met below. placed_cases (λ m y. k m ≤ max y w) x (omega (arith, below i item)) below;
    least = λ w k met below l. l;
    met = λ kept. omega (arith, x.here);
  }

  pub visited_follow : {n i : ℕ} {l : Left} {f g : ℕ → ℕ} {bad : ℕ} → LeftInside n l → i < n → Placed n f i (min (f i) (max (join_over Part l f) bad)) g
      → Visited top n (follow l i) f bad g bad
  visited_follow {n} {i} {l} {f} {g} {bad} inside item x = record {
    falls = placed_cases (λ j y. y ≤ f j) x (omega arith) (λ j s. omega arith);
    grows = omega arith;
    above = λ w k met below. placed_cases (λ m y. k m ≤ max y w) x (omega (arith, left_with n w l k f inside below, below i item)) below;
    least = λ w k met below q. q;
    met = λ kept. omega (arith, x.here, left_same l f g kept);
  }

  pub visited_floor : {n c : ℕ} {l : Left} {f : ℕ → ℕ} {bad bad' : ℕ} → LeftInside n l → max (join_over Part l f) bad < c → bad' ≡ c → Visited top n (floor l c) f bad f bad'
  visited_floor {n} {c} {l} {f} {bad} {bad'} inside short e = record {
    falls = λ i s. omega arith;
    grows = omega arith;
    above = λ w k met below. below;
    least = λ w k met below q. omega (arith, left_with n w l k f inside below);
    met = λ kept. omega arith;
  }

module _ (top : ℕ) (b : Book ℕ) where
  -- It begins at the bound, with nothing that cannot be met.
  pub pruned_start : (u : ℕ → ℕ) → Pruned top b u u 0
  pruned_start u = record { under = λ i s. omega arith; above = λ x. x.under; least = λ x. omega arith }

  -- Looking at a rule keeps it.
  pub pruned_visit : {u f g : ℕ → ℕ} {bad bad' r : ℕ} → Pruned top b u f bad → r < b.rules → Visited top b.items (b.rule r) f bad g bad' → Pruned top b u g bad'
  pruned_visit {r = r} x s v = record {
    under = λ i t. omega (arith, x.under i t, v.falls i t);
    above = λ {w} {k} y. v.above w k (y.labelling.meets r s) (x.above y);
    least = λ {w} {k} y. v.least w k (y.labelling.meets r s) (x.above y) (x.least y);
  }

  module _ (inside : Inside b) where
    -- A rule q is met, after a look at r, if its left labels are kept and it is r or was met before.
    pub visit_met : {f g : ℕ → ℕ} {bad bad' r : ℕ} → Visited top b.items (b.rule r) f bad g bad' → {q : ℕ} → q < b.rules → LeftKept (b.rule q) f g
        → ((q ≡ r → ⊥) → MetWith (numbers top) bad (b.rule q) f) → MetWith (numbers top) bad' (b.rule q) g
    visit_met {f} {g} {bad} {bad'} {r} v {q} s kept before = pick (ℕ_discrete q r)
      where
        pick : Dec (q ≡ r) → MetWith (numbers top) bad' (b.rule q) g
        pick (yes e) = subst (λ k. MetWith (numbers top) bad' (b.rule k) g) (sym e) (v.met (subst (λ k. LeftKept (b.rule k) f g) e kept))
        pick (no ne) = met_with_kept top b.items (b.rule q) (inside.inside q s) f g bad bad' kept v.falls v.grows (before ne)

    -- With one item lowered, a rule that does not have it on its left is met as before.
    pub start_met : {f g : ℕ → ℕ} {q : ℕ} → Labelling (numbers top) b f → ((i : ℕ) → i < b.items → g i ≤ f i) → q < b.rules → LeftKept (b.rule q) f g
        → MetWith (numbers top) 0 (b.rule q) g
    start_met {f} {g} {q} x falls s kept = met_with_kept top b.items (b.rule q) (inside.inside q s) f g 0 0 kept falls (omega arith) (met_with_none top (b.rule q) f (x.meets q s))

    -- Where every rule is met with 0, the labels are a labelling, and lowering begins.
    pub pruned_labels : {u f : ℕ → ℕ} → ((i : ℕ) → i < b.items → u i ≤ top) → Pruned top b u f 0 → MeetsWith (numbers top) b 0 f → LabellingBelow (numbers top) b u f
    pruned_labels {u} {f} tops x m = record {
      labelling = record { labels = λ i s. omega (arith, x.under i s, tops i s); meets = λ r s. none_with_met top (b.rule r) f (m.meets r s) };
      under = x.under;
    }

    pub pruned_lowered : {u f : ℕ → ℕ} → ((i : ℕ) → i < b.items → u i ≤ top) → Pruned top b u f 0 → MeetsWith (numbers top) b 0 f → Lowered (numbers top) b u 0 f
    pruned_lowered tops x m = record {
      below = pruned_labels tops x m;
      greatest = λ g y agree i s. omega (arith, x.above {w = 0} {k = g} (record { labelling = y.labelling; under = λ j t. omega (arith, y.under j t) }) i s);
      least = λ j l. absurd (omega arith);
    }

  -- Where some labelling is below the bound, nothing cannot be met.
  pub pruned_none : {u f k : ℕ → ℕ} {bad : ℕ} → Pruned top b u f bad → LabellingBelow (numbers top) b u k → bad ≡ 0
  pruned_none {k = k} x y = omega (arith, x.least {w = 0} {k = k} (record { labelling = y.labelling; under = λ j t. omega (arith, y.under j t) }))

  -- The law of an attempt. The labels f are lowered up to item i; u is f with item i at 0; g is what settling below u came to, with bad; and new is g with the old value given back as far as
  -- bad reaches. Where bad is less than the item's old value every rule has to be met; where it is not, settling may stop anywhere.
  module _ (inside : Inside b) {bound f u g new : ℕ → ℕ} {i bad : ℕ} (x : Lowered (numbers top) b bound i f) (item : i < b.items) (placed : Placed b.items f i 0 u)
      (y : Pruned top b u g bad) (back : (j : ℕ) → j < b.items → new j ≡ max (g j) (min (f j) bad)) where
    -- labellings below f are below u with their own value at item i joined to it
    with_own : {k : ℕ → ℕ} → Labelling (numbers top) b k → ((j : ℕ) → j < b.items → k j ≤ f j) → LabellingWith top b u (k i) k
    with_own {k} z below = record {
      labelling = z;
      under = placed_cases (λ j v. k j ≤ max v (k i)) placed (omega arith) (λ j s. omega (arith, below j s));
    }

    falls : (j : ℕ) → j < b.items → g j ≤ f j
    falls j s = omega (arith, y.under j s, placed_cases (λ m v. v ≤ f m) placed (omega arith) (λ m t. omega arith) j s)

    new_below : (j : ℕ) → j < b.items → new j ≤ f j
    new_below j s = omega (arith, back j s, falls j s)

    new_here : new i ≤ bad
    new_here = omega (arith, back i item, y.under i item, placed.here)

    -- the join of the new left labels is at least that of the settled ones, and that of the old ones as far as bad reaches
    left_settled : (l : Left) → LeftInside b.items l → join_over (numbers top) l g ≤ join_over (numbers top) l new
    left_settled l s = join_over_grows (numbers top) (numbers_lattice top) {f = g} {g = new} s (λ j t. omega (arith, back j t))

    left_old : (l : Left) → LeftInside b.items l → min (join_over (numbers top) l f) bad ≤ join_over (numbers top) l new
    left_old l s = joins_old top l.count bad (λ k. f (l.item k)) (λ k. new (l.item k)) (λ k t. omega (arith, back (l.item k) (s.within k t)))

    new_met : (r : Rule ℕ) → RuleInside b.items r → Met (numbers top) r f → MetWith (numbers top) bad r g → Met (numbers top) r new
    new_met (cap j c) s old m = omega (arith, new_below j s)
    new_met (floor l c) s old m = omega (arith, left_settled l s, left_old l s)
    new_met (follow l j) s old m = omega (arith, left_settled l s.0, left_old l s.0, back j s.1, falls j s.1)

    finished : MeetsWith (numbers top) b bad g → Lowered (numbers top) b bound (suc i) new
    finished m =
        lowered_to top b inside bound x item
        (record {
          labels = λ j s. omega (arith, new_below j s, x.below.labelling.labels j s);
          meets = λ r s. new_met (b.rule r) (inside.inside r s) (x.below.labelling.meets r s) (m.meets r s);
        })
        new_below
        (λ k z below. omega (arith, new_here, y.least (with_own z below)))
        (λ k z below same j s. omega (arith, back j s, below j s, y.above (with_own z below) j s, new_here))

    -- settling stopped: everything that fell is put back
    stopped_same : f i ≤ bad → (j : ℕ) → j < b.items → f j ≡ new j
    stopped_same stop j s = omega (arith, back j s, falls j s, y.above (with_own x.below.labelling (λ m t. omega arith)) j s)

    pub lowered_attempt : (bad < f i → MeetsWith (numbers top) b bad g) → Lowered (numbers top) b bound (suc i) new
    lowered_attempt ends = pick (dec_le (f i) bad)
      where
        pick : Dec (f i ≤ bad) → Lowered (numbers top) b bound (suc i) new
        pick (no l) = finished (ends (omega arith))
        pick (yes stop) =
            lowered_to top b inside bound x item
            (labelling_same (numbers top) b inside (stopped_same stop) x.below.labelling)
            new_below
            (λ k z below. omega (arith, new_here, y.least (with_own z below)))
            (λ k z below same j s. omega (arith, stopped_same stop j s, below j s))
