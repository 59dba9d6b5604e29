-- The greatest labelling below a bound that meets all caps and follows: it exists, since lowering labels until every such rule is met ends in it;
-- it is unique; and it meets the floors exactly if some labelling below the bound meets all rules. Over any values that meet the laws.
-- Assumes nothing.
use mathlib.Core.Path.{◌≡◌, refl, sym, ◌∙◌, ap, subst}
use mathlib.Core.Bool.{Bool, true}
use mathlib.Core.List.{List, [], ◌∷◌}
use mathlib.Core.Option.{Option, none, some}
use Prim.Native.Nat.{ℕ, zero, suc, ◌+◌, ◌≤◌, ◌<◌}
use native.Mathlib.Nat.{not-suc-le-zero}
use native.Mathlib.Omega.{arith}
use lib.Dec.{T}
use lib.ListN.{length, get_or, set, length-set}
use lib.Seq.{get_or-set_same, get_or-set_other}
use Rattle.laws.specs.Every.{every_below}
use Rattle.meaning.specs.Values.{Values}
use Rattle.meaning.specs.Rules.{Rule, cap, floor, follow, Book, RuleInside, Inside, join_over, Met}
use Rattle.meaning.specs.Labelling.{Labelling}
use Rattle.meaning.specs.InnerGreatest.{MetDown, MetUp, HeldUp, PushedDown, Between, Greatest, Placed, Pushed}
use Rattle.meaning.proofs.Lattice.{Lattice}
use Rattle.meaning.proofs.Search.{every_at, every_all, failing, Failing, failing_tells}
use Rattle.meaning.proofs.Joins.{join_over_grows}
use Rattle.meaning.proofs.Placed.{placed_cases}

-- the list of f 0 .. f (n - 1)
unfoldable pub tabulate : {A : Type 0} → ℕ → (ℕ → A) → List A
tabulate zero f = []
tabulate (suc n) f = f 0 ∷ tabulate n (λ k. f (suc k))

pub length_tabulate : {A : Type 0} (n : ℕ) (f : ℕ → A) → length (tabulate n f) ≡ n
unfolding tabulate
length_tabulate zero f = refl
length_tabulate (suc n) f = ap suc (length_tabulate n (λ k. f (suc k)))

pub get_d_tabulate : {A : Type 0} (n : ℕ) (f : ℕ → A) (d : A) (i : ℕ) → i < n → get_or (tabulate n f) i d ≡ f i
unfolding tabulate
get_d_tabulate zero f d i l = absurd (not-suc-le-zero l)
get_d_tabulate (suc n) f d zero l = refl
get_d_tabulate (suc n) f d (suc i) l = get_d_tabulate n (λ k. f (suc k)) d i (omega arith)

-- the sum of f over a list
unfoldable pub total : {A : Type 0} → (A → ℕ) → List A → ℕ
total h [] = 0
total h (x ∷ xs) = h x + total h xs

-- a smaller element makes a smaller sum
total_falls : {A : Type 0} (h : A → ℕ) (l : List A) (i : ℕ) (a d : A) → i < length l → h a < h (get_or l i d) → total h (set l i a) < total h l
unfolding total
total_falls h [] i a d s f = absurd (not-suc-le-zero s)
total_falls h (x ∷ xs) zero a d s f = omega arith
total_falls h (x ∷ xs) (suc i) a d s f = omega (arith, total_falls h xs i a d (omega arith) f)

-- a list with one element stored holds the old values but for that one
set_placed : {A : Type 0} (n : ℕ) (l : List A) (i : ℕ) (a d : A) → length l ≡ n → i < n → Placed n (λ j. get_or l j d) i a (λ j. get_or (set l i a) j d)
set_placed n l i a d e s = record { here = get_or-set_same l i a d (rw e s); other = λ j t ne. get_or-set_other l i j a d ne }

module _ (K : Values) (L : Lattice K) where
  -- the labels that a list holds
  abbrev pub labels_of : List K.Val → ℕ → K.Val
  labels_of l i = get_or l i K.lowest

  -- whether a cap or a follow is met: a floor always passes
  unfoldable pub met_downb : Rule K.Val → (ℕ → K.Val) → Bool
  met_downb (cap i v) f = L.belowb (f i) v
  met_downb (floor l v) f = true
  met_downb (follow l i) f = L.belowb (f i) (join_over K l f)

  -- the labels with the rule's item lowered to what the rule allows
  unfoldable pub push : Rule K.Val → List K.Val → List K.Val
  push (cap i v) l = set l i (L.meet (labels_of l i) v)
  push (floor m v) l = l
  push (follow m i) l = set l i (L.meet (labels_of l i) (join_over K m (labels_of l)))

  pub downb_holds : (r : Rule K.Val) (f : ℕ → K.Val) → T (met_downb r f) → MetDown K r f
  unfolding met_downb
  downb_holds (cap i v) f t = L.belowb_holds _ _ t
  downb_holds (floor l v) f t = tt
  downb_holds (follow l i) f t = L.belowb_holds _ _ t

  -- Labels after a push are below those before it, and above all labels below those that meet the rule.
  pub pushed_under : (n : ℕ) (r : Rule K.Val) (f g : ℕ → K.Val) → Pushed K L.meet n r f g → (j : ℕ) → j < n → K.Below (g j) (f j)
  pushed_under n (cap i v) f g x = placed_cases (λ j y. K.Below y (f j)) x (L.meet_left _ _) (λ j s. L.reflexive _)
  pushed_under n (floor l v) f g x = λ j s. subst (λ y. K.Below y (f j)) (sym (x j s)) (L.reflexive _)
  pushed_under n (follow l i) f g x = placed_cases (λ j y. K.Below y (f j)) x (L.meet_left _ _) (λ j s. L.reflexive _)

  pub pushed_above : (n : ℕ) (r : Rule K.Val) → RuleInside n r → (f g : ℕ → K.Val) → Pushed K L.meet n r f g → (h : ℕ → K.Val) → MetDown K r h → ((j : ℕ) → j < n → K.Below (h j) (f j)) → (j : ℕ) → j < n → K.Below (h j) (g j)
  pushed_above n (cap i v) s f g x h met below = placed_cases (λ j y. K.Below (h j) y) x (L.meet_greatest _ _ _ (below i s) met) below
  pushed_above n (floor l v) s f g x h met below = λ j t. subst (λ y. K.Below (h j) y) (sym (x j t)) (below j t)
  pushed_above n (follow l i) s f g x h met below =
      placed_cases (λ j y. K.Below (h j) y) x
      (L.meet_greatest _ _ _ (below i s.1) (L.transitive _ _ _ met (join_over_grows K L s.0 below)))
      below

  -- What is between the bound and the labels that are looked for stays so.
  pub between_start : (b : Book K.Val) (u : ℕ → K.Val) → Between K b u u
  between_start b u = record { under = λ i s. L.reflexive _; above = λ h down. down.under }

  pub between_push : {b : Book K.Val} → Inside b → {u f g : ℕ → K.Val} → Between K b u f → (r : ℕ) → r < b.rules → Pushed K L.meet b.items (b.rule r) f g → Between K b u g
  between_push {b} inside {u} {f} {g} w r s x = record {
    under = λ i t. L.transitive _ _ _ (pushed_under b.items (b.rule r) f g x i t) (w.under i t);
    above = λ h down. pushed_above b.items (b.rule r) (inside.inside r s) f g x h (down.meets r s) (w.above h down);
  }

  pub between_trans : {b : Book K.Val} {u f g : ℕ → K.Val} → Between K b u f → Between K b f g → Between K b u g
  between_trans {b} {u} {f} {g} v w = record {
    under = λ i s. L.transitive _ _ _ (w.under i s) (v.under i s);
    above = λ h down. w.above h (record { under = v.above h down; meets = down.meets });
  }

  pub between_met : {b : Book K.Val} {u f : ℕ → K.Val} → Between K b u f → ((r : ℕ) → r < b.rules → MetDown K (b.rule r) f) → Greatest K b u f
  between_met w met = record { pushed = record { under = w.under; meets = met }; above = w.above }

  -- The push of a rule into n labels in a list keeps their number, and makes the sum of heights smaller unless the rule was met.
  length_push : (r : Rule K.Val) (l : List K.Val) → length (push r l) ≡ length l
  unfolding push
  length_push (cap i v) l = length-set l i _
  length_push (floor m v) l = refl
  length_push (follow m i) l = length-set l i _

  push_pushed : (n : ℕ) (r : Rule K.Val) → RuleInside n r → (l : List K.Val) → length l ≡ n → Pushed K L.meet n r (labels_of l) (labels_of (push r l))
  unfolding push
  push_pushed n (cap i v) s l e = set_placed n l i _ K.lowest e s
  push_pushed n (floor m v) s l e = λ j t. refl
  push_pushed n (follow m i) s l e = set_placed n l i _ K.lowest e s.1

  lower_falls : (n : ℕ) (l : List K.Val) (i : ℕ) (w : K.Val) → length l ≡ n → i < n → (T (L.belowb (labels_of l i) w) → ⊥) → total L.height (set l i (L.meet (labels_of l i) w)) < total L.height l
  lower_falls n l i w e s unmet =
      total_falls L.height l i _ K.lowest (rw e s)
      (L.height_falls _ _ (L.meet_left _ _)
      (λ same. unmet (L.below_passes _ _ (subst (λ x. K.Below x w) same (L.meet_right _ _)))))

  push_falls : (n : ℕ) (r : Rule K.Val) → RuleInside n r → (l : List K.Val) → length l ≡ n → (T (met_downb r (labels_of l)) → ⊥) → total L.height (push r l) < total L.height l
  unfolding push met_downb
  push_falls n (cap i v) s l e unmet = lower_falls n l i v e s unmet
  push_falls n (floor m v) s l e unmet = absurd (unmet tt)
  push_falls n (follow m i) s l e unmet = lower_falls n l i (join_over K m (labels_of l)) e s.1 unmet

  module _ (b : Book K.Val) where
    -- Push any rule that is not met, until all are. The first argument bounds how often.
    unfoldable pub settle : ℕ → List K.Val → List K.Val
    settle zero l = l
    settle (suc k) l = elim (failing b.rules (λ r. met_downb (b.rule r) (labels_of l))) [ none ↦ l | some r ↦ settle k (push (b.rule r) l) ]

    -- The greatest labels below the bound u that meet all caps and follows.
    unfoldable pub greatest_list : (ℕ → K.Val) → List K.Val
    greatest_list u = settle (total L.height (tabulate b.items u)) (tabulate b.items u)

  module _ (b : Book K.Val) (inside : Inside b) (u : ℕ → K.Val) where
    -- what stays true of a list while labels are pushed down
    record Settling (l : List K.Val) : Type 0 where
      pub sized : length l ≡ b.items
      pub between : Between K b u (labels_of l)

    settling_start : Settling (tabulate b.items u)
    settling_start = record {
      sized = length_tabulate b.items u;
      between = record {
        under = λ i s. rw (get_d_tabulate b.items u K.lowest i s) (L.reflexive (u i));
        above = λ h down i s. rw (get_d_tabulate b.items u K.lowest i s) (down.under i s);
      };
    }

    settling_push : (l : List K.Val) → Settling l → (r : ℕ) → r < b.rules → Settling (push (b.rule r) l)
    settling_push l w r s = record {
      sized = length_push (b.rule r) l ∙ w.sized;
      between = between_push inside w.between r s (push_pushed b.items (b.rule r) (inside.inside r s) l w.sized);
    }

    abbrev down_test : List K.Val → ℕ → Bool
    down_test l r = met_downb (b.rule r) (labels_of l)

    settling_met : (l : List K.Val) → Settling l → ((r : ℕ) → r < b.rules → T (down_test l r)) → Greatest K b u (labels_of l)
    settling_met l w met = between_met w.between (λ r s. downb_holds (b.rule r) (labels_of l) (met r s))

    push_smaller : (l : List K.Val) → Settling l → (r : ℕ) → (r < b.rules) × (T (down_test l r) → ⊥) → total L.height (push (b.rule r) l) < total L.height l
    push_smaller l w r unmet = push_falls b.items (b.rule r) (inside.inside r unmet.0) l w.sized unmet.1

    settled : (k : ℕ) (l : List K.Val) → Settling l → total L.height l ≤ k → Greatest K b u (labels_of (settle b k l))
    unfolding settle
    settled zero l w small = go (failing b.rules (down_test l)) (failing_tells b.rules (down_test l))
      where
        go : (o : Option ℕ) → Failing b.rules (down_test l) o → Greatest K b u (labels_of l)
        go none met = settling_met l w met
        go (some r) unmet = absurd (omega (arith, push_smaller l w r unmet))
    settled (suc k) l w small = go (λ m. settled k m) (failing b.rules (down_test l)) (failing_tells b.rules (down_test l))
      where
        go : ((m : List K.Val) → Settling m → total L.height m ≤ k → Greatest K b u (labels_of (settle b k m))) → (o : Option ℕ) → Failing b.rules (down_test l) o → Greatest K b u (labels_of (elim o [ none ↦ l | some r ↦ settle b k (push (b.rule r) l) ]))
        go ih none met = settling_met l w met
        go ih (some r) unmet = ih (push (b.rule r) l) (settling_push l w r unmet.0) (omega (arith, push_smaller l w r unmet))

    -- It exists.
    pub greatest_exists : Greatest K b u (labels_of (greatest_list b u))
    unfolding greatest_list
    greatest_exists = settled (total L.height (tabulate b.items u)) (tabulate b.items u) settling_start (omega arith)

  module _ (b : Book K.Val) where
    -- There is only one.
    pub greatest_unique : {u f g : ℕ → K.Val} → Greatest K b u f → Greatest K b u g → (i : ℕ) → i < b.items → f i ≡ g i
    greatest_unique {u} {f} {g} x y i s = L.antisymmetric _ _ (y.above f x.pushed i s) (x.above g y.pushed i s)

    -- Labels that meet a rule meet it as one that pushes down and as one that holds up, and the other way round.
    pub met_down : (r : Rule K.Val) (f : ℕ → K.Val) → Met K r f → MetDown K r f
    met_down (cap i v) f m = m
    met_down (floor l v) f m = tt
    met_down (follow l i) f m = m

    pub met_up : (r : Rule K.Val) (f : ℕ → K.Val) → Met K r f → MetUp K r f
    met_up (cap i v) f m = tt
    met_up (floor l v) f m = m
    met_up (follow l i) f m = tt

    pub met_both : (r : Rule K.Val) (f : ℕ → K.Val) → MetDown K r f → MetUp K r f → Met K r f
    met_both (cap i v) f d h = d
    met_both (floor l v) f d h = h
    met_both (follow l i) f d h = d

    -- a floor that is met stays met where labels grow
    up_grows : (n : ℕ) (r : Rule K.Val) → RuleInside n r → {f g : ℕ → K.Val} → ((i : ℕ) → i < n → K.Below (f i) (g i)) → MetUp K r f → MetUp K r g
    up_grows n (cap i v) s h m = tt
    up_grows n (floor l v) s h m = L.transitive _ _ _ m (join_over_grows K L s h)
    up_grows n (follow l i) s h m = tt

    pub labelling_pushed : {u f : ℕ → K.Val} → Labelling K b f → ((i : ℕ) → i < b.items → K.Below (f i) (u i)) → PushedDown K b u f
    labelling_pushed {u} {f} x below = record { under = below; meets = λ r s. met_down (b.rule r) f (x.meets r s) }

    -- If the greatest labels meet the floors, they are a labelling.
    pub greatest_labels : {u g : ℕ → K.Val} → ((i : ℕ) → i < b.items → K.Is (u i)) → Greatest K b u g → HeldUp K b g → Labelling K b g
    greatest_labels {u} {g} is x h = record {
      labels = λ i s. L.is_below _ _ (is i s) (x.pushed.under i s);
      meets = λ r s. met_both (b.rule r) g (x.pushed.meets r s) (h.floors r s);
    }

    -- If any labelling below the bound meets all rules, the greatest labels meet the floors.
    pub greatest_held : Inside b → {u g : ℕ → K.Val} → Greatest K b u g → {f : ℕ → K.Val} → Labelling K b f → ((i : ℕ) → i < b.items → K.Below (f i) (u i)) → HeldUp K b g
    greatest_held inside {u} {g} x {f} y below = record {
      floors = λ r s. up_grows b.items (b.rule r) (inside.inside r s) (x.above f (labelling_pushed y below)) (met_up (b.rule r) f (y.meets r s));
    }

    -- Labels that meet all caps and follows are closed under join.
    pub pushed_join : {u f g : ℕ → K.Val} → Inside b → PushedDown K b u f → PushedDown K b u g → PushedDown K b u (λ i. K.join (f i) (g i))
    pushed_join {u} {f} {g} inside x y = record {
      under = λ i s. L.join_least _ _ _ (x.under i s) (y.under i s);
      meets = λ r s. down_join b.items (b.rule r) (inside.inside r s) (x.meets r s) (y.meets r s);
    }
      where
        left : (i : ℕ) → K.Below (f i) (K.join (f i) (g i))
        left i = L.join_left _ _

        right : (i : ℕ) → K.Below (g i) (K.join (f i) (g i))
        right i = L.join_right _ _

        down_join : (n : ℕ) (r : Rule K.Val) → RuleInside n r → MetDown K r f → MetDown K r g → MetDown K r (λ i. K.join (f i) (g i))
        down_join n (cap i v) s p q = L.join_least _ _ _ p q
        down_join n (floor l v) s p q = tt
        down_join n (follow l i) s p q = L.join_least _ _ _ (L.transitive _ _ _ p (join_over_grows K L s.0 (λ j t. left j))) (L.transitive _ _ _ q (join_over_grows K L s.0 (λ j t. right j)))

    -- Whether the greatest labels meet the floors, as a test that computes.
    unfoldable pub met_upb : Rule K.Val → (ℕ → K.Val) → Bool
    met_upb (cap i v) f = true
    met_upb (floor l v) f = L.belowb v (join_over K l f)
    met_upb (follow l i) f = true

    pub upb_holds : (r : Rule K.Val) (f : ℕ → K.Val) → T (met_upb r f) → MetUp K r f
    unfolding met_upb
    upb_holds (cap i v) f t = tt
    upb_holds (floor l v) f t = L.belowb_holds _ _ t
    upb_holds (follow l i) f t = tt

    pub up_passes : (r : Rule K.Val) (f : ℕ → K.Val) → MetUp K r f → T (met_upb r f)
    unfolding met_upb
    up_passes (cap i v) f m = tt
    up_passes (floor l v) f m = L.below_passes _ _ m
    up_passes (follow l i) f m = tt

    -- Whether some labelling below the bound u meets all rules.
    unfoldable pub solvableb : (ℕ → K.Val) → Bool
    solvableb u = let l = greatest_list b u in every_below b.rules (λ r. met_upb (b.rule r) (labels_of l))

    pub solvable_held : (u : ℕ → K.Val) → T (solvableb u) → HeldUp K b (labels_of (greatest_list b u))
    unfolding solvableb
    solvable_held u t = record { floors = λ r s. upb_holds (b.rule r) _ (every_at b.rules _ t r s) }

    held_solvable : (u : ℕ → K.Val) → HeldUp K b (labels_of (greatest_list b u)) → T (solvableb u)
    unfolding solvableb
    held_solvable u h = every_all b.rules _ (λ r s. up_passes (b.rule r) _ (h.floors r s))

    -- It says yes exactly if there is one.
    pub solvable_labels : Inside b → (u : ℕ → K.Val) → ((i : ℕ) → i < b.items → K.Is (u i)) → T (solvableb u) → Labelling K b (labels_of (greatest_list b u))
    solvable_labels inside u is t = greatest_labels is (greatest_exists b inside u) (solvable_held u t)

    pub labelling_solvable : Inside b → (u : ℕ → K.Val) {f : ℕ → K.Val} → Labelling K b f → ((i : ℕ) → i < b.items → K.Below (f i) (u i)) → T (solvableb u)
    labelling_solvable inside u x below = held_solvable u (greatest_held inside (greatest_exists b inside u) x below)
