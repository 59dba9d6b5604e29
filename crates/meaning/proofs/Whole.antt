-- From the parts to the whole: a labelling is one in every part, least in every part is wanted and the other way round, and with that the theorems
-- of the second and the third demand: a wanted labelling exists whenever any labelling does, there is only one, the refused part is the only one, and one part's
-- labels depend on that part alone.
-- Assumes nothing.
use mathlib.Core.Path.{◌≡◌, refl, sym, ◌∙◌, ap, subst}
use mathlib.Core.Logic.{◌⊎◌, inl, inr, ite, dite, if_pos, if_neg}
use Prim.Native.Nat.{ℕ, zero, suc, ◌≤◌, ◌<◌, min, max}
use native.Mathlib.Decide.{ℕ_discrete, dec_lt}
use native.Mathlib.Nat.{not-suc-le-zero}
use native.Mathlib.Omega.{arith}
use Rattle.meaning.specs.Values.{numbers}
use Rattle.meaning.specs.Rules.{Rule, cap, floor, follow, map_rule, Book, RuleInside, Inside, join_up_to, Met}
use Rattle.meaning.specs.Labelling.{Labelling, FirstDifference, Wanted, Minimal}
use Rattle.meaning.specs.InnerGreatest.{MetDown, Placed, Pushed}
use Rattle.meaning.specs.InnerLowered.{LabellingBelow, WantedBelow, RefusedBelow}
use Rattle.meaning.specs.Parts.{Parts, in_part, part_values, Refused, AgreeIn}
use Rattle.meaning.proofs.Search.{below_suc}
use Rattle.meaning.proofs.Same.{met_same, wanted_same}
use Rattle.meaning.proofs.SameBooks.{turned, wanted_moved}
use Rattle.meaning.proofs.Placed.{placed_map}
use Rattle.meaning.proofs.Ordered.{Ordered, wanted_unique, wanted_minimal}
use Rattle.meaning.proofs.Lowering.{numbers_ordered, wanted_below_top, wanted_or_none}
use Rattle.meaning.proofs.PartLaws.{PartLaws}

inside_map : {A B : Type 0} (n : ℕ) (f : A → B) (r : Rule A) → RuleInside n r → RuleInside n (map_rule f r)
inside_map n f (cap i v) s = s
inside_map n f (floor l v) s = s
inside_map n f (follow l i) s = s

module _ (P : Parts) (W : PartLaws P) where
  abbrev Val : Type 0
  Val = P.values.Val

  abbrev Labels : Type 0
  Labels = ℕ → Val

  -- labels seen in one part
  abbrev pub part_of : ℕ → Labels → ℕ → ℕ
  part_of p f i = P.part p (f i)

  -- the join of labels, seen in a part
  pub joins_parts : (p : ℕ) → p < P.count → (n : ℕ) (f : Labels) → P.part p (join_up_to P.values n f) ≡ join_up_to (part_values P p) n (part_of p f)
  joins_parts p s zero f = W.lowest_parts p s
  joins_parts p s (suc n) f = W.join_parts _ _ p s ∙ ap (λ x. max x (P.part p (f n))) (joins_parts p s n f)

  -- A rule is met exactly if it is met in every part.
  pub met_part : (r : Rule Val) (f : Labels) → Met P.values r f → (p : ℕ) → p < P.count → Met (part_values P p) (map_rule (P.part p) r) (part_of p f)
  met_part (cap i v) f m p s = W.below_parts _ _ m p s
  met_part (floor l v) f m p s = subst (λ x. P.part p v ≤ x) (joins_parts p s l.count (λ k. f (l.item k))) (W.below_parts _ _ m p s)
  met_part (follow l i) f m p s = subst (λ x. P.part p (f i) ≤ x) (joins_parts p s l.count (λ k. f (l.item k))) (W.below_parts _ _ m p s)

  pub part_met : (r : Rule Val) (f : Labels) → ((p : ℕ) → p < P.count → Met (part_values P p) (map_rule (P.part p) r) (part_of p f)) → Met P.values r f
  part_met (cap i v) f m = W.parts_below _ _ m
  part_met (floor l v) f m = W.parts_below _ _ (λ p s. subst (λ x. P.part p v ≤ x) (sym (joins_parts p s l.count (λ k. f (l.item k)))) (m p s))
  part_met (follow l i) f m = W.parts_below _ _ (λ p s. subst (λ x. P.part p (f i) ≤ x) (sym (joins_parts p s l.count (λ k. f (l.item k)))) (m p s))

  -- A cap or a follow that is met is met in every part.
  pub met_down_part : (r : Rule Val) (f : Labels) → MetDown P.values r f → (p : ℕ) → p < P.count → MetDown (part_values P p) (map_rule (P.part p) r) (part_of p f)
  met_down_part (cap i v) f m p s = met_part (cap i v) f m p s
  met_down_part (floor l v) f m p s = tt
  met_down_part (follow l i) f m p s = met_part (follow l i) f m p s

  -- A push is one in every part.
  pub pushed_part : (n : ℕ) (r : Rule Val) (f g : Labels) → Pushed P.values W.common n r f g → (p : ℕ) → p < P.count → Pushed (part_values P p) min n (map_rule (P.part p) r) (part_of p f) (part_of p g)
  pushed_part n (cap i v) f g x p s =
      subst (λ k. Placed n (part_of p f) i k (part_of p g)) (W.common_parts _ _ p s) (placed_map (P.part p) x)
  pushed_part n (floor l v) f g x p s = λ j t. ap (P.part p) (x j t)
  pushed_part n (follow l i) f g x p s =
      subst (λ k. Placed n (part_of p f) i k (part_of p g))
      (W.common_parts _ _ p s ∙ ap (λ k. min (P.part p (f i)) k) (joins_parts p s l.count (λ k. f (l.item k))))
      (placed_map (P.part p) x)

  ordered : Ordered P.values
  ordered = record {
    discrete = W.discrete;
    antisymmetric = λ x y is it p q. W.same_parts x y is it (λ k s. omega (arith, W.below_parts x y p k s, W.below_parts y x q k s));
  }

  module _ (b : Book Val) (inside : Inside b) where
    pub inside_part : (p : ℕ) → Inside (in_part P p b)
    inside_part p = record { inside = λ r s. inside_map b.items (P.part p) (b.rule r) (inside.inside r s) }

    pub labelling_part : {f : Labels} → Labelling P.values b f → (p : ℕ) → p < P.count → Labelling (part_values P p) (in_part P p b) (part_of p f)
    labelling_part {f} x p s = record {
      labels = λ i t. W.part_top (f i) (x.labels i t) p s;
      meets = λ r t. met_part (b.rule r) f (x.meets r t) p s;
    }

    -- Labels whose every part is, up to the book's items, a labelling of that part.
    pub part_labelling : (f : Labels) → ((i : ℕ) → i < b.items → P.values.Is (f i)) → ((p : ℕ) → p < P.count → (h : ℕ → ℕ) × Labelling (part_values P p) (in_part P p b) h × ((i : ℕ) → i < b.items → h i ≡ P.part p (f i))) → Labelling P.values b f
    part_labelling f is parts = record {
      labels = is;
      meets = λ r t. part_met (b.rule r) f (λ p s. met_same (part_values P p) b.items (map_rule (P.part p) (b.rule r)) ((inside_part p).inside r t) (parts p s).2 ((parts p s).1.meets r t));
    }

    -- Labels assembled from a labelling of each part.
    pub assemble : (ℕ → ℕ → ℕ) → Labels
    assemble h i = W.make (λ p. h p i)

    module _ (h : ℕ → ℕ → ℕ) (x : (p : ℕ) → p < P.count → Labelling (part_values P p) (in_part P p b) (h p)) where
      pub assemble_is : (i : ℕ) → i < b.items → P.values.Is (assemble h i)
      unfolding assemble
      assemble_is i t = W.make_is _ (λ p s. (x p s).labels i t)

      pub assemble_part : (p : ℕ) → p < P.count → (i : ℕ) → i < b.items → h p i ≡ P.part p (assemble h i)
      unfolding assemble
      assemble_part p s i t = sym (W.make_part _ (λ q u. (x q u).labels i t) p s)

      pub assemble_labelling : Labelling P.values b (assemble h)
      assemble_labelling = part_labelling (assemble h) assemble_is (λ p s. (h p, x p s, assemble_part p s))

    -- Least in every part gives wanted.
    pub parts_wanted : (f : Labels) → Labelling P.values b f → ((p : ℕ) → p < P.count → Wanted (part_values P p) (in_part P p b) (part_of p f)) → Wanted P.values b f
    parts_wanted f x parts = record { labelling = x; least = λ g y i d. record { covered = W.parts_below _ _ (λ p s. below g y i d p s (ℕ_discrete (P.part p (f i)) (P.part p (g i)))); differs = d.differs } }
      where
        below : (g : Labels) → Labelling P.values b g → (i : ℕ) → FirstDifference b.items f g i → (p : ℕ) → p < P.count → Dec (P.part p (f i) ≡ P.part p (g i)) → P.part p (f i) ≤ P.part p (g i)
        below g y i d p s (yes e) = omega arith
        below g y i d p s (no ne) = ((parts p s).least (part_of p g) (labelling_part y p s) i (record { item = d.item; before = λ j l. ap (P.part p) (d.before j l); differs = ne })).covered

    -- Wanted gives least in every part: another labelling of the part would make another labelling of the whole.
    module _ {f : Labels} (x : Wanted P.values b f) (p : ℕ) (is_part : p < P.count) (h : ℕ → ℕ) (y : Labelling (part_values P p) (in_part P p b) h) where
      abbrev values_of : ℕ → ℕ → ℕ
      values_of q i = ite (ℕ_discrete q p) (h i) (P.part q (f i))

      here : (q i : ℕ) → q ≡ p → values_of q i ≡ h i
      here q i e = if_pos (ℕ_discrete q p) e (h i) (P.part q (f i))

      elsewhere : (q i : ℕ) → (q ≡ p → ⊥) → values_of q i ≡ P.part q (f i)
      elsewhere q i ne = if_neg (ℕ_discrete q p) ne (h i) (P.part q (f i))

      values_labelling : (q : ℕ) → q < P.count → Dec (q ≡ p) → Labelling (part_values P q) (in_part P q b) (values_of q)
      values_labelling q s (yes e) = subst (λ k. Labelling (part_values P k) (in_part P k b) (values_of k)) (sym e) (subst (λ k. Labelling (part_values P p) (in_part P p b) k) (sym (λ j i. here p i refl j)) y)
      values_labelling q s (no ne) = subst (λ k. Labelling (part_values P q) (in_part P q b) k) (sym (λ j i. elsewhere q i ne j)) (labelling_part x.labelling q s)

      all_labelling : (q : ℕ) → q < P.count → Labelling (part_values P q) (in_part P q b) (values_of q)
      all_labelling q s = values_labelling q s (ℕ_discrete q p)

      abbrev other : Labels
      other = assemble values_of

      other_part : (i : ℕ) → i < b.items → P.part p (other i) ≡ h i
      other_part i t = sym (assemble_part values_of all_labelling p is_part i t) ∙ here p i refl

      -- where h has f's value, the two are equal
      other_same : (i : ℕ) → i < b.items → P.part p (f i) ≡ h i → f i ≡ other i
      other_same i t e = W.same_parts _ _ (x.labelling.labels i t) (assemble_is values_of all_labelling i t) (λ q s. pick q s (ℕ_discrete q p))
        where
          pick : (q : ℕ) → q < P.count → Dec (q ≡ p) → P.part q (f i) ≡ P.part q (other i)
          pick q s (yes g) = subst (λ k. P.part k (f i) ≡ P.part k (other i)) (sym g) (e ∙ sym (other_part i t))
          pick q s (no ne) = sym (elsewhere q i ne) ∙ assemble_part values_of all_labelling q s i t

      other_below : (i : ℕ) → FirstDifference b.items (part_of p f) h i → P.part p (f i) ≤ h i
      other_below i d =
          subst (λ k. P.part p (f i) ≤ k) (other_part i d.item)
          (W.below_parts _ _
          (x.least other (assemble_labelling values_of all_labelling) i
          (record {
            item = d.item;
            before = λ j l. other_same j (omega (arith, d.item)) (d.before j l);
            differs = λ e. d.differs (ap (P.part p) e ∙ other_part i d.item);
          })
          ).covered
          p is_part)

    pub wanted_part : {f : Labels} → Wanted P.values b f → (p : ℕ) → p < P.count → Wanted (part_values P p) (in_part P p b) (part_of p f)
    wanted_part {f} x p s = record {
      labelling = labelling_part x.labelling p s;
      least = λ h y i d. record { covered = other_below x p s h y i d; differs = d.differs };
    }

    -- Below a bound that is the top of every part, wanted is wanted and refused is refused.
    module _ (u : Labels) (tops : (p : ℕ) → p < P.count → (i : ℕ) → i < b.items → P.part p (u i) ≡ P.top p) where
      pub parts_wanted_below : (f : Labels) → ((i : ℕ) → i < b.items → P.values.Is (f i)) → ((p : ℕ) → p < P.count → WantedBelow (part_values P p) (in_part P p b) (part_of p u) (part_of p f)) → Wanted P.values b f
      parts_wanted_below f is parts =
          parts_wanted f
          (part_labelling f is (λ p s. (part_of p f, (parts p s).below.labelling, λ i t. refl)))
          (λ p s. wanted_below_top (tops p s) (parts p s))

      under_top : (p : ℕ) → p < P.count → {f : ℕ → ℕ} → Labelling (part_values P p) (in_part P p b) f → LabellingBelow (part_values P p) (in_part P p b) (part_of p u) f
      under_top p s x = record { labelling = x; under = λ i t. omega (arith, tops p s i t, x.labels i t) }

      pub refused_below : {p : ℕ} → RefusedBelow P b u p → Refused P b p
      refused_below {p} x = record {
        is_part = x.is_part;
        unmet = λ f y. x.unmet f (under_top p x.is_part y);
        lower = λ q s. ((x.lower q s).0, (x.lower q s).1.labelling);
      }

    -- There is at most one wanted labelling, and it is minimal by definition 2.2.
    pub only_one_wanted : {f g : Labels} → Wanted P.values b f → Wanted P.values b g → (i : ℕ) → i < b.items → f i ≡ g i
    only_one_wanted x y = wanted_unique P.values ordered b x y

    pub wanted_is_minimal : {f : Labels} → Wanted P.values b f → Minimal P.values b f
    wanted_is_minimal x = wanted_minimal P.values ordered b x

    -- A refused book has no labelling, and only one part of it is refused.
    pub refused_none : {p : ℕ} → Refused P b p → {f : Labels} → Labelling P.values b f → ⊥
    refused_none {p} x {f} y = x.unmet (part_of p f) (labelling_part y p x.is_part)

    pub refused_unique : {p q : ℕ} → Refused P b p → Refused P b q → p ≡ q
    refused_unique {p} {q} x y = pick (ℕ_discrete p q) (dec_lt p q)
      where
        unmet_below : {m n : ℕ} → Refused P b m → Refused P b n → m < n → ⊥
        unmet_below {m} {n} z w s = z.unmet (w.lower m s).0 (w.lower m s).1

        pick : Dec (p ≡ q) → Dec (p < q) → p ≡ q
        pick (yes e) d = e
        pick (no ne) (yes s) = absurd (unmet_below x y s)
        pick (no ne) (no ns) = absurd (unmet_below y x (omega arith))

    -- The parts below k all have a wanted labelling, or one of them is refused.
    abbrev WantedIn : ℕ → Type 0
    WantedIn p = (f : ℕ → ℕ) × Wanted (part_values P p) (in_part P p b) f

    parts_or_refused : (k : ℕ) → k ≤ P.count → ((p : ℕ) → p < k → WantedIn p) ⊎ ((p : ℕ) × Refused P b p)
    parts_or_refused zero s = inl (λ p l. absurd (not-suc-le-zero l))
    parts_or_refused (suc k) s = go (parts_or_refused k (omega arith)) (wanted_or_none (P.top k) (in_part P k b) (inside_part k))
      where
        go : ((p : ℕ) → p < k → WantedIn p) ⊎ ((p : ℕ) × Refused P b p) → WantedIn k ⊎ ((f : ℕ → ℕ) → Labelling (part_values P k) (in_part P k b) f → ⊥) → ((p : ℕ) → p < suc k → WantedIn p) ⊎ ((p : ℕ) × Refused P b p)
        go (inr refused) here = inr refused
        go (inl before) (inl here) = inl (below_suc {P = WantedIn} before here)
        go (inl before) (inr none_here) = inr (k, record { is_part = s; unmet = none_here; lower = λ q l. ((before q l).0, (before q l).1.labelling) })

    -- Every book has a wanted labelling or a refused part.
    pub wanted_or_refused : ((f : Labels) × Wanted P.values b f) ⊎ ((p : ℕ) × Refused P b p)
    wanted_or_refused = go (parts_or_refused P.count (omega arith))
      where
        go : ((p : ℕ) → p < P.count → WantedIn p) ⊎ ((p : ℕ) × Refused P b p) → ((f : Labels) × Wanted P.values b f) ⊎ ((p : ℕ) × Refused P b p)
        go (inr refused) = inr refused
        go (inl parts) = inl (assemble h, parts_wanted (assemble h) (assemble_labelling h labelled) wanted)
          where
            h : ℕ → ℕ → ℕ
            h p = dite (dec_lt p P.count) (λ s. (parts p s).0) (λ ns i. 0)

            h_wanted : (p : ℕ) → p < P.count → Wanted (part_values P p) (in_part P p b) (h p)
            h_wanted p s = pick (dec_lt p P.count)
              where
                pick : (d : Dec (p < P.count)) → Wanted (part_values P p) (in_part P p b) (dite d (λ t. (parts p t).0) (λ ns i. 0))
                pick (yes t) = (parts p t).1
                pick (no nt) = absurd (nt s)

            labelled : (p : ℕ) → p < P.count → Labelling (part_values P p) (in_part P p b) (h p)
            labelled p s = (h_wanted p s).labelling

            wanted : (p : ℕ) → p < P.count → Wanted (part_values P p) (in_part P p b) (part_of p (assemble h))
            wanted p s = wanted_same (part_values P p) (in_part P p b) (inside_part p) (assemble_part h labelled p s) (h_wanted p s)

    -- Whenever any labelling meets the rules, a wanted one exists.
    pub labelling_wanted : {f : Labels} → Labelling P.values b f → (g : Labels) × Wanted P.values b g
    labelling_wanted x = go wanted_or_refused
      where
        go : ((g : Labels) × Wanted P.values b g) ⊎ ((p : ℕ) × Refused P b p) → (g : Labels) × Wanted P.values b g
        go (inl wanted) = wanted
        go (inr (p, refused)) = absurd (refused_none refused x)

    -- No labelling meets the rules exactly if a part is refused (the other half is refused_none).
    pub none_refused : ((f : Labels) → Labelling P.values b f → ⊥) → (p : ℕ) × Refused P b p
    none_refused unlabelled = go wanted_or_refused
      where
        go : ((g : Labels) × Wanted P.values b g) ⊎ ((p : ℕ) × Refused P b p) → (p : ℕ) × Refused P b p
        go (inl (g, wanted)) = absurd (unlabelled g wanted.labelling)
        go (inr refused) = refused

-- Demand 3: of two books that agree in one part, each item has the same value of that part in both wanted labellings. Each book's values may have parts of their own;
-- this one has the same top in both.
module _ (P : Parts) (W : PartLaws P) (Q : Parts) (W' : PartLaws Q) {p : ℕ} (is_part : p < P.count) (is_part' : p < Q.count) (tops : P.top p ≡ Q.top p)
    {b : Book P.values.Val} {c : Book Q.values.Val} (inb : Inside b) (inc : Inside c) (agree : AgreeIn P Q p b c) where
  other_wanted : {g : ℕ → Q.values.Val} → Wanted Q.values c g → Wanted (part_values P p) (in_part P p b) (λ i. Q.part p (g i))
  other_wanted {g} y =
      wanted_moved (part_values P p) (turned agree.seen)
      (subst (λ (top : ℕ). Wanted (numbers top) (in_part Q p c) (λ i. Q.part p (g i))) (sym tops) (wanted_part Q W' c inc y p is_part'))

  pub one_part_alone : {f : ℕ → P.values.Val} {g : ℕ → Q.values.Val} → Wanted P.values b f → Wanted Q.values c g → (i : ℕ) → i < b.items
      → P.part p (f i) ≡ Q.part p (g i)
  one_part_alone x y = wanted_unique (part_values P p) (numbers_ordered (P.top p)) (in_part P p b) (wanted_part P W b inb x p is_part) (other_wanted y)
