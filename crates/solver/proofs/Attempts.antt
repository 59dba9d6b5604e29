-- One attempt at lowering an item: it takes the labels one item further in each part in which the floors hold, and leaves them as they were in
-- each in which they fail.
-- Assumes nothing.
use mathlib.Core.Path.{◌≡◌, refl, sym, ap, subst}
use mathlib.Core.Bool.{true, false, true≢false, false≢true}
use mathlib.Core.List.{List}
use Prim.Native.Nat.{ℕ, suc, ◌≤◌, ◌<◌}
use native.Mathlib.Decide.{ℕ_discrete, dec_lt}
use native.Mathlib.Nat.{not-suc-le-zero}
use native.Mathlib.Omega.{arith}
use lib.ListN.{length}
use Rattle.classes.specs.Bits.{bit}
use Rattle.classes.specs.Class.{top_level, class_of}
use Rattle.classes.specs.Parts.{part_count, part, top_of}
use Rattle.classes.specs.declared.Class.{Class}
use Rattle.classes.proofs.Bits.{bit_small, bit_of_zero}
use Rattle.meaning.specs.Rules.{Book, Inside}
use Rattle.refusals.specs.Sizes.{most_items}
use Rattle.labels.specs.Labels.{listed}
use Rattle.meaning.specs.Values.{numbers}
use Rattle.meaning.specs.InnerGreatest.{HeldUp, Greatest, Placed}
use Rattle.meaning.specs.InnerLowered.{Lowered, NoneLess}
use Rattle.meaning.proofs.Same.{lowered_same}
use Rattle.meaning.proofs.Lowering.{attempt_fails, lowered_step, lowered_stays}
use Rattle.rules.specs.declared.Head.{Head}
use Rattle.solver.specs.InnerSteps.{book_in, values_in, labels_at, Settles}
use Rattle.solver.specs.InnerLowers.{Chosen, placed_at, ItemUsable, LowersPart, TriesLevel}
use Rattle.solver.proofs.OneItem.{label_placed}
use Rattle.solver.proofs.Sweep.{usable_inside}

-- In one mark: the labels with item i at 0, settled, are taken if their floors hold; else none less than f is left.
module _ (b : Book ℕ) (inside : Inside b) (u : ℕ → ℕ) {f w g : ℕ → ℕ} {i : ℕ} (x : Lowered (numbers 1) b u i f) (s : i < b.items)
    (placed : Placed b.items f i 0 w) (y : Greatest (numbers 1) b w g) where
  mark_further : HeldUp (numbers 1) b g → Lowered (numbers 1) b u (suc i) g
  mark_further h = lowered_step 1 b inside u x s placed (omega arith) y h (record { never = λ k z below l. not-suc-le-zero l })

  mark_stays : (HeldUp (numbers 1) b g → ⊥) → Lowered (numbers 1) b u (suc i) f
  mark_stays fails =
      lowered_stays 1 b inside u x s
      (record { never = λ k z below l. (attempt_fails 1 b inside u placed y fails).never k z below (omega (arith, x.below.labelling.labels i s)) })

-- Labels that are a labelling have at item i no less than any labelling below them.
at_least : {top : ℕ} {b : Book ℕ} {u f : ℕ → ℕ} {i v : ℕ} → Lowered (numbers top) b u i f → NoneLess top b f i v → v ≤ f i
at_least {f = f} {i = i} {v = v} x less = pick (dec_lt (f i) v)
  where
    pick : Dec (f i < v) → v ≤ f i
    pick (yes l) = absurd (less.never f x.below.labelling (λ j s. omega arith) l)
    pick (no l) = omega arith

module _ {h : Head} {t : List ℕ} {i : ℕ} (before mid : List Class) (usable : ItemUsable h t i) (long : length before ≡ most_items) (v : ℕ) (w : Class)
    (settled : Settles h t (placed_at i v before) mid w) where
  inside : (p : ℕ) → Inside (book_in p h t)
  inside = usable_inside usable.usable

  placed : (p : ℕ) → Placed h.items (labels_at p before) i (part p (class_of v 0)) (labels_at p (placed_at i v before))
  placed p = record { here = ap (part p) here.here; other = λ j s ne. ap (part p) (here.other j s ne) }
    where
      here : Placed h.items (listed before) i (class_of v 0) (listed (placed_at i v before))
      here = label_placed before i (class_of v 0) (omega (arith, usable.item, usable.usable.size)) h.items

  greatest : (p : ℕ) → p < part_count → Greatest (values_in p) (book_in p h t) (labels_at p (placed_at i v before)) (labels_at p mid)
  greatest = settled.greatest

  cleared : (p : ℕ) → Placed h.items (labels_at (suc p) before) i 0 (labels_at (suc p) (placed_at i v before))
  unfolding part
  cleared p = subst (λ k. Placed h.items (labels_at (suc p) before) i k (labels_at (suc p) (placed_at i v before))) (bit_of_zero p) (placed (suc p))

  levelled : Placed h.items (labels_at 0 before) i v (labels_at 0 (placed_at i v before))
  unfolding part
  levelled = placed 0

  an_item : (j : ℕ) → j < h.items → j < most_items
  an_item j s = omega (arith, usable.usable.size)

  -- A labelling is left in the level: the marks that can go are gone, and the others are put back.
  module _ {after : List Class} (chosen : Chosen w.marks before mid after) where
    mark_tried : (p : ℕ) → p < 64 → Dec (bit p w.marks ≡ 0) → LowersPart (suc p) h t i (suc i) before after
    unfolding part top_of
    mark_tried p s (yes z) u y =
        lowered_same (numbers 1) (book_in (suc p) h t) (inside (suc p)) usable.item
        (λ j q. omega (arith, (chosen.each j (an_item j q)).bits p s, bit_small p (listed mid j).marks, bit_small p (listed before j).marks))
        (mark_further (book_in (suc p) h t) (inside (suc p)) u y usable.item (cleared p) (greatest (suc p) (omega arith))
        (settled.floors.held (suc p) (omega arith) z))
    mark_tried p s (no ne) u y =
        lowered_same (numbers 1) (book_in (suc p) h t) (inside (suc p)) usable.item
        (λ j q. omega (arith, (chosen.each j (an_item j q)).bits p s, bit_small p w.marks, bit_small p (listed mid j).marks, bit_small p (listed before j).marks))
        (mark_stays (book_in (suc p) h t) (inside (suc p)) u y usable.item (cleared p) (greatest (suc p) (omega arith))
        (λ z. ne (settled.floors.zero (suc p) (omega arith) z)))

    pub level_left : w.level ≡ 0 → TriesLevel h t i v before after true
    unfolding part top_of
    level_left none_short = record {
      marks = λ z p s. mark_tried p s (ℕ_discrete (bit p w.marks) 0);
      level = λ z less u y.
          lowered_same (numbers top_level) (book_in 0 h t) (inside 0) usable.item (λ j q. sym ((chosen.each j (an_item j q)).level))
          (lowered_step top_level (book_in 0 h t) (inside 0) u y usable.item levelled (at_least y less) (greatest 0 (omega arith))
          (settled.floors.held 0 (omega arith) none_short) less);
      stays = λ z. absurd (true≢false z);
      failed = λ z. absurd (true≢false z);
    }

  -- None is left, and the labels are as they were.
  pub level_failed : (w.level ≡ 0 → ⊥) → TriesLevel h t i v before before false
  unfolding part top_of
  level_failed short = record {
    marks = λ z. absurd (false≢true z);
    level = λ z. absurd (false≢true z);
    stays = λ z. refl;
    failed = λ z.
        attempt_fails top_level (book_in 0 h t) (inside 0) (λ j. top_level) levelled (greatest 0 (omega arith))
        (λ g. short (settled.floors.zero 0 (omega arith) g));
  }
