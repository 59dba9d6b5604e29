-- A sweep pushes every rule once, in either order, and settling sweeps until nothing changes: what stays true of the labels meanwhile, in every
-- part, and what is true at the end.
-- Assumes nothing.
use mathlib.Core.Path.{◌≡◌, refl, sym, ◌∙◌, subst}
use mathlib.Core.Bool.{Bool, true, false, ◌||◌, true≢false, false≢true}
use mathlib.Core.List.{List}
use Prim.Native.Nat.{ℕ, ◌+◌, ◌-◌, ◌≤◌, ◌<◌}
use native.Mathlib.Nat.{not-suc-le-zero}
use native.Mathlib.Omega.{arith}
use borrow.Author.Count.{below_more}
use Rattle.classes.specs.Parts.{part_count, top_of}
use Rattle.classes.specs.declared.Class.{Class}
use Rattle.meaning.specs.Rules.{Inside}
use Rattle.meaning.specs.InnerGreatest.{MetDown, Between}
use Rattle.meaning.specs.Classes.{classes, class_parts}
use Rattle.meaning.proofs.Settle.{between_start, between_push, between_trans, between_met}
use Rattle.meaning.proofs.Lowering.{numbers_lattice}
use Rattle.meaning.proofs.Whole.{inside_part, pushed_part, met_down_part}
use Rattle.meaning.proofs.Classes.{class_laws}
use Rattle.labels.specs.Labels.{listed}
use Rattle.rules.specs.declared.Head.{Head}
use Rattle.rules.specs.Table.{book_of}
use Rattle.solver.specs.InnerSteps.{book_in, values_in, labels_at, meant_at, Usable, Named, sum_of, Tracks, PushesRule, sweep_turn, Sweeps, Unheld, Settles}
use Rattle.solver.proofs.OneItem.{tracks_same}

-- The turns of a sweep: each is a rule, and each rule has its turn.
pub turn_back : (b : Bool) (m k : ℕ) → b ≡ true → m - 1 - k ≡ sweep_turn b m k
turn_back b m k e = subst (λ x. m - 1 - k ≡ sweep_turn x m k) (sym e) (omega arith)

turn_below : (b : Bool) (m k : ℕ) → k < m → sweep_turn b m k < m
turn_below false m k s = s
turn_below true m k s = omega arith

turn_again : (b : Bool) (m r : ℕ) → r < m → sweep_turn b m (sweep_turn b m r) ≡ r
turn_again false m r s = refl
turn_again true m r s = omega arith

pub usable_inside : {h : Head} {t : List ℕ} → Usable h t → (p : ℕ) → Inside (book_in p h t)
usable_inside {h} {t} usable p = inside_part class_parts class_laws (book_of h t) usable.inside p

-- Changes one after the other.
pub tracks_trans : {a b c : List Class} (x y : Bool) → Tracks a b x → Tracks b c y → Tracks a c (x || y)
tracks_trans false false p q = record { same = λ e. q.same refl ∙ p.same refl; falls = λ e. absurd (false≢true e) }
tracks_trans {a} {b} {c} false true p q = record { same = λ e. absurd (true≢false e); falls = λ e. subst (λ z. sum_of c < sum_of z) (p.same refl) (q.falls refl) }
tracks_trans {a} {b} {c} true false p q = record { same = λ e. absurd (true≢false e); falls = λ e. subst (λ z. sum_of z < sum_of a) (sym (q.same refl)) (p.falls refl) }
tracks_trans true true p q = record { same = λ e. absurd (true≢false e); falls = λ e. omega (arith, p.falls refl, q.falls refl) }

or_left : (x y : Bool) → (x || y) ≡ false → x ≡ false
or_left false y e = refl
or_left true y e = e

or_right : (x y : Bool) → (x || y) ≡ false → y ≡ false
or_right false y e = e
or_right true y e = absurd (true≢false e)

-- A push of rule r, seen in part p.
part_push : (h : Head) (t : List ℕ) → Inside (book_of h t) → (p : ℕ) → p < part_count → (before : List Class) {cur next : List Class} {b : Bool}
    → Between (values_in p) (book_in p h t) (labels_at p before) (labels_at p cur) → (r : ℕ) → r < h.rules → PushesRule (meant_at t r) cur next b
    → Between (values_in p) (book_in p h t) (labels_at p before) (labels_at p next)
unfolding numbers_lattice
part_push h t inside p s before {cur} {next} w r l x =
    between_push (values_in p) (numbers_lattice (top_of p)) (inside_part class_parts class_laws (book_of h t) inside p) w r l
    (pushed_part class_parts class_laws h.items (meant_at t r) (listed cur) (listed next) (x.pushed h.items) p s)

-- After k turns of a sweep.
pub record Swept (h : Head) (t : List ℕ) (back : Bool) (before cur : List Class) (changed : Bool) (k : ℕ) : Type 0 where
  pub between : (p : ℕ) → p < part_count → Between (values_in p) (book_in p h t) (labels_at p before) (labels_at p cur)
  pub met : changed ≡ false → (j : ℕ) → j < k → MetDown classes (meant_at t (sweep_turn back h.rules j)) (listed cur)
  pub tracks : Tracks before cur changed

pub swept_none : {h : Head} {t : List ℕ} {back : Bool} {before : List Class} → Swept h t back before before false 0
swept_none {before = before} = record {
  between = λ p s. between_start (values_in p) (numbers_lattice (top_of p)) _ _;
  met = λ e j l. absurd (not-suc-le-zero l);
  tracks = tracks_same before;
}

module _ {h : Head} {t : List ℕ} {back : Bool} {before cur : List Class} {changed : Bool} {k r : ℕ} (usable : Usable h t) (l : k < h.rules)
    (w : Swept h t back before cur changed k) (e : r ≡ sweep_turn back h.rules k) where
  rule_below : r < h.rules
  rule_below = subst (λ z. z < h.rules) (sym e) (turn_below back h.rules k l)

  -- What the next push requires, and what is true after it.
  pub turn_named : Named (meant_at t r)
  turn_named = record { count = h.items; inside = usable.inside.inside r rule_below; size = usable.size }

  pub swept_more : {next : List Class} {fell : Bool} → PushesRule (meant_at t r) cur next fell
      → Swept h t back before next (changed || fell) (k + 1)
  swept_more {next} {fell} x = record {
    between = λ p s. part_push h t usable.inside p s before (w.between p s) r rule_below x;
    met = λ quiet. below_more _ _
        (λ j s. move quiet j (w.met (or_left changed fell quiet) j s))
        (move quiet k (subst (λ z. MetDown classes (meant_at t z) (listed cur)) e (x.met (or_right changed fell quiet))));
    tracks = tracks_trans changed fell w.tracks x.tracks;
  }
    where
      move : (changed || fell) ≡ false → (j : ℕ) → MetDown classes (meant_at t (sweep_turn back h.rules j)) (listed cur)
          → MetDown classes (meant_at t (sweep_turn back h.rules j)) (listed next)
      move quiet j m =
          subst (λ b. MetDown classes (meant_at t (sweep_turn back h.rules j)) (listed b)) (sym (x.tracks.same (or_right changed fell quiet))) m

pub swept_all : {h : Head} {t : List ℕ} {back : Bool} {before cur : List Class} {changed : Bool} {k : ℕ} → Swept h t back before cur changed k → h.rules ≤ k
    → Sweeps h t before cur changed
swept_all {h} {t} {back} {before} {cur} w all = record {
  between = w.between;
  met = λ e r s.
      subst (λ z. MetDown classes (meant_at t z) (listed cur)) (turn_again back h.rules r s)
      (w.met e (sweep_turn back h.rules r) (omega (arith, turn_below back h.rules r s)));
  tracks = w.tracks;
}

-- Between two sweeps, and at the end.
pub record Settling (h : Head) (t : List ℕ) (before cur : List Class) : Type 0 where
  pub between : (p : ℕ) → p < part_count → Between (values_in p) (book_in p h t) (labels_at p before) (labels_at p cur)

pub settling_none : {h : Head} {t : List ℕ} {before : List Class} → Settling h t before before
settling_none {before = before} = record { between = λ p s. between_start (values_in p) (numbers_lattice (top_of p)) _ _ }

module _ {h : Head} {t : List ℕ} {before cur next : List Class} {changed : Bool} (w : Settling h t before cur) (x : Sweeps h t cur next changed) where
  pub settling_more : Settling h t before next
  settling_more = record {
    between = λ p s. between_trans (values_in p) (numbers_lattice (top_of p)) (w.between p s) (x.between p s);
  }

  pub settling_less : changed ≡ true → sum_of next < sum_of cur
  settling_less e = x.tracks.falls e

  pub settling_end : changed ≡ false → {c : Class} → Unheld h t next c → Settles h t before next c
  settling_end quiet floors = record {
    greatest = λ p s.
        between_met (values_in p) (numbers_lattice (top_of p))
        (between_trans (values_in p) (numbers_lattice (top_of p)) (w.between p s) (x.between p s))
        (λ r l. met_down_part class_parts class_laws (meant_at t r) (listed next) (x.met quiet r l) p s);
    floors = floors;
  }
