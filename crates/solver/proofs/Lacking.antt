-- Floors left unmet: what a class covers another lacks, part by part, and the join of that over all floors.
-- Assumes nothing.
use mathlib.Core.Path.{◌≡◌, refl, sym, ◌∙◌, ap, subst}
use mathlib.Core.Bool.{Bool, true, false, cond}
use mathlib.Core.List.{List}
use Prim.Native.Nat.{ℕ, zero, suc, ◌+◌, ◌-◌, ◌^◌, ◌≤◌, ◌<◌, min, max}
use native.Mathlib.Nat.{not-suc-le-zero}
use native.Mathlib.Omega.{arith}
use borrow.Author.Count.{below_more}
use lib.Bits.{bit_and}
use lib.Dec.{ltb}
use borrow.Author.Tests.{ltb-false, le-ltb}
use Rattle.classes.specs.Bits.{bit}
use Rattle.classes.specs.Class.{class_of, joined, lowest}
use Rattle.classes.specs.Parts.{part_count, part}
use Rattle.classes.specs.declared.Class.{Class}
use Rattle.classes.proofs.Bits.{bit_small, bit-bit_and, bit_not}
use Rattle.classes.proofs.Parts.{join_parts, lowest_parts}
use Rattle.meaning.specs.Rules.{map_rule, join_over}
use Rattle.meaning.specs.InnerGreatest.{MetUp}
use Rattle.meaning.specs.Classes.{classes, class_parts}
use Rattle.meaning.proofs.Classes.{class_laws}
use Rattle.meaning.proofs.Whole.{joins_parts}
use Rattle.rules.specs.Record.{left_of, meaning_of}
use Rattle.rules.specs.Table.{rule_at}
use Rattle.rules.specs.declared.Head.{Head}
use Rattle.rules.specs.declared.Rule as table
use Rattle.rules.proofs.Meaning.{meaning_floor, meaning_other}
use Rattle.labels.specs.Labels.{listed}
use Rattle.solver.specs.InnerSteps.{values_in, labels_at, meant_at, Misses, Lacks, Unheld}

-- 1 if the level is short
abbrev pub short : Bool → ℕ
short b = cond b 1 0

pub missing_made : (x y w : Class) → x.marks < 2 ^ 64 → w ≡ class_of (short (ltb x.level y.level)) (bit_and y.marks (2 ^ 64 - 1 - x.marks)) → Misses x y w
unfolding part
missing_made x y w h e = record { none = none; zero = zeros }
  where
    outside : (k : ℕ) → k < 64 → bit k w.marks ≡ min (bit k y.marks) (1 - bit k x.marks)
    outside k t = ap (λ (c : Class). bit k c.marks) e ∙ bit-bit_and k y.marks (2 ^ 64 - 1 - x.marks) ∙ rw (bit_not 64 k x.marks t h)

    level : w.level ≡ short (ltb x.level y.level)
    level = ap (λ (c : Class). c.level) e

    none : (p : ℕ) → p < part_count → part p w ≡ 0 → part p y ≤ part p x
    none zero t z = not_short (ltb x.level y.level) refl
      where
        not_short : (b : Bool) → ltb x.level y.level ≡ b → y.level ≤ x.level
        not_short true f = absurd (omega (arith, level, ap short f))
        not_short false f = ltb-false _ _ f
    none (suc k) t z = omega (arith, outside k (omega arith), bit_small k y.marks, bit_small k x.marks)

    zeros : (p : ℕ) → p < part_count → part p y ≤ part p x → part p w ≡ 0
    zeros zero t z = level ∙ ap short (le-ltb _ _ z)
    zeros (suc k) t z = omega (arith, outside k (omega arith), bit_small k y.marks, bit_small k x.marks)

-- A floor lacks what the join of its left labels misses of its class; any other rule lacks nothing.
module _ (t : List ℕ) (r : ℕ) (x : table.Rule) (same : x ≡ rule_at t r) (b : List Class) where
  pub lacks_floor : x.kind ≡ 1 → (j : Class) → j ≡ join_over classes (left_of x) (listed b) → {w : Class} → Misses j x.class w → Lacks (meant_at t r) b w
  lacks_floor e j f {w} m =
      subst (λ k. Lacks k b w) (sym (meaning_floor x e) ∙ ap meaning_of same)
      (record {
        met = λ p s z. subst (λ k. part p x.class ≤ k) (in_part p s) (m.none p s z);
        zero = λ p s h. m.zero p s (subst (λ k. part p x.class ≤ k) (sym (in_part p s)) h);
      })
    where
      in_part : (p : ℕ) → p < part_count → part p j ≡ join_over (values_in p) (left_of x) (labels_at p b)
      in_part p s = ap (part p) f ∙ joins_parts class_parts class_laws p s (left_of x).count (λ k. listed b ((left_of x).item k))

  pub lacks_nothing : (x.kind ≡ 1 → ⊥) → Lacks (meant_at t r) b lowest
  lacks_nothing ne =
      subst (λ k. Lacks k b lowest) (ap meaning_of same)
      (record {
        met = λ p s z. meaning_other (λ k. MetUp (values_in p) (map_rule (part p) k) (labels_at p b)) x ne (λ i v. tt) (λ l i. tt);
        zero = λ p s h. lowest_parts p s;
      })

-- The first k rules.
pub record LacksBefore (t : List ℕ) (b : List Class) (k : ℕ) (w : Class) : Type 0 where
  pub met : (p : ℕ) → p < part_count → part p w ≡ 0 → (q : ℕ) → q < k → MetUp (values_in p) (map_rule (part p) (meant_at t q)) (labels_at p b)
  pub zero : (p : ℕ) → p < part_count → ((q : ℕ) → q < k → MetUp (values_in p) (map_rule (part p) (meant_at t q)) (labels_at p b)) → part p w ≡ 0

pub lacks_none : {t : List ℕ} {b : List Class} → LacksBefore t b 0 lowest
lacks_none = record { met = λ p s z q l. absurd (not-suc-le-zero l); zero = λ p s h. lowest_parts p s }

pub lacks_more : {t : List ℕ} {b : List Class} {k : ℕ} {a c d : Class} → LacksBefore t b k a → Lacks (meant_at t k) b c → d ≡ joined a c → LacksBefore t b (k + 1) d
lacks_more {t} {b} {k} {a} {c} {d} w x e = record {
  met = λ p s z. below_more _ _ (w.met p s (omega (arith, both p s))) (x.met p s (omega (arith, both p s)));
  zero = λ p s h. omega (arith, both p s, w.zero p s (λ q l. h q (omega arith)), x.zero p s (h k (omega arith)));
}
  where
    both : (p : ℕ) → p < part_count → part p d ≡ max (part p a) (part p c)
    both p s = ap (part p) e ∙ join_parts a c p s

pub lacks_all : {h : Head} {t : List ℕ} {b : List Class} {k : ℕ} {w : Class} → LacksBefore t b k w → k ≤ h.rules → h.rules ≤ k → Unheld h t b w
lacks_all x below all = record {
  held = λ p s z. record { floors = λ r l. x.met p s z r (omega arith) };
  zero = λ p s h. x.zero p s (λ q l. h.floors q (omega arith));
}
