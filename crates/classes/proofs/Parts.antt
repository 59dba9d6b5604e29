-- The parts of a class: covering, join and common part are ≤, max and min in every part, the lowest and the highest class are the ends of every
-- part, and a class is what its parts are. Only these proofs open the parts; they rest on the laws of bits. Assumes nothing.
use mathlib.Core.Path.{◌≡◌, refl, ap, ap₂, ◌∙◌}
use Prim.Native.Nat.{ℕ, zero, suc, ◌≤◌, ◌<◌, min, max}
use native.Mathlib.Decide.{ℕ_discrete}
use native.Mathlib.Omega.{arith}
use Rattle.classes.specs.declared.Class.{Class}
use Rattle.classes.specs.Class.{class_of, IsClass, Covers, joined, common_of, lowest, highest}
use Rattle.classes.specs.Parts.{part_count, part, top_of, from_parts}
use Rattle.classes.proofs.Bits.{bit_small, bit_le, bit_of_zero, bit_not, bit_ext, bit_word, word_lt}

-- A class covers another exactly if it is at least the other in every part.
pub covers_parts : {x y : Class} → Covers x y → (p : ℕ) → p < part_count → part p y ≤ part p x
unfolding part
covers_parts v zero h = omega arith
covers_parts {x} {y} v (suc k) h = bit_le k y.marks x.marks (v.marks k (omega arith))

pub parts_cover : {x y : Class} → ((p : ℕ) → p < part_count → part p y ≤ part p x) → Covers x y
unfolding part
parts_cover {x} {y} f = record {
  level = omega (arith, f 0 (omega arith));
  marks = λ k h e. omega (arith, bit_small k x.marks, f (suc k) (omega arith));
}

-- The join is max in every part, and the common part min.
pub join_parts : (x y : Class) (p : ℕ) → p < part_count → part p (joined x y) ≡ max (part p x) (part p y)
unfolding part joined
join_parts x y zero h = refl
join_parts x y (suc k) h = bit_word 64 _ (λ j l. omega (arith, bit_small j x.marks, bit_small j y.marks)) k (omega arith)

pub common_parts : (x y : Class) (p : ℕ) → p < part_count → part p (common_of x y) ≡ min (part p x) (part p y)
unfolding part common_of
common_parts x y zero h = refl
common_parts x y (suc k) h = bit_word 64 _ (λ j l. omega (arith, bit_small j x.marks)) k (omega arith)

-- The lowest class is 0 in every part, the highest is the top of every part, and no class is over a part's top.
pub lowest_parts : (p : ℕ) → p < part_count → part p lowest ≡ 0
unfolding part
lowest_parts zero h = refl
lowest_parts (suc k) h = bit_of_zero k

pub highest_parts : (p : ℕ) → p < part_count → part p highest ≡ top_of p
unfolding part top_of
highest_parts zero h = omega arith
highest_parts (suc k) h = bit_not 64 k 0 (omega arith) (omega arith) ∙ omega (arith, bit_of_zero k)

pub part_top : {c : Class} → IsClass c → (p : ℕ) → p < part_count → part p c ≤ top_of p
unfolding part top_of
part_top s zero h = omega arith
part_top {c} s (suc k) h = omega (arith, bit_small k c.marks)

-- Any values up to the tops are the parts of a class, and of one class only.
pub from_parts_part : (f : ℕ → ℕ) → ((p : ℕ) → p < part_count → f p ≤ top_of p) → (p : ℕ) → p < part_count → part p (from_parts f) ≡ f p
unfolding part top_of from_parts
from_parts_part f t zero h = refl
from_parts_part f t (suc k) h = bit_word 64 _ (λ j l. omega (arith, t (suc j) (omega arith))) k (omega arith)

pub from_parts_class : (f : ℕ → ℕ) → ((p : ℕ) → p < part_count → f p ≤ top_of p) → IsClass (from_parts f)
unfolding top_of from_parts
from_parts_class f t = record {
  level = omega (arith, t 0 (omega arith));
  marks = word_lt 64 _ (λ j l. omega (arith, t (suc j) (omega arith)));
}

pub parts_ext : {x y : Class} → IsClass x → IsClass y → ((p : ℕ) → p < part_count → part p x ≡ part p y) → x ≡ y
unfolding part
parts_ext {x} {y} s t e =
    ap₂ class_of (e 0 (omega arith)) (bit_ext 64 x.marks y.marks s.marks t.marks (λ k l. e (suc k) (omega arith)))

-- Whether two classes are equal is decided by level and marks.
pub class_discrete : (x y : Class) → Dec (x ≡ y)
class_discrete x y = go (ℕ_discrete x.level y.level) (ℕ_discrete x.marks y.marks)
  where
    go : Dec (x.level ≡ y.level) → Dec (x.marks ≡ y.marks) → Dec (x ≡ y)
    go (yes l) (yes m) = yes (ap₂ class_of l m)
    go (yes l) (no m) = no (λ e. m (ap (λ (c : Class). c.marks) e))
    go (no l) m = no (λ e. l (ap (λ (c : Class). c.level) e))
