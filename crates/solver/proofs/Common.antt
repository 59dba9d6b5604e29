-- The common part of a label and a bound: the label itself where the bound covers it, and a smaller sum of level and mark word where it does not.
-- Assumes nothing.
use mathlib.Core.Path.{◌≡◌, refl, sym, ap, ap₂}
use Prim.Native.Nat.{◌+◌, ◌^◌, ◌≤◌, ◌<◌, min}
use native.Mathlib.Decide.{dec_lt}
use native.Mathlib.Omega.{arith}
use lib.Bits.{bit_and, and_le_l}
use Rattle.classes.specs.Bits.{bit}
use Rattle.classes.specs.Class.{class_of, Covers, common_of}
use Rattle.classes.specs.declared.Class.{Class}
use Rattle.classes.proofs.Bits.{bit_small, bit_le, bit-bit_and, word_bits, and_word}

pub common_covered : {x c : Class} → x.marks < 2 ^ 64 → Covers c x → common_of x c ≡ x
unfolding common_of
common_covered {x} {c} h v =
    ap₂ class_of (omega (arith, v.level))
    (sym (word_bits 64 x.marks _ h (λ k s. omega (arith, bit_le k x.marks c.marks (v.marks k s)))))

common_marks : (x c : Class) → x.marks < 2 ^ 64 → c.marks < 2 ^ 64 → (common_of x c).marks ≡ bit_and x.marks c.marks
unfolding common_of
common_marks x c h g = sym (and_word 64 x.marks c.marks h g)

common_level : (x c : Class) → (common_of x c).level ≡ min x.level c.level
unfolding common_of
common_level x c = refl

-- if neither level nor marks fall, the bound covers the label
kept_covered : (x c : Class) → x.level ≤ c.level → bit_and x.marks c.marks ≡ x.marks → Covers c x
kept_covered x c l e = record {
  level = l;
  marks = λ k s one. omega (arith, bit-bit_and k x.marks c.marks, ap (bit k) e, bit_small k c.marks);
}

pub common_falls : {x c : Class} → x.marks < 2 ^ 64 → c.marks < 2 ^ 64 → (Covers c x → ⊥) → (common_of x c).level + (common_of x c).marks < x.level + x.marks
common_falls {x} {c} h g uncovered = pick (dec_lt ((common_of x c).level + (common_of x c).marks) (x.level + x.marks))
  where
    pick : Dec ((common_of x c).level + (common_of x c).marks < x.level + x.marks) → (common_of x c).level + (common_of x c).marks < x.level + x.marks
    pick (yes l) = l
    pick (no n) =
        absurd
        (uncovered
        (kept_covered x c
        (omega (arith, common_level x c, common_marks x c h g, and_le_l x.marks c.marks))
        (omega (arith, common_level x c, common_marks x c h g, and_le_l x.marks c.marks))))
