-- Classes have parts as the argument asks, so that every theorem about values with parts is one about classes.
-- Assumes nothing.
use mathlib.Core.Path.{◌≡◌, sym, ◌∙◌}
use mathlib.Core.Bool.{Bool, ◌&&◌}
use Prim.Native.Nat.{ℕ, zero, suc, ◌^◌}
use native.Mathlib.Decide.{ℕ_discrete}
use native.Mathlib.Omega.{arith}
use lib.Dec.{T, leb, ltb, leb→le, ltb→lt}
use Rattle.classes.specs.Class.{IsClass, common_of}
use Rattle.classes.specs.Parts.{part, from_parts}
use Rattle.classes.specs.declared.Class.{Class}
use Rattle.classes.proofs.Bits.{bit_small}
use Rattle.classes.proofs.Parts.{covers_parts, parts_cover, join_parts, common_parts, lowest_parts, part_top, from_parts_part, from_parts_class, parts_ext, class_discrete}
use Rattle.meaning.specs.Classes.{class_parts, ClassesAgree}
use Rattle.meaning.proofs.PartLaws.{PartLaws}
use Rattle.meaning.proofs.Search.{and_left, and_right}

abbrev pub class_laws : PartLaws class_parts
class_laws = record {
  discrete = class_discrete;
  below_parts = λ x y h p s. covers_parts h p s;
  parts_below = λ x y h. parts_cover h;
  join_parts = join_parts;
  common = common_of;
  common_parts = common_parts;
  lowest_parts = lowest_parts;
  part_top = λ x is p s. part_top is p s;
  same_parts = λ x y is it h. parts_ext is it h;
  make = from_parts;
  make_is = from_parts_class;
  make_part = from_parts_part;
}

-- Classes agree in a part exactly if they have the same value there.
pub agree_part : (p : ℕ) (x y : Class) → ClassesAgree p x y → part p x ≡ part p y
unfolding part
agree_part zero x y e = e
agree_part (suc k) x y e = go (ℕ_discrete (part (suc k) x) 1) (ℕ_discrete (part (suc k) y) 1)
  where
    go : Dec (part (suc k) x ≡ 1) → Dec (part (suc k) y ≡ 1) → part (suc k) x ≡ part (suc k) y
    go (yes a) b = a ∙ sym (e.0 a)
    go (no a) (yes b) = absurd (a (e.1 b))
    go (no a) (no b) = omega (arith, bit_small k x.marks, bit_small k y.marks)

pub part_agree : (p : ℕ) (x y : Class) → part p x ≡ part p y → ClassesAgree p x y
unfolding part
part_agree zero x y e = e
part_agree (suc k) x y e = ((λ a. sym e ∙ a), (λ a. e ∙ a))

-- whether a level and marks are a class
unfoldable pub is_classb : Class → Bool
is_classb x = leb x.level 15 && ltb x.marks (2 ^ 64)

pub is_classb_holds : (x : Class) → T (is_classb x) → IsClass x
unfolding is_classb
is_classb_holds x t = record {
  level = leb→le x.level 15 (and_left (leb x.level 15) _ t);
  marks = ltb→lt x.marks (2 ^ 64) (and_right (leb x.level 15) _ t);
}
