-- The theorems of the second and the third demand, said of classes.
-- Assumes nothing.
use mathlib.Core.Path.{◌≡◌, refl}
use mathlib.Core.Logic.{◌⊎◌}
use Prim.Native.Nat.{ℕ, ◌<◌}
use Rattle.classes.specs.Parts.{part_count, part}
use Rattle.classes.specs.declared.Class.{Class}
use Rattle.meaning.specs.Rules.{Book, Inside}
use Rattle.meaning.specs.Labelling.{Labelling, Wanted, Minimal}
use Rattle.meaning.specs.Parts.{Refused, AgreeIn, in_part, part_values}
use Rattle.meaning.specs.Classes.{classes, class_parts, ClassesAgree}
use Rattle.meaning.proofs.Whole as whole
use Rattle.meaning.proofs.Classes.{class_laws, part_agree}

abbrev Labels : Type 0
Labels = ℕ → Class

module _ (b : Book Class) (inside : Inside b) where
  -- There is only one wanted labelling, and it is minimal in the sense of definition 2.2.
  pub wanted_unique : {f g : Labels} → Wanted classes b f → Wanted classes b g → (i : ℕ) → i < b.items → f i ≡ g i
  wanted_unique = whole.only_one_wanted class_parts class_laws b inside

  pub wanted_minimal : {f : Labels} → Wanted classes b f → Minimal classes b f
  wanted_minimal = whole.wanted_is_minimal class_parts class_laws b inside

  -- It exists whenever any labelling meets the rules.
  pub wanted_exists : {f : Labels} → Labelling classes b f → (g : Labels) × Wanted classes b g
  wanted_exists = whole.labelling_wanted class_parts class_laws b inside

  -- Least in every part, and wanted, are the same.
  pub wanted_in_parts : {f : Labels} → Wanted classes b f → (p : ℕ) → p < part_count → Wanted (part_values class_parts p) (in_part class_parts p b) (λ i. part p (f i))
  wanted_in_parts = whole.wanted_part class_parts class_laws b inside

  pub parts_wanted : (f : Labels) → Labelling classes b f → ((p : ℕ) → p < part_count → Wanted (part_values class_parts p) (in_part class_parts p b) (λ i. part p (f i))) → Wanted classes b f
  parts_wanted = whole.parts_wanted class_parts class_laws b inside

  -- A part is refused exactly if no labelling meets all rules, and only one part is.
  pub refused_unlabelled : {p : ℕ} → Refused class_parts b p → {f : Labels} → Labelling classes b f → ⊥
  refused_unlabelled = whole.refused_none class_parts class_laws b inside

  pub unlabelled_refused : ((f : Labels) → Labelling classes b f → ⊥) → (p : ℕ) × Refused class_parts b p
  unlabelled_refused = whole.none_refused class_parts class_laws b inside

  pub refused_unique : {p q : ℕ} → Refused class_parts b p → Refused class_parts b q → p ≡ q
  refused_unique = whole.refused_unique class_parts class_laws b inside

  -- Every book has a wanted labelling or a refused part.
  pub wanted_or_refused : ((f : Labels) × Wanted classes b f) ⊎ ((p : ℕ) × Refused class_parts b p)
  wanted_or_refused = whole.wanted_or_refused class_parts class_laws b inside

-- Two books that agree in one part: if both can be labelled, then each item has that mark in both wanted labellings or in neither. The level, taken in the place of
-- the mark, obeys the same.
pub one_part_alone : {b c : Book Class} → Inside b → Inside c → {p : ℕ} → p < part_count → AgreeIn class_parts class_parts p b c → {f g : Labels} → Wanted classes b f
    → Wanted classes c g → (i : ℕ) → i < b.items → ClassesAgree p (f i) (g i)
one_part_alone inb inc {p} is_part agree {f} {g} x y i s =
    part_agree p (f i) (g i) (whole.one_part_alone class_parts class_laws class_parts class_laws is_part is_part refl inb inc agree x y i s)
