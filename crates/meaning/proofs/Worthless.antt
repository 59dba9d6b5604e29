-- The four worthless solvers of docs/RULES.md. What each would answer on a book of the table is not what the definitions allow.
-- Assumes nothing.
use mathlib.Core.Path.{ap}
use Prim.Native.Nat.{ℕ, zero, suc}
use native.Mathlib.Omega.{arith}
use Rattle.classes.specs.Class.{class_of, lowest, highest}
use Rattle.laws.specs.Every.{every_below}
use Rattle.classes.specs.declared.Class.{Class}
use Rattle.meaning.specs.Rules.{Inside}
use Rattle.meaning.specs.Labelling.{Wanted}
use Rattle.meaning.specs.Parts.{Refused}
use Rattle.meaning.specs.Classes.{classes, class_parts}
use Rattle.meaning.specs.Examples.{Right, p3, p4}
use Rattle.meaning.proofs.Trial.{leftb, ruleb, insideb, insideb_holds}
use Rattle.meaning.proofs.Examples.{examples_right}
use Rattle.meaning.proofs.Demands.{wanted_unique, refused_unlabelled}

inside_p3 : Inside p3.book
unfolding insideb every_below ruleb leftb
inside_p3 = insideb_holds p3.book tt

inside_p4 : Inside p4.book
unfolding insideb every_below ruleb leftb
inside_p4 = insideb_holds p4.book tt

right_p3 : Right p3.book p3.answer
right_p3 = examples_right 2 (omega arith)

right_p4 : Right p4.book p4.answer
right_p4 = examples_right 3 (omega arith)

-- One that refuses every book: P3 is refused at no part.
pub refuses_every_book : (p : ℕ) → Refused class_parts p3.book p → ⊥
refuses_every_book p x = refused_unlabelled p3.book inside_p3 x right_p3.1.labelling

-- One that always answers the highest class: in P3 the first item is strictly below it.
pub always_highest : Wanted classes p3.book (λ i. highest) → ⊥
always_highest x = omega (arith, ap (λ (k : Class). k.level) (wanted_unique p3.book inside_p3 right_p3.1 x 0 (omega arith)))

-- One that writes no labels: zeros stay where P3 wants level 1 at the second item.
pub writes_no_labels : Wanted classes p3.book (λ i. lowest) → ⊥
writes_no_labels x = omega (arith, ap (λ (k : Class). k.level) (wanted_unique p3.book inside_p3 right_p3.1 x 1 (omega arith)))

-- One that lowers the first item and merely copies the rest: in P4 the second item stays at the highest class.
abbrev first_lowered : ℕ → Class
first_lowered zero = class_of 1 0
first_lowered (suc i) = highest

pub copies_the_rest : Wanted classes p4.book first_lowered → ⊥
copies_the_rest x = omega (arith, ap (λ (k : Class). k.level) (wanted_unique p4.book inside_p4 right_p4.1 x 1 (omega arith)))
