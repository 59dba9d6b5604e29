-- The twelve small books: one test over the whole table, which computes, and one law that makes of it what the table says of each entry.
-- Assumes nothing.
use mathlib.Core.Bool.{Bool, ◌&&◌}
use Prim.Native.Nat.{ℕ, ◌<◌}
use lib.Dec.{T, eqb, eqb→eq}
use lib.ListN.{length, get_or}
use Rattle.classes.specs.Bits.{bit}
use Rattle.laws.specs.Every.{every_below}
use Rattle.classes.specs.Parts.{part, top_of}
use Rattle.classes.specs.declared.Class.{Class}
use Rattle.meaning.specs.Rules.{Book}
use Rattle.meaning.specs.Classes.{class_parts}
use Rattle.meaning.specs.Examples.{Answer, labels, refused, Example, listed, Right, examples, p8}
use Rattle.meaning.proofs.Search.{every_at, failing, and_left, and_right}
use Rattle.meaning.proofs.Settle.{tabulate, total, met_downb, met_upb, push, settle, greatest_list, solvableb}
use Rattle.meaning.proofs.Lowering.{numbers_lattice}
use Rattle.meaning.proofs.Trial.{leftb, ruleb, insideb, ceiling, leastb, labelsb, meetsb, wanted_inb, wantedb, wantedb_holds, possibleb, refusedb, refusedb_holds}
use Rattle.meaning.proofs.Classes.{class_laws, is_classb, is_classb_holds}

-- whether an answer is the right one for a book
unfoldable rightb : Book Class → Answer → Bool
rightb b (labels l) = eqb (length l) b.items && wantedb class_parts class_laws is_classb is_classb_holds b (listed l)
rightb b (refused p) = refusedb class_parts class_laws is_classb is_classb_holds b p

rightb_holds : (b : Book Class) (a : Answer) → T (rightb b a) → Right b a
unfolding rightb
rightb_holds b (labels l) t = (eqb→eq (length l) b.items (and_left (eqb (length l) b.items) _ t), wantedb_holds class_parts class_laws is_classb is_classb_holds b (listed l) (and_right (eqb (length l) b.items) _ t))
rightb_holds b (refused p) t = refusedb_holds class_parts class_laws is_classb is_classb_holds b p t

abbrev pub example_at : ℕ → Example
example_at k = get_or examples k p8

examples_pass : T (every_below (length examples) (λ k. rightb (example_at k).book (example_at k).answer))
unfolding rightb every_below failing tabulate total met_downb met_upb push settle greatest_list solvableb numbers_lattice leftb ruleb insideb ceiling leastb labelsb meetsb wanted_inb wantedb possibleb refusedb is_classb bit part top_of
examples_pass = tt

-- Each of the twelve books gives what docs/RULES.md says.
pub examples_right : (k : ℕ) → k < length examples → Right (example_at k).book (example_at k).answer
examples_right k s = rightb_holds (example_at k).book (example_at k).answer (every_at (length examples) _ examples_pass k s)
