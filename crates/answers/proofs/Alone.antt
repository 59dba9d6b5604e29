-- Demand 3, of the labelling program: two rulebooks that differ only in the classes written there, and agree in those on one mark or on the level. If labels are printed for
-- both, each item has that mark in both or in neither, or the same level. What is printed is labels or a refusal. It rests on the theorem about books, and on what is
-- read being right.
-- Assumes nothing.
use mathlib.Core.Path.{◌≡◌, refl, sym, subst}
use mathlib.Core.List.{List, [], ◌∷◌}
use Prim.Native.Nat.{ℕ, ◌<◌}
use lib.ListN.{length, take}
use Rattle.std.specs.Prelude.{Ok}
use Rattle.laws.proofs.Buffers.{front_over}
use Rattle.classes.specs.Parts.{part_count}
use Rattle.meaning.specs.Classes.{ClassesAgree}
use Rattle.meaning.proofs.Demands.{one_part_alone}
use Rattle.refusals.specs.Said.{Said, success, refused}
use Rattle.labels.specs.Labels.{labels_in}
use Rattle.rules.specs.declared.Head.{Head}
use Rattle.rules.proofs.Agreeing.{tables_agree}
use Rattle.accepts.proofs.Inside.{table_inside}
use Rattle.reader.specs.Agreeing.{TextsAgree}
use Rattle.reader.specs.Reading.{read_text, read_whole}
use Rattle.reader.proofs.Agreeing.{texts_agree}
use Rattle.reader.proofs.Books.{read_tables}
use Rattle.writer.specs.Writing.{said_written}
use Rattle.answers.specs.Answering.{no_labelling, BookPrints, unlabelled, labelled, AnswerSays, unread, book, PrintsLabels, Printed, refusal, labelling, RoutineSays, no_room, written}

pub answer_one_part_alone : {l m x y : List ℕ} {h k : Head} {levels marks levels' marks' : List ℕ} {p : ℕ} → p < part_count → TextsAgree p l m
    → PrintsLabels l x h levels marks → PrintsLabels m y k levels' marks'
    → (i : ℕ) → i < h.items → ClassesAgree p (labels_in levels marks i) (labels_in levels' marks' i)
answer_one_part_alone {l} {m} is_part agree a b =
    one_part_alone (table_inside (read_tables l a.whole).rules) (table_inside (read_tables m b.whole).rules) is_part
    (tables_agree (texts_agree agree a.whole b.whole)) a.wanted b.wanted

-- What is printed is labels or a refusal.
pub answer_printed : {l x : List ℕ} → AnswerSays l x → Printed l x
answer_printed (unread {r} e) = refusal r refl
answer_printed {l} (book {h} e prints) = printed prints e
  where
    printed : {x : List ℕ} → BookPrints h (read_text l).names (read_text l).words x → read_whole l ≡ Ok h → Printed l x
    printed (unlabelled {p} x) e = refusal (no_labelling p) refl
    printed (labelled levels marks x) e = labelling h levels marks (record { whole = e; wanted = x; text = refl })

-- What the routine writes is that text.
abbrev Wrote : List ℕ → Said → List ℕ → Type 0
Wrote l (success c []) out' = Unit
Wrote l (success c (n ∷ _)) out' = AnswerSays l (take n out')
Wrote l (refused n p) out' = Unit

wrote : {l out : List ℕ} {s : Said} {out' : List ℕ} → RoutineSays l out s out' → Wrote l s out'
wrote (no_room a s) = tt
wrote {l} {out} (written {x} a s) = subst (AnswerSays l) (sym (front_over out x (length x) refl s)) a

pub written_printed : {l out out' : List ℕ} {n : ℕ} → RoutineSays l out (said_written (Ok n)) out' → Printed l (take n out')
written_printed says = answer_printed (wrote says)
