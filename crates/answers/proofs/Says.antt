-- What each function answers, one law for each answer that the code can give. They rest on the promises of assigning, writing and putting.
-- Assumes nothing.
use mathlib.Core.Path.{◌≡◌, refl, sym, subst, ◌∙◌}
use mathlib.Core.List.{List, [], ◌∷◌}
use Prim.Native.Nat.{ℕ, ◌*◌, ◌≤◌}
use native.Mathlib.Nat.{zero-add}
use native.Mathlib.Omega.{arith}
use lib.ListN.{length, take}
use lib.Seq.{length-take-le}
use Rattle.std.specs.Prelude.{Option, Some, IsSome, Result, Ok, Err, IsOk}
use Rattle.std.specs.Option.{ok_or}
use Rattle.laws.proofs.First.{first_not_all}
use Rattle.laws.proofs.Buffers.{front_over}
use Rattle.laws.proofs.Over.{over_length}
use Rattle.refusals.specs.Sizes.{most_items}
use Rattle.refusals.specs.Said.{Said, success}
use Rattle.refusals.specs.declared.Fault.{Fault}
use Rattle.refusals.specs.declared.Refusal.{Refusal}
use Rattle.items.specs.Names.{name_room}
use Rattle.rules.specs.declared.Head.{Head}
use Rattle.puts.specs.Writing.{Put}
use Rattle.puts.specs.InnerGrowing.{Grown, whole, full, Front}
use Rattle.puts.proofs.Placed.{put_untouched}
use Rattle.puts.proofs.Growing.{put_grown, grown_front, grown_some}
use Rattle.solver.specs.Solving.{held}
use Rattle.writer.specs.Texts.{labels_text}
use Rattle.writer.specs.Writing as writing
use Rattle.writer.specs.Writing.{said_written, LabelsSays, bad_items, few_labels, bad_label, short_buffer}
use Rattle.writer.proofs.Lengths.{labels_short}
use Rattle.writer.proofs.Unique.{written_told}
use Rattle.assign.specs.Assigning.{said_assigned, lent, AssignSays}
use Rattle.assign.proofs.Labelled.{levels_in_range}
use Rattle.answers.specs.Answering.{refusal_text, AnswerSays, RoutineSays, no_room, written}
use Rattle.answers.specs.Inner.{Whole, PrintReady, FrontWith}
use Rattle.answers.proofs.Short.{refusal_short}
use Rattle.answers.proofs.Told.{told_by, labels_printed}

-- Right labels are written, whatever the buffer held.
module _ {t : List ℕ} {n : ℕ} {levels marks d : List ℕ} (ready : PrintReady t n levels marks d) where
  short : length (labels_text t n levels marks) ≤ length d
  short = omega (arith, ready.buffer.size, labels_short levels marks ready.labels.items ready.labels.range)

  abbrev Wrote : List ℕ → Said → Type 0
  Wrote d' s = (s ≡ success 0 (length (labels_text t n levels marks) ∷ [])) × Front (labels_text t n levels marks) d' (length (labels_text t n levels marks))

  wrote : {s : Said} {d' : List ℕ} → LabelsSays t n levels marks d s d' → Wrote d' s
  wrote (bad_items bad) = absurd (bad ready.labels.items)
  wrote (few_labels ok few) = absurd (few ready.labels.room)
  wrote (bad_label ok room bad) = absurd (first_not_all bad ready.labels.range)
  wrote (short_buffer ok h) = absurd (omega (arith, short))
  wrote (writing.labelled ok h) = (
    refl,
    record {
      within = omega (arith, short, over_length d 0 (labels_text t n levels marks) (omega (arith, short)));
      len = refl;
      text = front_over d (labels_text t n levels marks) (length (labels_text t n levels marks)) refl short;
    },
  )

  module _ (a : Result ℕ Refusal) {d' : List ℕ} (says : LabelsSays t n levels marks d (said_written a) d') where
    answer_is : a ≡ Ok (length (labels_text t n levels marks))
    answer_is = written_told (wrote says).0

    pub labels_written : {k : ℕ} → a ≡ Ok k → Front (labels_text t n levels marks) d' k
    labels_written {k} e = let same : length (labels_text t n levels marks) ≡ k = (let both = sym answer_is ∙ e in cc) in subst (Front (labels_text t n levels marks) d') same (wrote says).1

    pub labels_ok : IsOk a
    labels_ok = rw answer_is refl

-- What was assigned, into buffers with room for every book.
module _ {l items levels marks : List ℕ} {a : Result Head Refusal} {items' levels' marks' : List ℕ}
    (says : AssignSays l (lent items (held levels marks)) (said_assigned a) (lent items' (held levels' marks'))) (bytes : length items ≡ most_items * name_room)
    (many : length levels ≡ most_items) (much : length marks ≡ most_items) where
  pub labels_ready : {h : Head} → a ≡ Ok h → {d : List ℕ} → Whole d → PrintReady items' h.items levels' marks' d
  labels_ready e size =
      let x = told_by says (record { items = bytes; levels = many; marks = much }) e in
      record {
        labels = record { items = x.items; room = x.room; range = levels_in_range x };
        buffer = size;
      }

  pub answer_labelled : {h : Head} → a ≡ Ok h → {d : List ℕ} {r : ℕ} → Front (labels_text items' h.items levels' marks') d r
      → FrontWith (AnswerSays l) d r
  answer_labelled e front = record {
    holds = rw front.text (labels_printed (told_by says (record { items = bytes; levels = many; marks = much }) e));
    within = front.within;
  }

  pub answer_refused : {refusal : Refusal} → a ≡ Err refusal → {d : List ℕ} {r : ℕ} → Front (refusal_text refusal) d r → FrontWith (AnswerSays l) d r
  answer_refused e front = record {
    holds = rw front.text (told_by says (record { items = bytes; levels = many; marks = much }) e);
    within = front.within;
  }

-- The four lines of a refusal, which always have room.
module _ (refusal : Refusal) {d : List ℕ} (size : Whole d) {d' : List ℕ} {o : Option ℕ} (g : Grown d 0 (refusal_text refusal) d' o) where
  pub refusal_some : IsSome o
  refusal_some = grown_some g (omega (arith, size.size, refusal_short refusal))

  pub refusal_front : {k : ℕ} → o ≡ Some k → Front (refusal_text refusal) d' k
  refusal_front some = grown_front (rw some at g)

-- The answer, copied out, with the refusal e where there is no room.
pub routine_says : {l d : List ℕ} {n : ℕ} → FrontWith (AnswerSays l) d n → {out out' : List ℕ} {o : Option ℕ} → Put out 0 (take n d) out' o
    → RoutineSays l out (said_written (ok_or o (record { fault = Fault.NoRoom; place = 0 }))) out'
routine_says {l} {d} {n} front {out} {out'} {o} put = by put (put_grown put)
  where
    long : length (take n d) ≡ n
    long = length-take-le n d front.within

    by : {out' : List ℕ} {o : Option ℕ} → Put out 0 (take n d) out' o → Grown out 0 (take n d) out' o
        → RoutineSays l out (said_written (ok_or o (record { fault = Fault.NoRoom; place = 0 }))) out'
    by put (whole room) = rw zero-add (written front.holds (omega arith))
    by put (full s h) = rw (put_untouched put h) (no_room front.holds (omega arith))
