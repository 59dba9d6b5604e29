-- What writing answers, one law for each answer that the code can give. They rest on the laws of growing text and of what a put leaves in a
-- buffer.
-- Assumes nothing.
use mathlib.Core.Path.{◌≡◌}
use mathlib.Core.List.{List}
use Prim.Native.Nat.{ℕ, ◌≤◌, ◌<◌}
use native.Mathlib.Nat.{zero-add}
use native.Mathlib.Omega.{arith}
use lib.ListN.{length, take, replicate, length-replicate}
use Rattle.std.specs.Prelude.{Option, Some, None, IsSome, Result, Err}
use Rattle.std.specs.Option.{ok_or}
use Rattle.laws.specs.First.{Sought}
use Rattle.refusals.specs.Said.{Said, said_refusal}
use Rattle.refusals.specs.Sizes.{most_text}
use Rattle.refusals.specs.declared.Fault.{Fault}
use Rattle.refusals.specs.declared.Refusal.{Refusal}
use Rattle.items.specs.Table.{ItemsOk}
use Rattle.labels.specs.Labels.{LevelInRange, Room}
use Rattle.rules.specs.declared.Head.{Head}
use Rattle.accepts.specs.Tables.{Tables}
use Rattle.puts.specs.Writing.{Put}
use Rattle.puts.specs.InnerGrowing.{Grown, whole, full, Front}
use Rattle.puts.proofs.Placed.{put_untouched}
use Rattle.puts.proofs.Growing.{put_grown, grown_front, grown_over, grown_some, grown_sized, front_counted}
use Rattle.writer.specs.Texts.{book_text, labels_text}
use Rattle.writer.specs.Writing.{said_written, WriteSays, bad_table, too_long, no_room, written}
use Rattle.writer.specs.Writing.{Labels, LabelsSays, bad_items, few_labels, bad_label, short_buffer, labelled}
use Rattle.writer.specs.InnerTexts.{CopySays, roomless, copied}
use Rattle.writer.proofs.Lengths.{labels_short}

-- The buffer in which a text is made, which has room for the longest.
abbrev pub blank : List ℕ
blank = replicate most_text 0

blank_size : length blank ≡ most_text
blank_size = length-replicate {A = ℕ} most_text 0

-- A text copied to the front of a buffer, with the refusal e where there is no room.
pub says_copy : {x out out' : List ℕ} {o : Option ℕ} {r : Refusal} → Put out 0 x out' o → r ≡ record { fault = Fault.NoRoom; place = 0 }
    → CopySays x out (said_written (ok_or o r)) out'
says_copy put e = by put (put_grown put) e
  where
    by : {x out out' : List ℕ} {o : Option ℕ} {r : Refusal} → Put out 0 x out' o → Grown out 0 x out' o → r ≡ record { fault = Fault.NoRoom; place = 0 }
        → CopySays x out (said_written (ok_or o r)) out'
    by put (whole room) e = rw zero-add (copied (omega arith))
    by put (full s h) e = rw (e, put_untouched put h) (roomless (omega arith))

-- What writing a rulebook answers.
module _ {h : Head} {t w : List ℕ} where
  pub says_bad_tables : (Tables h t w → ⊥) → {out : List ℕ} {r : Refusal} → r ≡ record { fault = Fault.BadTable; place = 0 } → WriteSays h t w out (said_refusal r) out
  says_bad_tables bad e = rw e (bad_table bad)

  module _ (tables : Tables h t w) {d : List ℕ} {o : Option ℕ} (g : Grown blank 0 (book_text h t w) d o) where
    pub says_too_long : o ≡ None → {out : List ℕ} {r e : Refusal} → r ≡ record { fault = Fault.TooLong; place = 0 } → Err e ≡ ok_or o r
        → WriteSays h t w out (said_refusal e) out
    says_too_long none {out} {r} {e} is value =
        let same : e ≡ r = (let both : ◌≡◌ {A = Result ℕ Refusal} (Err e) (Err r) = rw none at value in cc) in
        rw (same, is) (too_long tables (omega (arith, grown_over (rw none at g), blank_size)))

    module _ {n : ℕ} (some : o ≡ Some n) where
      front : Front (book_text h t w) d n
      front = grown_front (rw some at g)

      pub text_count : n ≡ length (take n d)
      text_count = front_counted front

      pub says_copied : {out : List ℕ} {s : Said} {out' : List ℕ} → CopySays (take n d) out s out' → WriteSays h t w out s out'
      says_copied copy = says (rw front.text at copy)
        where
          short : length (book_text h t w) ≤ most_text
          short = omega (arith, front.len, front.within, grown_sized g, blank_size)

          says : {out : List ℕ} {s : Said} {out' : List ℕ} → CopySays (book_text h t w) out s out' → WriteSays h t w out s out'
          says (roomless l) = no_room tables short l
          says (copied l) = written tables short l

-- What writing a labelling answers.
module _ {t : List ℕ} {n : ℕ} {levels marks : List ℕ} where
  pub says_bad_names : (ItemsOk t n → ⊥) → {out : List ℕ} {r : Refusal} → r ≡ record { fault = Fault.BadTable; place = 0 } → LabelsSays t n levels marks out (said_refusal r) out
  says_bad_names bad e = rw e (bad_items bad)

  pub says_few_labels : ItemsOk t n → (Room n levels marks → ⊥) → {out : List ℕ} {r : Refusal} → r ≡ record { fault = Fault.NoRoom; place = 0 }
      → LabelsSays t n levels marks out (said_refusal r) out
  says_few_labels items few e = rw e (few_labels items few)

  pub says_bad_label : ItemsOk t n → Room n levels marks → {i : ℕ} → Sought (LevelInRange levels) n i → i < n → {out : List ℕ} {r : Refusal}
      → r ≡ record { fault = Fault.BadLabel; place = i } → LabelsSays t n levels marks out (said_refusal r) out
  says_bad_label items room bad l e = rw e (bad_label items room (bad.found l))

  pub labels_right : ItemsOk t n → Room n levels marks → {i : ℕ} → Sought (LevelInRange levels) n i → n ≤ i → Labels t n levels marks
  labels_right items room bad none = record { items = items; room = room; range = bad.nowhere none }

  module _ (labels : Labels t n levels marks) {d : List ℕ} {o : Option ℕ} (g : Grown blank 0 (labels_text t n levels marks) d o) where
    pub labels_some : IsSome o
    labels_some = grown_some g (omega (arith, labels_short levels marks labels.items labels.range, blank_size))

    module _ {k : ℕ} (some : o ≡ Some k) where
      front_labels : Front (labels_text t n levels marks) d k
      front_labels = grown_front (rw some at g)

      pub labels_count : k ≡ length (take k d)
      labels_count = front_counted front_labels

      pub says_labelled : {out : List ℕ} {s : Said} {out' : List ℕ} → CopySays (take k d) out s out' → LabelsSays t n levels marks out s out'
      says_labelled copy = says (rw front_labels.text at copy)
        where
          says : {out : List ℕ} {s : Said} {out' : List ℕ} → CopySays (labels_text t n levels marks) out s out' → LabelsSays t n levels marks out s out'
          says (roomless l) = short_buffer labels l
          says (copied l) = labelled labels l
