-- There is an answer to every text of a rulebook, with any buffers. It rests on that reading computes, and that a book that was read has a wanted labelling or a refused
-- part.
-- Assumes nothing.
use mathlib.Core.Path.{◌≡◌, refl, sym, ap₂, ◌∙◌}
use mathlib.Core.List.{List, [], ◌∷◌}
use mathlib.Core.Logic.{◌⊎◌, inl, inr}
use Prim.Native.Nat.{ℕ, ◌+◌, ◌*◌, ◌≤◌, ◌<◌}
use native.Mathlib.Decide.{dec_le}
use native.Mathlib.Nat.{zero-add}
use native.Mathlib.Omega.{arith}
use lib.ListN.{length, get_or}
use Rattle.reader.specs.Lines.{ReadBook}
use Rattle.std.specs.Prelude.{Err, Ok}
use Rattle.laws.specs.Over.{over}
use Rattle.laws.proofs.Buffers.{over_inside, over_behind}
use Rattle.laws.proofs.Over.{over_length}
use Rattle.classes.specs.Class.{class_of}
use Rattle.classes.specs.declared.Class.{Class}
use Rattle.meaning.specs.Classes.{classes, class_parts}
use Rattle.meaning.specs.Labelling.{Wanted}
use Rattle.meaning.specs.Parts.{Refused}
use Rattle.meaning.proofs.Demands.{wanted_or_refused}
use Rattle.meaning.proofs.Same.{wanted_same}
use Rattle.meaning.proofs.Settle.{tabulate, length_tabulate, get_d_tabulate}
use Rattle.refusals.specs.declared.Fault.{Fault}
use Rattle.refusals.specs.declared.Refusal.{Refusal}
use Rattle.refusals.specs.Said.{success}
use Rattle.items.specs.Names.{name_room}
use Rattle.labels.specs.Labels.{Room}
use Rattle.rules.specs.declared.Head.{Head}
use Rattle.rules.specs.Table.{book_of}
use Rattle.accepts.specs.Accepted.{TableAccepted}
use Rattle.accepts.proofs.Inside.{table_inside}
use Rattle.reader.specs.Reading.{read_text, read_whole}
use Rattle.reader.proofs.Books.{read_tables}
use Rattle.solver.specs.Solving.{Buffers, held, labels_of, RestKept, SolveSays, no_room, has_no_labelling, writes_labels}
use Rattle.assign.specs.Assigning.{said_head, said_assigned, Lent, short_items, unsolved, solved, AssignSays, unread, read}

-- An answer: a refusal, or labels.
pub data AssignAnswered (l : List ℕ) (before : Lent) : Type 0 where
  refuses_book : (r : Refusal) {after : Lent} → AssignSays l before (said_assigned (Err r)) after → AssignAnswered l before
  labels_book : {h : Head} {after : Lent} → AssignSays l before (said_head h) after → AssignAnswered l before

-- The first n values of a function over the front of a buffer.
module _ (n : ℕ) (f : ℕ → ℕ) (d : List ℕ) (room : n ≤ length d) where
  front : List ℕ
  front = over d 0 (tabulate n f)

  fits : 0 + length (tabulate n f) ≤ length d
  fits = omega (arith, length_tabulate n f)

  front_at : (i : ℕ) → i < n → get_or front i 0 ≡ f i
  unfolding front
  front_at i h =
      rw zero-add at (over_inside d 0 (tabulate n f) fits i (omega (arith, length_tabulate n f))) ∙ get_d_tabulate n f 0 i h

  front_rest : RestKept n d front
  unfolding front
  front_rest = record {
    sized = over_length d 0 (tabulate n f) fits;
    rest = λ i h. over_behind d 0 (tabulate n f) fits i (omega (arith, length_tabulate n f));
  }

-- A wanted labelling, written into two buffers with room for it.
module _ {h : Head} {t : List ℕ} (ok : TableAccepted h t) {before : Buffers} (room : Room h.items before.levels before.marks) {f : ℕ → Class}
    (wanted : Wanted classes (book_of h t) f) where
  abbrev written : Buffers
  written = held (front h.items (λ i. (f i).level) before.levels room.for_levels) (front h.items (λ i. (f i).marks) before.marks room.for_marks)

  label_at : (i : ℕ) → i < h.items → f i ≡ labels_of written i
  label_at i s =
      ap₂ class_of (sym (front_at h.items (λ j. (f j).level) before.levels room.for_levels i s))
      (sym (front_at h.items (λ j. (f j).marks) before.marks room.for_marks i s))

  writes : SolveSays h t before (success 0 (h.items ∷ [])) written
  writes = writes_labels (record {
    accepted = ok;
    room = room;
    count = refl;
    wanted = wanted_same classes (book_of h t) (table_inside ok) label_at wanted;
    levels = front_rest h.items (λ i. (f i).level) before.levels room.for_levels;
    marks = front_rest h.items (λ i. (f i).marks) before.marks room.for_marks;
  })

room_decided : (n : ℕ) (levels marks : List ℕ) → Dec (Room n levels marks)
room_decided n levels marks = by (dec_le n (length levels)) (dec_le n (length marks))
  where
    by : Dec (n ≤ length levels) → Dec (n ≤ length marks) → Dec (Room n levels marks)
    by (yes a) (yes b) = yes (record { for_levels = a; for_marks = b })
    by (yes a) (no b) = no (λ r. b r.for_marks)
    by (no a) b = no (λ r. a r.for_levels)

-- What is said of a book that was read.
module _ (l : List ℕ) (before : Lent) {h : Head} (e : read_whole l ≡ Ok h) where
  ok : TableAccepted h (read_text l).words
  ok = (read_tables l e).rules

  by_labels : h.items * name_room ≤ length before.items → Room h.items before.labels.levels before.labels.marks
      → ((f : ℕ → Class) × Wanted classes (book_of h (read_text l).words) f) ⊎ ((p : ℕ) × Refused class_parts (book_of h (read_text l).words) p) → AssignAnswered l before
  by_labels fits room (inl x) = labels_book (read e (solved fits (writes ok room x.1)))
  by_labels fits room (inr x) =
      refuses_book (record { fault = Fault.NoLabelling; place = x.0 })
      (read e (unsolved fits (has_no_labelling (record { accepted = ok; room = room; unlabelled = x.1; untouched = refl }))))

  by_room : Dec (h.items * name_room ≤ length before.items) → Dec (Room h.items before.labels.levels before.labels.marks) → AssignAnswered l before
  by_room (no short) room = refuses_book (record { fault = Fault.NoRoom; place = 0 }) (read e (short_items (omega arith)))
  by_room (yes fits) (no short) =
      refuses_book (record { fault = Fault.NoRoom; place = 0 }) (read e (unsolved fits (no_room (record { accepted = ok; short = short; untouched = refl }))))
  by_room (yes fits) (yes room) = by_labels fits room (wanted_or_refused (book_of h (read_text l).words) (table_inside ok))

pub assign_answered : (l : List ℕ) (before : Lent) → AssignAnswered l before
assign_answered l before = by (read_whole l) refl
  where
    by : (x : ReadBook) → read_whole l ≡ x → AssignAnswered l before
    by (Err r) e = refuses_book r (unread e)
    by (Ok h) e =
        by_room l before e (dec_le (h.items * name_room) (length before.items)) (room_decided h.items before.labels.levels before.labels.marks)
