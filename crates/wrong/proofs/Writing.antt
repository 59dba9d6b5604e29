-- Wrong answers of `writer`.
-- Assumes nothing.
use mathlib.Core.Path.{◌≡◌, refl, ap}
use mathlib.Core.List.{List, [], ◌∷◌}
use Prim.Native.Nat.{ℕ, ◌≤◌}
use native.Mathlib.Nat.{not-suc-le-zero}
use native.Mathlib.Omega.{arith}
use lib.ListN.{length, get_or, replicate}
use Rattle.std.specs.Prelude.{Result, Ok, Err}
use Rattle.refusals.specs.declared.Refusal.{Refusal}
use Rattle.laws.specs.First.{FirstFailing}
use Rattle.refusals.specs.declared.Fault.{Fault}
use Rattle.refusals.specs.Said.{Said, refused}
use Rattle.labels.specs.Labels.{LevelInRange}
use Rattle.tokens.specs.Numbers.{digit, digits_of, decimal_len}
use Rattle.accepts.specs.Tables.{Tables}
use Rattle.writer.specs.Texts.{pieces, book_text, labels_text}
use Rattle.writer.specs.Writing.{said_written, WriteSays, no_room, written, LabelsSays, bad_items, few_labels, bad_label, short_buffer, labelled}
use Rattle.writer.proofs.Unique.{write_says_unique, labels_say_unique}
use Rattle.wrong.specs.InnerExample.{head}

-- The book without items and rules, whose text, "form=1" and "end=1", has 13 bytes.
empty : Tables (head 0 0) [] []
empty = record {
  items = record { size = omega arith; room = omega arith; names = λ i l. absurd (not-suc-le-zero l); distinct = λ i l. absurd (not-suc-le-zero l) };
  rules = record { room = omega arith; accepted = record { items = omega arith; rules = omega arith; each = λ r l. absurd (not-suc-le-zero l) } };
}

size : length (book_text (head 0 0) [] []) ≡ 13
unfolding book_text pieces digits_of decimal_len digit
size = refl

no_room_for_it : WriteSays (head 0 0) [] [] (0 ∷ []) (refused 11 0) (0 ∷ [])
no_room_for_it = no_room empty (omega (arith, size)) (omega (arith, size))

pub write_answers_text_0 : (d : List ℕ) → WriteSays (head 0 0) [] [] (replicate 13 0) (said_written (Ok 0)) d → ⊥
write_answers_text_0 d x =
    let e = (write_says_unique x (written empty (omega (arith, size)) (omega (arith, size)))).answer in
    let z : 0 ≡ length (book_text (head 0 0) [] []) = cc in omega (arith, size)

pub write_answers_text_without_room : (n : ℕ) (d : List ℕ) → WriteSays (head 0 0) [] [] (0 ∷ []) (said_written (Ok n)) d → ⊥
write_answers_text_without_room n d x =
    let e = (write_says_unique x no_room_for_it).answer in let z : ◌≡◌ {A = ℕ} 0 1 = cc in omega arith

pub write_answers_no_room_at_1 : (d : List ℕ) → WriteSays (head 0 0) [] [] (0 ∷ []) (said_written (Err (record { fault = Fault.NoRoom; place = 1 }))) d → ⊥
write_answers_no_room_at_1 d x =
    let e = (write_says_unique x no_room_for_it).answer in let z : ◌≡◌ {A = ℕ} 1 0 = cc in omega arith

-- The first byte of the text in a buffer that has no room for it.
pub write_leaves_a_part_of_the_text : (a : Result ℕ Refusal) → WriteSays (head 0 0) [] [] (0 ∷ []) (said_written a) (102 ∷ []) → ⊥
write_leaves_a_part_of_the_text a x =
    let z : ◌≡◌ {A = ℕ} 102 0 = ap (λ (l : List ℕ). get_or l 0 0) (write_says_unique x no_room_for_it).buffer in omega arith

-- What a bad label tells.
said_bad_label : {t : List ℕ} {n : ℕ} {levels marks out d : List ℕ} {s : Said} {i : ℕ} → LabelsSays t n levels marks out s d → s ≡ refused 12 i
    → FirstFailing (LevelInRange levels) n i
said_bad_label (bad_items x) e = let z : ◌≡◌ {A = ℕ} 10 12 = cc in absurd (omega arith)
said_bad_label (few_labels x y) e = let z : ◌≡◌ {A = ℕ} 11 12 = cc in absurd (omega arith)
said_bad_label {i = i} (bad_label x y {i = j} f) e = let same : j ≡ i = cc in rw same at f
said_bad_label (short_buffer x y) e = let z : ◌≡◌ {A = ℕ} 11 12 = cc in absurd (omega arith)
said_bad_label (labelled x y) e = let z : ◌≡◌ {A = ℕ} 0 1 = cc in absurd (omega arith)

-- Two labels of level 16, whatever the items and the buffer are.
pub write_labels_answers_a_later_bad_label
    : (t marks out d : List ℕ) → LabelsSays t 2 (16 ∷ 16 ∷ []) marks out (said_written (Err (record { fault = Fault.BadLabel; place = 1 }))) d → ⊥
write_labels_answers_a_later_bad_label t marks out d x =
    let z : 16 ≤ 15 = ((said_bad_label x refl).before.each 0 (omega arith)).most in omega arith

-- No items and no labels, of which the text has 13 bytes too, in a buffer of one byte.
no_labels : LabelsSays [] 0 [] [] (0 ∷ []) (refused 11 0) (0 ∷ [])
unfolding labels_text pieces digits_of decimal_len digit
no_labels = short_buffer (record {
  items = empty.items;
  room = record { for_levels = omega arith; for_marks = omega arith };
  range = record { each = λ i l. absurd (not-suc-le-zero l) };
}) (omega arith)

pub write_labels_answers_text_without_room : (n : ℕ) (d : List ℕ) → LabelsSays [] 0 [] [] (0 ∷ []) (said_written (Ok n)) d → ⊥
write_labels_answers_text_without_room n d x =
    let e = (labels_say_unique x no_labels).answer in let z : ◌≡◌ {A = ℕ} 0 1 = cc in omega arith

pub write_labels_leaves_a_part_of_the_text : (a : Result ℕ Refusal) → LabelsSays [] 0 [] [] (0 ∷ []) (said_written a) (102 ∷ []) → ⊥
write_labels_leaves_a_part_of_the_text a x =
    let z : ◌≡◌ {A = ℕ} 102 0 = ap (λ (l : List ℕ). get_or l 0 0) (labels_say_unique x no_labels).buffer in omega arith
