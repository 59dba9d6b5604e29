-- The answer of writing and what is then in the buffer are the only ones that the promise allows.
-- Assumes nothing.
use mathlib.Core.Path.{◌≡◌, refl, ap}
use mathlib.Core.List.{List}
use Prim.Native.Nat.{ℕ}
use native.Mathlib.Omega.{arith}
use lib.ListN.{get_or}
use Rattle.std.specs.Prelude.{Result, Ok, Err}
use Rattle.refusals.specs.declared.Refusal.{Refusal}
use Rattle.laws.proofs.First.{first_not_all, first_unique}
use Rattle.refusals.specs.Said.{Said, success, refused, refused_by}
use Rattle.refusals.specs.declared.Fault.{Fault}
use Rattle.refusals.proofs.Said.{said_injective, refusal_of, refusal_back}
use Rattle.rules.specs.declared.Head.{Head}
use Rattle.writer.specs.Writing.{said_written, WriteSays, bad_table, too_long, no_room, written}
use Rattle.writer.specs.Writing.{LabelsSays, bad_items, few_labels, bad_label, short_buffer, labelled}

-- An answer is known by what it says.
abbrev written_of : Said → Result ℕ Refusal
written_of (success c l) = Ok (get_or l 0 0)
written_of (refused n p) = Err (refusal_of n p)

written_back : (x : Result ℕ Refusal) → written_of (said_written x) ≡ x
written_back (Ok len) = refl
written_back (Err r) = ap Err (refusal_back r)

pub written_told : {a b : Result ℕ Refusal} → said_written a ≡ said_written b → a ≡ b
written_told = said_injective said_written written_of written_back

-- Two results, what was answered and a buffer each, that are the same.
pub record Same {A : Type 0} (a b : A) (d e : List ℕ) : Type 0 where
  pub answer : a ≡ b
  pub buffer : d ≡ e

same : {a : Said} {d : List ℕ} → Same a a d d
same = record { answer = refl; buffer = refl }

answers_same : {a b : Result ℕ Refusal} {d e : List ℕ} → Same (said_written a) (said_written b) d e → Same a b d e
answers_same s = record { answer = written_told s.answer; buffer = s.buffer }

-- Writing a rulebook has one result.
pub write_says_unique : {h : Head} {t w out : List ℕ} {a b : Said} {d e : List ℕ} → WriteSays h t w out a d → WriteSays h t w out b e → Same a b d e
write_says_unique (bad_table x) (bad_table y) = same
write_says_unique (bad_table x) (too_long y l) = absurd (x y)
write_says_unique (bad_table x) (no_room y l r) = absurd (x y)
write_says_unique (bad_table x) (written y l r) = absurd (x y)
write_says_unique (too_long x l) (bad_table y) = absurd (y x)
write_says_unique (too_long x l) (too_long y k) = same
write_says_unique (too_long x l) (no_room y k r) = absurd (omega arith)
write_says_unique (too_long x l) (written y k r) = absurd (omega arith)
write_says_unique (no_room x l r) (bad_table y) = absurd (y x)
write_says_unique (no_room x l r) (too_long y k) = absurd (omega arith)
write_says_unique (no_room x l r) (no_room y k s) = same
write_says_unique (no_room x l r) (written y k s) = absurd (omega arith)
write_says_unique (written x l r) (bad_table y) = absurd (y x)
write_says_unique (written x l r) (too_long y k) = absurd (omega arith)
write_says_unique (written x l r) (no_room y k s) = absurd (omega arith)
write_says_unique (written x l r) (written y k s) = same

pub write_unique : {h : Head} {t w out : List ℕ} {a b : Result ℕ Refusal} {d e : List ℕ} → WriteSays h t w out (said_written a) d
    → WriteSays h t w out (said_written b) e → Same a b d e
write_unique p q = answers_same (write_says_unique p q)

-- Writing a labelling has one result.
pub labels_say_unique : {t : List ℕ} {n : ℕ} {levels marks out : List ℕ} {a b : Said} {d e : List ℕ} → LabelsSays t n levels marks out a d
    → LabelsSays t n levels marks out b e → Same a b d e
labels_say_unique (bad_items x) (bad_items y) = same
labels_say_unique (bad_items x) (few_labels y s) = absurd (x y)
labels_say_unique (bad_items x) (bad_label y s f) = absurd (x y)
labels_say_unique (bad_items x) (short_buffer y s) = absurd (x y.items)
labels_say_unique (bad_items x) (labelled y s) = absurd (x y.items)
labels_say_unique (few_labels x r) (bad_items y) = absurd (y x)
labels_say_unique (few_labels x r) (few_labels y s) = same
labels_say_unique (few_labels x r) (bad_label y s f) = absurd (r s)
labels_say_unique (few_labels x r) (short_buffer y s) = absurd (r y.room)
labels_say_unique (few_labels x r) (labelled y s) = absurd (r y.room)
labels_say_unique (bad_label x r f) (bad_items y) = absurd (y x)
labels_say_unique (bad_label x r f) (few_labels y s) = absurd (s r)
labels_say_unique (bad_label x r f) (bad_label y s g) = record { answer = ap (refused_by Fault.BadLabel) (first_unique f g); buffer = refl }
labels_say_unique (bad_label x r f) (short_buffer y s) = absurd (first_not_all f y.range)
labels_say_unique (bad_label x r f) (labelled y s) = absurd (first_not_all f y.range)
labels_say_unique (short_buffer x r) (bad_items y) = absurd (y x.items)
labels_say_unique (short_buffer x r) (few_labels y s) = absurd (s x.room)
labels_say_unique (short_buffer x r) (bad_label y s f) = absurd (first_not_all f x.range)
labels_say_unique (short_buffer x r) (short_buffer y s) = same
labels_say_unique (short_buffer x r) (labelled y s) = absurd (omega arith)
labels_say_unique (labelled x r) (bad_items y) = absurd (y x.items)
labels_say_unique (labelled x r) (few_labels y s) = absurd (s x.room)
labels_say_unique (labelled x r) (bad_label y s f) = absurd (first_not_all f x.range)
labels_say_unique (labelled x r) (short_buffer y s) = absurd (omega arith)
labels_say_unique (labelled x r) (labelled y s) = same

pub labels_unique : {t : List ℕ} {n : ℕ} {levels marks out : List ℕ} {a b : Result ℕ Refusal} {d e : List ℕ} → LabelsSays t n levels marks out (said_written a) d
    → LabelsSays t n levels marks out (said_written b) e → Same a b d e
labels_unique p q = answers_same (labels_say_unique p q)
