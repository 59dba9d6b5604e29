-- What assigning into buffers with room for every book says: the wanted labels of the book that was read, with its names, or a refusal that is printed. It rests
-- on the promise of `assign`, and on what is read being right.
-- Assumes nothing.
use mathlib.Core.Path.{◌≡◌, refl, sym, ap, ap₂, ◌∙◌, subst}
use mathlib.Core.List.{List, ◌++◌, ◌∷◌, []}
use Prim.Native.Nat.{ℕ, ◌+◌, ◌*◌, ◌≤◌, ◌<◌}
use native.Mathlib.Omega.{arith}
use lib.ListN.{length}
use Rattle.std.specs.Prelude.{Result, Ok, Err}
use Rattle.refusals.specs.declared.Refusal.{Refusal}
use Rattle.classes.specs.declared.Class.{Class}
use Rattle.refusals.specs.Sizes.{most_items}
use Rattle.refusals.specs.Said.{Said, success, refused}
use Rattle.items.specs.Names.{name_room}
use Rattle.items.specs.Table.{name_of}
use Rattle.labels.specs.Labels.{labels_in, Room}
use Rattle.rules.specs.declared.Head.{Head}
use Rattle.accepts.specs.Tables.{Tables}
use Rattle.scans.specs.Ascii.{lf, colon}
use Rattle.keys.specs.Keys.{label_key}
use Rattle.tokens.specs.Tokens.{class_text}
use Rattle.reader.specs.Reading.{read_text, read_whole}
use Rattle.reader.proofs.Books.{read_tables}
use Rattle.solver.specs.Solving.{Buffers, held, SolveSays, bad_table, no_room, has_no_labelling, writes_labels}
use Rattle.writer.specs.Texts.{form_line, end_line, label_line, labels_text}
use Rattle.writer.proofs.Pieces.{pieces_same}
use Rattle.assign.specs.Assigning.{said_head, said_assigned, Lent, lent, items_over, BookSays, short_items, unsolved, solved, AssignSays}
use Rattle.assign.specs.Assigning as assigning
use Rattle.assign.proofs.Labelled.{LabelledAs, labelled_as}
use Rattle.assign.proofs.Unique.{assigned_told}
use Rattle.answers.specs.Answering.{refusal_text, no_labelling, unlabelled, labelled, AnswerSays, unread, book}

-- The lent buffers have room for every book.
pub record WholeLent (b : Lent) : Type 0 where
  pub items : length b.items ≡ most_items * name_room
  pub levels : length b.labels.levels ≡ most_items
  pub marks : length b.labels.marks ≡ most_items

-- What is told by an answer: labels, or the text of a refusal that is printed.
abbrev pub Told : List ℕ → Lent → Result Head Refusal → Type 0
Told l b (Ok h) = LabelledAs l h b
Told l b (Err r) = AnswerSays l (refusal_text r)

pub record Fact (l : List ℕ) (b : Lent) (s : Said) : Type 0 where
  pub answer : Result Head Refusal
  pub is : s ≡ said_assigned answer
  pub told : Told l b answer

module _ (l : List ℕ) {h : Head} (whole : read_whole l ≡ Ok h) {before : Lent} (room : WholeLent before) where
  right : Tables h (read_text l).names (read_text l).words
  right = read_tables l whole

  roomy : Room h.items before.labels.levels before.labels.marks
  roomy = record { for_levels = omega (arith, room.levels, right.items.size); for_marks = omega (arith, room.marks, right.items.size) }

  unsolved_fact : {n p : ℕ} {labels : Buffers} → SolveSays h (read_text l).words before.labels (refused n p) labels
      → Fact l (lent before.items labels) (refused n p)
  unsolved_fact (bad_table x) = absurd (x.bad right.rules)
  unsolved_fact (no_room x) = absurd (x.short roomy)
  unsolved_fact (has_no_labelling {p} x) = record { answer = Err (no_labelling p); is = refl; told = book whole (unlabelled x.unlabelled) }

  solved_fact : h.items * name_room ≤ length before.items → {k : ℕ} {labels : Buffers} → SolveSays h (read_text l).words before.labels (success 0 (k ∷ [])) labels
      → Fact l (lent (items_over h (read_text l).names before.items) labels) (said_head h)
  solved_fact fits (writes_labels x) = record { answer = Ok h; is = refl; told = labelled_as l whole before fits x }

  book_fact : {s : Said} {after : Lent} → BookSays h (read_text l).names (read_text l).words before s after → Fact l after s
  book_fact (short_items short) = absurd (omega (arith, room.items, right.items.size))
  book_fact (unsolved fits x) = unsolved_fact x
  book_fact (solved fits x) = solved_fact fits x

fact : {l : List ℕ} {before : Lent} {s : Said} {after : Lent} → AssignSays l before s after → WholeLent before → Fact l after s
fact (assigning.unread {r} e) room = record { answer = Err r; is = refl; told = unread e }
fact {l} (assigning.read e x) room = book_fact l e room x

-- What each answer tells.
pub told_by : {l : List ℕ} {before : Lent} {a : Result Head Refusal} {after : Lent} → AssignSays l before (said_assigned a) after → WholeLent before → {b : Result Head Refusal} → a ≡ b
    → Told l after b
told_by {l} {a = a} {after} says room {b} e =
    let f = fact says room in
    let same : f.answer ≡ b = sym (assigned_told {x = a} f.is) ∙ e in
    subst (Told l after) same f.told

-- The text of labels is made of the items' names and labels.
pub labels_text_same : (t t' : List ℕ) (n : ℕ) (levels marks levels' marks' : List ℕ) → ((i : ℕ) → i < n → name_of t i ≡ name_of t' i)
    → ((i : ℕ) → i < n → labels_in levels marks i ≡ labels_in levels' marks' i) → labels_text t n levels marks ≡ labels_text t' n levels' marks'
unfolding labels_text
labels_text_same t t' n levels marks levels' marks' names labels =
    ap (λ (y : List ℕ). form_line ++ y ++ end_line (1 + n))
    (pieces_same (label_line t levels marks) (label_line t' levels' marks') 0 n
    (λ i h.
    let inside : i < n = omega arith in
    ap₂ (λ (y : List ℕ) (c : Class). label_key ++ y ++ colon ∷ [] ++ class_text c ++ lf ∷ []) (names i inside) (labels i inside)))

-- The text of the labels that are told is printed.
pub labels_printed : {l : List ℕ} {h : Head} {items levels marks : List ℕ} → LabelledAs l h (lent items (held levels marks))
    → AnswerSays l (labels_text items h.items levels marks)
labels_printed {l} {h} {items} {levels} {marks} x =
    subst (AnswerSays l)
    (labels_text_same (read_text l).names items h.items levels marks levels marks (λ i s. sym (x.names i s)) (λ i s. refl))
    (book x.whole (labelled levels marks x.wanted))
