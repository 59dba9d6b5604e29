-- Wrong answers of `solver`: the four worthless solvers of docs/RULES.md as answers of `solve` for a book of two items and no rules, in which the lowest class is
-- the label of both; and others, for the books P3 and P5 of docs/RULES.md.
-- Assumes nothing.
use mathlib.Core.Path.{◌≡◌, refl, ap}
use mathlib.Core.List.{List, [], ◌∷◌, ◌++◌}
use Prim.Native.Nat.{ℕ, zero, suc, ◌≤◌, ◌<◌, max, zero-le}
use native.Mathlib.Nat.{not-suc-le-zero}
use native.Mathlib.Omega.{arith}
use lib.ListN.{get_or, replicate}
use Rattle.std.specs.Prelude.{Result, Ok, Err}
use Rattle.refusals.specs.declared.Refusal.{Refusal}
use Rattle.classes.specs.Bits.{bit, word}
use Rattle.classes.specs.Class.{IsClass, joined, lowest}
use Rattle.classes.specs.Parts.{part}
use Rattle.classes.specs.declared.Class.{Class}
use Rattle.refusals.specs.declared.Fault.{Fault}
use Rattle.refusals.specs.Said.{Said, success, refused}
use Rattle.meaning.specs.Labelling.{Labelling, Wanted, FirstDifference}
use Rattle.meaning.specs.Rules.{Met}
use Rattle.meaning.specs.Parts.{in_part, part_values}
use Rattle.meaning.specs.Classes.{classes, class_parts}
use Rattle.meaning.proofs.Demands.{refused_unlabelled}
use Rattle.labels.specs.Labels.{labels_in}
use Rattle.rules.specs.declared.Head.{Head}
use Rattle.rules.specs.Record.{meaning_of}
use Rattle.rules.specs.Table.{word_at, rule_at, book_of}
use Rattle.accepts.proofs.Inside.{table_inside}
use Rattle.solver.specs.Solving.{said_solved, Buffers, held, WritesLabels, RefusesBook, SolveSays, bad_table, no_room, has_no_labelling, writes_labels}
use Rattle.solver.proofs.Unique.{says_unique}
use Rattle.wrong.specs.InnerExample.{head, two_items, wrong_count}

-- What an answer of each kind tells.
module _ {h : Head} {t : List ℕ} {before : Buffers} where
  wrote : {s : Said} {after : Buffers} {k : ℕ} → SolveSays h t before s after → s ≡ success 0 (k ∷ []) → WritesLabels h t k before after
  wrote (bad_table x) e = let z : ◌≡◌ {A = ℕ} 0 1 = cc in absurd (omega arith)
  wrote (no_room x) e = let z : ◌≡◌ {A = ℕ} 0 1 = cc in absurd (omega arith)
  wrote (has_no_labelling x) e = let z : ◌≡◌ {A = ℕ} 0 1 = cc in absurd (omega arith)
  wrote {after = after} {k = k} (writes_labels {k = j} x) e = let same : j ≡ k = cc in rw same at x

  refused_book : {s : Said} {after : Buffers} {p : ℕ} → SolveSays h t before s after → s ≡ refused 9 p → RefusesBook h t p before after
  refused_book (bad_table x) e = let z : ◌≡◌ {A = ℕ} 10 9 = cc in absurd (omega arith)
  refused_book (no_room x) e = let z : ◌≡◌ {A = ℕ} 11 9 = cc in absurd (omega arith)
  refused_book {p = p} (has_no_labelling {p = q} x) e = let same : q ≡ p = cc in rw same at x
  refused_book (writes_labels x) e = let z : ◌≡◌ {A = ℕ} 0 1 = cc in absurd (omega arith)

-- The lowest class everywhere is a labelling of a book without rules.
lowest_labels : (n : ℕ) → Labelling classes (book_of (head n 0) []) (λ i. lowest)
lowest_labels n = record { labels = λ i l. record { level = zero-le; marks = omega arith }; meets = λ r l. absurd (not-suc-le-zero l) }

-- No label is above the lowest class at the first item that has another.
above_lowest : {n : ℕ} {f : ℕ → Class} → Wanted classes (book_of (head n 0) []) f → (i : ℕ) → FirstDifference n f (λ j. lowest) i → (f i).level ≤ 0
above_lowest {n} w i d = (w.least (λ j. lowest) (lowest_labels n) i d).covered.level

-- One that refuses every book.
pub solve_refuses_every_book : (before after : Buffers) (p : ℕ) → SolveSays two_items [] before (said_solved (Err (record { fault = Fault.NoLabelling; place = p }))) after → ⊥
solve_refuses_every_book before after p x =
    let r = refused_book x refl in
    refused_unlabelled (book_of two_items []) (table_inside r.accepted) r.unlabelled (lowest_labels 2)

-- One that always answers the highest class.
pub solve_answers_the_highest_class : (before : Buffers) (marks : List ℕ) → SolveSays two_items [] before (said_solved (Ok 2)) (held (15 ∷ 15 ∷ []) marks) → ⊥
solve_answers_the_highest_class before marks x =
    let z : 15 ≤ 0 = above_lowest (wrote x refl).wanted 0 (record { item = omega arith; before = λ j l. absurd (not-suc-le-zero l); differs = differ }) in omega arith
  where
    differ : labels_in (15 ∷ 15 ∷ []) marks 0 ≡ lowest → ⊥
    differ e = let z : ◌≡◌ {A = ℕ} 15 0 = ap (λ (c : Class). c.level) e in omega arith

-- One that writes no labels: the buffers stay as they were.
pub solve_writes_no_labels : (marks : List ℕ) → SolveSays two_items [] (held (7 ∷ 7 ∷ []) marks) (said_solved (Ok 2)) (held (7 ∷ 7 ∷ []) marks) → ⊥
solve_writes_no_labels marks x =
    let z : 7 ≤ 0 = above_lowest (wrote x refl).wanted 0 (record { item = omega arith; before = λ j l. absurd (not-suc-le-zero l); differs = differ }) in omega arith
  where
    differ : labels_in (7 ∷ 7 ∷ []) marks 0 ≡ lowest → ⊥
    differ e = let z : ◌≡◌ {A = ℕ} 7 0 = ap (λ (c : Class). c.level) e in omega arith

-- One that lowers the first item and merely copies the rest.
pub solve_copies_the_rest : (before : Buffers) → SolveSays two_items [] before (said_solved (Ok 2)) (held (0 ∷ 15 ∷ []) (0 ∷ 0 ∷ [])) → ⊥
solve_copies_the_rest before x =
    let z : 15 ≤ 0 = above_lowest (wrote x refl).wanted 1 (record { item = omega arith; before = same; differs = differ }) in omega arith
  where
    same : (j : ℕ) → j < 1 → labels_in (0 ∷ 15 ∷ []) (0 ∷ 0 ∷ []) j ≡ lowest
    same zero l = refl
    same (suc j) l = absurd (omega arith)

    differ : labels_in (0 ∷ 15 ∷ []) (0 ∷ 0 ∷ []) 1 ≡ lowest → ⊥
    differ e = let z : ◌≡◌ {A = ℕ} 15 0 = ap (λ (c : Class). c.level) e in omega arith

-- The count of the rules.
pub solve_answers_the_count_of_rules : (before after : Buffers) → SolveSays two_items [] before (said_solved (Ok wrong_count)) after → ⊥
solve_answers_the_count_of_rules before after x = let z : ◌≡◌ {A = ℕ} wrong_count 2 = (wrote x refl).count in omega arith

-- P3: the join of items 0 and 1 covers 1/0.
abbrev p3 : List ℕ
p3 = 1 ∷ 2 ∷ 0 ∷ 1 ∷ replicate 7 0 ++ 1 ∷ 0 ∷ []

pub solve_leaves_zeros : (before : Buffers) → SolveSays (head 2 1) p3 before (said_solved (Ok 2)) (held (0 ∷ 0 ∷ []) (0 ∷ 0 ∷ [])) → ⊥
unfolding meaning_of rule_at word_at joined
solve_leaves_zeros before x = let z : 1 ≤ 0 = ((wrote x refl).wanted.labelling.meets 0 (omega arith)).level in omega arith

-- The second item is to have level 1, and the first one stays lowest.
second_charged : Labelling classes (book_of (head 2 1) p3) (labels_in (0 ∷ 1 ∷ []) (0 ∷ 0 ∷ []))
unfolding meaning_of rule_at word_at joined word bit
second_charged = record { labels = small; meets = meets }
  where
    small : (i : ℕ) → i < 2 → IsClass (labels_in (0 ∷ 1 ∷ []) (0 ∷ 0 ∷ []) i)
    small zero l = record { level = omega arith; marks = omega arith }
    small (suc zero) l = record { level = omega arith; marks = omega arith }
    small (suc (suc i)) l = absurd (omega arith)

    meets : (r : ℕ) → r < 1 → Met classes ((book_of (head 2 1) p3).rule r) (labels_in (0 ∷ 1 ∷ []) (0 ∷ 0 ∷ []))
    meets zero l = record { level = omega arith; marks = λ k s h. h }
    meets (suc r) l = absurd (omega arith)

pub solve_charges_the_first_item : (before : Buffers) → SolveSays (head 2 1) p3 before (said_solved (Ok 2)) (held (1 ∷ 0 ∷ []) (0 ∷ 0 ∷ [])) → ⊥
solve_charges_the_first_item before x =
    let z : 1 ≤ 0 = ((wrote x refl).wanted.least (labels_in (0 ∷ 1 ∷ []) (0 ∷ 0 ∷ [])) second_charged 0 first).covered.level in omega arith
  where
    first : FirstDifference 2 (labels_in (1 ∷ 0 ∷ []) (0 ∷ 0 ∷ [])) (labels_in (0 ∷ 1 ∷ []) (0 ∷ 0 ∷ [])) 0
    first = record {
      item = omega arith;
      before = λ j l. absurd (not-suc-le-zero l);
      differs = λ e. let z : ◌≡◌ {A = ℕ} 1 0 = ap (λ (c : Class). c.level) e in omega arith;
    }

-- P5: 0/0 covers item 0, and item 0 covers 1/0. It is 9 at the level, which is part 0.
abbrev p5 : List ℕ
p5 = 0 ∷ 1 ∷ replicate 11 0 ++ 1 ∷ 1 ∷ replicate 9 0 ++ 1 ∷ 0 ∷ []

pub solve_labels_a_book_that_has_no_labelling : (before after : Buffers) → SolveSays (head 1 2) p5 before (said_solved (Ok 1)) after → ⊥
unfolding meaning_of rule_at word_at joined
solve_labels_a_book_that_has_no_labelling before after x =
    let l = (wrote x refl).wanted.labelling in
    let low : get_or after.levels 0 0 ≤ 0 = (l.meets 0 (omega arith)).level in
    let high : 1 ≤ max 0 (get_or after.levels 0 0) = (l.meets 1 (omega arith)).level in omega arith

pub solve_refuses_at_a_later_part : (before after : Buffers) → SolveSays (head 1 2) p5 before (said_solved (Err (record { fault = Fault.NoLabelling; place = 1 }))) after → ⊥
unfolding meaning_of rule_at word_at part
solve_refuses_at_a_later_part before after x = go ((refused_book x refl).unlabelled.lower 0 (omega arith))
  where
    go : (f : ℕ → ℕ) × Labelling (part_values class_parts 0) (in_part class_parts 0 (book_of (head 1 2) p5)) f → ⊥
    go (f, l) =
        let low : f 0 ≤ 0 = l.meets 0 (omega arith) in
        let high : 1 ≤ max 0 (f 0) = l.meets 1 (omega arith) in omega arith

-- A head of 1,025 rules is 10 at 0 with any table, and the buffers stay as they were.
too_many : (t : List ℕ) (before : Buffers) → SolveSays (head 1 1025) t before (refused 10 0) before
too_many t before = bad_table (record { bad = λ a. let z : 1025 ≤ 1024 = a.accepted.rules in omega arith; untouched = refl })

pub solve_writes_labels_on_a_refusal : (t marks : List ℕ) (a : Result ℕ Refusal) → SolveSays (head 1 1025) t (held (7 ∷ []) marks) (said_solved a) (held (0 ∷ []) marks) → ⊥
solve_writes_labels_on_a_refusal t marks a x =
    let z : ◌≡◌ {A = ℕ} 0 7 = ap (λ (b : Buffers). get_or b.levels 0 0) (says_unique x (too_many t (held (7 ∷ []) marks))).1 in omega arith

pub solve_answers_no_room_of_a_bad_table : (t : List ℕ) (before after : Buffers)
    → SolveSays (head 1 1025) t before (said_solved (Err (record { fault = Fault.NoRoom; place = 0 }))) after → ⊥
solve_answers_no_room_of_a_bad_table t before after x =
    let e : refused 11 0 ≡ refused 10 0 = (says_unique x (too_many t before)).0 in let z : ◌≡◌ {A = ℕ} 11 10 = cc in omega arith
