-- Any two results that the promise of solving allows are equal: the answer, and the content of both buffers.
-- Assumes nothing.
use mathlib.Core.Path.{◌≡◌, refl, sym, ◌∙◌, ap, ap₂}
use mathlib.Core.List.{List, [], ◌∷◌}
use Prim.Native.Nat.{ℕ, ◌<◌}
use native.Mathlib.Decide.{dec_lt}
use native.Mathlib.Omega.{arith}
use lib.ListN.{get_or}
use lib.Seq.{ext_get_or}
use Rattle.classes.specs.declared.Class.{Class}
use Rattle.refusals.specs.declared.Fault.{Fault}
use Rattle.refusals.specs.Said.{Said, success, refused, refused_by}
use Rattle.refusals.proofs.Said.{said_injective, refusal_of, refusal_back}
use Rattle.meaning.proofs.Demands.{wanted_unique, refused_unique, refused_unlabelled}
use Rattle.rules.specs.declared.Head.{Head}
use Rattle.rules.specs.Table.{book_of}
use Rattle.accepts.proofs.Inside.{table_inside}
use Rattle.solver.specs.Solving.{said_solved, Buffers, held, labels_of, RestKept, WritesLabels, RefusesBook, SolveSays, bad_table, no_room, has_no_labelling, writes_labels}
use Rattle.std.specs.Prelude.{Result, Ok, Err}
use Rattle.refusals.specs.declared.Refusal.{Refusal}

-- two lists that keep the same rest, and agree in front, are equal
kept_same : {n : ℕ} {before a b : List ℕ} → RestKept n before a → RestKept n before b → ((i : ℕ) → i < n → get_or a i 0 ≡ get_or b i 0) → a ≡ b
kept_same {n} {before} {a} {b} x y front = ext_get_or 0 a b (x.sized ∙ sym y.sized) (λ i s. pick i (dec_lt i n))
  where
    pick : (i : ℕ) → Dec (i < n) → get_or a i 0 ≡ get_or b i 0
    pick i (yes s) = front i s
    pick i (no s) = x.rest i (omega arith) ∙ sym (y.rest i (omega arith))

-- An answer is known by what it says.
abbrev first_or : List ℕ → Result ℕ Refusal
first_or [] = Ok 0
first_or (k ∷ l) = Ok k

abbrev solved_of : Said → Result ℕ Refusal
solved_of (success c l) = first_or l
solved_of (refused n p) = Err (refusal_of n p)

solved_back : (a : Result ℕ Refusal) → solved_of (said_solved a) ≡ a
solved_back (Ok k) = refl
solved_back (Err r) = ap Err (refusal_back r)

module _ {h : Head} {t : List ℕ} {before : Buffers} where
  written_same : {k j : ℕ} {a b : Buffers} → WritesLabels h t k before a → WritesLabels h t j before b → a ≡ b
  written_same {a = a} {b = b} x y =
      ap₂ held
      (kept_same x.levels y.levels (λ i s. ap (λ (c : Class). c.level) (labels i s)))
      (kept_same x.marks y.marks (λ i s. ap (λ (c : Class). c.marks) (labels i s)))
    where
      labels : (i : ℕ) → i < h.items → labels_of a i ≡ labels_of b i
      labels = wanted_unique (book_of h t) (table_inside x.accepted) x.wanted y.wanted

  wanted_not_refused : {k p : ℕ} {a b : Buffers} → WritesLabels h t k before a → RefusesBook h t p before b → ⊥
  wanted_not_refused x y = refused_unlabelled (book_of h t) (table_inside x.accepted) y.unlabelled x.wanted.labelling

  -- Of any table and buffers only one thing is said, and the buffers have one content.
  pub says_unique : {x y : Said} {a b : Buffers} → SolveSays h t before x a → SolveSays h t before y b → (x ≡ y) × (a ≡ b)
  says_unique (bad_table x) (bad_table y) = (refl, x.untouched ∙ sym y.untouched)
  says_unique (bad_table x) (no_room y) = absurd (x.bad y.accepted)
  says_unique (bad_table x) (has_no_labelling y) = absurd (x.bad y.accepted)
  says_unique (bad_table x) (writes_labels y) = absurd (x.bad y.accepted)
  says_unique (no_room x) (bad_table y) = absurd (y.bad x.accepted)
  says_unique (no_room x) (no_room y) = (refl, x.untouched ∙ sym y.untouched)
  says_unique (no_room x) (has_no_labelling y) = absurd (x.short y.room)
  says_unique (no_room x) (writes_labels y) = absurd (x.short y.room)
  says_unique (has_no_labelling x) (bad_table y) = absurd (y.bad x.accepted)
  says_unique (has_no_labelling x) (no_room y) = absurd (y.short x.room)
  says_unique (has_no_labelling x) (has_no_labelling y) =
      (ap (refused_by Fault.NoLabelling) (refused_unique (book_of h t) (table_inside x.accepted) x.unlabelled y.unlabelled), x.untouched ∙ sym y.untouched)
  says_unique (has_no_labelling x) (writes_labels y) = absurd (wanted_not_refused y x)
  says_unique (writes_labels x) (bad_table y) = absurd (y.bad x.accepted)
  says_unique (writes_labels x) (no_room y) = absurd (y.short x.room)
  says_unique (writes_labels x) (has_no_labelling y) = absurd (wanted_not_refused x y)
  says_unique (writes_labels x) (writes_labels y) = (ap (λ k. success 0 (k ∷ [])) (x.count ∙ sym y.count), written_same x y)

  -- Any two results that solving allows are equal.
  pub solve_unique : {x y : Result ℕ Refusal} {a b : Buffers} → SolveSays h t before (said_solved x) a → SolveSays h t before (said_solved y) b → (x ≡ y) × (a ≡ b)
  solve_unique p q = (said_injective said_solved solved_of solved_back (says_unique p q).0, (says_unique p q).1)
