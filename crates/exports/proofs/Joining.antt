-- Lines as a loop writes them, a comma behind each field that is kept, and one record's line behind the others. They rest on induction over the
-- fields and the records.
-- Assumes nothing.
use mathlib.Core.Path.{◌≡◌, refl, sym, ap, ◌∙◌}
use mathlib.Core.Bool.{Bool, true, false, cond}
use mathlib.Core.List.{List, [], ◌∷◌, ◌++◌, append_assoc, append-nil}
use Prim.Native.Nat.{ℕ, ◌<◌}
use native.Mathlib.Omega.{arith}
use lib.ListN.{length, get_or}
use Rattle.exports.specs.Text.{kept_of, commaed, with_commas, record_line, record_lines}
use Rattle.scans.specs.Ascii.{comma}

-- Each field with a comma behind it, one after the other.
unfoldable pub closed_each : List (List ℕ) → List ℕ
closed_each [] = []
closed_each (f ∷ fs) = f ++ comma ∷ closed_each fs

-- No field, no record.
pub closed_none : closed_each [] ≡ []
unfolding closed_each
closed_none = refl

pub kept_none : (ks : List Bool) → kept_of ks [] ≡ []
unfolding kept_of
kept_none [] = refl
kept_none (k ∷ ks) = refl

pub lines_none : (kept : List Bool) → record_lines kept [] ≡ []
unfolding record_lines
lines_none kept = refl

-- One more field.
pub closed_one_more : (gs : List (List ℕ)) (f : List ℕ) → closed_each (gs ++ f ∷ []) ≡ closed_each gs ++ f ++ comma ∷ []
unfolding closed_each
closed_one_more [] f = refl
closed_one_more (g ∷ gs) f = ap (λ r. g ++ comma ∷ r) (closed_one_more gs f) ∙ simp append_assoc

-- The same with a comma before each field.
comma_behind : (fs : List (List ℕ)) → comma ∷ closed_each fs ≡ commaed fs ++ comma ∷ []
unfolding closed_each commaed
comma_behind [] = refl
comma_behind (f ∷ fs) = ap (λ r. comma ∷ r) (ap (λ r. f ++ r) (comma_behind fs) ∙ sym (append_assoc f (commaed fs) (comma ∷ [])))

-- Without the last comma they are withCommas.
pub closed_commas : (gs : List (List ℕ)) → 0 < length gs → closed_each gs ≡ with_commas gs ++ comma ∷ []
unfolding closed_each with_commas
closed_commas [] h = absurd (omega arith)
closed_commas (f ∷ fs) h = ap (λ r. f ++ r) (comma_behind fs) ∙ sym (append_assoc f (commaed fs) (comma ∷ []))

-- One more field of a record, kept or not.
pub kept_one_more : (ks : List Bool) (fs : List (List ℕ)) (f : List ℕ) → length fs < length ks
    → kept_of ks (fs ++ f ∷ []) ≡ kept_of ks fs ++ cond (get_or ks (length fs) false) (f ∷ []) []
unfolding kept_of
kept_one_more [] fs f h = absurd (omega arith)
kept_one_more (true ∷ []) [] f h = refl
kept_one_more (false ∷ []) [] f h = refl
kept_one_more (true ∷ k ∷ ks) [] f h = refl
kept_one_more (false ∷ k ∷ ks) [] f h = refl
kept_one_more (true ∷ ks) (g ∷ fs) f h = ap (λ r. g ∷ r) (kept_one_more ks fs f (omega arith))
kept_one_more (false ∷ ks) (g ∷ fs) f h = kept_one_more ks fs f (omega arith)

-- The lines of records one behind the other.
pub lines_append : (kept : List Bool) (a b : List (List (List ℕ))) → record_lines kept (a ++ b) ≡ record_lines kept a ++ record_lines kept b
unfolding record_lines
lines_append kept [] b = refl
lines_append kept (fs ∷ a) b =
    ap (λ r. record_line kept fs ++ r) (lines_append kept a b)
    ∙ sym (append_assoc (record_line kept fs) (record_lines kept a) (record_lines kept b))

-- One more record.
pub lines_one_more : (kept : List Bool) (rows : List (List (List ℕ))) (fs : List (List ℕ))
    → record_lines kept (rows ++ fs ∷ []) ≡ record_lines kept rows ++ record_line kept fs
unfolding record_lines
lines_one_more kept rows fs = lines_append kept rows (fs ∷ []) ∙ ap (λ r. record_lines kept rows ++ r) (append-nil (record_line kept fs))
