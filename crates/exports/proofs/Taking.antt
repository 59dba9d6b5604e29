-- Taking records from the front of a text, one at a time: how far one may go at most does not matter, and what one record does. They rest on
-- induction over the number of steps, each record having a byte.
-- Assumes nothing.
use mathlib.Core.Path.{◌≡◌, refl, sym, ap, ◌∙◌}
use mathlib.Core.Bool.{Bool, true, false}
use mathlib.Core.List.{List, [], ◌∷◌}
use Prim.Native.Nat.{ℕ, zero, suc, ◌≤◌, ◌<◌, zero-le}
use native.Mathlib.Omega.{arith}
use lib.ListN.{length, drop, length-drop}
use Rattle.records.specs.Rows.{Record, whole, more, bad}
use Rattle.exports.specs.Rows.{record_of, stopped, on_top, take_on, taken_from, taken}
use Rattle.exports.proofs.Fitting.{record_some, record_within}

module _ (last : Bool) (columns : ℕ) where
  -- From no text nothing is taken.
  pub from_nothing : (f : ℕ) → taken_from f last columns [] ≡ stopped false
  unfolding taken_from
  from_nothing zero = refl
  from_nothing (suc f) = refl

  -- What one step does.
  from_step : (f b : ℕ) (l : List ℕ) (r : Record) → record_of last columns (b ∷ l) ≡ r
      → taken_from (suc f) last columns (b ∷ l) ≡ take_on (λ k. taken_from f last columns (drop k (b ∷ l))) r
  unfolding taken_from
  from_step f b l r e = ap (take_on (λ k. taken_from f last columns (drop k (b ∷ l)))) e

  -- Two numbers of steps that are both enough for a text take the same from it.
  pub enough : (f g : ℕ) (l : List ℕ) → length l ≤ f → length l ≤ g → taken_from f last columns l ≡ taken_from g last columns l
  enough zero g [] h i = rw (from_nothing 0, from_nothing g)
  enough zero g (b ∷ l) h i = absurd (omega arith)
  enough (suc f) g [] h i = rw (from_nothing (suc f), from_nothing g)
  enough (suc f) zero (b ∷ l) h i = absurd (omega arith)
  enough (suc f) (suc g) (b ∷ l) h i = step (record_of last columns (b ∷ l)) refl (λ k. enough f g (drop k (b ∷ l)))
    where
      step : (r : Record) → record_of last columns (b ∷ l) ≡ r
          → ((k : ℕ) → length (drop k (b ∷ l)) ≤ f → length (drop k (b ∷ l)) ≤ g
          → taken_from f last columns (drop k (b ∷ l)) ≡ taken_from g last columns (drop k (b ∷ l)))
          → taken_from (suc f) last columns (b ∷ l) ≡ taken_from (suc g) last columns (b ∷ l)
      step (whole fs k) e ih =
          let s = record_some columns last b l e in
          from_step f b l _ e
          ∙ ap (on_top fs k) (ih k (omega (arith, length-drop k (b ∷ l))) (omega (arith, length-drop k (b ∷ l))))
          ∙ sym (from_step g b l _ e)
      step more e ih = from_step f b l _ e ∙ sym (from_step g b l _ e)
      step bad e ih = from_step f b l _ e ∙ sym (from_step g b l _ e)

  -- As many steps as the text has bytes are enough.
  pub enough_taken : (f : ℕ) (l : List ℕ) → length l ≤ f → taken_from f last columns l ≡ taken last columns l
  enough_taken f l h = enough f (length l) l h (omega arith)

  -- One record.
  pub taken_nothing : taken last columns [] ≡ stopped false
  taken_nothing = from_nothing 0

  pub taken_whole : (l : List ℕ) → 0 < length l → {fs : List (List ℕ)} {k : ℕ} → record_of last columns l ≡ whole fs k
      → taken last columns l ≡ on_top fs k (taken last columns (drop k l))
  taken_whole [] h e = absurd (omega arith)
  taken_whole (b ∷ l) h {fs} {k} e =
      let s = record_some columns last b l e in
      from_step (length l) b l _ e
      ∙ ap (on_top fs k) (enough_taken (length l) (drop k (b ∷ l)) (omega (arith, length-drop k (b ∷ l))))

  pub taken_more : (l : List ℕ) → record_of last columns l ≡ more → taken last columns l ≡ stopped false
  taken_more [] e = taken_nothing
  taken_more (b ∷ l) e = from_step (length l) b l more e

  pub taken_bad : (l : List ℕ) → 0 < length l → record_of last columns l ≡ bad → taken last columns l ≡ stopped true
  taken_bad [] h e = absurd (omega arith)
  taken_bad (b ∷ l) h e = from_step (length l) b l bad e

  -- No more bytes are taken than there are.
  from_within : (f : ℕ) (l : List ℕ) → (taken_from f last columns l).used ≤ length l
  unfolding taken_from
  from_within zero l = zero-le
  from_within (suc f) [] = zero-le
  from_within (suc f) (b ∷ l) = step (record_of last columns (b ∷ l)) refl (λ k. from_within f (drop k (b ∷ l)))
    where
      step : (r : Record) → record_of last columns (b ∷ l) ≡ r → ((k : ℕ) → (taken_from f last columns (drop k (b ∷ l))).used ≤ length (drop k (b ∷ l)))
          → (take_on (λ k. taken_from f last columns (drop k (b ∷ l))) r).used ≤ length (b ∷ l)
      step (whole fs k) e ih = omega (arith, ih k, length-drop k (b ∷ l), record_within columns last (b ∷ l) e)
      step more e ih = zero-le
      step bad e ih = zero-le

  pub taken_within : (l : List ℕ) → (taken last columns l).used ≤ length l
  taken_within l = from_within (length l) l
