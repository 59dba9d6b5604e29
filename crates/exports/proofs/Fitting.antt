-- The record with the header's number of fields at the front of a text: it is the record there, no longer than the text, and what follows the
-- text does not change it. They rest on the laws of `records` and on cases.
-- Assumes nothing.
use mathlib.Core.Path.{◌≡◌, refl, sym, ap, ◌∙◌}
use mathlib.Core.Bool.{Bool, true, false, cond}
use mathlib.Core.List.{List, ◌∷◌, ◌++◌}
use Prim.Native.Nat.{ℕ, ◌≤◌}
use native.Mathlib.Omega.{arith}
use lib.Dec.{eqb}
use lib.ListN.{length}
use Rattle.records.specs.Rows.{Record, whole, more, bad, record_at}
use Rattle.records.proofs.Prefix.{whole_stays, none_stays}
use Rattle.records.proofs.Whole.{whole_here}
use Rattle.exports.specs.Rows.{fitting, record_of}

-- What the header lets through is the record that is there.
pub fitted : (columns : ℕ) (r : Record) {fs : List (List ℕ)} {k : ℕ} → fitting columns r ≡ whole fs k → r ≡ whole fs k
fitted columns more e = let z : ◌≡◌ {A = ℕ} 0 1 = cc in absurd (omega arith)
fitted columns bad e = let z : ◌≡◌ {A = ℕ} 0 1 = cc in absurd (omega arith)
fitted columns (whole gs n) {fs} {k} e = step (eqb (length gs) columns) e
  where
    step : (t : Bool) → cond t (whole gs n) bad ≡ whole fs k → whole gs n ≡ whole fs k
    step true e = e
    step false e = let z : ◌≡◌ {A = ℕ} 0 1 = cc in absurd (omega arith)

-- So is one that is unfinished.
pub unfinished_there : (columns : ℕ) (r : Record) → fitting columns r ≡ more → r ≡ more
unfinished_there columns (whole fs k) e = by (eqb (length fs) columns) e
  where
    by : (b : Bool) → cond b (whole fs k) bad ≡ more → whole fs k ≡ more
    by true f = f
    by false f = let z : ◌≡◌ {A = ℕ} 0 1 = cc in absurd (omega arith)
unfinished_there columns more e = refl
unfinished_there columns bad e = let z : ◌≡◌ {A = ℕ} 0 1 = cc in absurd (omega arith)

module _ (columns : ℕ) where
  -- A record is no longer than the text, and has a byte.
  pub record_within : (last : Bool) (l : List ℕ) {fs : List (List ℕ)} {k : ℕ} → record_of last columns l ≡ whole fs k → k ≤ length l
  record_within last l e = (whole_here last columns l (fitted columns (record_at last columns l) e)).within

  pub record_some : (last : Bool) (b : ℕ) (l : List ℕ) {fs : List (List ℕ)} {k : ℕ} → record_of last columns (b ∷ l) ≡ whole fs k → 1 ≤ k
  record_some last b l e = (whole_here last columns (b ∷ l) (fitted columns (record_at last columns (b ∷ l)) e)).some (omega arith)

  -- A record that is whole before its text ends is the same whatever follows.
  pub record_prefix : (last : Bool) (a b : List ℕ) {fs : List (List ℕ)} {k : ℕ} → record_of false columns a ≡ whole fs k
      → record_of last columns (a ++ b) ≡ whole fs k
  record_prefix last a b e =
      let same = fitted columns (record_at false columns a) e in
      ap (fitting columns) (whole_stays last columns a b same ∙ sym same) ∙ e

  -- A record that is bad before its text ends is bad whatever follows.
  pub record_bad_prefix : (a b : List ℕ) → record_of false columns a ≡ bad → record_of true columns (a ++ b) ≡ bad
  record_bad_prefix a b e = step (record_at false columns a) refl e
    where
      step : (r : Record) → record_at false columns a ≡ r → fitting columns r ≡ bad → record_of true columns (a ++ b) ≡ bad
      step (whole fs k) q e = rw (whole_stays true columns a b q) e
      step more q e = let z : ◌≡◌ {A = ℕ} 0 1 = cc in absurd (omega arith)
      step bad q e = rw (none_stays true columns a b q)
