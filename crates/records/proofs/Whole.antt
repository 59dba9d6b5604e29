-- What a record says of its text: the bytes of a whole one stand within it, it has some if the text has, and it has a field; a text that ends before
-- its record does is short. It rests on where a field lies.
-- Assumes nothing.
use mathlib.Core.Path.{◌≡◌, refl, subst}
use mathlib.Core.Bool.{Bool, true, false, cond}
use mathlib.Core.List.{List}
use Prim.Native.Nat.{ℕ, zero, suc, ◌+◌, ◌≤◌, ◌<◌}
use native.Mathlib.Omega.{arith}
use lib.ListN.{length, take, drop, length-drop}
use borrow.Author.Tests.{leb-true}
use Rattle.records.specs.Fields.{field_at}
use Rattle.records.specs.Rows.{Row, line, bare, halved, cut, broken, field_before, row_from, row_of}
use Rattle.records.specs.Rows.{Record, whole, more, bad, most_bytes, line_end, few_bytes, judged, record_at}
use Rattle.records.specs.declared.Field.{Field}
use Rattle.records.proofs.Within.{comma_within, line_within, end_within, cr_within}

-- A row has a field, and lies within the text.
abbrev pub RowLies : ℕ → Row → Type 0
RowLies size (line fs n) = (n + 2 ≤ size) × (1 ≤ length fs)
RowLies size (bare fs n) = (n ≡ size) × (1 ≤ length fs)
RowLies size (halved n) = n + 1 ≡ size
RowLies size cut = Unit {0}
RowLies size broken = Unit {0}

-- A field and a comma more before a row.
before_lies : (f : List ℕ) (n size rest : ℕ) → n + 1 + rest ≡ size → (r : Row) → RowLies rest r → RowLies size (field_before f n r)
before_lies f n size rest e (line fs m) h = (omega (arith, h.0), omega arith)
before_lies f n size rest e (bare fs m) h = (omega (arith, h.0), omega arith)
before_lies f n size rest e (halved m) h = omega arith
before_lies f n size rest e cut h = tt
before_lies f n size rest e broken h = tt

-- The row at the front of a text lies within it.
pub row_lies : (most : ℕ) (l : List ℕ) → RowLies (length l) (row_of most l)
unfolding row_of
row_lies zero l = tt
row_lies (suc most) l = by (field_at l) refl (λ n. row_lies most (drop (n + 1) l))
  where
    by : (f : Field) → field_at l ≡ f → ((n : ℕ) → RowLies (length (drop (n + 1) l)) (row_of most (drop (n + 1) l)))
        → RowLies (length l) (row_from (row_of most) l f)
    by (Field.Comma n) e g =
        before_lies (take n l) n (length l) (length (drop (n + 1) l)) (omega (arith, comma_within l e, length-drop (n + 1) l))
        (row_of most (drop (n + 1) l)) (g n)
    by (Field.Line n) e g = (line_within l e, omega arith)
    by (Field.End n) e g = (end_within l e, omega arith)
    by (Field.Cr n) e g = cr_within l e
    by Field.Open e g = tt
    by Field.Bad e g = tt

-- A whole record of k bytes, with its line end, at the front of a text.
pub record WholeHere (l : List ℕ) (fs : List (List ℕ)) (k : ℕ) : Type 0 where
  pub within : k ≤ length l
  pub some : 1 ≤ length l → 1 ≤ k
  pub fields : 1 ≤ length fs

-- What a record says of the text.
abbrev Says : List ℕ → Record → Type 0
Says l (whole fs k) = WholeHere l fs k
Says l more = length l < most_bytes + line_end
Says l bad = Unit {0}

-- What a test of the length chooses.
says_closed : (t : Bool) (l : List ℕ) (fs : List (List ℕ)) (k : ℕ) → WholeHere l fs k → Says l (cond t (whole fs k) bad)
says_closed true l fs k h = h
says_closed false l fs k h = tt

says_unfinished : (t : Bool) (l : List ℕ) (k : ℕ) → length l ≤ k + 1 → few_bytes k ≡ t → Says l (cond t more bad)
says_unfinished true l k h e = omega (arith, leb-true k most_bytes e)
says_unfinished false l k h e = tt

-- What a row says, it says as a record.
judged_says : (last : Bool) (l : List ℕ) (r : Row) → RowLies (length l) r → Says l (judged last (length l) r)
judged_says last l (line fs k) h =
    says_closed (few_bytes k) l fs (k + line_end) (record { within = h.0; some = λ i. omega arith; fields = h.1 })
judged_says true l (bare fs k) h =
    says_closed (few_bytes k) l fs (k + 0) (record { within = omega (arith, h.0); some = λ i. omega (arith, h.0); fields = h.1 })
judged_says false l (bare fs k) h = says_unfinished (few_bytes k) l k (omega (arith, h.0)) refl
judged_says true l (halved k) h = tt
judged_says false l (halved k) h = says_unfinished (few_bytes k) l k (omega arith) refl
judged_says true l cut h = tt
judged_says false l cut h = says_unfinished (few_bytes (length l + 1)) l (length l + 1) (omega arith) refl
judged_says last l broken h = tt

-- A record that is whole is there.
pub whole_here : (last : Bool) (most : ℕ) (l : List ℕ) {fs : List (List ℕ)} {k : ℕ} → record_at last most l ≡ whole fs k → WholeHere l fs k
unfolding record_at
whole_here last most l e = subst (Says l) e (judged_says last l (row_of most l) (row_lies most l))

-- A text that ends before its record does is short.
pub more_short : (last : Bool) (most : ℕ) (l : List ℕ) → record_at last most l ≡ more → length l < most_bytes + line_end
unfolding record_at
more_short last most l e = subst (Says l) e (judged_says last l (row_of most l) (row_lies most l))
