-- Bytes that come behind a text: what ends in the text stays as it is, and what does not has as many bytes there or more, and a closing quote more if the text
-- ends between quotes. It rests on induction over the bytes and over the fields.
-- Assumes nothing.
use mathlib.Core.Path.{◌≡◌, refl, ap, ◌∙◌}
use mathlib.Core.Bool.{Bool, true, false, cond}
use mathlib.Core.List.{List, [], ◌∷◌, ◌++◌}
use Prim.Native.Nat.{ℕ, zero, suc, ◌+◌, ◌≤◌, ◌<◌}
use native.Mathlib.Nat.{le_refl}
use native.Mathlib.Omega.{arith}
use lib.Dec.{eqb}
use lib.ListN.{length, take, drop, length-drop, length-append}
use lib.Seq.{take-append-le, drop-append-le}
use borrow.Author.Tests.{lt-leb, leb-false}
use Rattle.records.specs.Fields.{plain_byte, longer_by, after_cr, behind}
use Rattle.scans.specs.Ascii.{comma, quote, cr, lf}
use Rattle.records.specs.Fields.{Where, start, plain, quoted, closed, scan, field_at}
use Rattle.records.specs.Rows.{Row, line, bare, halved, cut, broken, field_before, row_from, row_of}
use Rattle.records.specs.Rows.{whole, more, bad, most_bytes, few_bytes, judged, record_at}
use Rattle.records.specs.declared.Field.{Field}
use Rattle.records.proofs.Within.{comma_within, line_within}
use Rattle.records.proofs.Whole.{RowLies, row_lies}

-- A field has at least k bytes, if it ends in the text.
abbrev Reaches : ℕ → Field → Type 0
Reaches k (Field.Comma n) = k ≤ n
Reaches k (Field.Line n) = k ≤ n
Reaches k (Field.End n) = k ≤ n
Reaches k (Field.Cr n) = k ≤ n
Reaches k Field.Open = Unit {0}
Reaches k Field.Bad = Unit {0}

-- What the field in a text of k bytes leaves open for the field in a longer one: behind all bytes or before a CR it has as many or more, and between quotes a
-- closing quote more.
abbrev Goes : ℕ → Field → Field → Type 0
Goes k (Field.Comma n) g = g ≡ Field.Comma n
Goes k (Field.Line n) g = g ≡ Field.Line n
Goes k (Field.End n) g = Reaches n g
Goes k (Field.Cr n) g = Reaches n g
Goes k Field.Open g = Reaches (k + 1) g
Goes k Field.Bad g = g ≡ Field.Bad

-- Every field has at least no bytes.
reaches_none : (f : Field) → Reaches 0 f
reaches_none (Field.Comma n) = omega arith
reaches_none (Field.Line n) = omega arith
reaches_none (Field.End n) = omega arith
reaches_none (Field.Cr n) = omega arith
reaches_none Field.Open = tt
reaches_none Field.Bad = tt

-- One byte longer.
reaches_longer : (i k : ℕ) (f : Field) → i ≤ k + 1 → Reaches k f → Reaches i (longer_by 1 f)
reaches_longer i k (Field.Comma n) e h = omega arith
reaches_longer i k (Field.Line n) e h = omega arith
reaches_longer i k (Field.End n) e h = omega arith
reaches_longer i k (Field.Cr n) e h = omega arith
reaches_longer i k Field.Open e h = tt
reaches_longer i k Field.Bad e h = tt

-- One byte longer, both of them.
goes_longer : (k : ℕ) (f g : Field) → Goes k f g → Goes (suc k) (longer_by 1 f) (longer_by 1 g)
goes_longer k (Field.Comma n) g h = ap (longer_by 1) h
goes_longer k (Field.Line n) g h = ap (longer_by 1) h
goes_longer k (Field.End n) g h = reaches_longer (1 + n) n g (omega arith) h
goes_longer k (Field.Cr n) g h = reaches_longer (1 + n) n g (omega arith) h
goes_longer k Field.Open g h = reaches_longer (suc k + 1) (k + 1) g (omega arith) h
goes_longer k Field.Bad g h = ap (longer_by 1) h

-- A test on a byte that is there falls out the same.
pub both : (P : Field → Field → Type 0) (t : Bool) (f g h i : Field) → P f g → P h i → P (cond t f h) (cond t g i)
both P true f g h i p q = p
both P false f g h i p q = q

-- Between quotes there is at least a closing quote.
quoted_reaches : (d : List ℕ) → Reaches 1 (scan quoted d)
unfolding scan
quoted_reaches [] = tt
quoted_reaches (b ∷ d) = by (eqb b quote)
  where
    by : (t : Bool) → Reaches 1 (cond t (longer_by 1 (scan closed d)) (longer_by 1 (scan quoted d)))
    by true = reaches_longer 1 0 (scan closed d) (omega arith) (reaches_none (scan closed d))
    by false = reaches_longer 1 0 (scan quoted d) (omega arith) (reaches_none (scan quoted d))

-- What stands behind a CR, and behind a field.
cr_goes : (a d : List ℕ) → Goes (suc (length a)) (after_cr a) (after_cr (a ++ d))
unfolding after_cr
cr_goes [] d = reaches_none (after_cr d)
cr_goes (b ∷ a) d = both (Goes (suc (suc (length a)))) (eqb b lf) _ _ _ _ refl refl

behind_goes : (b : ℕ) (a d : List ℕ) → Goes (suc (length a)) (behind (b ∷ a)) (behind (b ∷ (a ++ d)))
unfolding behind
behind_goes b a d =
    both (Goes (suc (length a))) (eqb b comma) _ _ _ _ refl (both (Goes (suc (length a))) (eqb b cr) _ _ _ _ (cr_goes a d) refl)

-- One byte further the field is one byte longer.
further : (w : Where) (a d : List ℕ) → Goes (length a) (scan w a) (scan w (a ++ d))
    → Goes (suc (length a)) (longer_by 1 (scan w a)) (longer_by 1 (scan w (a ++ d)))
further w a d h = goes_longer (length a) (scan w a) (scan w (a ++ d)) h

-- What the machine finds.
scan_goes : (w : Where) (a d : List ℕ) → Goes (length a) (scan w a) (scan w (a ++ d))
unfolding scan behind
scan_goes quoted [] d = quoted_reaches d
scan_goes start [] d = reaches_none (scan start d)
scan_goes plain [] d = reaches_none (scan plain d)
scan_goes closed [] d = reaches_none (scan closed d)
scan_goes start (b ∷ a) d =
    both (Goes (suc (length a))) (eqb b quote) _ _ _ _ (further quoted a d (scan_goes quoted a d))
    (both (Goes (suc (length a))) (plain_byte b) _ _ _ _ (further plain a d (scan_goes plain a d)) (behind_goes b a d))
scan_goes plain (b ∷ a) d =
    both (Goes (suc (length a))) (plain_byte b) _ _ _ _ (further plain a d (scan_goes plain a d)) (behind_goes b a d)
scan_goes quoted (b ∷ a) d =
    both (Goes (suc (length a))) (eqb b quote) _ _ _ _ (further closed a d (scan_goes closed a d)) (further quoted a d (scan_goes quoted a d))
scan_goes closed (b ∷ a) d =
    both (Goes (suc (length a))) (eqb b quote) _ _ _ _ (further quoted a d (scan_goes quoted a d)) (behind_goes b a d)

-- The same of rows.
abbrev RowReaches : ℕ → Row → Type 0
RowReaches k (line fs n) = k ≤ n
RowReaches k (bare fs n) = k ≤ n
RowReaches k (halved n) = k ≤ n
RowReaches k cut = Unit {0}
RowReaches k broken = Unit {0}

abbrev RowGoes : ℕ → Row → Row → Type 0
RowGoes k (line fs n) r = r ≡ line fs n
RowGoes k (bare fs n) r = RowReaches n r
RowGoes k (halved n) r = RowReaches n r
RowGoes k cut r = RowReaches (k + 1) r
RowGoes k broken r = r ≡ broken

-- A field and a comma more before a row.
before_reaches : (k j n : ℕ) (f : List ℕ) → k ≤ n + 1 + j → (r : Row) → RowReaches j r → RowReaches k (field_before f n r)
before_reaches k j n f e (line fs m) h = omega arith
before_reaches k j n f e (bare fs m) h = omega arith
before_reaches k j n f e (halved m) h = omega arith
before_reaches k j n f e cut h = tt
before_reaches k j n f e broken h = tt

before_goes : (k j n : ℕ) (f : List ℕ) → k ≤ n + 1 + j → (r s : Row) → RowGoes j r s → RowGoes k (field_before f n r) (field_before f n s)
before_goes k j n f e (line fs m) s h = ap (field_before f n) h
before_goes k j n f e (bare fs m) s h = before_reaches (n + 1 + m) m n f (le_refl (n + 1 + m)) s h
before_goes k j n f e (halved m) s h = before_reaches (n + 1 + m) m n f (le_refl (n + 1 + m)) s h
before_goes k j n f e cut s h = before_reaches (k + 1) (j + 1) n f (omega arith) s h
before_goes k j n f e broken s h = ap (field_before f n) h

-- Every row has at least no bytes.
row_reaches_none : (r : Row) → RowReaches 0 r
row_reaches_none (line fs n) = omega arith
row_reaches_none (bare fs n) = omega arith
row_reaches_none (halved n) = omega arith
row_reaches_none cut = tt
row_reaches_none broken = tt

-- A row is no shorter than its first field.
from_reaches : (k : ℕ) (rest : List ℕ → Row) (l : List ℕ) (f : Field) → Reaches k f → RowReaches k (row_from rest l f)
from_reaches k rest l (Field.Comma n) h =
    before_reaches k 0 n (take n l) (omega arith) (rest (drop (n + 1) l)) (row_reaches_none (rest (drop (n + 1) l)))
from_reaches k rest l (Field.Line n) h = h
from_reaches k rest l (Field.End n) h = h
from_reaches k rest l (Field.Cr n) h = h
from_reaches k rest l Field.Open h = tt
from_reaches k rest l Field.Bad h = tt

-- The row at the front.
row_goes : (most : ℕ) (a b : List ℕ) → RowGoes (length a) (row_of most a) (row_of most (a ++ b))
unfolding row_of
row_goes zero a b = refl
row_goes (suc most) a b = by (field_at a) refl (scan_goes start a b) (λ n. row_goes most (drop (n + 1) a) b)
  where
    by : (f : Field) → field_at a ≡ f → Goes (length a) f (field_at (a ++ b))
        → ((n : ℕ) → RowGoes (length (drop (n + 1) a)) (row_of most (drop (n + 1) a)) (row_of most (drop (n + 1) a ++ b)))
        → RowGoes (length a) (row_from (row_of most) a f) (row_from (row_of most) (a ++ b) (field_at (a ++ b)))
    by (Field.Comma n) e g i =
        let h = comma_within a e in
        rw (g, take-append-le n a b (omega arith), drop-append-le (n + 1) a b h)
        (before_goes (length a) (length (drop (n + 1) a)) n (take n a) (omega (arith, length-drop (n + 1) a)) (row_of most (drop (n + 1) a))
        (row_of most (drop (n + 1) a ++ b)) (i n))
    by (Field.Line n) e g i = let h = line_within a e in rw (g, take-append-le n a b (omega arith))
    by (Field.End n) e g i = from_reaches n (row_of most) (a ++ b) (field_at (a ++ b)) g
    by (Field.Cr n) e g i = from_reaches n (row_of most) (a ++ b) (field_at (a ++ b)) g
    by Field.Open e g i = from_reaches (length a + 1) (row_of most) (a ++ b) (field_at (a ++ b)) g
    by Field.Bad e g i = rw g

-- A record that is whole before the text's end is the same with bytes behind the text.
pub whole_stays : (last : Bool) (most : ℕ) (a b : List ℕ) {fs : List (List ℕ)} {k : ℕ} → record_at false most a ≡ whole fs k
    → record_at last most (a ++ b) ≡ whole fs k
unfolding record_at
whole_stays last most a b {fs} {k} e = by (row_of most a) (row_of most (a ++ b)) (row_goes most a b) e
  where
    never : (t : Bool) → cond t more bad ≡ whole fs k → ⊥
    never true d = let z : ◌≡◌ {A = ℕ} 0 1 = cc in omega arith
    never false d = let z : ◌≡◌ {A = ℕ} 0 1 = cc in omega arith

    by : (r s : Row) → RowGoes (length a) r s → judged false (length a) r ≡ whole fs k → judged last (length (a ++ b)) s ≡ whole fs k
    by (line gs n) s g h = ap (judged last (length (a ++ b))) g ∙ h
    by (bare gs n) s g h = absurd (never (few_bytes n) h)
    by (halved n) s g h = absurd (never (few_bytes n) h)
    by cut s g h = absurd (never (few_bytes (length a + 1)) h)
    by broken s g h = absurd (never false h)

-- A row of at least k bytes, in a text of k bytes or with no more than a closing quote to come, is no record if k are too many.
long_bad : (last : Bool) (k n : ℕ) (r : Row) → most_bytes < k → k ≤ n + 1 → RowReaches k r → judged last n r ≡ bad
long_bad last k n (line fs m) h i g = rw (lt-leb m most_bytes (omega arith))
long_bad true k n (bare fs m) h i g = rw (lt-leb m most_bytes (omega arith))
long_bad false k n (bare fs m) h i g = rw (lt-leb m most_bytes (omega arith))
long_bad true k n (halved m) h i g = refl
long_bad false k n (halved m) h i g = rw (lt-leb m most_bytes (omega arith))
long_bad true k n cut h i g = refl
long_bad false k n cut h i g = rw (lt-leb (n + 1) most_bytes (omega arith))
long_bad last k n broken h i g = refl

-- What is no record, though nothing says that the text ends, is none with bytes behind the text.
pub none_stays : (last : Bool) (most : ℕ) (a b : List ℕ) → record_at false most a ≡ bad → record_at last most (a ++ b) ≡ bad
unfolding record_at
none_stays last most a b e = by (row_of most a) (row_of most (a ++ b)) (row_lies most a) (row_goes most a b) e
  where
    enough : (k : ℕ) (t : Bool) → few_bytes k ≡ t → cond t more bad ≡ bad → most_bytes < k
    enough k true d h = let z : ◌≡◌ {A = ℕ} 0 1 = cc in absurd (omega arith)
    enough k false d h = leb-false k most_bytes d

    long : (k : ℕ) (s : Row) → k ≤ length a + 1 → RowReaches k s → cond (few_bytes k) more bad ≡ bad → judged last (length (a ++ b)) s ≡ bad
    long k s i g h = long_bad last k (length (a ++ b)) s (enough k (few_bytes k) refl h) (omega (arith, length-append a b)) g

    by : (r s : Row) → RowLies (length a) r → RowGoes (length a) r s → judged false (length a) r ≡ bad → judged last (length (a ++ b)) s ≡ bad
    by (line gs n) s i g h = ap (judged last (length (a ++ b))) g ∙ h
    by (bare gs n) s i g h = long n s (omega (arith, i.0)) g h
    by (halved n) s i g h = long n s (omega arith) g h
    by cut s i g h = long (length a + 1) s (omega arith) g h
    by broken s i g h = ap (judged last (length (a ++ b))) g
