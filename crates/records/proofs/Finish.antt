-- What waits can still become a record: behind a text that ends before its record does, a few bytes end it. It rests on induction over the bytes and over the
-- fields.
-- Assumes nothing.
use mathlib.Core.Path.{◌≡◌, refl, ap, ◌∙◌}
use mathlib.Core.Bool.{Bool, true, false, cond}
use mathlib.Core.List.{List, [], ◌∷◌, ◌++◌}
use Prim.Native.Nat.{ℕ, zero, suc, ◌+◌, ◌≤◌}
use native.Mathlib.Omega.{arith}
use lib.Dec.{eqb}
use lib.ListN.{length, take, drop, length-drop}
use lib.Seq.{drop-append-le}
use borrow.Author.Tests.{le-leb, leb-true}
use Rattle.records.specs.Fields.{plain_byte, longer_by, after_cr, behind}
use Rattle.scans.specs.Ascii.{comma, quote, cr, lf}
use Rattle.records.specs.Fields.{Where, start, plain, quoted, closed, scan, field_at}
use Rattle.records.specs.Rows.{Row, line, bare, halved, cut, broken, field_before, row_from, row_of}
use Rattle.records.specs.Rows.{whole, more, bad, most_bytes, line_end, few_bytes, judged, record_at}
use Rattle.records.specs.declared.Field.{Field}
use Rattle.records.proofs.Within.{comma_within}
use Rattle.records.proofs.Prefix.{both}

-- How a text may end before its record does: behind a field, after a CR, between quotes.
data Stop : Type 0 where
  at_field : Stop
  at_cr : Stop
  at_quoted : Stop

-- The bytes that end the record.
abbrev rest : Stop → List ℕ
rest at_field = cr ∷ lf ∷ []
rest at_cr = lf ∷ []
rest at_quoted = quote ∷ cr ∷ lf ∷ []

-- With these bytes behind a text of k bytes a field that stops so has a CRLF behind it, and one with a comma behind it is the same.
abbrev Ends : Stop → ℕ → Field → Field → Type 0
Ends s k (Field.Comma n) g = g ≡ Field.Comma n
Ends s k (Field.Line n) g = Unit {0}
Ends at_field k (Field.End n) g = g ≡ Field.Line n
Ends at_cr k (Field.End n) g = Unit {0}
Ends at_quoted k (Field.End n) g = Unit {0}
Ends at_field k (Field.Cr n) g = Unit {0}
Ends at_cr k (Field.Cr n) g = g ≡ Field.Line n
Ends at_quoted k (Field.Cr n) g = Unit {0}
Ends at_field k Field.Open g = Unit {0}
Ends at_cr k Field.Open g = Unit {0}
Ends at_quoted k Field.Open g = g ≡ Field.Line (k + 1)
Ends s k Field.Bad g = Unit {0}

-- One byte longer, both of them.
ends_longer : (s : Stop) (k : ℕ) (f g : Field) → Ends s k f g → Ends s (suc k) (longer_by 1 f) (longer_by 1 g)
ends_longer s k (Field.Comma n) g h = ap (longer_by 1) h
ends_longer s k (Field.Line n) g h = tt
ends_longer at_field k (Field.End n) g h = ap (longer_by 1) h
ends_longer at_cr k (Field.End n) g h = tt
ends_longer at_quoted k (Field.End n) g h = tt
ends_longer at_field k (Field.Cr n) g h = tt
ends_longer at_cr k (Field.Cr n) g h = ap (longer_by 1) h
ends_longer at_quoted k (Field.Cr n) g h = tt
ends_longer at_field k Field.Open g h = tt
ends_longer at_cr k Field.Open g h = tt
ends_longer at_quoted k Field.Open g h = ap (longer_by 1) h ∙ ap Field.Line (let e : 1 + (k + 1) ≡ suc k + 1 = omega arith in e)
ends_longer s k Field.Bad g h = tt

-- What stands behind a CR, and behind a field.
cr_ends : (s : Stop) (k : ℕ) (a : List ℕ) → Ends s k (after_cr a) (after_cr (a ++ rest s))
unfolding after_cr
cr_ends at_field k [] = tt
cr_ends at_cr k [] = refl
cr_ends at_quoted k [] = tt
cr_ends s k (b ∷ a) = both (Ends s k) (eqb b lf) _ _ _ _ tt tt

behind_ends : (s : Stop) (k b : ℕ) (a : List ℕ) → Ends s k (behind (b ∷ a)) (behind (b ∷ (a ++ rest s)))
unfolding behind
behind_ends s k b a = both (Ends s k) (eqb b comma) _ _ _ _ refl (both (Ends s k) (eqb b cr) _ _ _ _ (cr_ends s k a) tt)

-- One byte further the field is one byte longer.
further : (s : Stop) (w : Where) (a : List ℕ) → Ends s (length a) (scan w a) (scan w (a ++ rest s))
    → Ends s (suc (length a)) (longer_by 1 (scan w a)) (longer_by 1 (scan w (a ++ rest s)))
further s w a h = ends_longer s (length a) (scan w a) (scan w (a ++ rest s)) h

-- What the machine finds.
scan_ends : (s : Stop) (w : Where) (a : List ℕ) → Ends s (length a) (scan w a) (scan w (a ++ rest s))
unfolding scan behind after_cr plain_byte
scan_ends at_field quoted [] = tt
scan_ends at_field start [] = refl
scan_ends at_field plain [] = refl
scan_ends at_field closed [] = refl
scan_ends at_cr quoted [] = tt
scan_ends at_cr start [] = tt
scan_ends at_cr plain [] = tt
scan_ends at_cr closed [] = tt
scan_ends at_quoted quoted [] = refl
scan_ends at_quoted start [] = tt
scan_ends at_quoted plain [] = tt
scan_ends at_quoted closed [] = tt
scan_ends s start (b ∷ a) =
    both (Ends s (suc (length a))) (eqb b quote) _ _ _ _ (further s quoted a (scan_ends s quoted a))
    (both (Ends s (suc (length a))) (plain_byte b) _ _ _ _ (further s plain a (scan_ends s plain a)) (behind_ends s (suc (length a)) b a))
scan_ends s plain (b ∷ a) =
    both (Ends s (suc (length a))) (plain_byte b) _ _ _ _ (further s plain a (scan_ends s plain a)) (behind_ends s (suc (length a)) b a)
scan_ends s quoted (b ∷ a) =
    both (Ends s (suc (length a))) (eqb b quote) _ _ _ _ (further s closed a (scan_ends s closed a)) (further s quoted a (scan_ends s quoted a))
scan_ends s closed (b ∷ a) =
    both (Ends s (suc (length a))) (eqb b quote) _ _ _ _ (further s quoted a (scan_ends s quoted a)) (behind_ends s (suc (length a)) b a)

-- The same of rows: one of n bytes, with a CRLF behind it.
abbrev LineOf : ℕ → Row → Type 0
LineOf n (line fs m) = m ≡ n
LineOf n (bare fs m) = ⊥
LineOf n (halved m) = ⊥
LineOf n cut = ⊥
LineOf n broken = ⊥

abbrev RowEnds : Stop → ℕ → Row → Row → Type 0
RowEnds s k (line fs n) r = Unit {0}
RowEnds at_field k (bare fs n) r = LineOf n r
RowEnds at_cr k (bare fs n) r = Unit {0}
RowEnds at_quoted k (bare fs n) r = Unit {0}
RowEnds at_field k (halved n) r = Unit {0}
RowEnds at_cr k (halved n) r = LineOf n r
RowEnds at_quoted k (halved n) r = Unit {0}
RowEnds at_field k cut r = Unit {0}
RowEnds at_cr k cut r = Unit {0}
RowEnds at_quoted k cut r = LineOf (k + 1) r
RowEnds s k broken r = Unit {0}

-- A field and a comma more before a row.
line_before : (k j n : ℕ) (f : List ℕ) → k ≡ n + 1 + j → (r : Row) → LineOf j r → LineOf k (field_before f n r)
line_before k j n f e (line fs m) h = omega arith
line_before k j n f e (bare fs m) h = absurd h
line_before k j n f e (halved m) h = absurd h
line_before k j n f e cut h = absurd h
line_before k j n f e broken h = absurd h

before_ends : (s : Stop) (k j n : ℕ) (f g : List ℕ) → k ≡ n + 1 + j → (q r : Row) → RowEnds s j q r → RowEnds s k (field_before f n q) (field_before g n r)
before_ends s k j n f g e (line fs m) r h = tt
before_ends at_field k j n f g e (bare fs m) r h = line_before (n + 1 + m) m n g refl r h
before_ends at_cr k j n f g e (bare fs m) r h = tt
before_ends at_quoted k j n f g e (bare fs m) r h = tt
before_ends at_field k j n f g e (halved m) r h = tt
before_ends at_cr k j n f g e (halved m) r h = line_before (n + 1 + m) m n g refl r h
before_ends at_quoted k j n f g e (halved m) r h = tt
before_ends at_field k j n f g e cut r h = tt
before_ends at_cr k j n f g e cut r h = tt
before_ends at_quoted k j n f g e cut r h = line_before (k + 1) (j + 1) n g (omega arith) r h
before_ends s k j n f g e broken r h = tt

-- The row at the front.
row_ends : (s : Stop) (most : ℕ) (a : List ℕ) → RowEnds s (length a) (row_of most a) (row_of most (a ++ rest s))
unfolding row_of
row_ends s zero a = tt
row_ends s (suc most) a = by s (field_at a) refl (scan_ends s start a) (λ n. row_ends s most (drop (n + 1) a))
  where
    by : (t : Stop) (f : Field) → field_at a ≡ f → Ends t (length a) f (field_at (a ++ rest t))
        → ((n : ℕ) → RowEnds t (length (drop (n + 1) a)) (row_of most (drop (n + 1) a)) (row_of most (drop (n + 1) a ++ rest t)))
        → RowEnds t (length a) (row_from (row_of most) a f) (row_from (row_of most) (a ++ rest t) (field_at (a ++ rest t)))
    by t (Field.Comma n) e g i =
        let h = comma_within a e in
        rw (g, drop-append-le (n + 1) a (rest t) h)
        (before_ends t (length a) (length (drop (n + 1) a)) n (take n a) (take n (a ++ rest t)) (omega (arith, length-drop (n + 1) a))
        (row_of most (drop (n + 1) a)) (row_of most (drop (n + 1) a ++ rest t)) (i n))
    by t (Field.Line n) e g i = tt
    by at_field (Field.End n) e g i = rw g
    by at_cr (Field.End n) e g i = tt
    by at_quoted (Field.End n) e g i = tt
    by at_field (Field.Cr n) e g i = tt
    by at_cr (Field.Cr n) e g i = rw g
    by at_quoted (Field.Cr n) e g i = tt
    by at_field Field.Open e g i = tt
    by at_cr Field.Open e g i = tt
    by at_quoted Field.Open e g i = rw g
    by t Field.Bad e g i = tt

-- With some bytes behind the text there is a whole record at its front.
pub record MayEnd (last : Bool) (most : ℕ) (l : List ℕ) : Type 0 where
  pub behind : List ℕ
  pub fields : List (List ℕ)
  pub bytes : ℕ
  pub is : record_at last most (l ++ behind) ≡ whole fields bytes

module _ (last : Bool) (most : ℕ) (l : List ℕ) where
  finish : (s : Stop) (k : ℕ) → k ≤ most_bytes → LineOf k (row_of most (l ++ rest s)) → MayEnd last most l
  unfolding record_at
  finish s k h g = by (row_of most (l ++ rest s)) refl g
    where
      by : (r : Row) → row_of most (l ++ rest s) ≡ r → LineOf k r → MayEnd last most l
      by (line fs m) e d = record {
        behind = rest s;
        fields = fs;
        bytes = m + line_end;
        is = ap (judged last (length (l ++ rest s))) e ∙ ap (λ (t : Bool). cond t (whole fs (m + line_end)) bad) (le-leb m most_bytes (omega arith));
      }
      by (bare fs m) e d = absurd d
      by (halved m) e d = absurd d
      by cut e d = absurd d
      by broken e d = absurd d

  -- What waits is not bad already: bytes may come behind the text with which its record is whole.
  pub more_may_end : record_at false most l ≡ more → MayEnd last most l
  unfolding record_at
  more_may_end e = by (row_of most l) (λ s. row_ends s most l) e
    where
      few : (k : ℕ) (t : Bool) → few_bytes k ≡ t → cond t more bad ≡ more → k ≤ most_bytes
      few k true d h = leb-true k most_bytes d
      few k false d h = let z : ◌≡◌ {A = ℕ} 0 1 = cc in absurd (omega arith)

      never : (t : Bool) (fs : List (List ℕ)) (k : ℕ) → cond t (whole fs k) bad ≡ more → ⊥
      never true fs k h = let z : ◌≡◌ {A = ℕ} 0 1 = cc in omega arith
      never false fs k h = let z : ◌≡◌ {A = ℕ} 0 1 = cc in omega arith

      by : (r : Row) → ((s : Stop) → RowEnds s (length l) r (row_of most (l ++ rest s))) → judged false (length l) r ≡ more → MayEnd last most l
      by (line fs k) g h = absurd (never (few_bytes k) fs (k + line_end) h)
      by (bare fs k) g h = finish at_field k (few k (few_bytes k) refl h) (g at_field)
      by (halved k) g h = finish at_cr k (few k (few_bytes k) refl h) (g at_cr)
      by cut g h = finish at_quoted (length l + 1) (few (length l + 1) (few_bytes (length l + 1)) refl h) (g at_quoted)
      by broken g h = absurd (never false [] 0 h)
