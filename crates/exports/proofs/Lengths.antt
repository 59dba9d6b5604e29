-- What is written of a text is no longer than the text and a line end: the kept fields of a record with commas between them are no longer than all of them, which are
-- the record's bytes, and only a last record may lack its line end. It also says how many fields a record has. It rests on induction over fields and records.
-- Assumes nothing.
use mathlib.Core.Path.{◌≡◌, refl, ap, subst, ◌∙◌}
use mathlib.Core.Bool.{Bool, true, false, cond}
use mathlib.Core.List.{List, [], ◌∷◌, ◌++◌}
use Prim.Native.Nat.{ℕ, zero, suc, ◌+◌, ◌≤◌, ◌<◌, zero-le}
use native.Mathlib.Decide.{dec_le}
use native.Mathlib.Omega.{arith}
use lib.ListN.{length, take, drop, length-take, length-drop, length-append, drop_of_length-le}
use Rattle.scans.specs.Ascii.{cr, lf}
use Rattle.records.specs.Fields.{field_at}
use Rattle.records.specs.Rows.{Row, line, bare, halved, cut, broken, field_before, row_from, row_of, Record, whole, more, bad, few_bytes, line_end, judged, record_at}
use Rattle.records.specs.declared.Field.{Field}
use Rattle.records.proofs.Whole.{RowLies, row_lies}
use Rattle.exports.specs.Rows.{record_of, take_on, taken_from, taken}
use Rattle.exports.specs.Text.{kept_of, commaed, with_commas, record_line, record_lines}
use Rattle.exports.proofs.Fitting.{fitted, record_within}
use Rattle.exports.proofs.Taking.{from_nothing}

-- Fields with a comma before each have at most one comma more.
commaed_most : (fs : List (List ℕ)) → length (commaed fs) ≤ 1 + length (with_commas fs)
unfolding commaed with_commas
commaed_most [] = zero-le
commaed_most (f ∷ fs) = omega arith

-- Fewer fields are no longer.
commaed_kept : (ks : List Bool) (fs : List (List ℕ)) → length (commaed (kept_of ks fs)) ≤ length (commaed fs)
unfolding commaed kept_of
commaed_kept [] fs = zero-le
commaed_kept (k ∷ ks) [] = zero-le
commaed_kept (true ∷ ks) (f ∷ fs) =
    omega (arith, length-append f (commaed (kept_of ks fs)), length-append f (commaed fs), commaed_kept ks fs)
commaed_kept (false ∷ ks) (f ∷ fs) = omega (arith, length-append f (commaed fs), commaed_kept ks fs)

with_commas_less : (fs : List (List ℕ)) → length (with_commas fs) ≤ length (commaed fs)
unfolding commaed with_commas
with_commas_less [] = zero-le
with_commas_less (f ∷ fs) = omega arith

kept_most : (ks : List Bool) (fs : List (List ℕ)) → length (with_commas (kept_of ks fs)) ≤ length (with_commas fs)
unfolding commaed with_commas kept_of
kept_most [] fs = zero-le
kept_most (k ∷ ks) [] = zero-le
kept_most (true ∷ ks) (f ∷ fs) =
    omega (arith, length-append f (commaed (kept_of ks fs)), length-append f (commaed fs), commaed_kept ks fs)
kept_most (false ∷ ks) (f ∷ fs) =
    omega (arith, length-append f (commaed fs), commaed_kept ks fs, with_commas_less (kept_of ks fs))

-- The fields of a row of n bytes, and how many there are at most.
record RowHolds (most : ℕ) (fs : List (List ℕ)) (n : ℕ) : Type 0 where
  bytes : length (with_commas fs) ≤ n
  few : length fs ≤ most

abbrev Holds : ℕ → Row → Type 0
Holds most (line fs n) = RowHolds most fs n
Holds most (bare fs n) = RowHolds most fs n
Holds most (halved n) = Unit {0}
Holds most cut = Unit {0}
Holds most broken = Unit {0}

one_field : (most n : ℕ) (l : List ℕ) → RowHolds (suc most) (take n l ∷ []) n
unfolding commaed with_commas
one_field most n l = record { bytes = omega (arith, length-take n l, length-append (take n l) []); few = omega arith }

more_fields : (most n k : ℕ) (l : List ℕ) (fs : List (List ℕ)) → RowHolds most fs k → RowHolds (suc most) (take n l ∷ fs) (n + 1 + k)
unfolding with_commas
more_fields most n k l fs h = record {
  bytes = omega (arith, length-take n l, length-append (take n l) (commaed fs), commaed_most fs, h.bytes);
  few = omega (arith, h.few);
}

row_holds : (most : ℕ) (l : List ℕ) → Holds most (row_of most l)
unfolding row_of
row_holds zero l = tt
row_holds (suc most) l = by (field_at l) (λ n. row_holds most (drop (n + 1) l))
  where
    before : (n : ℕ) (r : Row) → Holds most r → Holds (suc most) (field_before (take n l) n r)
    before n (line fs k) h = more_fields most n k l fs h
    before n (bare fs k) h = more_fields most n k l fs h
    before n (halved k) h = tt
    before n cut h = tt
    before n broken h = tt

    by : (f : Field) → ((n : ℕ) → Holds most (row_of most (drop (n + 1) l))) → Holds (suc most) (row_from (row_of most) l f)
    by (Field.Comma n) g = before n (row_of most (drop (n + 1) l)) (g n)
    by (Field.Line n) g = one_field most n l
    by (Field.End n) g = one_field most n l
    by (Field.Cr n) g = tt
    by Field.Open g = tt
    by Field.Bad g = tt

-- The fields of a whole record of k bytes, its line end among them; only the last record of a text may lack it.
pub record WholeHolds (most : ℕ) (l : List ℕ) (fs : List (List ℕ)) (k : ℕ) : Type 0 where
  pub bytes : length (with_commas fs) ≤ k
  pub line : k < length l → length (with_commas fs) + line_end ≤ k
  pub few : length fs ≤ most

abbrev Says : ℕ → List ℕ → Record → Type 0
Says most l (whole fs k) = WholeHolds most l fs k
Says most l more = Unit {0}
Says most l bad = Unit {0}

says_closed : (t : Bool) (most : ℕ) (l : List ℕ) (fs : List (List ℕ)) (k : ℕ) → WholeHolds most l fs k → Says most l (cond t (whole fs k) bad)
says_closed true most l fs k h = h
says_closed false most l fs k h = tt

says_unfinished : (t : Bool) (most : ℕ) (l : List ℕ) → Says most l (cond t more bad)
says_unfinished true most l = tt
says_unfinished false most l = tt

says : (last : Bool) (most : ℕ) (l : List ℕ) (r : Row) → RowLies (length l) r → Holds most r → Says most l (judged last (length l) r)
says last most l (line fs k) lies h =
    says_closed (few_bytes k) most l fs (k + line_end) (record { bytes = omega (arith, h.bytes); line = λ i. omega (arith, h.bytes); few = h.few })
says true most l (bare fs k) lies h =
    says_closed (few_bytes k) most l fs (k + 0) (record { bytes = omega (arith, h.bytes); line = λ i. absurd (omega (arith, lies.0)); few = h.few })
says false most l (bare fs k) lies h = says_unfinished (few_bytes k) most l
says true most l (halved k) lies h = tt
says false most l (halved k) lies h = says_unfinished (few_bytes k) most l
says true most l cut lies h = tt
says false most l cut lies h = says_unfinished (few_bytes (length l + 1)) most l
says last most l broken lies h = tt

pub whole_holds : (last : Bool) (most : ℕ) (l : List ℕ) {fs : List (List ℕ)} {k : ℕ} → record_at last most l ≡ whole fs k → WholeHolds most l fs k
unfolding record_at
whole_holds last most l e = subst (Says most l) e (says last most l (row_of most l) (row_lies most l) (row_holds most l))

-- The lines of all records that are taken.
module _ (last : Bool) (kept : List Bool) where
  from_most : (f : ℕ) (l : List ℕ) → length (record_lines kept (taken_from f last (length kept) l).rows) ≤ length l + line_end
  unfolding taken_from record_lines
  from_most zero l = zero-le
  from_most (suc f) [] = zero-le
  from_most (suc f) (b ∷ l) = by (record_of last (length kept) (b ∷ l)) refl (λ k. from_most f (drop k (b ∷ l)))
    where
      by : (r : Record) → record_of last (length kept) (b ∷ l) ≡ r
          → ((k : ℕ) → length (record_lines kept (taken_from f last (length kept) (drop k (b ∷ l))).rows) ≤ length (drop k (b ∷ l)) + line_end)
          → length (record_lines kept (take_on (λ k. taken_from f last (length kept) (drop k (b ∷ l))) r).rows) ≤ length (b ∷ l) + line_end
      by more e ih = zero-le
      by bad e ih = zero-le
      by (whole fs k) e ih = go (dec_le (length (b ∷ l)) k)
        where
          holds : WholeHolds (length kept) (b ∷ l) fs k
          holds = whole_holds last (length kept) (b ∷ l) (fitted (length kept) (record_at last (length kept) (b ∷ l)) e)

          rest : List (List (List ℕ))
          rest = (taken_from f last (length kept) (drop k (b ∷ l))).rows

          both : length (record_line kept fs ++ record_lines kept rest) ≡ length (with_commas (kept_of kept fs)) + 2 + length (record_lines kept rest)
          both =
              omega (
                arith,
                length-append (record_line kept fs) (record_lines kept rest),
                length-append (with_commas (kept_of kept fs)) (cr ∷ lf ∷ []),
              )

          go : Dec (length (b ∷ l) ≤ k) → length (record_line kept fs ++ record_lines kept rest) ≤ length (b ∷ l) + line_end
          go (yes h) =
              omega (arith, both, kept_most kept fs, holds.bytes, record_within (length kept) last (b ∷ l) e, ap length none)
            where
              none : record_lines kept rest ≡ []
              none =
                  ap (λ (m : List ℕ). record_lines kept (taken_from f last (length kept) m).rows) (drop_of_length-le (b ∷ l) h)
                  ∙ ap (λ t. record_lines kept t.rows) (from_nothing last (length kept) f)
          go (no h) = omega (arith, both, kept_most kept fs, holds.line (omega arith), ih k, length-drop k (b ∷ l))

  pub lines_most : (l : List ℕ) → length (record_lines kept (taken last (length kept) l).rows) ≤ length l + line_end
  lines_most l = from_most (length l) l
