-- The fields of a whole record by where they end: each stands from its start up to its end, and they have no more bytes than the record. It rests on the
-- definitions of a row and of its ends, by induction over the fields.
-- Assumes nothing.
use mathlib.Core.Path.{◌≡◌, refl, sym, ap, subst, ◌∙◌}
use mathlib.Core.Bool.{Bool, true, false, cond}
use mathlib.Core.List.{List, [], ◌∷◌, ◌++◌}
use Prim.Native.Nat.{ℕ, zero, suc, ◌+◌, ◌-◌, ◌≤◌, ◌<◌, min, zero-le}
use native.Mathlib.Decide.{dec_le}
use native.Mathlib.Nat.{zero-add}
use native.Mathlib.Numerals.{add-one}
use native.Mathlib.Omega.{arith}
use lib.ListN.{length, get_or, take, drop, length-append, length-drop, get_or-append}
use lib.Seq.{drop-drop, get_or_at, ext_get_or}
use Rattle.laws.specs.Over.{over}
use Rattle.laws.proofs.Buffers.{over_inside}
use Rattle.laws.proofs.Over.{over_length}
use Rattle.records.specs.Fields.{field_at, field_len}
use Rattle.records.specs.Rows.{Row, line, bare, halved, cut, broken, field_before, row_from, row_of}
use Rattle.records.specs.Rows.{Record, whole, more, bad, line_end, few_bytes, closed_by, judged, record_at, size_of, ends_behind, ends_of, RowSays}
use Rattle.records.specs.Rows.{part_of, start_at, nth_field}
use Rattle.records.specs.Inner.{FieldSpan, FieldSpans, fields_to}
use Rattle.records.specs.declared.Extent.{Extent}
use Rattle.records.specs.declared.Field.{Field}
use Rattle.records.specs.declared.Size.{Size}
use Rattle.records.proofs.Within.{comma_within, len_within}
use Rattle.records.proofs.Whole.{RowLies, row_lies, whole_here}

-- A field lies within the text.
module _ {l : List ℕ} {from to : ℕ} (p : FieldSpan l from to) where
  pub span_order : from ≤ to
  span_order = omega (arith, p.end)

  pub span_within : to ≤ length l
  span_within = omega (arith, p.end, p.start, len_within (drop from l), length-drop from l)

-- The first fields of a record: none, one more, how many they are, and one of them.
pub fields_none : (l : List ℕ) (at : ℕ) (ends : List ℕ) → fields_to l at ends 0 ≡ []
unfolding fields_to
fields_none l at ends = refl

pub fields_more : (l : List ℕ) (at : ℕ) (ends : List ℕ) (c : ℕ)
    → fields_to l at ends (c + 1) ≡ fields_to l at ends c ++ nth_field l at ends c ∷ []
unfolding fields_to
fields_more l at ends c = ap (fields_to l at ends) (add-one c)

pub fields_count : (l : List ℕ) (at : ℕ) (ends : List ℕ) (c : ℕ) → length (fields_to l at ends c) ≡ c
unfolding fields_to
fields_count l at ends zero = refl
fields_count l at ends (suc c) =
    length-append (fields_to l at ends c) _ ∙ ap (λ (k : ℕ). k + 1) (fields_count l at ends c) ∙ add-one c

pub fields_at : (l : List ℕ) (at : ℕ) (ends : List ℕ) (n c : ℕ) → c < n
    → get_or (fields_to l at ends n) c [] ≡ nth_field l at ends c
unfolding fields_to
fields_at l at ends zero c h = absurd (omega arith)
fields_at l at ends (suc n) c h = by (dec_le n c) (fields_at l at ends n c)
  where
    by : Dec (n ≤ c) → (c < n → get_or (fields_to l at ends n) c [] ≡ nth_field l at ends c)
        → get_or (fields_to l at ends n ++ nth_field l at ends n ∷ []) c [] ≡ nth_field l at ends c
    by (yes g) ih =
        let e : c ≡ n = omega arith in
        rw e (get_or_at (fields_to l at ends n) (nth_field l at ends n) [] [] n (fields_count l at ends n))
    by (no g) ih =
        get_or-append (fields_to l at ends n) (nth_field l at ends n ∷ []) [] c (omega (arith, fields_count l at ends n))
        ∙ ih (omega arith)

-- The start of the field behind field c.
pub start_more : (at : ℕ) (ends : List ℕ) (c : ℕ) → start_at at ends (c + 1) ≡ get_or ends c 0 + 1
start_more at ends c = ap (start_at at ends) (add-one c)

-- These are the fields of a record by where they end.
record FieldsBy (l : List ℕ) (at : ℕ) (ends : List ℕ) (fs : List (List ℕ)) : Type 0 where
  spans : FieldSpans l at ends (length fs)
  bytes : (c : ℕ) → c < length fs → get_or fs c [] ≡ nth_field l at ends c

by_fields : {l : List ℕ} {at : ℕ} {ends : List ℕ} (fs : List (List ℕ)) → FieldsBy l at ends fs → fs ≡ fields_to l at ends (length fs)
by_fields {l} {at} {ends} fs p =
    ext_get_or [] fs (fields_to l at ends (length fs)) (sym (fields_count l at ends (length fs)))
    (λ c h. p.bytes c h ∙ sym (fields_at l at ends (length fs) c h))

-- Where the fields behind the first one start.
start_behind : (at e : ℕ) (es : List ℕ) (c : ℕ) → start_at at (e ∷ es) (suc c) ≡ start_at (e + 1) es c
start_behind at e es zero = refl
start_behind at e es (suc c) = refl

-- No fields, and a field before others.
laid_none : (l : List ℕ) (at : ℕ) (es : List ℕ) → FieldsBy l at es []
laid_none l at es = record { spans = record { each = λ c h. absurd (omega arith) }; bytes = λ c h. absurd (omega arith) }

laid_more : (l : List ℕ) (at n : ℕ) (es : List ℕ) (fs : List (List ℕ)) → at ≤ length l → n ≡ field_len (field_at (drop at l)) → FieldsBy l (at + n + 1) es fs
    → FieldsBy l at ((at + n) ∷ es) (take n (drop at l) ∷ fs)
laid_more l at n es fs h e p = record { spans = record { each = spans }; bytes = bytes }
  where
    spans : (c : ℕ) → c < length (take n (drop at l) ∷ fs) → FieldSpan l (start_at at ((at + n) ∷ es) c) (get_or ((at + n) ∷ es) c 0)
    spans zero g = record { start = h; end = ap (λ (k : ℕ). at + k) e }
    spans (suc c) g = subst (λ (s : ℕ). FieldSpan l s (get_or es c 0)) (sym (start_behind at (at + n) es c)) (p.spans.each c (omega arith))

    bytes : (c : ℕ) → c < length (take n (drop at l) ∷ fs)
        → get_or (take n (drop at l) ∷ fs) c [] ≡ part_of l (start_at at ((at + n) ∷ es) c) (get_or ((at + n) ∷ es) c 0)
    bytes zero g = ap (λ (k : ℕ). take k (drop at l)) (let s : n ≡ at + n - at = omega arith in s)
    bytes (suc c) g =
        subst (λ (s : ℕ). get_or fs c [] ≡ part_of l s (get_or es c 0)) (sym (start_behind at (at + n) es c)) (p.bytes c (omega arith))

-- The row at a place, by where its fields end.
record RowBy (l : List ℕ) (at : ℕ) (es : List ℕ) (fs : List (List ℕ)) (k : ℕ) : Type 0 where
  laid : FieldsBy l at es fs
  count : length es ≡ length fs
  last : start_at at es (length fs) ≡ at + k + 1

abbrev RowLaid : List ℕ → ℕ → List ℕ → Row → Type 0
RowLaid l at es (line fs k) = RowBy l at es fs k
RowLaid l at es (bare fs k) = RowBy l at es fs k
RowLaid l at es (halved k) = Unit {0}
RowLaid l at es cut = Unit {0}
RowLaid l at es broken = Unit {0}

module _ (l : List ℕ) (at n : ℕ) (h : at ≤ length l) (e : n ≡ field_len (field_at (drop at l))) where
  -- The last field, and one before others.
  by_one : RowBy l at ((at + n) ∷ []) (take n (drop at l) ∷ []) n
  by_one = record { laid = laid_more l at n [] [] h e (laid_none l (at + n + 1) []); count = refl; last = refl }

  by_more : {es : List ℕ} {fs : List (List ℕ)} {k : ℕ} → RowBy l (at + n + 1) es fs k → RowBy l at ((at + n) ∷ es) (take n (drop at l) ∷ fs) (n + 1 + k)
  by_more {es} {fs} p = record {
    laid = laid_more l at n es fs h e p.laid;
    count = ap suc p.count;
    last = omega (arith, start_behind at (at + n) es (length fs), p.last);
  }

  before_laid : (es : List ℕ) (r : Row) → RowLaid l (at + n + 1) es r → RowLaid l at ((at + n) ∷ es) (field_before (take n (drop at l)) n r)
  before_laid es (line fs k) p = by_more p
  before_laid es (bare fs k) p = by_more p
  before_laid es (halved k) p = tt
  before_laid es cut p = tt
  before_laid es broken p = tt

row_laid : (most : ℕ) (l : List ℕ) (at : ℕ) → at ≤ length l → RowLaid l at (ends_of most at (drop at l)) (row_of most (drop at l))
unfolding ends_of row_of
row_laid zero l at h = tt
row_laid (suc most) l at h = by (field_at (drop at l)) refl (λ n g. row_laid most l (at + n + 1) g)
  where
    by : (f : Field) → field_at (drop at l) ≡ f
        → ((n : ℕ) → at + n + 1 ≤ length l → RowLaid l (at + n + 1) (ends_of most (at + n + 1) (drop (at + n + 1) l)) (row_of most (drop (at + n + 1) l)))
        → RowLaid l at ((at + field_len f) ∷ ends_behind (ends_of most) at (drop at l) f) (row_from (row_of most) (drop at l) f)
    by (Field.Comma n) e ih =
        rw place
        (before_laid l at n h (sym (ap field_len e)) (ends_of most (at + n + 1) (drop (at + n + 1) l)) (row_of most (drop (at + n + 1) l))
        (ih n (omega (arith, comma_within (drop at l) e, length-drop at l))))
      where
        place : drop (n + 1) (drop at l) ≡ drop (at + n + 1) l
        place = drop-drop (n + 1) at l ∙ ap (λ (k : ℕ). drop k l) (let s : at + (n + 1) ≡ at + n + 1 = omega arith in s)
    by (Field.Line n) e ih = by_one l at n h (sym (ap field_len e))
    by (Field.End n) e ih = by_one l at n h (sym (ap field_len e))
    by (Field.Cr n) e ih = tt
    by Field.Open e ih = tt
    by Field.Bad e ih = tt

-- There are no more ends than there may be fields.
few_ends : (most at : ℕ) (l : List ℕ) → length (ends_of most at l) ≤ most
unfolding ends_of
few_ends zero at l = zero-le
few_ends (suc most) at l = by (field_at l) (λ n. few_ends most (at + n + 1) (drop (n + 1) l))
  where
    by : (f : Field) → ((n : ℕ) → length (ends_of most (at + n + 1) (drop (n + 1) l)) ≤ most)
        → suc (length (ends_behind (ends_of most) at l f)) ≤ suc most
    by (Field.Comma n) g = omega (arith, g n)
    by (Field.Line n) g = omega arith
    by (Field.End n) g = omega arith
    by (Field.Cr n) g = omega arith
    by Field.Open g = omega arith
    by Field.Bad g = omega arith

-- A whole record of u bytes by where its fields end: with a CRLF where the text goes on, it is that much longer than its fields.
record WholeBy (l : List ℕ) (at : ℕ) (es : List ℕ) (fs : List (List ℕ)) (u : ℕ) : Type 0 where
  by_ends : FieldsBy l at es fs
  count : length es ≡ length fs
  far : at + 1 ≤ start_at at es (length fs)
  least : start_at at es (length fs) ≤ at + u + 1
  line : at + u < length l → start_at at es (length fs) + 1 ≤ at + u

-- What a test of the length chose.
closed_whole : (t : Bool) {gs fs : List (List ℕ)} {k u : ℕ} → cond t (whole gs k) bad ≡ whole fs u → (gs ≡ fs) × (k ≡ u)
closed_whole true e = (cc, cc)
closed_whole false e = let z : ◌≡◌ {A = ℕ} 0 1 = cc in absurd (omega arith)

not_whole : (t : Bool) {fs : List (List ℕ)} {u : ℕ} → cond t more bad ≡ whole fs u → ⊥
not_whole true e = let z : ◌≡◌ {A = ℕ} 0 1 = cc in omega arith
not_whole false e = let z : ◌≡◌ {A = ℕ} 0 1 = cc in omega arith

module _ (l : List ℕ) (at : ℕ) (h : at ≤ length l) (es : List ℕ) where
  -- A row of k bytes as a whole record, with a line end of so many bytes.
  closed_by_lem : (gs : List (List ℕ)) (k end : ℕ) → RowBy l at es gs k → {fs : List (List ℕ)} {u : ℕ} → closed_by gs k end ≡ whole fs u
      → (at + (k + end) < length l → 2 ≤ end) → WholeBy l at es fs u
  closed_by_lem gs k end p {fs} {u} e more-text =
      let c = closed_whole (few_bytes k) e in
      subst (λ (x : List (List ℕ)). WholeBy l at es x u) c.0
      (record {
        by_ends = p.laid;
        count = p.count;
        far = omega (arith, p.last);
        least = omega (arith, p.last, c.1);
        line = λ g. let two = more-text (omega (arith, c.1)) in omega (arith, p.last, c.1);
      })

  whole_by : (last : Bool) (r : Row) → RowLies (length (drop at l)) r → RowLaid l at es r → {fs : List (List ℕ)} {u : ℕ}
      → judged last (length (drop at l)) r ≡ whole fs u → WholeBy l at es fs u
  whole_by last (line gs k) lies p e = closed_by_lem gs k line_end p e (λ g. omega arith)
  whole_by true (bare gs k) lies p e = closed_by_lem gs k 0 p e (λ g. absurd (omega (arith, lies.0, length-drop at l)))
  whole_by false (bare gs k) lies p e = absurd (not_whole (few_bytes k) e)
  whole_by true (halved k) lies p e = absurd (not_whole false e)
  whole_by false (halved k) lies p e = absurd (not_whole (few_bytes k) e)
  whole_by true cut lies p e = absurd (not_whole false e)
  whole_by false cut lies p e = absurd (not_whole (few_bytes (length (drop at l) + 1)) e)
  whole_by last broken lies p e = absurd (not_whole false e)

-- The ends at the front of a buffer.
module _ (d es : List ℕ) (room : length es ≤ length d) where
  end_is : (c : ℕ) → c < length es → get_or (over d 0 es) c 0 ≡ get_or es c 0
  end_is c h = rw zero-add at (over_inside d 0 es (omega arith) c h)

  start_is : (at c : ℕ) → c ≤ length es → start_at at (over d 0 es) c ≡ start_at at es c
  start_is at zero h = refl
  start_is at (suc c) h = ap (λ (k : ℕ). k + 1) (end_is c (omega arith))

  laid_over : {l : List ℕ} {at : ℕ} {fs : List (List ℕ)} → length es ≡ length fs → FieldsBy l at es fs → FieldsBy l at (over d 0 es) fs
  laid_over {l} {at} {fs} e p = record {
    spans = record { each = λ c h. rw (end_is c (omega (arith, e)), start_is at c (omega (arith, e))) (p.spans.each c h) };
    bytes = λ c h. rw (end_is c (omega (arith, e)), start_is at c (omega (arith, e))) (p.bytes c h);
  }

-- A whole record at a place of l, and its fields by the ends that are known of them.
pub record WholeAt (l : List ℕ) (at : ℕ) (last : Bool) (most : ℕ) (ends : List ℕ) (x : Extent) : Type 0 where
  pub is : record_at last most (drop at l) ≡ whole (fields_to l at ends x.fields) x.bytes
  pub few : x.fields ≤ most
  pub spans : FieldSpans l at ends x.fields
  pub far : at + 1 ≤ start_at at ends x.fields
  pub least : start_at at ends x.fields ≤ at + x.bytes + 1
  pub line : at + x.bytes < length l → start_at at ends x.fields + 1 ≤ at + x.bytes
  pub within : at + x.bytes ≤ length l
  pub some : at < length l → 1 ≤ x.bytes

-- A record by its size.
record Sized (r : Record) (x : Extent) : Type 0 where
  parts : List (List ℕ)
  count : x.fields ≡ length parts
  is : r ≡ whole parts x.bytes

sized_whole : (r : Record) {x : Extent} → size_of r ≡ Size.Whole x → Sized r x
sized_whole (whole fs k) {x} e =
    let same : record { fields = length fs; bytes = k } ≡ x = cc in
    record { parts = fs; count = sym (ap (λ (y : Extent). y.fields) same); is = ap (λ (y : Extent). whole fs y.bytes) same }
sized_whole more e = let z : ◌≡◌ {A = ℕ} 0 1 = cc in absurd (omega arith)
sized_whole bad e = let z : ◌≡◌ {A = ℕ} 0 1 = cc in absurd (omega arith)

sized_more : (r : Record) → size_of r ≡ Size.More → r ≡ more
sized_more (whole fs k) e = let z : ◌≡◌ {A = ℕ} 0 1 = cc in absurd (omega arith)
sized_more more e = refl
sized_more bad e = let z : ◌≡◌ {A = ℕ} 0 1 = cc in absurd (omega arith)

sized_bad : (r : Record) → size_of r ≡ Size.Bad → r ≡ bad
sized_bad (whole fs k) e = let z : ◌≡◌ {A = ℕ} 0 1 = cc in absurd (omega arith)
sized_bad more e = let z : ◌≡◌ {A = ℕ} 0 1 = cc in absurd (omega arith)
sized_bad bad e = refl

-- The buffer is as long as it was.
pub row_length : {l : List ℕ} {at : ℕ} {last : Bool} {most : ℕ} {ends : List ℕ} {s : Size} {ends' : List ℕ} → RowSays l at last most ends s ends'
    → length ends' ≡ length ends
row_length {l} {at} {most = most} {ends} p =
    ap length p.ends_after
    ∙ over_length ends 0 (ends_of (min most (length ends)) at (drop at l)) (omega (arith, few_ends (min most (length ends)) at (drop at l)))

-- What the promise of `read_row` says, where there is room for the ends of all fields: a whole record, an unfinished one, none.
module _ {l : List ℕ} {at : ℕ} {last : Bool} {most : ℕ} {ends : List ℕ} {s : Size} {ends' : List ℕ} (p : RowSays l at last most ends s ends')
    (room : most ≤ length ends) where
  all : min most (length ends) ≡ most
  all = omega arith

  size : s ≡ size_of (record_at last most (drop at l))
  size = p.size ∙ ap (λ (k : ℕ). size_of (record_at last k (drop at l))) all

  after : ends' ≡ over ends 0 (ends_of most at (drop at l))
  after = p.ends_after ∙ ap (λ (k : ℕ). over ends 0 (ends_of k at (drop at l))) all

  pub row_more : s ≡ Size.More → record_at last most (drop at l) ≡ more
  row_more e = sized_more (record_at last most (drop at l)) (sym size ∙ e)

  pub row_bad : s ≡ Size.Bad → record_at last most (drop at l) ≡ bad
  row_bad e = sized_bad (record_at last most (drop at l)) (sym size ∙ e)

  pub row_whole : {x : Extent} → s ≡ Size.Whole x → at ≤ length l → WholeAt l at last most ends' x
  unfolding record_at
  row_whole {x} e h = subst (λ (d : List ℕ). WholeAt l at last most d x) (sym after) (record {
    is = sized.is ∙ ap (λ (fs : List (List ℕ)). whole fs x.bytes) fields;
    few = omega (arith, few, sized.count, by.count);
    spans = rw sized.count laid.spans;
    far = rw starts (omega (arith, by.far));
    least = rw starts (omega (arith, by.least));
    line = λ g. rw starts (omega (arith, by.line g));
    within = omega (arith, (whole_here last most (drop at l) sized.is).within, length-drop at l);
    some = λ g. (whole_here last most (drop at l) sized.is).some (omega (arith, length-drop at l));
  })
    where
      es : List ℕ
      es = ends_of most at (drop at l)

      sized : Sized (record_at last most (drop at l)) x
      sized = sized_whole (record_at last most (drop at l)) (sym size ∙ e)

      by : WholeBy l at es sized.parts x.bytes
      by = whole_by l at h es last (row_of most (drop at l)) (row_lies most (drop at l)) (row_laid most l at h) sized.is

      few : length es ≤ most
      few = few_ends most at (drop at l)

      fits : length es ≤ length ends
      fits = omega (arith, few)

      laid : FieldsBy l at (over ends 0 es) sized.parts
      laid = laid_over ends es fits by.count by.by_ends

      fields : sized.parts ≡ fields_to l at (over ends 0 es) x.fields
      fields = by_fields sized.parts laid ∙ ap (fields_to l at (over ends 0 es)) (sym sized.count)

      starts : start_at at (over ends 0 es) x.fields ≡ start_at at es (length sized.parts)
      starts = ap (start_at at (over ends 0 es)) sized.count ∙ start_is ends es fits at (length sized.parts) (omega (arith, by.count))

-- Any two results that `read_row` allows are equal.
pub record SameRow (r s : Size) (d e : List ℕ) : Type 0 where
  pub answer : r ≡ s
  pub buffer : d ≡ e

pub row_unique : {l : List ℕ} {at : ℕ} {last : Bool} {most : ℕ} {ends : List ℕ} {r s : Size} {d e : List ℕ} → RowSays l at last most ends r d
    → RowSays l at last most ends s e → SameRow r s d e
row_unique p q = record { answer = p.size ∙ sym q.size; buffer = p.ends_after ∙ sym q.ends_after }
