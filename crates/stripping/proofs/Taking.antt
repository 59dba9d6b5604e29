-- Record after record: what the loop keeps from turn to turn, and what was taken and put when it stops. It rests on the laws of one record and
-- on those of taking records.
-- Assumes nothing.
use mathlib.Core.Path.{◌≡◌, refl, sym, ap, subst, ◌∙◌}
use mathlib.Core.Bool.{Bool, true, false, ◌&&◌}
use mathlib.Core.List.{List, [], ◌∷◌, ◌++◌}
use Prim.Native.Nat.{ℕ, ◌+◌, ◌-◌, ◌^◌, ◌≤◌, ◌<◌, zero-le}
use native.Mathlib.Nat.{zero-add}
use native.Mathlib.Omega.{arith}
use lib.Dec.{eqb}
use lib.ListN.{length, length-append}
use mir.Syntax.{w64}
use mir.Val.{Fits}
use borrow.Author.Tests.{eq-eqb, ne_eqb}
use Rattle.records.specs.Rows.{most_fields, RowSays, start_at}
use Rattle.records.specs.declared.Extent.{Extent}
use Rattle.records.specs.Inner.{FieldSpans, fields_to}
use Rattle.records.specs.declared.Size.{Size}
use Rattle.std.specs.Prelude.{cond, Some, None}
use Rattle.records.proofs.Parts.{row_length}
use Rattle.exports.specs.Rows.{Taken, taken}
use Rattle.exports.specs.Text.{record_lines, record_line}
use Rattle.exports.proofs.Gone.{Gone, gone_start, gone_on, gone_end, gone_more, gone_bad}
use Rattle.exports.proofs.Joining.{lines_none, lines_one_more}
use Rattle.stripping.specs.declared.Cut.{Cut}
use Rattle.stripping.specs.Inner.{Made, NoLonger, PutReady, RowPut, TakeReady, front_cut, FrontSays, fitted_size}
use Rattle.stripping.proofs.Making.{made_none, made_made, made_size}
use Rattle.stripping.proofs.Rows.{RowFits, fits_found, RowFound, is_whole, is_more, is_bad_lem, row_found}

-- What the loop over the records keeps from turn to turn: so many records are taken, up to a place, and their lines are put.
pub record TakeAt (l : List ℕ) (last : Bool) (kept : List Bool) (d₀ d ends : List ℕ) (cut : Cut) : Type 0 where
  pub ready : TakeReady l kept d₀
  pub rows : List (List (List ℕ))
  pub gone : Gone last (length kept) l rows cut.used
  pub made : Made d₀ 0 (record_lines kept rows) d
  pub len : cut.len ≡ length (record_lines kept rows)
  pub count : length rows ≡ cut.records
  pub few : cut.records ≤ cut.used
  pub fits : NoLonger l cut.used cut.len
  pub size : length d ≡ length d₀
  pub many : length ends ≡ most_fields

pub take_none : {l : List ℕ} (last : Bool) {kept : List Bool} {d : List ℕ} (ends : List ℕ) → TakeReady l kept d → length ends ≡ most_fields
    → TakeAt l last kept d d ends (record { used = 0; len = 0; records = 0 })
take_none last {kept} {d} ends s z = record {
  ready = s;
  rows = [];
  gone = gone_start;
  made = rw (lines_none kept) (made_none d 0 zero-le);
  len = sym (ap length (lines_none kept));
  count = refl;
  few = zero-le;
  fits = record { most = zero-le; inside = λ h. zero-le; within = zero-le };
  size = refl;
  many = z;
}

and_false : (b : Bool) → (b && false) ≡ false
and_false true = refl
and_false false = refl

module _ {l : List ℕ} {last : Bool} {kept : List Bool} {d₀ d ends₀ : List ℕ} {cut : Cut} (p : TakeAt l last kept d₀ d ends₀ cut) where
  -- There is room for the ends of all fields.
  room : length kept ≤ length ends₀
  room = omega (arith, p.many, p.ready.narrow)

  -- What is said of what was taken.
  front : {faulty : Bool} → taken last (length kept) l ≡ record { rows = p.rows; used = cut.used; faulty = faulty }
      → FrontSays l last kept d₀ (cond (eqb cut.records 0 && faulty) None (Some cut)) d
  front {faulty} e = record {
    made = subst (λ (x : List (List (List ℕ))). Made d₀ 0 (record_lines kept x) d) (sym (ap (λ (t : Taken). t.rows) e)) p.made;
    cut = same ∙ sym (ap (front_cut kept) e);
  }
    where
      same : cond (eqb cut.records 0 && faulty) None (Some cut) ≡ front_cut kept (record { rows = p.rows; used = cut.used; faulty = faulty })
      same = rw (p.count, ← p.len) refl

  -- The text is at its end.
  pub take_end : length l ≤ cut.used → FrontSays l last kept d₀ (Some cut) d
  take_end h = rw (and_false (eqb cut.records 0)) at (front (gone_end p.gone h))

  -- A record is not whole: the first one is bad, or one is not at its end, or one is bad behind others.
  module _ {found₀ found : Size} {ends : List ℕ} (h : cut.used < length l) (q : RowSays l cut.used last (length kept) ends₀ found₀ ends)
      (f : found ≡ fitted_size (length kept) found₀) where
    is_faulty : found ≡ Size.Bad → taken last (length kept) l ≡ record { rows = p.rows; used = cut.used; faulty = true }
    is_faulty e = on (subst (RowFound l cut.used last (length kept) ends) e (row_found q f room h))
      where
        on : RowFound l cut.used last (length kept) ends Size.Bad → taken last (length kept) l ≡ record { rows = p.rows; used = cut.used; faulty = true }
        on (is_bad_lem w) = gone_bad p.gone h w

    pub take_bad : found ≡ Size.Bad → cut.records ≡ 0 → FrontSays l last kept d₀ None d
    take_bad e z = rw (eq-eqb cut.records 0 z) at (front (is_faulty e))

    pub take_later : found ≡ Size.Bad → (cut.records ≡ 0 → ⊥) → FrontSays l last kept d₀ (Some cut) d
    take_later e z = rw (ne_eqb cut.records 0 z) at (front (is_faulty e))

    pub take_more : found ≡ Size.More → FrontSays l last kept d₀ (Some cut) d
    take_more e = on (subst (RowFound l cut.used last (length kept) ends) e (row_found q f room h))
      where
        on : RowFound l cut.used last (length kept) ends Size.More → FrontSays l last kept d₀ (Some cut) d
        on (is_more w) = rw (and_false (eqb cut.records 0)) at (front (gone_more p.gone w))

  pub count_fits : cut.used < length l → length l < 2 ^ 64 → Fits w64 (cut.records + 1)
  count_fits h g = record { fits = omega (arith, p.few) }

  -- A record is whole.
  module _ {found₀ found : Size} {ends : List ℕ} {x : Extent} (h : cut.used < length l) (q : RowSays l cut.used last (length kept) ends₀ found₀ ends)
      (f : found ≡ fitted_size (length kept) found₀) (e : found ≡ Size.Whole x) where
    fit : RowFits l cut.used last (length kept) ends x
    fit = on (subst (RowFound l cut.used last (length kept) ends) e (row_found q f room h))
      where
        on : RowFound l cut.used last (length kept) ends (Size.Whole x) → RowFits l cut.used last (length kept) ends x
        on (is_whole w) = w

    pub put_ready : PutReady l cut.used ends (length kept) d cut.len
    put_ready = record {
      spacious = record { room = omega (arith, p.ready.spacious.room, p.size) };
      here = h;
      fits = p.fits.inside h;
      spans = subst (FieldSpans l cut.used ends) fit.all fit.row.spans;
    }

    pub place_fits : length l < 2 ^ 64 → Fits w64 (cut.used + x.bytes)
    place_fits g = record { fits = omega (arith, fit.row.within) }

    -- The next record stands further on.
    pub take_less : length l - (cut.used + x.bytes) < length l - cut.used
    take_less = omega (arith, fit.row.some h)

    abbrev fs : List (List ℕ)
    fs = fields_to l cut.used ends (length kept)

    pub take_on : {end : ℕ} {d' : List ℕ} → RowPut l cut.used ends kept d cut.len end d' → TakeAt l last kept d₀ d' ends (record { used = cut.used + x.bytes; len = end; records = cut.records + 1 })
    take_on {end} {d'} w = record {
      ready = p.ready;
      rows = p.rows ++ fs ∷ [];
      gone = gone_on p.gone h (fits_found fit);
      made =
          subst (λ (x : List ℕ). Made d₀ 0 x d') (sym (lines_one_more kept p.rows fs))
          (made_made p.made
          (subst (λ (k : ℕ). Made d k (record_line kept fs) d') (p.len ∙ sym (zero-add (length (record_lines kept p.rows)))) w.made));
      len =
          omega (
            arith,
            w.next,
            p.len,
            ap length (lines_one_more kept p.rows fs),
            length-append (record_lines kept p.rows) (record_line kept fs),
          );
      count = length-append p.rows (fs ∷ []) ∙ ap (λ (k : ℕ). k + 1) p.count;
      few = omega (arith, p.few, fit.row.some h);
      fits = record {
        most = omega (arith, w.next, w.most, start, fit.row.far, fit.row.least, p.fits.inside h);
        inside = λ v. omega (arith, w.next, w.most, start, fit.row.far, fit.row.line v, p.fits.inside h);
        within = fit.row.within;
      };
      size = made_size w.made ∙ p.size;
      many = row_length q ∙ p.many;
    }
      where
        start : start_at cut.used ends x.fields ≡ start_at cut.used ends (length kept)
        start = ap (start_at cut.used ends) fit.all
