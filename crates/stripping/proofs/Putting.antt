-- The line of a record put field by field: the start, a field further, and the line end. It rests on the laws of fields by their ends and
-- of what is made in a buffer.
-- Assumes nothing.
use mathlib.Core.Path.{◌≡◌, refl, sym, ap, subst, ◌∙◌}
use mathlib.Core.Bool.{Bool, true, false, cond}
use mathlib.Core.List.{List, [], ◌∷◌, ◌++◌, append_assoc, append-nil}
use Prim.Native.Nat.{ℕ, ◌+◌, ◌-◌, ◌≤◌, ◌<◌, zero-le}
use native.Mathlib.Nat.{add-zero}
use native.Mathlib.Omega.{arith}
use lib.ListN.{length, drop, get_or, length-append, length-drop}
use lib.Seq.{length-take-le}
use Rattle.scans.specs.Ascii.{comma, cr, lf}
use Rattle.records.specs.Rows.{line_end, start_at, nth_field}
use Rattle.records.specs.Inner.{FieldSpan, fields_to}
use Rattle.records.proofs.Parts.{span_order, span_within, fields_none, fields_more, fields_count, start_more}
use Rattle.exports.specs.Text.{kept_of, with_commas, record_line}
use Rattle.exports.proofs.Joining.{closed_each, closed_none, closed_one_more, kept_none, kept_one_more}
use Rattle.stripping.specs.Inner.{Made, PutReady, RowPut, kept_field, KeepReady, Keeps, EndReady, EndsLine}
use Rattle.stripping.proofs.Making.{made_none, made_made, made_size, commas_most, line_made, line_next}

-- The fields up to c that are kept, a comma behind each.
abbrev closed_to : List ℕ → ℕ → List ℕ → List Bool → ℕ → List ℕ
closed_to l at ends kept c = closed_each (kept_of kept (fields_to l at ends c))

-- One more field.
kept_closed : (gs : List (List ℕ)) (k : Bool) (f : List ℕ) → closed_each (gs ++ cond k (f ∷ []) []) ≡ closed_each gs ++ kept_field k f
kept_closed gs true f = closed_one_more gs f ∙ append_assoc (closed_each gs) f (comma ∷ [])
kept_closed gs false f = ap closed_each (append-nil gs) ∙ sym (append-nil (closed_each gs))

closed_kept_more : (kept : List Bool) (fs : List (List ℕ)) (f : List ℕ) → length fs < length kept
    → closed_each (kept_of kept (fs ++ f ∷ [])) ≡ closed_each (kept_of kept fs) ++ kept_field (get_or kept (length fs) false) f
closed_kept_more kept fs f h = ap closed_each (kept_one_more kept fs f h) ∙ kept_closed (kept_of kept fs) (get_or kept (length fs) false) f

kept_most : (k : Bool) (f : List ℕ) → length (kept_field k f) ≤ length f + 1
kept_most true f = omega (arith, length-append f (comma ∷ []))
kept_most false f = zero-le

-- What the loop over the fields keeps from turn to turn: those of the first c that are kept stand in the buffer from `to` up to n.
pub record PutAt (l : List ℕ) (at : ℕ) (ends : List ℕ) (kept : List Bool) (d₀ : List ℕ) (to : ℕ) (d : List ℕ) (n c : ℕ) : Type 0 where
  pub ready : PutReady l at ends (length kept) d₀ to
  pub far : at ≤ start_at at ends c
  pub near : start_at at ends c ≤ length l + 1
  pub made : Made d₀ to (closed_each (kept_of kept (fields_to l at ends c))) d
  pub next : n ≡ to + length (closed_each (kept_of kept (fields_to l at ends c)))
  pub most : length (closed_each (kept_of kept (fields_to l at ends c))) ≤ start_at at ends c - at
  pub count : c ≤ length kept
  pub size : length d ≡ length d₀

-- Nothing is put.
pub put_starts : {l : List ℕ} {at : ℕ} {ends : List ℕ} (kept : List Bool) {d : List ℕ} {to : ℕ} → PutReady l at ends (length kept) d to
    → PutAt l at ends kept d to d to 0
put_starts {l} {at} {ends} kept {d} {to} ready = record {
  ready = ready;
  far = omega arith;
  near = omega (arith, ready.here);
  made = subst (λ (x : List ℕ). Made d to x d) (sym empty) (made_none d to (omega (arith, ready.here, ready.fits, ready.spacious.room)));
  next = sym (ap (λ (x : List ℕ). to + length x) empty ∙ add-zero to);
  most = omega (arith, ap length empty);
  count = zero-le;
  size = refl;
}
  where
    empty : closed_to l at ends kept 0 ≡ []
    empty = ap (λ (x : List (List ℕ)). closed_each (kept_of kept x)) (fields_none l at ends) ∙ ap closed_each (kept_none kept) ∙ closed_none

module _ {l : List ℕ} {at : ℕ} {ends : List ℕ} {kept : List Bool} {d₀ : List ℕ} {to : ℕ} {d : List ℕ} {n c : ℕ}
    (p : PutAt l at ends kept d₀ to d n c) where
  module _ (h : c < length kept) where
    -- The next field stands within the text.
    span : FieldSpan l (start_at at ends c) (get_or ends c 0)
    span = p.ready.spans.each c h

    long : length (nth_field l at ends c) ≡ get_or ends c 0 - start_at at ends c
    long =
        length-take-le (get_or ends c 0 - start_at at ends c) (drop (start_at at ends c) l)
        (omega (arith, span_order span, span_within span, length-drop (start_at at ends c) l))

    -- There is room for it.
    pub keep_ready : KeepReady (nth_field l at ends c) d n
    keep_ready = record {
      room =
          omega (
            arith,
            long,
            span_order span,
            span_within span,
            p.next,
            p.most,
            p.far,
            p.ready.fits,
            p.ready.spacious.room,
            p.size,
          );
    }

    -- The next field was kept or not.
    pub put_on : {r : ℕ} {d₁ : List ℕ} → Keeps (nth_field l at ends c) (get_or kept c false) d n r d₁ → PutAt l at ends kept d₀ to d₁ r (c + 1)
    put_on {r} {d₁} q = record {
      ready = p.ready;
      far = omega (arith, p.far, span_order span, start_more at ends c);
      near = omega (arith, span_within span, start_more at ends c);
      made =
          subst (λ (x : List ℕ). Made d₀ to x d₁) (sym same)
          (made_made p.made (subst (λ (k : ℕ). Made d k (kept_field (get_or kept c false) (nth_field l at ends c)) d₁) p.next q.made));
      next = omega (arith, q.next, p.next, longer);
      most = omega (arith, p.most, longer, kept_most (get_or kept c false) (nth_field l at ends c), long, span_order span, p.far, start_more at ends c);
      count = omega arith;
      size = made_size q.made ∙ p.size;
    }
      where
        same : closed_to l at ends kept (c + 1) ≡ closed_to l at ends kept c ++ kept_field (get_or kept c false) (nth_field l at ends c)
        same =
            ap (λ (x : List (List ℕ)). closed_each (kept_of kept x)) (fields_more l at ends c)
            ∙ closed_kept_more kept (fields_to l at ends c) (nth_field l at ends c) (omega (arith, h, fields_count l at ends c))
            ∙ ap (λ (k : ℕ). closed_to l at ends kept c ++ kept_field (get_or kept k false) (nth_field l at ends c)) (fields_count l at ends c)

        longer : length (closed_to l at ends kept (c + 1)) ≡ length (closed_to l at ends kept c) + length (kept_field (get_or kept c false) (nth_field l at ends c))
        longer = ap length same ∙ length-append (closed_to l at ends kept c) (kept_field (get_or kept c false) (nth_field l at ends c))

  -- All fields are put.
  module _ (h : length kept ≤ c) where
    abbrev gs : List (List ℕ)
    gs = kept_of kept (fields_to l at ends c)

    pub line_ready : EndReady d to n
    line_ready = record {
      over_comma = λ g. omega (arith, p.size, p.next, p.most, p.far, p.near, p.ready.fits, p.ready.spacious.room);
      here = λ g. omega (arith, p.size, p.ready.here, p.ready.fits, p.ready.spacious.room);
    }

    pub put_ends : {r : ℕ} {d₁ : List ℕ} → EndsLine d to n r d₁ → RowPut l at ends kept d₀ to r d₁
    put_ends {r} {d₁} q = record {
      made = subst (λ (k : ℕ). Made d₀ to (record_line kept (fields_to l at ends k)) d₁) all (line_made gs p.next q p.made);
      next = subst (λ (k : ℕ). r ≡ to + length (record_line kept (fields_to l at ends k))) all (line_next gs p.next q);
      most =
          subst (λ (k : ℕ). length (record_line kept (fields_to l at ends k)) ≤ start_at at ends k - at - 1 + line_end) all
          (omega (arith, commas_most gs, length-append (with_commas gs) (cr ∷ lf ∷ []), p.most));
    }
      where
        all : c ≡ length kept
        all = omega (arith, h, p.count)
