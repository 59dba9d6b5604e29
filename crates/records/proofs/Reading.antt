-- What the loop over a record's fields keeps from turn to turn: so many fields are read, up to a place, and their ends are stored. It rests on the laws of a
-- record read field by field and of a text over a part of a buffer.
-- Assumes nothing.
use mathlib.Core.Path.{◌≡◌, refl, sym, ap, ◌∙◌}
use mathlib.Core.Bool.{Bool}
use mathlib.Core.List.{List, [], ◌∷◌, ◌++◌, append_assoc, append-nil}
use Prim.Native.Nat.{ℕ, zero, suc, ◌+◌, ◌-◌, ◌^◌, ◌≤◌, ◌<◌, min}
use native.Mathlib.Nat.{zero-add, add-zero}
use native.Mathlib.Omega.{arith}
use lib.ListN.{length, take, drop, set, length-drop, length-append, length-set}
use lib.Seq.{drop-drop}
use mir.Syntax.{w64}
use mir.Val.{Fits}
use Rattle.laws.specs.Over.{over}
use Rattle.laws.proofs.Over.{over_none, set_over, over_length, over_over}
use Rattle.records.specs.Fields.{field_at, field_len}
use Rattle.records.specs.Rows.{record_at, size_of, ends_behind, ends_of, RowSays}
use Rattle.records.specs.Inner.{ended_by}
use Rattle.records.specs.declared.Field.{Field}
use Rattle.records.specs.declared.Size.{Size}
use Rattle.records.proofs.Within.{comma_within, len_within}
use Rattle.records.proofs.Come.{Come, come_start, come_on, come_ended, come_too_many}

-- One end more is stored behind those before it.
set_more : (d x : List ℕ) (c e : ℕ) → length x ≡ c → c < length d → set (over d 0 x) c e ≡ over d 0 (x ++ e ∷ [])
set_more d x c e long h =
    set_over (over d 0 x) c e (omega (arith, over_length d 0 x room))
    ∙ ap (λ (k : ℕ). over (over d 0 x) k (e ∷ [])) (sym (zero-add (length x) ∙ long))
    ∙ over_over d 0 x room (e ∷ [])
  where
    room : 0 + length x ≤ length d
    room = omega (arith, long)

-- No ends, and the next one: no comma stands behind its field, or one does.
ends_none : (at : ℕ) (l : List ℕ) → ends_of 0 at l ≡ []
unfolding ends_of
ends_none at l = refl

module _ (most at : ℕ) (l : List ℕ) where
  ends_next : {f : Field} → field_at l ≡ f → ends_of (suc most) at l ≡ (at + field_len f) ∷ ends_behind (ends_of most) at l f
  unfolding ends_of
  ends_next e = ap (λ (g : Field). (at + field_len g) ∷ ends_behind (ends_of most) at l g) e

  ends_last : (f : Field) → field_at l ≡ f → ((n : ℕ) → f ≡ Field.Comma n → ⊥) → ends_of (suc most) at l ≡ (at + field_len f) ∷ []
  ends_last (Field.Comma n) e h = absurd (h n refl)
  ends_last (Field.Line n) e h = ends_next e
  ends_last (Field.End n) e h = ends_next e
  ends_last (Field.Cr n) e h = ends_next e
  ends_last Field.Open e h = ends_next e
  ends_last Field.Bad e h = ends_next e

-- c fields of the record at a place are read, up to the place i, and their ends are stored.
pub record RowAt (l : List ℕ) (at most : ℕ) (ends₀ ends : List ℕ) (room i c : ℕ) : Type 0 where
  pub few : room ≡ min most (length ends₀)
  pub fields : List (List ℕ)
  pub bytes : ℕ
  pub left : ℕ
  pub come : Come room (drop at l) fields bytes left
  pub place : i ≡ at + bytes
  pub count : length fields ≡ c
  pub done : List ℕ
  pub long : length done ≡ c
  pub stored : ends ≡ over ends₀ 0 done
  pub size : length ends ≡ length ends₀
  pub rest : ends_of room at (drop at l) ≡ done ++ ends_of left i (drop i l)

-- Nothing is read.
pub row_starts : (l : List ℕ) (at most : ℕ) (ends : List ℕ) {room : ℕ} → room ≡ min most (length ends) → RowAt l at most ends ends room at 0
row_starts l at most ends {room} e = record {
  few = e;
  fields = [];
  bytes = 0;
  left = room;
  come = come_start room (drop at l);
  place = sym (add-zero at);
  count = refl;
  done = [];
  long = refl;
  stored = sym (over_none ends 0);
  size = refl;
  rest = refl;
}

module _ {l : List ℕ} {at most : ℕ} {ends₀ ends : List ℕ} {room i c : ℕ} (p : RowAt l at most ends₀ ends room i c) where
  -- What is said where the record and its ends are known.
  says : (last : Bool) {r : Size} {d : List ℕ} → r ≡ size_of (record_at last room (drop at l)) → d ≡ over ends₀ 0 (ends_of room at (drop at l))
      → RowSays l at last most ends₀ r d
  says last e f = record {
    size = e ∙ ap (λ (k : ℕ). size_of (record_at last k (drop at l))) p.few;
    ends_after = f ∙ ap (λ (k : ℕ). over ends₀ 0 (ends_of k at (drop at l))) p.few;
  }

  -- As many fields as there may be, and none is the last: no record.
  pub row_many : (last : Bool) → room ≤ c → RowSays l at last most ends₀ Size.Bad ends
  row_many last h = many p.left p.come p.rest
    where
      many : (left : ℕ) → Come room (drop at l) p.fields p.bytes left → ends_of room at (drop at l) ≡ p.done ++ ends_of left i (drop i l)
          → RowSays l at last most ends₀ Size.Bad ends
      many zero q e =
          says last (sym (ap size_of (come_too_many last q)))
          (p.stored ∙ ap (over ends₀ 0) (sym (e ∙ ap (λ (x : List ℕ). p.done ++ x) (ends_none i (drop i l)) ∙ append-nil p.done)))
      many (suc left) q e = absurd (omega (arith, q.count, p.count))

  -- There is room for the end of the next field.
  pub row_room : c < room → c < length ends
  row_room h = omega (arith, p.few, p.size)

  pub row_order : at ≤ i
  row_order = omega (arith, p.place)

  -- The text from the place on.
  rest_is : drop p.bytes (drop at l) ≡ drop i l
  rest_is = drop-drop p.bytes at l ∙ ap (λ (k : ℕ). drop k l) (sym p.place)

  module _ {f : Field} (e : f ≡ field_at (drop i l)) {len : ℕ} (d : len ≡ field_len f) where
    here : field_at (drop p.bytes (drop at l)) ≡ f
    here = ap field_at rest_is ∙ sym e

    -- The place behind the next field is a number of the machine.
    pub row_fits : length l < 2 ^ 64 → at < 2 ^ 64 → Fits w64 (i + len)
    row_fits h g = record {
      fits = omega (arith, d ∙ ap field_len e, len_within (drop i l), length-drop i l, p.place, p.come.within, length-drop at l);
    }

    stored : c < room → ends_of room at (drop at l) ≡ p.done ++ (i + len) ∷ [] → set ends c (i + len) ≡ over ends₀ 0 (ends_of room at (drop at l))
    stored h g =
        ap (λ (b : List ℕ). set b c (i + len)) p.stored ∙ set_more ends₀ p.done c (i + len) p.long (omega (arith, p.few))
        ∙ ap (over ends₀ 0) (sym g)

    -- No comma stands behind the next field: the record ends with it.
    pub row_last : (last : Bool) {k : ℕ} {r : Size} → c < room → ((n : ℕ) → f ≡ Field.Comma n → ⊥)
        → k ≡ length l - at → r ≡ ended_by last k (c + 1) (i - at) f → RowSays l at last most ends₀ r (set ends c (i + len))
    row_last last {k} {r} h o j g = ending p.left p.come p.rest
      where
        sized : r ≡ ended_by last (length (drop at l)) (length p.fields + 1) p.bytes f
        sized =
            g ∙ ap (λ (n : ℕ). ended_by last n (c + 1) (i - at) f) (j ∙ sym (length-drop at l))
            ∙ ap (λ (m : ℕ). ended_by last (length (drop at l)) (m + 1) (i - at) f) (sym p.count)
            ∙ ap (λ (b : ℕ). ended_by last (length (drop at l)) (length p.fields + 1) b f) (let b : i - at ≡ p.bytes = omega (arith, p.place) in b)

        ending : (left : ℕ) → Come room (drop at l) p.fields p.bytes left → ends_of room at (drop at l) ≡ p.done ++ ends_of left i (drop i l)
            → RowSays l at last most ends₀ r (set ends c (i + len))
        ending zero q y = absurd (omega (arith, q.count, p.count))
        ending (suc left) q y =
            says last (sized ∙ sym (come_ended q last f here o))
            (stored h
            (y
            ∙ ap (λ (x : List ℕ). p.done ++ x)
            (ends_last left i (drop i l) f (sym e) o ∙ ap (λ (n : ℕ). (i + n) ∷ []) (sym d))))

    -- A comma does: one field more is read.
    module _ {n : ℕ} (g : f ≡ Field.Comma n) where
      inside : i + len + 1 ≤ length l
      inside = omega (arith, d ∙ ap field_len g, comma_within (drop i l) (sym e ∙ g), length-drop i l)

      pub row_fits_on : length l < 2 ^ 64 → Fits w64 (i + len + 1)
      row_fits_on h = record { fits = omega (arith, inside) }

      pub row_on : c < room → RowAt l at most ends₀ (set ends c (i + len)) room (i + len + 1) (c + 1)
      row_on h = on p.left p.come p.rest
        where
          same : len ≡ n
          same = d ∙ ap field_len g

          place : drop (n + 1) (drop i l) ≡ drop (i + len + 1) l
          place = drop-drop (n + 1) i l ∙ ap (λ (k : ℕ). drop k l) (let s : i + (n + 1) ≡ i + len + 1 = omega (arith, same) in s)

          on : (left : ℕ) → Come room (drop at l) p.fields p.bytes left → ends_of room at (drop at l) ≡ p.done ++ ends_of left i (drop i l)
              → RowAt l at most ends₀ (set ends c (i + len)) room (i + len + 1) (c + 1)
          on zero q y = absurd (omega (arith, q.count, p.count))
          on (suc left) q y = record {
            few = p.few;
            fields = p.fields ++ take n (drop p.bytes (drop at l)) ∷ [];
            bytes = p.bytes + n + 1;
            left = left;
            come = come_on q (here ∙ g);
            place = omega (arith, p.place, same);
            count = length-append p.fields (take n (drop p.bytes (drop at l)) ∷ []) ∙ ap (λ (k : ℕ). k + 1) p.count;
            done = p.done ++ (i + len) ∷ [];
            long = length-append p.done ((i + len) ∷ []) ∙ ap (λ (k : ℕ). k + 1) p.long;
            stored =
                ap (λ (b : List ℕ). set b c (i + len)) p.stored
                ∙ set_more ends₀ p.done c (i + len) p.long (omega (arith, p.few));
            size = length-set ends c (i + len) ∙ p.size;
            rest =
                y
                ∙ ap (λ (x : List ℕ). p.done ++ x) next
                ∙ sym (append_assoc p.done ((i + len) ∷ []) (ends_of left (i + len + 1) (drop (i + len + 1) l)));
          }
            where
              next : ends_of (suc left) i (drop i l) ≡ (i + len) ∷ ends_of left (i + len + 1) (drop (i + len + 1) l)
              next =
                  ends_next left i (drop i l) (sym e ∙ g)
                  ∙ ap (λ (k : ℕ). (i + k) ∷ ends_of left (i + k + 1) (drop (n + 1) (drop i l))) (sym same)
                  ∙ ap (λ (x : List ℕ). (i + len) ∷ ends_of left (i + len + 1) x) place
