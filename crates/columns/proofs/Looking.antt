-- What the loop over a header's names keeps from turn to turn: the names passed are items, and no item stands twice. It rests on the laws of
-- fields by their ends and of names that are found.
-- Assumes nothing.
use Rattle.std.specs.Prelude.{Some, Ok}
use mathlib.Core.Path.{◌≡◌, refl, sym, ap, ◌∙◌}
use mathlib.Core.Bool.{Bool, true, false}
use mathlib.Core.List.{List}
use Prim.Native.Nat.{ℕ, ◌+◌, ◌-◌, ◌≤◌, ◌<◌}
use native.Mathlib.Decide.{dec_le}
use native.Mathlib.Omega.{arith}
use lib.ListN.{length, get_or, take, drop, set, length-set}
use lib.Seq.{get_or-set_same, get_or-set_other}
use Rattle.laws.specs.Tells.{Tells}
use Rattle.laws.proofs.Bools.{true_not_false}
use Rattle.laws.proofs.Tells.{tells_no, tells_yes}
use Rattle.items.specs.Lookup.{Found, find_in}
use Rattle.items.proofs.Entries.{found_bytes}
use Rattle.records.specs.Fields.{field_at, field_len}
use Rattle.records.specs.Rows.{start_at, nth_field}
use Rattle.records.specs.Inner.{FieldSpan, fields_to}
use Rattle.records.proofs.Parts.{fields_count, fields_at}
use Rattle.exports.specs.Names.{unquoted, name_in, column_item}
use Rattle.columns.specs.Inner.{IsField, HoldsNumber, HeaderReady, FindsItems}

-- Two names that are found at one item are equal.
one_name : (t : List ℕ) (n : ℕ) (x y : List ℕ) (i : ℕ) → find_in t n x ≡ Ok (Some i) → find_in t n y ≡ Ok (Some i) → x ≡ y
one_name t n x y i e d = sym (found_bytes t n x i e) ∙ found_bytes t n y i d

-- c names are looked up.
pub record Looking (t : List ℕ) (n : ℕ) (l ends : List ℕ) (fields : ℕ) (numbers₀ numbers : List ℕ) (c : ℕ) : Type 0 where
  pub ready : HeaderReady l ends fields numbers₀
  pub sized : length numbers ≡ length numbers₀
  pub items : (j : ℕ) → j < c → column_item t n (fields_to l 0 ends fields) j ≡ Ok (Some (get_or numbers j 0))
  pub apart : (i j : ℕ) → i < j → j < c → get_or numbers i 0 ≡ get_or numbers j 0 → ⊥

-- No name is looked up.
pub look_none : {t : List ℕ} {n : ℕ} {l ends : List ℕ} {fields : ℕ} {numbers : List ℕ} → HeaderReady l ends fields numbers
    → Looking t n l ends fields numbers numbers 0
look_none r = record {
  ready = r;
  sized = refl;
  items = λ j h. absurd (omega arith);
  apart = λ i j h g. absurd (omega arith);
}

module _ {t : List ℕ} {n : ℕ} {l ends : List ℕ} {fields : ℕ} {numbers₀ numbers : List ℕ} {c : ℕ}
    (w : Looking t n l ends fields numbers₀ numbers c) where
  abbrev fs : List (List ℕ)
  fs = fields_to l 0 ends fields

  count : length (fields_to l 0 ends fields) ≡ fields
  count = fields_count l 0 ends fields

  -- All names are looked up.
  pub look_all : fields ≤ c → FindsItems t n (fields_to l 0 ends fields) true numbers
  look_all h = record {
    told = tells_yes (record { known = λ j g. record { item = get_or numbers j 0; found = item j g }; distinct = apart });
    items = λ z. record { each = item };
  }
    where
      item : (j : ℕ) → j < length (fields_to l 0 ends fields) → column_item t n (fields_to l 0 ends fields) j ≡ Ok (Some (get_or numbers j 0))
      item j g = w.items j (omega (arith, count))

      same_item : (i k : ℕ) → ◌≡◌ {A = Found} (Ok (Some i)) (Ok (Some k)) → i ≡ k
      same_item i k e = cc

      apart : (i j : ℕ) → i < j → j < length (fields_to l 0 ends fields)
          → name_in (fields_to l 0 ends fields) i ≡ name_in (fields_to l 0 ends fields) j → ⊥
      apart i j g k e =
          w.apart i j g (omega (arith, count))
          (same_item (get_or numbers i 0) (get_or numbers j 0) (sym (item i (omega arith)) ∙ ap (find_in t n) e ∙ item j k))

  module _ (h : c < fields) where
    -- There is room for the item of the next field.
    pub look_room : c < length numbers
    look_room = omega (arith, w.sized, w.ready.room)

    pub look_held : c ≤ length numbers
    look_held = omega (arith, look_room)

    span : FieldSpan l (start_at 0 ends c) (get_or ends c 0)
    span = w.ready.spans.each c h

    pub look_field : {x : List ℕ} → x ≡ nth_field l 0 ends c → IsField x
    look_field e = record {
      text = drop (start_at 0 ends c) l;
      is =
          e
          ∙ ap (λ (k : ℕ). take k (drop (start_at 0 ends c) l))
          (let k : get_or ends c 0 - start_at 0 ends c ≡ field_len (field_at (drop (start_at 0 ends c) l)) = omega (arith, span.end) in k);
    }

    module _ {name : List ℕ} (is : name ≡ nth_field l 0 ends c) {x : Found} (g : x ≡ find_in t n (unquoted name)) where
      column : column_item t n (fields_to l 0 ends fields) c ≡ x
      column = ap (λ (y : List ℕ). find_in t n (unquoted y)) (fields_at l 0 ends fields c h ∙ sym is) ∙ sym g

      -- A name that is no item.
      pub look_absent : ((i : ℕ) → x ≡ Ok (Some i) → ⊥) → FindsItems t n (fields_to l 0 ends fields) false numbers
      look_absent o = record {
        told = tells_no (λ ok. let known = ok.known c (omega (arith, count)) in o known.item (sym column ∙ known.found));
        items = λ z. absurd (true_not_false z refl);
      }

      module _ {i : ℕ} (a : x ≡ Ok (Some i)) {b : Bool} (told : Tells (HoldsNumber numbers c i) b) where
        -- A name that is repeated.
        pub look_repeated : b ≡ true → FindsItems t n (fields_to l 0 ends fields) false numbers
        look_repeated e = record {
          told =
              tells_no
              (λ ok.
              ok.distinct s.place c s.below (omega (arith, count))
              (one_name t n (name_in fs s.place) (name_in fs c) i (w.items s.place s.below ∙ ap (λ k. Ok (Some k)) s.same) (column ∙ a)));
          items = λ z. absurd (true_not_false z refl);
        }
          where
            s : HoldsNumber numbers c i
            s = told.holds e

        -- A new name.
        pub look_more : b ≡ false → Looking t n l ends fields numbers₀ (set numbers c i) (c + 1)
        look_more e = record {
          ready = w.ready;
          sized = length-set numbers c i ∙ w.sized;
          items = λ j k. item j k (dec_le c j);
          apart = λ p j k m. apart p j k m (dec_le c j);
        }
          where
            here : get_or (set numbers c i) c 0 ≡ i
            here = get_or-set_same numbers c i 0 look_room

            there : (j : ℕ) → j < c → get_or (set numbers c i) j 0 ≡ get_or numbers j 0
            there j k = get_or-set_other numbers c j i 0 (λ z. omega arith)

            item : (j : ℕ) → j < c + 1 → Dec (c ≤ j) → column_item t n (fields_to l 0 ends fields) j ≡ Ok (Some (get_or (set numbers c i) j 0))
            item j k (yes m) = let z : j ≡ c = omega arith in rw (z, here) (column ∙ a)
            item j k (no m) = w.items j (omega arith) ∙ ap (λ k. Ok (Some k)) (sym (there j (omega arith)))

            apart : (p j : ℕ) → p < j → j < c + 1 → Dec (c ≤ j) → get_or (set numbers c i) p 0 ≡ get_or (set numbers c i) j 0 → ⊥
            apart p j k m (yes q) u =
                let z : j ≡ c = omega arith in
                told.fails e (record { place = p; below = omega arith; same = sym (there p (omega arith)) ∙ u ∙ rw z here })
            apart p j k m (no q) u =
                w.apart p j k (omega arith) (sym (there p (omega arith)) ∙ u ∙ there j (omega arith))
