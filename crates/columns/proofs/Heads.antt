-- What reading the header answers, and what is said by it, one law for each answer that the code can give. They rest on what the promise of `read_row` says
-- and on the laws of covering.
-- Assumes nothing.
use Rattle.std.specs.Prelude.{Option, Some, None, Result, Ok, Err}
use mathlib.Core.Path.{◌≡◌, refl, sym, ap, ◌∙◌, subst}
use mathlib.Core.Bool.{Bool, true, false}
use mathlib.Core.List.{List, [], ◌∷◌, ◌++◌}
use Prim.Native.Nat.{ℕ, ◌≤◌, ◌<◌}
use native.Mathlib.Omega.{arith}
use lib.Dec.{eqb}
use lib.ListN.{length, take, drop}
use borrow.Author.Tests.{eqb-false}
use Rattle.classes.specs.declared.Class.{Class}
use Rattle.refusals.specs.declared.Fault.{Fault}
use Rattle.records.specs.Rows.{whole, more, bad, record_at, most_fields, RowSays}
use Rattle.records.specs.Inner.{fields_to}
use Rattle.records.specs.declared.Extent.{Extent}
use Rattle.records.specs.declared.Size.{Size}
use Rattle.records.proofs.Parts.{fields_count, WholeAt, row_whole, row_more, row_bad}
use Rattle.refusals.specs.Said.{refusal_at, said_refusal}
use Rattle.columns.specs.Columns.{said_kept, said_more, said_columns, header_at, HeaderSays, bad_header, more_header, bad_names, no_room, keeps}
use Rattle.columns.specs.Inner.{NumberRoom, HeaderReady, FindsItems, Headed, HeadSays, no_header, part_header, no_names, good_header}
use Rattle.columns.specs.Inner.{Covering, KeepSays, roomless, covers}
use Rattle.columns.proofs.Covered.{covered_front, covered_rest}
use Rattle.refusals.specs.declared.Refusal.{Refusal}

-- No bytes.
module _ {t : List ℕ} {n : ℕ} {l : List ℕ} {last : Bool} {numbers : List ℕ} where
  pub head_none : {f : Refusal} → length l ≡ 0 → last ≡ true → f ≡ refusal_at Fault.CsvSyntax 1 → HeadSays t n l last numbers (Err f)
  head_none h g e = rw e (no_header (nothing l h))
    where
      nothing : (m : List ℕ) → length m ≡ 0 → header_at last m ≡ bad
      nothing [] z = rw g
      nothing (b ∷ m) z = absurd (omega arith)

  pub head_empty : length l ≡ 0 → last ≡ false → HeadSays t n l last numbers (Ok None)
  head_empty h g = part_header (nothing l h)
    where
      nothing : (m : List ℕ) → length m ≡ 0 → header_at last m ≡ more
      nothing [] z = rw g
      nothing (b ∷ m) z = absurd (omega arith)

-- The header of a text with bytes is the record at its front.
header_is : (l : List ℕ) (last : Bool) → (length l ≡ 0 → ⊥) → header_at last l ≡ record_at last most_fields l
header_is [] last h = absurd (h refl)
header_is (b ∷ l) last h = refl

-- The record at the front of a text, with room for the ends of all its fields.
module _ {l : List ℕ} {last : Bool} {ends₀ : List ℕ} {s : Size} {ends : List ℕ} (p : RowSays l 0 last most_fields ends₀ s ends)
    (room : length ends₀ ≡ most_fields) {e : Bool} (is : e ≡ eqb (length l) 0) (no : e ≡ false) where
  some : length l ≡ 0 → ⊥
  some = eqb-false (length l) 0 (sym is ∙ no)

  enough : most_fields ≤ length ends₀
  enough = omega (arith, room)

  -- The text ends before it does; it is none.
  pub head_more : {t : List ℕ} {n : ℕ} {numbers : List ℕ} → s ≡ Size.More → HeadSays t n l last numbers (Ok None)
  head_more d = part_header (header_is l last some ∙ row_more p enough d)

  pub head_bad : {t : List ℕ} {n : ℕ} {numbers : List ℕ} {f : Refusal} → s ≡ Size.Bad → f ≡ refusal_at Fault.CsvSyntax 1 → HeadSays t n l last numbers (Err f)
  head_bad d e = rw e (no_header (header_is l last some ∙ row_bad p enough d))

  -- It is whole.
  module _ {x : Extent} (d : s ≡ Size.Whole x) where
    row : WholeAt l 0 last most_fields ends x
    row = row_whole p enough d (omega arith)

    header : header_at last l ≡ whole (fields_to l 0 ends x.fields) x.bytes
    header = header_is l last some ∙ row.is

    pub head_ready : {numbers₀ : List ℕ} → NumberRoom numbers₀ → HeaderReady l ends x.fields numbers₀
    head_ready h = record { spans = row.spans; room = omega (arith, row.few, h.size) }

    -- Each name is an item and none is repeated; or not.
    module _ {t : List ℕ} {n : ℕ} {numbers : List ℕ} {b : Bool} (found : FindsItems t n (fields_to l 0 ends x.fields) b numbers) where
      pub head_good : b ≡ true → HeadSays t n l last numbers (Ok (Some x.fields))
      head_good e = good_header (record {
        fields = fields_to l 0 ends x.fields;
        bytes = x.bytes;
        header = header;
        count = sym (fields_count l 0 ends x.fields);
        few = row.few;
        names = found.told.holds e;
        items = found.items e;
      })

      pub head_unknown : {f : Refusal} → b ≡ false → f ≡ refusal_at Fault.CsvHeader 1 → HeadSays t n l last numbers (Err f)
      head_unknown e f = rw f (no_names header (found.told.fails e))

-- Whether there is room to say of each column whether it is covered.
module _ {labels : ℕ → Class} {reader : Class} {numbers : List ℕ} {fields : ℕ} {before : List Bool} where
  pub keep_roomless : {f : Refusal} → length before < fields → f ≡ refusal_at Fault.NoRoom 0 → KeepSays labels reader numbers fields before (Err f) before
  keep_roomless h e = rw e (roomless h)

  pub keep_all : {after : List Bool} → fields ≤ length before → Covering labels reader numbers fields before after
      → KeepSays labels reader numbers fields before (Ok (Some fields)) after
  keep_all h w = covers h w

-- The header that was read, where it is good.
abbrev Good : List ℕ → ℕ → List ℕ → Bool → List ℕ → Result (Option ℕ) Refusal → Type 0
Good t n l last numbers (Ok (Some k)) = Headed t n l last k numbers
Good t n l last numbers (Ok None) = Unit {0}
Good t n l last numbers (Err r) = Unit {0}

good : {t : List ℕ} {n : ℕ} {l : List ℕ} {last : Bool} {numbers : List ℕ} {x : Result (Option ℕ) Refusal} → HeadSays t n l last numbers x
    → Good t n l last numbers x
good (no_header h) = tt
good (part_header h) = tt
good (no_names h b) = tt
good (good_header h) = h

module _ {t : List ℕ} {n : ℕ} {l : List ℕ} {last : Bool} {numbers : List ℕ} {x : Result (Option ℕ) Refusal} (p : HeadSays t n l last numbers x) where
  module _ {o : Option ℕ} {fields : ℕ} (e : x ≡ Ok o) (f : o ≡ Some fields) where
    headed : Headed t n l last fields numbers
    headed = subst (Good t n l last numbers) (e ∙ ap Ok f) (good p)

    pub head_few : length numbers ≡ most_fields → fields ≤ length numbers
    head_few h = omega (arith, headed.few)

-- What is said where it is not good.
abbrev Other : List ℕ → ℕ → (ℕ → Class) → Class → List ℕ → Bool → List Bool → Result (Option ℕ) Refusal → Type 0
Other t n labels reader l last before (Ok (Some k)) = Unit {0}
Other t n labels reader l last before (Ok None) = HeaderSays t n labels reader l last before said_more before
Other t n labels reader l last before (Err f) = HeaderSays t n labels reader l last before (said_refusal f) before

other : {t : List ℕ} {n : ℕ} (labels : ℕ → Class) (reader : Class) {l : List ℕ} {last : Bool} (before : List Bool) {numbers : List ℕ}
    {x : Result (Option ℕ) Refusal} → HeadSays t n l last numbers x → Other t n labels reader l last before x
other labels reader before (no_header h) = bad_header h
other labels reader before (part_header h) = more_header h
other labels reader before (no_names h b) = bad_names h b
other labels reader before (good_header h) = tt

module _ {t : List ℕ} {n : ℕ} {labels : ℕ → Class} {reader : Class} {l : List ℕ} {last : Bool} {before : List Bool} {numbers : List ℕ} where
  pub by_refusal : {x : Result (Option ℕ) Refusal} {f : Refusal} → HeadSays t n l last numbers x → x ≡ Err f
      → HeaderSays t n labels reader l last before (said_refusal f) before
  by_refusal p e = subst (Other t n labels reader l last before) e (other labels reader before p)

  pub by_more : {x : Result (Option ℕ) Refusal} {o : Option ℕ} → HeadSays t n l last numbers x → x ≡ Ok o → o ≡ None
      → HeaderSays t n labels reader l last before said_more before
  by_more p e f = subst (Other t n labels reader l last before) (e ∙ ap Ok f) (other labels reader before p)

  -- What is said where it is.
  pub by_kept : {x : Result (Option ℕ) Refusal} {o : Option ℕ} {fields : ℕ} {r : Result (Option ℕ) Refusal} {after : List Bool} → HeadSays t n l last numbers x
      → x ≡ Ok o → o ≡ Some fields → KeepSays labels reader numbers fields before r after
      → HeaderSays t n labels reader l last before (said_columns r) after
  by_kept {fields = fields} p e f k = by (headed p e f) k
    where
      by : {r : Result (Option ℕ) Refusal} {after : List Bool} → Headed t n l last fields numbers → KeepSays labels reader numbers fields before r after
          → HeaderSays t n labels reader l last before (said_columns r) after
      by head (roomless h) = no_room head.header head.names (omega (arith, head.count))
      by head (covers {after = after} h w) =
          subst (HeaderSays t n labels reader l last before (said_kept fields)) (sym (covered_rest w))
          (subst (λ (k : ℕ). HeaderSays t n labels reader l last before (said_kept k) (take fields after ++ drop k before)) (sym head.count)
          (keeps head.header head.names (omega (arith, head.count)) (covered_front w t n head.fields head.count h head.items)))
