-- Field c of a record by where its fields end: the two places between which it stands, cut to the text's length; and that it is the record's field, where `read_row`
-- found a whole record and left these ends. It rests on the fields of a whole record by where they end.
-- Assumes nothing.
use mathlib.Core.Path.{◌≡◌, refl, sym, ap, ◌∙◌}
use mathlib.Core.Bool.{Bool, true, false}
use mathlib.Core.List.{List, [], ◌∷◌}
use Prim.Native.Nat.{ℕ, zero, suc, ◌+◌, ◌-◌, ◌≤◌, ◌<◌, min}
use native.Mathlib.Decide.{dec_le}
use native.Mathlib.Omega.{arith}
use lib.ListN.{length, get_or, take, drop, length-drop, drop_of_length-le}
use lib.Seq.{take_all, take-nil}
use Rattle.laws.specs.Over.{over}
use Rattle.records.specs.Fields.{behind, scan}
use Rattle.records.specs.Rows.{whole, row_of, record_at, size_of, ends_of, RowSays, part_of, start_at, nth_field}
use Rattle.records.specs.declared.Size.{Size}
use Rattle.records.proofs.Parts.{fields_at, WholeAt, row_whole}

-- The start of a field: of the first; of one behind another that ends before the most; of one behind another that does not.
module _ (at : ℕ) (ends : List ℕ) where
  pub start_first : {c : ℕ} (most : ℕ) {r : ℕ} → c ≡ 0 → r ≡ min at most → r ≡ min (start_at at ends c) most
  start_first most e f = f ∙ ap (λ (k : ℕ). min (start_at at ends k) most) (sym e)

  start_later : (c : ℕ) → (c ≡ 0 → ⊥) → start_at at ends c ≡ get_or ends (c - 1) 0 + 1
  start_later zero h = absurd (h refl)
  start_later (suc c) h = let e : suc c - 1 ≡ c = omega arith in rw e

  module _ {c most before : ℕ} (h : c ≡ 0 → ⊥) (e : before ≡ min (get_or ends (c - 1) 0) most) where
    pub start_before : before < most → before + 1 ≡ min (start_at at ends c) most
    start_before g = omega (arith, start_later c h, e)

    pub start_past : most ≤ before → most ≡ min (start_at at ends c) most
    start_past g = omega (arith, start_later c h, e)

-- The part of a text between two places that were cut to its length.
pub part_cut : (l : List ℕ) (from to : ℕ) {start end : ℕ} → end ≡ min to (length l) → start ≡ min from end
    → take (end - start) (drop start l) ≡ part_of l from to
part_cut l from to {start} {end} e f = by (dec_le from end) (dec_le to (length l))
  where
    none : (a b : List ℕ) → (k : ℕ) → k ≡ 0 → b ≡ [] → take k a ≡ b
    none a b k z y = rw (z, y)

    by : Dec (from ≤ end) → Dec (to ≤ length l) → take (end - start) (drop start l) ≡ part_of l from to
    by (yes h) (yes g) =
        let s : start ≡ from = omega arith in
        let t : end ≡ to = omega arith in
        rw (s, t)
    by (yes h) (no g) =
        let s : start ≡ from = omega arith in
        rw s (take_all (end - from) (drop from l) (omega (arith, length-drop from l)) ∙ sym (take_all (to - from) (drop from l) (omega (arith, length-drop from l))))
    by (no h) (yes g) =
        let k : to - from ≡ 0 = omega arith in
        none (drop start l) (part_of l from to) (end - start) (omega arith) (rw k)
    by (no h) (no g) =
        let past : length l ≤ from = omega arith in
        none (drop start l) (part_of l from to) (end - start) (omega arith) (rw (drop_of_length-le l past) (take-nil (to - from)))

-- Past the text there is at most one field, with no bytes.
alone : (last : Bool) (most : ℕ) {fs : List (List ℕ)} {k : ℕ} → record_at last most [] ≡ whole fs k → fs ≡ [] ∷ []
unfolding record_at row_of scan behind
alone last zero e = let z : ◌≡◌ {A = ℕ} 0 1 = cc in absurd (omega arith)
alone true (suc most) e = cc
alone false (suc most) e = let z : ◌≡◌ {A = ℕ} 0 1 = cc in absurd (omega arith)

same_fields : {fs gs : List (List ℕ)} {k m : ℕ} → whole fs k ≡ whole gs m → fs ≡ gs
same_fields e = cc

-- The field that is handed back is the record's: where a whole record with these fields stands at a place, the ends that `read_row` leaves by its promise give for
-- each of them its bytes.
pub nth_field_right : {l : List ℕ} {at : ℕ} {last : Bool} {most : ℕ} {ends : List ℕ} {s : Size} {ends' : List ℕ} → RowSays l at last most ends s ends'
    → {fs : List (List ℕ)} {k : ℕ} → record_at last (min most (length ends)) (drop at l) ≡ whole fs k
    → (c : ℕ) → c < length fs → nth_field l at ends' c ≡ get_or fs c []
nth_field_right {l} {at} {last} {most} {ends} {s} {ends'} p {fs} {k} e c h = by (dec_le at (length l))
  where
    few : min most (length ends) ≡ min (min most (length ends)) (length ends)
    few = omega arith

    says : RowSays l at last (min most (length ends)) ends s ends'
    says = record {
      size = p.size ∙ ap (λ (n : ℕ). size_of (record_at last n (drop at l))) few;
      ends_after = p.ends_after ∙ ap (λ (n : ℕ). over ends 0 (ends_of n at (drop at l))) few;
    }

    only : length l ≤ at → fs ≡ [] ∷ []
    only g = alone last (min most (length ends)) (ap (record_at last (min most (length ends))) (sym (drop_of_length-le l g)) ∙ e)

    past : length l ≤ at → (j : ℕ) → j < length fs → nth_field l at ends' j ≡ get_or fs j []
    past g zero i = rw (drop_of_length-le l g, only g) (take-nil (get_or ends' 0 0 - at))
    past g (suc j) i = absurd (omega (arith, ap length (only g)))

    by : Dec (at ≤ length l) → nth_field l at ends' c ≡ get_or fs c []
    by (yes g) =
        let row : WholeAt l at last (min most (length ends)) ends' (record { fields = length fs; bytes = k }) =
        row_whole says (omega arith) (p.size ∙ ap size_of e) g in
        sym (ap (λ (gs : List (List ℕ)). get_or gs c []) (same_fields (sym e ∙ row.is)) ∙ fields_at l at ends' (length fs) c h)
    by (no g) = past (omega arith) c h
