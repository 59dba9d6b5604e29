-- There is an answer to every header: whether each name is an item and none is repeated is decided, and so is whether a class covers a label. It
-- rests on that looking up a name computes, that names are lists of numbers, and that covering is `≤` in each part.
-- Assumes nothing.
use Rattle.std.specs.Prelude.{Some, None, Ok, Err}
use mathlib.Core.Path.{◌≡◌, refl, sym, ap, subst, ◌∙◌}
use mathlib.Core.Bool.{Bool, true, false, cond}
use mathlib.Core.List.{List, [], ◌∷◌, map, List-discrete}
use Prim.Native.Nat.{ℕ, zero, suc, ◌+◌, ◌≤◌, ◌<◌}
use native.Mathlib.Decide.{ℕ_discrete, dec_le}
use native.Mathlib.Omega.{arith}
use lib.ListN.{length, get_or, take, drop, length-map}
use lib.Seq.{take_at}
use Rattle.laws.specs.First.{AllBelow}
use Rattle.laws.specs.Tells.{Tells}
use Rattle.laws.proofs.First.{all_none, all_more}
use Rattle.laws.proofs.Tells.{tells_yes, tells_no}
use Rattle.classes.specs.Class.{Covers}
use Rattle.classes.specs.Parts.{part_count, part}
use Rattle.classes.specs.declared.Class.{Class}
use Rattle.classes.proofs.Parts.{covers_parts, parts_cover}
use Rattle.items.specs.Lookup.{Found, find_in}
use Rattle.items.specs.Table.{ItemsOk}
use Rattle.labels.specs.Labels.{labels_in, LevelInRange, Room}
use Rattle.rules.specs.declared.Head.{Head}
use Rattle.refusals.specs.Said.{Said}
use Rattle.refusals.specs.declared.Fault.{Fault}
use Rattle.refusals.specs.declared.Refusal.{Refusal}
use Rattle.records.specs.Rows.{Row, line, bare, halved, cut, broken, row_of, Record, whole, more, bad, most_bytes, most_fields, line_end, few_bytes, judged, record_at}
use Rattle.exports.specs.Names.{unquoted, name_in, IsItem, HeaderOk, KeepsCovered}
use Rattle.exports.proofs.Lengths.{whole_holds}
use Rattle.columns.specs.Columns.{said_kept, said_more, said_columns, header_at, HeaderSays, bad_header, more_header, bad_names, no_room, keeps, ColumnsSays, headed}
use Rattle.columns.proofs.Waiting.{more_few}

-- A statement that is decided of each number is decided of all below a bound.
all_decided : {P : ℕ → Type 0} → ((j : ℕ) → Dec (P j)) → (n : ℕ) → Dec (AllBelow P n)
all_decided {P} d zero = yes all_none
all_decided {P} d (suc n) = by (all_decided d n) (d n)
  where
    by : Dec (AllBelow P n) → Dec (P n) → Dec (AllBelow P (suc n))
    by (yes p) (yes q) = yes (record { each = λ j h. (all_more p q).each j (omega arith) })
    by (yes p) (no q) = no (λ a. q (a.each n (omega arith)))
    by (no p) q = no (λ a. p (record { each = λ j h. a.each j (omega arith) }))

not_decided : {P : Type 0} → Dec P → Dec (P → ⊥)
not_decided (yes p) = no (λ f. f p)
not_decided (no f) = yes f

-- Whether a class covers another.
covers_decided : (x y : Class) → Dec (Covers x y)
covers_decided x y = by (all_decided (λ p. dec_le (part p y) (part p x)) part_count)
  where
    by : Dec (AllBelow (λ p. part p y ≤ part p x) part_count) → Dec (Covers x y)
    by (yes a) = yes (parts_cover a.each)
    by (no f) = no (λ c. f (record { each = covers_parts c }))

-- A decision as a bool.
answered : {P : Type 0} → Dec P → (b : Bool) × Tells P b
answered (yes p) = (true, tells_yes p)
answered (no f) = (false, tells_no f)

module _ (t : List ℕ) (n : ℕ) where
  -- Whether a name is an item, and a header's names are good.
  item_decided : (name : List ℕ) → Dec (IsItem t n name)
  item_decided name = by (find_in t n name) refl
    where
      by : (x : Found) → find_in t n name ≡ x → Dec (IsItem t n name)
      by (Ok (Some i)) e = yes (record { item = i; found = e })
      by (Ok None) e = no (λ k. let f = sym e ∙ k.found in let z : ◌≡◌ {A = ℕ} 0 1 = cc in omega arith)
      by (Err r) e = no (λ k. let f = sym e ∙ k.found in let z : ◌≡◌ {A = ℕ} 0 1 = cc in omega arith)

  names_decided : (fs : List (List ℕ)) → Dec (HeaderOk t n fs)
  names_decided fs =
      by (all_decided (λ c. item_decided (name_in fs c)) (length fs))
      (all_decided (λ d. all_decided (λ c. not_decided (List-discrete ℕ_discrete (name_in fs c) (name_in fs d))) d) (length fs))
    where
      by : Dec (AllBelow (λ c. IsItem t n (name_in fs c)) (length fs)) → Dec (AllBelow (λ d. AllBelow (λ c. name_in fs c ≡ name_in fs d → ⊥) d) (length fs))
          → Dec (HeaderOk t n fs)
      by (yes known) (yes apart) = yes (record { known = known.each; distinct = λ c d h g. (apart.each d g).each c h })
      by (yes known) (no same) = no (λ ok. same (record { each = λ d g. record { each = λ c h. ok.distinct c d h g } }))
      by (no unknown) apart = no (λ ok. unknown (record { each = ok.known }))

  -- The columns that are kept.
  module _ (labels : ℕ → Class) (reader : Class) where
    keeps_found : Found → Bool
    keeps_found (Ok (Some i)) = (answered (covers_decided reader (labels i))).0
    keeps_found (Ok None) = false
    keeps_found (Err r) = false

    keeps_field : List ℕ → Bool
    keeps_field f = keeps_found (find_in t n (unquoted f))

    kept_at : (fs : List (List ℕ)) (c : ℕ) → c < length fs → get_or (map keeps_field fs) c false ≡ keeps_field (get_or fs c [])
    kept_at [] c h = absurd (omega arith)
    kept_at (f ∷ fs) zero h = refl
    kept_at (f ∷ fs) (suc c) h = kept_at fs c (omega arith)

    all_kept : (fs : List (List ℕ)) → KeepsCovered t n labels reader fs (map keeps_field fs)
    unfolding keeps_found keeps_field
    all_kept fs = record {
      columns = length-map fs keeps_field;
      covered = λ c i h e.
          subst (Tells (Covers reader (labels i))) (sym (kept_at fs c h ∙ ap keeps_found e)) (answered (covers_decided reader (labels i))).1;
    }

-- An answer to an export: a refusal; that more is needed, and then the text is short and not the last; or the columns, no more than a record has fields.
pub data ColumnsAnswered (Says : Said → List Bool → Type 0) (export : List ℕ) (last : Bool) : Type 0 where
  refuses_export : (r : Refusal) {after : List Bool} → Says (said_columns (Err r)) after → ColumnsAnswered Says export last
  needs_more : {after : List Bool} → Says said_more after → last ≡ false → length export < most_bytes + line_end → ColumnsAnswered Says export last
  knows_columns : {k : ℕ} {after : List Bool} → Says (said_kept k) after → length (take k after) ≤ most_fields → ColumnsAnswered Says export last

abbrev refusal_for : Fault → ℕ → Refusal
refusal_for f p = record { fault = f; place = p }

-- What waits is not the last text; a whole header has as many fields as a record may have.
never_more : (most : ℕ) (l : List ℕ) → record_at true most l ≡ more → ⊥
unfolding record_at
never_more most l e = by (row_of most l) e
  where
    closed : (b : Bool) (fs : List (List ℕ)) (k : ℕ) → cond b (whole fs k) bad ≡ more → ⊥
    closed true fs k f = let z : ◌≡◌ {A = ℕ} 0 1 = cc in omega arith
    closed false fs k f = let z : ◌≡◌ {A = ℕ} 0 1 = cc in omega arith

    by : (r : Row) → judged true (length l) r ≡ more → ⊥
    by (line fs k) f = closed (few_bytes k) fs (k + line_end) f
    by (bare fs k) f = closed (few_bytes k) fs (k + 0) f
    by (halved k) f = let z : ◌≡◌ {A = ℕ} 0 1 = cc in omega arith
    by cut f = let z : ◌≡◌ {A = ℕ} 0 1 = cc in omega arith
    by broken f = let z : ◌≡◌ {A = ℕ} 0 1 = cc in omega arith

unfinished_not_last : (last : Bool) (l : List ℕ) → header_at last l ≡ more → last ≡ false
unfinished_not_last false l e = refl
unfinished_not_last true [] e = let z : ◌≡◌ {A = ℕ} 0 1 = cc in absurd (omega arith)
unfinished_not_last true (b ∷ l) e = absurd (never_more most_fields (b ∷ l) e)

header_few : (last : Bool) (l : List ℕ) {fs : List (List ℕ)} {k : ℕ} → header_at last l ≡ whole fs k → length fs ≤ most_fields
header_few true [] e = let z : ◌≡◌ {A = ℕ} 0 1 = cc in absurd (omega arith)
header_few false [] e = let z : ◌≡◌ {A = ℕ} 0 1 = cc in absurd (omega arith)
header_few last (b ∷ l) e = (whole_holds last most_fields (b ∷ l) e).few

module _ (t : List ℕ) (n : ℕ) (labels : ℕ → Class) (reader : Class) (export : List ℕ) (last : Bool) (before : List Bool) where
  header_answered : ColumnsAnswered (HeaderSays t n labels reader export last before) export last
  header_answered = by (header_at last export) refl
    where
      named : (fs : List (List ℕ)) (k : ℕ) → header_at last export ≡ whole fs k → Dec (HeaderOk t n fs) → Dec (length fs ≤ length before)
          → ColumnsAnswered (HeaderSays t n labels reader export last before) export last
      named fs k e (no f) room = refuses_export (refusal_for Fault.CsvHeader 1) (bad_names e f)
      named fs k e (yes ok) (no short) = refuses_export (refusal_for Fault.NoRoom 0) (no_room e ok (omega arith))
      named fs k e (yes ok) (yes room) =
          knows_columns (keeps e ok room (all_kept t n labels reader fs))
          (omega (
            arith,
            header_few last export e,
            ap length (take_at (map (keeps_field t n labels reader) fs) (drop (length fs) before) (length fs) (length-map fs (keeps_field t n labels reader))),
            length-map fs (keeps_field t n labels reader),
          ))

      by : (r : Record) → header_at last export ≡ r → ColumnsAnswered (HeaderSays t n labels reader export last before) export last
      by (whole fs k) e = named fs k e (names_decided t n fs) (dec_le (length fs) (length before))
      by more e = needs_more (more_header e) (unfinished_not_last last export e) (more_few last export e)
      by bad e = refuses_export (refusal_for Fault.CsvSyntax 1) (bad_header e)

-- Of labelled items that pass the tests there is an answer to every export, with any buffer.
pub columns_answered : {t : List ℕ} {h : Head} {levels marks : List ℕ} → ItemsOk t h.items → Room h.items levels marks
    → AllBelow (LevelInRange levels) h.items → (reader : Class) (export : List ℕ) (last : Bool) (before : List Bool)
    → ColumnsAnswered (ColumnsSays t h levels marks reader export last before) export last
columns_answered {t} {h} {levels} {marks} items room range reader export last before =
    by (header_answered t h.items (labels_in levels marks) reader export last before)
  where
    by : ColumnsAnswered (HeaderSays t h.items (labels_in levels marks) reader export last before) export last
        → ColumnsAnswered (ColumnsSays t h levels marks reader export last before) export last
    by (refuses_export r p) = refuses_export r (headed items room range p)
    by (needs_more p e short) = needs_more (headed items room range p) e short
    by (knows_columns p few) = knows_columns (headed items room range p) few
