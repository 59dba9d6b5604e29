-- An export that is read in pieces: what is said of its columns before its end is known stays as it is, whatever bytes come behind them. It
-- rests on that bytes behind a text change no record that is whole and none that is bad.
-- Assumes nothing.
use mathlib.Core.Path.{◌≡◌, refl}
use mathlib.Core.Bool.{Bool, false}
use mathlib.Core.List.{List, [], ◌∷◌, ◌++◌}
use Prim.Native.Nat.{ℕ}
use native.Mathlib.Omega.{arith}
use Rattle.classes.specs.declared.Class.{Class}
use Rattle.rules.specs.declared.Head.{Head}
use Rattle.refusals.specs.Said.{Said}
use Rattle.records.specs.Rows.{whole, bad, most_fields}
use Rattle.records.proofs.Prefix.{whole_stays, none_stays}
use Rattle.columns.specs.Columns.{said_more, header_at, HeaderSays, bad_header, more_header, bad_names, no_room, keeps}
use Rattle.columns.specs.Columns.{ColumnsSays, bad_items, few_labels, bad_label, headed}

-- The header of a text, with bytes behind the text.
whole_header_stays : (last : Bool) (a b : List ℕ) {fs : List (List ℕ)} {k : ℕ} → header_at false a ≡ whole fs k
    → header_at last (a ++ b) ≡ whole fs k
whole_header_stays last [] b e = let z : ◌≡◌ {A = ℕ} 0 1 = cc in absurd (omega arith)
whole_header_stays last (x ∷ a) b e = whole_stays last most_fields (x ∷ a) b e

bad_header_stays : (last : Bool) (a b : List ℕ) → header_at false a ≡ bad → header_at last (a ++ b) ≡ bad
bad_header_stays last [] b e = let z : ◌≡◌ {A = ℕ} 0 1 = cc in absurd (omega arith)
bad_header_stays last (x ∷ a) b e = none_stays last most_fields (x ∷ a) b e

header_stays : (last : Bool) (a b : List ℕ) {t : List ℕ} {n : ℕ} {labels : ℕ → Class} {reader : Class} {before : List Bool} {s : Said}
    {after : List Bool} → HeaderSays t n labels reader a false before s after → (s ≡ said_more → ⊥)
    → HeaderSays t n labels reader (a ++ b) last before s after
header_stays last a b (bad_header e) h = bad_header (bad_header_stays last a b e)
header_stays last a b (more_header e) h = absurd (h refl)
header_stays last a b (bad_names e x) h = bad_names (whole_header_stays last a b e) x
header_stays last a b (no_room e g x) h = no_room (whole_header_stays last a b e) g x
header_stays last a b (keeps e g x y) h = keeps (whole_header_stays last a b e) g x y

-- What is said of the first bytes of an export, unless it is that the header needs more of them, is said of the whole export.
pub columns_stay : (last : Bool) (a b : List ℕ) {t : List ℕ} {h : Head} {levels marks : List ℕ} {reader : Class} {before : List Bool} {s : Said}
    {after : List Bool} → ColumnsSays t h levels marks reader a false before s after → (s ≡ said_more → ⊥)
    → ColumnsSays t h levels marks reader (a ++ b) last before s after
columns_stay last a b (bad_items x) m = bad_items x
columns_stay last a b (few_labels o x) m = few_labels o x
columns_stay last a b (bad_label o r f) m = bad_label o r f
columns_stay last a b (headed o r f p) m = headed o r f (header_stays last a b p m)
