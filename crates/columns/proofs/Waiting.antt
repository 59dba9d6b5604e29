-- A text of which `kept_columns` says that more is needed is short: no header that waits for its end has over 4,097 bytes. It rests on the same of one record.
-- Assumes nothing.
use mathlib.Core.Path.{◌≡◌}
use mathlib.Core.Bool.{Bool}
use mathlib.Core.List.{List, [], ◌∷◌}
use Prim.Native.Nat.{ℕ, ◌+◌, ◌<◌}
use native.Mathlib.Omega.{arith}
use lib.ListN.{length}
use Rattle.classes.specs.declared.Class.{Class}
use Rattle.rules.specs.declared.Head.{Head}
use Rattle.refusals.specs.Said.{Said, success, refused}
use Rattle.records.specs.Rows.{more, most_bytes, most_fields, line_end}
use Rattle.records.proofs.Whole.{more_short}
use Rattle.columns.specs.Columns.{said_more, header_at, HeaderSays, bad_header, more_header, bad_names, no_room, keeps}
use Rattle.columns.specs.Columns.{ColumnsSays, bad_items, few_labels, bad_label, headed}

-- A header that is not at its end.
pub more_few : (last : Bool) (l : List ℕ) → header_at last l ≡ more → length l < most_bytes + line_end
more_few last [] e = omega arith
more_few last (b ∷ l) e = more_short last most_fields (b ∷ l) e

-- What the answer without a value says.
abbrev Few : List ℕ → Said → Type 0
Few l (success c []) = length l < most_bytes + line_end
Few l (success c (k ∷ values)) = Unit {0}
Few l (refused number place) = Unit {0}

header_few : {t : List ℕ} {n : ℕ} {labels : ℕ → Class} {reader : Class} {l : List ℕ} {last : Bool} {before : List Bool} {s : Said} {after : List Bool}
    → HeaderSays t n labels reader l last before s after → Few l s
header_few (bad_header e) = tt
header_few {l = l} {last} (more_header e) = more_few last l e
header_few (bad_names e b) = tt
header_few (no_room e g h) = tt
header_few (keeps e g h c) = tt

columns_few : {t : List ℕ} {h : Head} {levels marks : List ℕ} {reader : Class} {l : List ℕ} {last : Bool} {before : List Bool} {s : Said} {after : List Bool}
    → ColumnsSays t h levels marks reader l last before s after → Few l s
columns_few (bad_items b) = tt
columns_few (few_labels o b) = tt
columns_few (bad_label o r f) = tt
columns_few (headed o r f p) = header_few p

pub more_waits : {t : List ℕ} {h : Head} {levels marks : List ℕ} {reader : Class} {l : List ℕ} {last : Bool} {before : List Bool} {after : List Bool}
    → ColumnsSays t h levels marks reader l last before said_more after → length l < most_bytes + line_end
more_waits p = columns_few p
