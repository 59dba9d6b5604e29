-- The values of the six keys at the front of a text, each with its length.
-- Assumes nothing.
use Rattle.std.specs.Prelude.{cond, List, ℕ, ◌+◌, eqb, drop, Option, Some, None}
use Rattle.classes.specs.Class.{lowest}
use Rattle.classes.specs.declared.Class.{Class}
use Rattle.scans.specs.Ascii.{digit1, colon}
use Rattle.scans.specs.Bytes.{byte_at}
use Rattle.keys.specs.declared.Key.{Key}
use Rattle.tokens.specs.Tokens.{name_at, count_at, class_at}
use Rattle.tokens.specs.declared.ClassToken.{ClassToken}
use Rattle.tokens.specs.declared.Number.{Number}
use Rattle.lines.specs.declared.value.Value.{Value}
use Rattle.lines.specs.declared.left.LeftSide.{LeftSide}
use Rattle.lines.specs.Left.{left_at}

-- A value without names, and one with names, of n bytes.
abbrev pub unnamed : ℕ → ℕ → Option Value
unnamed count n = Some (record { names = 0; left = 0; right = 0; class = lowest; count = count; len = n })

abbrev pub named : ℕ → ℕ → ℕ → Class → ℕ → Option Value
named names n right c len = Some (record { names = names; left = n; right = right; class = c; count = 0; len = len })

-- "form | 1"
unfoldable pub form_at : List ℕ → Option Value
form_at l = cond (eqb (byte_at l) digit1) (unnamed 0 1) None

-- "item | NAME"
abbrev pub item_of : Option ℕ → Option Value
item_of None = None
item_of (Some n) = named 1 n 0 lowest n

abbrev pub item_at : List ℕ → Option Value
item_at l = item_of (name_at l)

-- ":" at a place: the place behind it.
abbrev pub colon_behind : ℕ → List ℕ → Option ℕ
colon_behind at s = cond (eqb (byte_at (drop at s)) colon) (Some (at + 1)) None

-- ":CLASS" behind names of n bytes.
abbrev pub class_behind : ℕ → ℕ → Option ClassToken → Option Value
class_behind names n None = None
class_behind names n (Some x) = named names n 0 x.class (n + 1 + x.len)

unfoldable pub with_class : ℕ → ℕ → List ℕ → Option Value
with_class names n l = cond (eqb (byte_at (drop n l)) colon) (class_behind names n (class_at (drop (n + 1) l))) None

-- ":NAME" behind names of n bytes.
abbrev pub right_behind : ℕ → ℕ → Option ℕ → Option Value
right_behind names n None = None
right_behind names n (Some k) = named names n k lowest (n + 1 + k)

unfoldable pub with_right : ℕ → ℕ → List ℕ → Option Value
with_right names n l = cond (eqb (byte_at (drop n l)) colon) (right_behind names n (name_at (drop (n + 1) l))) None

-- "cap | NAME:CLASS"
abbrev pub cap_of : List ℕ → Option ℕ → Option Value
cap_of l None = None
cap_of l (Some n) = with_class 1 n l

abbrev pub cap_at : List ℕ → Option Value
cap_at l = cap_of l (name_at l)

-- "floor | NAME+..+NAME:CLASS"
abbrev pub floor_of : List ℕ → Option LeftSide → Option Value
floor_of l None = None
floor_of l (Some x) = with_class x.names x.len l

abbrev pub floor_at : List ℕ → Option Value
floor_at l = floor_of l (left_at l)

-- "follow | NAME+..+NAME:NAME"
abbrev pub follow_of : List ℕ → Option LeftSide → Option Value
follow_of l None = None
follow_of l (Some x) = with_right x.names x.len l

abbrev pub follow_at : List ℕ → Option Value
follow_at l = follow_of l (left_at l)

-- "end | COUNT"
abbrev pub end_of : Option Number → Option Value
end_of None = None
end_of (Some x) = unnamed x.value x.len

abbrev pub end_at : List ℕ → Option Value
end_at l = end_of (count_at l)

abbrev pub value_at : Key → List ℕ → Option Value
value_at Key.Form l = form_at l
value_at Key.Item l = item_at l
value_at Key.Cap l = cap_at l
value_at Key.Floor l = floor_at l
value_at Key.Follow l = follow_at l
value_at Key.End l = end_at l
