-- The left side of a rule, "NAME+..+NAME", at the front of a text: how many names there are, and their length with the plus signs.
-- Assumes nothing.
use Rattle.std.specs.Prelude.{cond, List, ℕ, zero, suc, ◌+◌, eqb, length, drop, Option, Some, None}
use Rattle.scans.specs.Ascii.{plus}
use Rattle.scans.specs.Bytes.{byte_at}
use Rattle.tokens.specs.Tokens.{name_at}
use Rattle.lines.specs.declared.left.LeftSide.{LeftSide}

-- A left side of so many names, of n bytes.
abbrev pub left_found : ℕ → ℕ → Option LeftSide
left_found names n = Some (record { names = names; len = n })

-- So many names and bytes before what was found.
abbrev pub names_before : ℕ → ℕ → Option LeftSide → Option LeftSide
names_before names n None = None
names_before names n (Some x) = left_found (names + x.names) (n + x.len)

-- A name is the whole left side, or, where a plus sign follows it, the first name of one.
unfoldable pub after_name : (ℕ → Option LeftSide) → List ℕ → Option ℕ → Option LeftSide
after_name more l None = None
after_name more l (Some n) = cond (eqb (byte_at (drop n l)) plus) (names_before 1 (n + 1) (more (n + 1))) (left_found 1 n)

-- The left side at the front of a text that is no longer than the first number.
unfoldable pub left_from : ℕ → List ℕ → Option LeftSide
left_from zero l = None
left_from (suc f) l = after_name (λ k. left_from f (drop k l)) l (name_at l)

abbrev pub left_at : List ℕ → Option LeftSide
left_at l = left_from (length l) l
