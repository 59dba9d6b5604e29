-- The bytes at the front of a text: the first one, their kinds, and runs of bytes of one kind. A text at a place is what is left of it there,
-- a suffix.
-- Assumes nothing.
use Rattle.std.specs.Prelude.{Bool, cond, ◌&&◌, ◌||◌, List, [], ◌∷◌, ℕ, suc, leb, eqb, get_or}
use Rattle.scans.specs.Ascii.{hyphen, digit0, digit9, lower_a, lower_f, lower_z}
use Rattle.scans.specs.declared.Kind.{Kind}

-- The first byte, and 0 where there is none.
abbrev pub byte_at : List ℕ → ℕ
byte_at l = get_or l 0 0

-- "bytes of a-z, 0-9 and hyphen".
unfoldable pub name_byte : ℕ → Bool
name_byte b = leb lower_a b && leb b lower_z || leb digit0 b && leb b digit9 || eqb b hyphen

-- "digits".
unfoldable pub decimal_byte : ℕ → Bool
decimal_byte b = leb digit0 b && leb b digit9

-- "lower-case hex digits".
unfoldable pub hex_byte : ℕ → Bool
hex_byte b = leb digit0 b && leb b digit9 || leb lower_a b && leb b lower_f

-- The kinds that runs are made of.
abbrev pub kind_of : Kind → ℕ → Bool
kind_of Kind.Name = name_byte
kind_of Kind.Decimal = decimal_byte
kind_of Kind.Hex = hex_byte

-- How many bytes at the front are of the kind, one after the other.
unfoldable pub run_len : (ℕ → Bool) → List ℕ → ℕ
run_len kind [] = 0
run_len kind (b ∷ l) = cond (kind b) (suc (run_len kind l)) 0
