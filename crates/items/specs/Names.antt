-- Names, as docs/RULES.md has them: "A NAME is 1 to 16 bytes of a-z, 0-9 and hyphen."
-- Assumes nothing.
use Rattle.std.specs.Prelude.{Bool, true, ◌&&◌, List, [], ◌∷◌, ℕ, leb, length}
use Rattle.scans.specs.Bytes.{name_byte}

-- The bytes of the longest name, which is the room that a table has for each.
abbrev pub name_room : ℕ
name_room = 16

unfoldable pub name_bytes : List ℕ → Bool
name_bytes [] = true
name_bytes (b ∷ l) = name_byte b && name_bytes l

-- "A NAME is 1 to 16 bytes of a-z, 0-9 and hyphen."
unfoldable pub is_name : List ℕ → Bool
is_name l = leb 1 (length l) && leb (length l) name_room && name_bytes l
