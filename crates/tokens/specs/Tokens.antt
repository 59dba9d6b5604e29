-- The tokens of a line, as they stand at the front of a text, each with its length; and the text of each.
-- Assumes nothing.
use Rattle.std.specs.Prelude.{Bool, cond, ◌&&◌, List, ◌∷◌, ◌++◌, ℕ, ◌+◌, ltb, eqb, take, drop, Option, Some, None}
use Rattle.classes.specs.Class.{top_level, class_of}
use Rattle.classes.specs.declared.Class.{Class}
use Rattle.items.specs.Names.{name_room}
use Rattle.scans.specs.Ascii.{slash, digit0}
use Rattle.scans.specs.Bytes.{byte_at, name_byte, decimal_byte, hex_byte, run_len}
use Rattle.tokens.specs.Numbers.{value_of, digits_of, count_digits, decimal_of}
use Rattle.tokens.specs.declared.ClassToken.{ClassToken}
use Rattle.tokens.specs.declared.Number.{Number}

-- "A NAME is 1 to 16 bytes of a-z, 0-9 and hyphen." The whole run of such bytes is the name.
unfoldable pub name_of_run : ℕ → Option ℕ
name_of_run n = cond (ltb n 1) None (cond (ltb name_room n) None (Some n))

abbrev pub name_at : List ℕ → Option ℕ
name_at l = name_of_run (run_len name_byte l)

-- "no leading zero (0 itself allowed)": of n digits, more than one, the first is 0.
unfoldable pub leading_zero : List ℕ → ℕ → Bool
leading_zero l n = ltb 1 n && eqb (byte_at l) digit0

-- The number v, of n digits.
abbrev pub count_found : ℕ → ℕ → Option Number
count_found v n = Some (record { value = v; len = n })

-- 1 to `most` digits with no leading zero. The whole run of digits is the number.
unfoldable pub decimal_of_run : ℕ → List ℕ → ℕ → Option Number
decimal_of_run most l n =
    cond (ltb n 1) None
    (cond (ltb most n) None (cond (leading_zero l n) None (count_found (value_of 10 (take n l)) n)))

abbrev pub decimal_at : ℕ → List ℕ → Option Number
decimal_at most l = decimal_of_run most l (run_len decimal_byte l)

-- "COUNT is 1 to 5 digits with no leading zero (0 itself allowed)."
abbrev pub count_at : List ℕ → Option Number
count_at l = decimal_at count_digits l

abbrev pub count_text : ℕ → List ℕ
count_text n = decimal_of n

-- The level of a class is at most 15, so it has at most 2 digits.
abbrev pub level_digits : ℕ
level_digits = 2

-- "exactly sixteen lower-case hex digits", and how many bytes stand behind the level, the slash among them.
abbrev pub mark_digits : ℕ
mark_digits = 16

abbrev pub behind_level : ℕ
behind_level = 1 + mark_digits

-- The class c, of n bytes.
abbrev pub class_found : Class → ℕ → Option ClassToken
class_found c n = Some (record { class = c; len = n })

-- "In text a class is the level in decimal with no leading zero, a slash, and exactly sixteen lower-case hex digits; mark k is the bit worth
-- 2^k." The whole run of hex digits is the marks.
unfoldable pub class_after : List ℕ → Option Number → Option ClassToken
class_after l None = None
class_after l (Some x) =
    cond (ltb top_level x.value) None
    (cond (eqb (byte_at (drop x.len l)) slash)
    (cond (eqb (run_len hex_byte (drop (x.len + 1) l)) mark_digits)
    (class_found (class_of x.value (value_of 16 (take mark_digits (drop (x.len + 1) l)))) (x.len + behind_level))
    None)
    None)

abbrev pub class_at : List ℕ → Option ClassToken
class_at l = class_after l (decimal_at level_digits l)

abbrev pub class_text : Class → List ℕ
class_text c = decimal_of c.level ++ slash ∷ digits_of 16 mark_digits c.marks
