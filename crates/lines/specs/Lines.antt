-- A line at the front of a text. "Every line is key=value and ends with one LF."
-- Assumes nothing.
use Rattle.std.specs.Prelude.{cond, List, ℕ, ◌+◌, eqb, drop, Option, Some, None}
use Rattle.scans.specs.Ascii.{lf}
use Rattle.scans.specs.Bytes.{byte_at}
use Rattle.keys.specs.Keys.{key_at}
use Rattle.keys.specs.declared.Key.{Key}
use Rattle.lines.specs.declared.value.Value.{Value}
use Rattle.keys.specs.declared.KeyToken.{KeyToken}
use Rattle.lines.specs.declared.Line.{Line}
use Rattle.lines.specs.Values.{value_at}

-- A key of n bytes and a value are a line where LF follows the value.
abbrev pub ended : List ℕ → Key → ℕ → Option Value → Option Line
ended l k n None = None
ended l k n (Some v) =
    cond (eqb (byte_at (drop (n + v.len) l)) lf) (Some (record { key = k; from = n; value = v })) None

abbrev pub line_of : List ℕ → Option KeyToken → Option Line
line_of l None = None
line_of l (Some x) = ended l x.key x.len (value_at x.key (drop x.len l))

abbrev pub line_at : List ℕ → Option Line
line_at l = line_of l (key_at l)

-- How long a line is, with its LF.
abbrev pub line_len : Line → ℕ
line_len x = x.from + x.value.len + 1
