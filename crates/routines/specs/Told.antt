-- How a success is told: which of its routine's successes it is, and its values. tests/calls/README.md has them.
-- Assumes nothing.
use Rattle.std.specs.Prelude.{◌≡◌, ℕ, List, [], ◌∷◌}
use Rattle.records.specs.declared.Field.{Field}
use Rattle.records.specs.declared.Size.{Size}
use Rattle.routines.specs.declared.answer.Values.{Values}
use Rattle.routines.specs.declared.answer.Success.{Success}

-- The values, one behind another.
abbrev pub list_of : Values → List ℕ
list_of Values.None = []
list_of (Values.One words) = words
list_of (Values.Two words) = words
list_of (Values.Three words) = words
list_of (Values.Rule words) = words

-- The success is this one of its routine's, and has these values.
abbrev pub IsSuccess : ℕ → List ℕ → Success → Type 0
IsSuccess which words s = (s.which ≡ which) × (list_of s.values ≡ words)

-- What stands behind a field, and the field's length where it has one.
abbrev pub TellsField : Field → Success → Type 0
TellsField (Field.Comma len) s = IsSuccess 0 (len ∷ []) s
TellsField (Field.Line len) s = IsSuccess 1 (len ∷ []) s
TellsField (Field.End len) s = IsSuccess 2 (len ∷ []) s
TellsField (Field.Cr len) s = IsSuccess 3 (len ∷ []) s
TellsField Field.Open s = IsSuccess 4 [] s
TellsField Field.Bad s = IsSuccess 5 [] s

-- What stands where a record should.
abbrev pub TellsSize : Size → Success → Type 0
TellsSize (Size.Whole row) s = IsSuccess 0 (row.fields ∷ row.bytes ∷ []) s
TellsSize Size.More s = IsSuccess 1 [] s
TellsSize Size.Bad s = IsSuccess 2 [] s
