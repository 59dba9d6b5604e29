-- The bytes that the documents name, each once.
-- Assumes nothing.
use Rattle.std.specs.Prelude.{ℕ}

abbrev pub lf : ℕ
lf = 10

abbrev pub cr : ℕ
cr = 13

abbrev pub quote : ℕ
quote = 34

abbrev pub plus : ℕ
plus = 43

abbrev pub comma : ℕ
comma = 44

abbrev pub hyphen : ℕ
hyphen = 45

abbrev pub slash : ℕ
slash = 47

abbrev pub digit0 : ℕ
digit0 = 48

abbrev pub digit1 : ℕ
digit1 = 49

abbrev pub digit9 : ℕ
digit9 = 57

abbrev pub colon : ℕ
colon = 58

abbrev pub lower_a : ℕ
lower_a = 97

abbrev pub lower_f : ℕ
lower_f = 102

abbrev pub lower_z : ℕ
lower_z = 122
