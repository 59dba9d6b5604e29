-- "Sizes: text at most 32,768 bytes; 0 to 256 items; 0 to 1,024 rules, caps, floors and follows together; 1 to 8 left names."
-- Assumes nothing.
use Rattle.std.specs.Prelude.{ℕ}

-- TOO_LONG: "text read, or to be written, is over 32,768 bytes".
abbrev pub most_text : ℕ
most_text = 32768

-- TOO_MANY: "257th item, 1,025th rule, or a ninth left name".
abbrev pub most_items : ℕ
most_items = 256

abbrev pub most_rules : ℕ
most_rules = 1024

abbrev pub most_left : ℕ
most_left = 8
