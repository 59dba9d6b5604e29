-- A book of two items and no rules, and a count that solving must not answer for it: the count of its rules in the place of the count of its items.
-- Assumes nothing.
use Rattle.std.specs.Prelude.{ℕ}
use Rattle.rules.specs.declared.Head.{Head}

abbrev pub head : ℕ → ℕ → Head
head n m = record { items = n; rules = m }

abbrev pub two_items : Head
two_items = head 2 0

abbrev pub wrong_count : ℕ
wrong_count = 0
