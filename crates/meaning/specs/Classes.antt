-- Classes as the values of labels, and their parts: part 0 of a class is the level, part k + 1 is mark k.
-- Assumes nothing.
use Rattle.std.specs.Prelude.{◌≡◌, ◌↔◌, ℕ, zero, suc}
use Rattle.classes.specs.Class.{IsClass, HasMark, Covers, joined, lowest}
use Rattle.classes.specs.Parts.{part_count, top_of, part}
use Rattle.classes.specs.declared.Class.{Class}
use Rattle.meaning.specs.Values.{Values}
use Rattle.meaning.specs.Parts.{Parts}

abbrev pub classes : Values
classes = record { Val = Class; Is = IsClass; Below = λ x y. Covers y x; lowest = lowest; join = joined }

abbrev pub class_parts : Parts
class_parts = record { values = classes; count = part_count; top = top_of; part = part }

-- Two classes agree in part p: for part 0 they have the same level, for part k + 1 mark k is "in both .. or in neither".
abbrev pub ClassesAgree : ℕ → Class → Class → Type 0
ClassesAgree zero x y = x.level ≡ y.level
ClassesAgree (suc k) x y = HasMark x k ↔ HasMark y k
