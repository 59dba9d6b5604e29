-- "Numbers of refusal": the number of each fault, as the table of docs/RULES.md has it.
-- Assumes nothing.
use Rattle.std.specs.Prelude.{ℕ}
use Rattle.refusals.specs.declared.Fault.{Fault}

abbrev pub fault_number : Fault → ℕ
fault_number Fault.TooLong = 1
fault_number Fault.Syntax = 2
fault_number Fault.Order = 3
fault_number Fault.TooMany = 4
fault_number Fault.NameTwice = 5
fault_number Fault.NoSuchItem = 6
fault_number Fault.LeftOrder = 7
fault_number Fault.EndCount = 8
fault_number Fault.NoLabelling = 9
fault_number Fault.BadTable = 10
fault_number Fault.NoRoom = 11
fault_number Fault.BadLabel = 12
fault_number Fault.CsvSyntax = 16
fault_number Fault.CsvHeader = 17
