-- The numbers of the routines, as the table of tests/calls/README.md has them.
-- Assumes nothing.
use Rattle.std.specs.Prelude.{◌≡◌, ℕ, ◌≤◌, Result, MatchResult}
use Rattle.routines.specs.declared.routine.Routine.{Routine}
use Rattle.routines.specs.declared.routine.NoRoutine.{NoRoutine}

abbrev pub number_of : Routine → ℕ
number_of Routine.Read = 0
number_of Routine.Write = 1
number_of Routine.WriteLabels = 2
number_of Routine.Find = 3
number_of Routine.ItemsOk = 4
number_of Routine.RulesOk = 5
number_of Routine.Solve = 6
number_of Routine.Check = 7
number_of Routine.CheckArray = 8
number_of Routine.Answer = 9
number_of Routine.Assign = 10
number_of Routine.HasRoom = 11
number_of Routine.FirstBad = 12
number_of Routine.LabelAt = 13
number_of Routine.RuleAt = 14
number_of Routine.LeftJoin = 15
number_of Routine.RuleOk = 16
number_of Routine.Strip = 17
number_of Routine.ReaderClass = 18
number_of Routine.KeptColumns = 19
number_of Routine.ReadName = 20
number_of Routine.ReadCount = 21
number_of Routine.ReadClass = 22
number_of Routine.ReadKey = 23
number_of Routine.ReadField = 24
number_of Routine.Put = 25
number_of Routine.PutCount = 26
number_of Routine.PutClass = 27
number_of Routine.ReadRow = 28
number_of Routine.NthField = 29

-- The routine has the number, or no routine has it.
abbrev pub IsNumbered : ℕ → Result Routine NoRoutine → Type 0
IsNumbered n r = MatchResult r (λ routine. number_of routine ≡ n) (λ _. 30 ≤ n)
