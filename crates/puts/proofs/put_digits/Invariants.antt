-- `put_digits` meets its contract. The loop's invariant: the digits from place i on are written, and those before it are the digits of v. Assumes nothing.
use mathlib.Core.Path.{◌≡◌}
use mathlib.Core.List.{◌++◌}
use lib.ListN.{length, drop}
use Rattle.tokens.specs.Numbers.{digits_of}
use Rattle.puts.proofs.put_digits.Given as goal

abbrev pub invariant-loop-i : goal.invariant-loop-i
invariant-loop-i l = digits_of l.base l.i l.v ++ drop l.i l.digits ≡ digits_of l.base (length l.initial.digits) l.n
