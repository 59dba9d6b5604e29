-- `find_items` meets its contract. The loop's invariant: the names before are items, and none is repeated. Assumes nothing.
use Rattle.columns.proofs.Looking.{Looking}
use Rattle.columns.proofs.header.find_items.Given as goal

abbrev pub invariant-loop-c : goal.invariant-loop-c
invariant-loop-c l = Looking l.items l.n l.export l.ends l.fields l.initial.numbers l.numbers l.c
