-- `item_lines` meets its contract. The loop's invariant: behind the form line i item lines are put. Assumes nothing.
use mathlib.Core.List.{◌++◌}
use Rattle.writer.specs.Texts.{pieces, form_line, item_line}
use Rattle.std.specs.Prelude.{Some}
use Rattle.puts.specs.InnerGrowing.{Grown}
use Rattle.writer.proofs.book.item_lines.Given as goal

abbrev pub invariant-loop-i : goal.invariant-loop-i
invariant-loop-i l = Grown l.fn.out 0 (form_line ++ pieces (item_line l.items) 0 l.i) l.out (Some l.next)
