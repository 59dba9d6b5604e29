-- `rule_lines` meets its contract. The loop's invariant: behind the items' lines r rule lines are put. Assumes nothing.
use mathlib.Core.List.{◌++◌}
use Rattle.rules.specs.Table.{rule_at}
use Rattle.writer.specs.Texts.{pieces, form_line, item_lines, rule_line}
use Rattle.std.specs.Prelude.{Some}
use Rattle.puts.specs.InnerGrowing.{Grown}
use Rattle.writer.proofs.book.rule_lines.Given as goal

abbrev pub invariant-loop-r : goal.invariant-loop-r
invariant-loop-r l = Grown l.fn.out 0 (form_line ++ item_lines l.items l.fn.head.items ++ pieces (λ k. rule_line l.items (rule_at l.rules k)) 0 l.r) l.out (Some l.next)
