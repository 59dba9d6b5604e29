-- `left_names` meets its contract. The loop's invariant: behind the key k left names are put. Assumes nothing.
use mathlib.Core.List.{◌++◌}
use Rattle.keys.specs.Keys.{key_text}
use Rattle.writer.specs.Texts.{pieces, rule_key, left_piece}
use Rattle.std.specs.Prelude.{Some}
use Rattle.puts.specs.InnerGrowing.{Grown}
use Rattle.writer.proofs.book.left_names.Given as goal

abbrev pub invariant-loop-k : goal.invariant-loop-k
invariant-loop-k l = Grown l.fn.out l.fn.at (key_text (rule_key l.rule) ++ pieces (left_piece l.items l.rule) 0 l.k) l.out (Some l.next)
