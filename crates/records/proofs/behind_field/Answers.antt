-- `behind_field` meets its contract, by what stands behind the field. Assumes nothing.
use borrow.Author.Rules.{rules}
use Rattle.records.proofs.Steps.{found_end, found_comma, found_bad, found_cr, found_line, found_cr_bad}
use Rattle.records.proofs.behind_field.Goals as goal

pub returns-then-text-end : goal.returns-then-text-end
returns-then-text-end c = search (found_end, rules)

pub returns-then-text-end-eq-COMMA : goal.returns-then-text-end-eq-COMMA
returns-then-text-end-eq-COMMA c = search (found_comma, rules)

pub returns-then-text-end-ne-CR : goal.returns-then-text-end-ne-CR
returns-then-text-end-ne-CR c = search (found_bad, rules)

pub returns-then-text-end-2 : goal.returns-then-text-end-2
returns-then-text-end-2 c = search (found_cr, rules)

pub returns-then-text-end-eq-LF : goal.returns-then-text-end-eq-LF
returns-then-text-end-eq-LF c = search (found_line, rules)

pub returns-else-text-end-eq-LF : goal.returns-else-text-end-eq-LF
returns-else-text-end-eq-LF c = search (found_cr_bad, rules)
