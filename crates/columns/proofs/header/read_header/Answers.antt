-- `read_header` meets its contract: no bytes, a whole header with good names or not, an unfinished one, none. Assumes nothing.
use borrow.Author.Rules.{rules}
use Rattle.columns.proofs.Heads.{head_none, head_empty, head_ready, head_good, head_unknown, head_more, head_bad}
use Rattle.columns.proofs.header.read_header.Goals as goal

pub returns-then-last : goal.returns-then-last
returns-then-last c = search (head_none, rules)

pub returns-else-last : goal.returns-else-last
returns-else-last c = search (head_empty, rules)

pub find_items-requires : goal.find_items-requires
find_items-requires c = head_ready c.read_row.ensures (search rules) c.is_empty.ensures c.if-is_empty.false c.in-Whole.is (search rules)

pub returns-then-find_items : goal.returns-then-find_items
returns-then-find_items c = search (head_good, rules)

pub returns-else-find_items : goal.returns-else-find_items
returns-else-find_items c = search (head_unknown, rules)

pub returns-in-More : goal.returns-in-More
returns-in-More c = search (head_more, rules)

pub returns-in-Bad : goal.returns-in-Bad
returns-in-Bad c = search (head_bad, rules)
