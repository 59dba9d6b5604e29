-- `checker::met` meets its contract: by the rule's kind, what covering tells of the two classes.
-- Assumes nothing.
use Rattle.rules.proofs.Meaning.{kind_cap, kind_floor, follow_past, none_past}
use Rattle.checker.proofs.Meets.{cap_met, floor_met, follow_met}
use borrow.Author.Rules.{rules}
use Rattle.checker.proofs.met.Goals.{in-Some+in-Follow-1, in-None-1}
use Rattle.checker.proofs.met.Goals as goal

pub returns-in-Some-Cap : goal.returns-in-Some-Cap
returns-in-Some-Cap c = search (cap_met, kind_cap, rules)

pub returns-in-Some-Floor : goal.returns-in-Some-Floor
returns-in-Some-Floor c = search (floor_met, kind_floor, rules)

pub returns-in-Some-Follow : goal.returns-in-Some-Follow
returns-in-Some-Follow c = elim c.in-Some-Follow-1.branch [
  | in-Some+in-Follow-1 w ↦ search (follow_met, follow_past, w, rules)
  | in-None-1 w ↦ search (follow_met, none_past, w, rules)
]
