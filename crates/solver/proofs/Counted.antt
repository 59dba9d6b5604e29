-- "entries past it aren't looked at": rule tables that are equal up to their count are solved alike. It rests on that they are accepted alike and are the same book.
-- Assumes nothing.
use mathlib.Core.Path.{◌≡◌, sym}
use mathlib.Core.List.{List}
use Prim.Native.Nat.{ℕ, ◌*◌}
use lib.ListN.{take}
use Rattle.refusals.specs.Said.{Said}
use Rattle.meaning.specs.Classes.{classes, class_parts}
use Rattle.meaning.proofs.SameBooks.{wanted_moved, refused_moved}
use Rattle.rules.specs.declared.Head.{Head}
use Rattle.rules.specs.Table.{rule_words}
use Rattle.accepts.proofs.Counted.{books_same, rules_counted}
use Rattle.solver.specs.Solving.{Buffers, SolveSays, bad_table, no_room, has_no_labelling, writes_labels}

pub solve_counted : (h : Head) (t t' : List ℕ) → take (h.rules * rule_words) t ≡ take (h.rules * rule_words) t' → {before after : Buffers} {s : Said}
    → SolveSays h t before s after → SolveSays h t' before s after
solve_counted h t t' e (bad_table x) = bad_table (record { bad = λ a. x.bad (rules_counted h t' t (sym e) a); untouched = x.untouched })
solve_counted h t t' e (no_room x) = no_room (record { accepted = rules_counted h t t' e x.accepted; short = x.short; untouched = x.untouched })
solve_counted h t t' e (has_no_labelling x) = has_no_labelling (record {
  accepted = rules_counted h t t' e x.accepted;
  room = x.room;
  unlabelled = refused_moved class_parts (books_same h t t' e) x.unlabelled;
  untouched = x.untouched;
})
solve_counted h t t' e (writes_labels x) = writes_labels (record {
  accepted = rules_counted h t t' e x.accepted;
  room = x.room;
  count = x.count;
  wanted = wanted_moved classes (books_same h t t' e) x.wanted;
  levels = x.levels;
  marks = x.marks;
})
