-- Tables that are equal up to their counts: both are accepted or neither is, and they have the same names and are the same book. They rest on the laws of the
-- item table's count and of fronts of buffers.
-- Assumes nothing.
use mathlib.Core.Path.{◌≡◌, refl, sym, ap, subst}
use mathlib.Core.List.{List}
use Prim.Native.Nat.{ℕ, suc, ◌+◌, ◌*◌, ◌<◌}
use native.Mathlib.Omega.{arith}
use lib.ListN.{take}
use Rattle.laws.proofs.Buffers.{SameFront, take_same, take_room}
use Rattle.meaning.specs.Rules.{SameBooks}
use Rattle.items.specs.Names.{name_room}
use Rattle.items.specs.Table.{name_of}
use Rattle.items.specs.Lookup.{find_in}
use Rattle.items.proofs.Counted.{SameItems, items_counted, front_items, find_counted}
use Rattle.items.proofs.Entries.{same_names}
use Rattle.rules.specs.declared.Head.{Head}
use Rattle.rules.specs.declared.Rule.{Rule}
use Rattle.rules.specs.Record.{meaning_of}
use Rattle.rules.specs.Table.{rule_words, word_at, rule_at, book_of}
use Rattle.rules.proofs.Words.{rule_by_words}
use Rattle.accepts.specs.Accepted.{RuleAccepted, Standing, RulesAccepted, TableAccepted}
use Rattle.accepts.specs.Tables.{Tables, SameTables}

-- Rules by number that are equal below their count are accepted alike.
module _ {h : Head} {at other : ℕ → Rule} (same : (r : ℕ) → r < h.rules → at r ≡ other r) where
  standing_alike : (r : ℕ) → r < h.rules → Standing h at r → Standing h other r
  standing_alike r s x = record {
    accepted = subst (RuleAccepted h.items) (same r s) x.accepted;
    order = λ t. rw (← same r s, ← same (suc r) t) (x.order t);
  }

  pub accepted_alike : RulesAccepted h at → RulesAccepted h other
  accepted_alike x = record { items = x.items; rules = x.rules; each = λ r s. standing_alike r s (x.each r s) }

-- Rule tables that are equal up to their count have the same rules, are the same book, and are accepted alike.
module _ (h : Head) (w w' : List ℕ) (s : take (h.rules * rule_words) w ≡ take (h.rules * rule_words) w') where
  words_same : SameFront (h.rules * rule_words) w w'
  words_same = take_same s

  pub rule_same : (r : ℕ) → r < h.rules → rule_at w r ≡ rule_at w' r
  unfolding word_at
  rule_same r l = rule_by_words w w' r (λ k below. words_same.same (r * rule_words + k) (omega arith))

  pub books_same : SameBooks (book_of h w) (book_of h w')
  books_same = record { items = refl; rules = refl; each = λ r l. ap meaning_of (rule_same r l) }

  pub rules_counted : TableAccepted h w → TableAccepted h w'
  rules_counted a = record { room = take_room (h.rules * rule_words) w w' s a.room; accepted = accepted_alike rule_same a.accepted }

-- Both tables.
module _ {h : Head} {t w t' w' : List ℕ} (s : SameTables h t w t' w') (a : Tables h t w) where
  pub items_same : SameItems h.items t t'
  items_same = front_items (take_same s.items) a.items.room (take_room (h.items * name_room) t t' s.items a.items.room)

  pub tables_counted : Tables h t' w'
  tables_counted = record { items = items_counted items_same a.items; rules = rules_counted h w w' s.rules a.rules }

  pub name_same : (i : ℕ) → i < h.items → name_of t' i ≡ name_of t i
  name_same = same_names items_same a.items

  pub found_same : (name : List ℕ) → find_in t' h.items name ≡ find_in t h.items name
  found_same name = sym (find_counted items_same name)
