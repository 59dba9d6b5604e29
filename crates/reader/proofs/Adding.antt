-- An item or a rule added to its table, one law for each answer that the code can give; and that a line of each does what its addition does. They rest on the
-- laws of look-ups and of what a put leaves in a buffer.
-- Assumes nothing.
use Rattle.std.specs.Prelude.{Some, None, Ok, Err, Option}
use mathlib.Core.Path.{◌≡◌, refl, sym, ◌∙◌}
use mathlib.Core.Bool.{Bool, true, false, not}
use mathlib.Core.List.{List}
use Prim.Native.Nat.{ℕ, ◌*◌, ◌≤◌, ◌<◌, ◌+◌, ◌-◌}
use native.Mathlib.Omega.{arith}
use lib.ListN.{length, drop}
use borrow.Author.Tests.{lt-ltb, le-ltb, le-leb, lt-leb, not-true, not-false}
use Rattle.refusals.specs.Sizes.{most_items, most_rules, most_left}
use Rattle.refusals.specs.declared.Fault.{Fault}
use Rattle.items.specs.Names.{name_room}
use Rattle.items.specs.Lookup.{Found, said_found, find_in, FindSays}
use Rattle.items.proofs.Lookup.{find_told}
use Rattle.rules.specs.Table.{RulePut}
use Rattle.rules.proofs.Put.{put_told}
use Rattle.std.specs.Prelude.{Option}
use Rattle.puts.proofs.Placed.{mid_over}
use borrow.Rule.Slice.PartMut.{put_mid}
use Rattle.lines.specs.declared.value.Value.{Value}
use Rattle.reader.specs.Names.{numbers_of, rising}
use Rattle.reader.specs.Lines.{is_absent, left_places}
use Rattle.reader.specs.InnerAdding.{LooksUp, ItemAdded, NamesReady, right_added, RuleAdded}
use Rattle.reader.proofs.LookUps.{not_item}

-- What is not Absent was given before.
not_absent : (x : Found) → (x ≡ Ok None → ⊥) → is_absent x ≡ false
not_absent (Ok None) h = absurd (h refl)
not_absent (Ok (Some i)) h = refl
not_absent (Err r) h = refl

-- An item.
module _ {t : List ℕ} {n : ℕ} {name : List ℕ} where
  pub item_full : most_items ≤ n → ItemAdded t n name (Err Fault.TooMany) t
  item_full h = record { told = rw (le-ltb n most_items h); table = refl }

  pub item_twice : (y : Found) → n < most_items → FindSays t n name (said_found y) → (y ≡ Ok None → ⊥)
      → ItemAdded t n name (Err Fault.NameTwice) t
  item_twice y h e o =
      let found : find_in t n name ≡ y = sym (find_told e) in
      record { told = rw (lt-ltb n most_items h, found, not_absent y o); table = refl }

  pub item_new : {x : List ℕ} {y : Found} → x ≡ name → n < most_items → FindSays t n name (said_found y) → y ≡ Ok None
      → ItemAdded t n name (Ok tt) (put_mid (n * name_room) (n * name_room + length name - n * name_room) t x)
  item_new {y = y} same h e f =
      let found : find_in t n name ≡ y = sym (find_told e) in
      record { told = rw (lt-ltb n most_items h, found, f); table = mid_over t (n * name_room) (n * name_room + length name - n * name_room) same (omega arith) }

-- A rule.
left_found : {t : List ℕ} {n c : ℕ} {l : List ℕ} {b : Option (List ℕ)} {left : List ℕ} → LooksUp t n c l b → b ≡ Some left → left_places (numbers_of t n c l) ≡ left
left_found f some = sym (f.items _ some)

module _ {t : List ℕ} {n : ℕ} {l : List ℕ} {from kind : ℕ} {v : Value} {w : List ℕ} {r : ℕ} where
  pub rule_full : most_rules ≤ r → RuleAdded t n l from kind v w r (Err Fault.TooMany) w
  rule_full h = record { told = rw (le-ltb r most_rules h); table = refl }

  module _ (few : r < most_rules) where
    pub rule_ninth : most_left < v.names → RuleAdded t n l from kind v w r (Err Fault.TooMany) w
    rule_ninth h = record { told = rw (lt-ltb r most_rules few, lt-leb v.names most_left h); table = refl }

    module _ (eight : v.names ≤ most_left) {b : Option (List ℕ)} (f : LooksUp t n v.names (drop from l) b) where
      pub rule_no_left : b ≡ None → RuleAdded t n l from kind v w r (Err Fault.NoSuchItem) w
      rule_no_left h = record {
        told = rw (lt-ltb r most_rules few, le-leb v.names most_left eight, ← f.told, h);
        table = refl;
      }

      module _ {left : List ℕ} (h : b ≡ Some left) {y : Found} (i : y ≡ right_added t n l from v) where
        pub rule_no_right : ((i : ℕ) → y ≡ Ok (Some i) → ⊥) → RuleAdded t n l from kind v w r (Err Fault.NoSuchItem) w
        rule_no_right o = record {
          told = rw (lt-ltb r most_rules few, le-leb v.names most_left eight, ← f.told, h, ← i, not_item y o);
          table = refl;
        }

        module _ {k : ℕ} (g : y ≡ Ok (Some k)) {d : Bool} (j : d ≡ rising v.names left) where
          pub rule_order : not d ≡ true → RuleAdded t n l from kind v w r (Err Fault.LeftOrder) w
          rule_order m = record {
            told = rw (
              lt-ltb r most_rules few,
              le-leb v.names most_left eight,
              ← f.told,
              h,
              ← i,
              g,
              left_found f h,
              ← j,
              not-true d m,
            );
            table = refl;
          }

          pub rule_new : not d ≡ false → NamesReady l from v w → {b' : Bool} {w' : List ℕ} {q : ℕ} → q ≡ kind
              → RulePut (record { kind = q; count = v.names; left = left; right = k; class = v.class }) r w b' w'
              → RuleAdded t n l from kind v w r (Ok tt) w'
          rule_new m ready same p = record {
            told = rw (
              lt-ltb r most_rules few,
              le-leb v.names most_left eight,
              ← f.told,
              h,
              ← i,
              g,
              left_found f h,
              ← j,
              not-false d m,
            );
            table = put_told p (omega (arith, ready.room)) ∙ rw (same, left_found f h, ← i, g);
          }
