-- What `read` answers, one law for each answer that the code can give. They rest on what a whole text gives.
-- Assumes nothing.
use mathlib.Core.Path.{refl, ◌≡◌, sym, ap, ◌∙◌}
use mathlib.Core.List.{List, ◌++◌}
use Prim.Native.Nat.{ℕ, ◌+◌, ◌*◌, ◌≤◌, ◌<◌}
use native.Mathlib.Omega.{arith}
use lib.ListN.{length, take, drop}
use lib.Seq.{length-take-le}
use borrow.Author.Tests.{lt-ltb, le-ltb, le-leb, lt-leb}
use Rattle.laws.specs.Over.{over}
use Rattle.laws.proofs.Over.{over_is}
use Rattle.refusals.specs.Sizes.{most_text}
use Rattle.refusals.specs.Said.{refusal_at}
use Rattle.refusals.specs.declared.Fault.{Fault}
use Rattle.refusals.specs.declared.Refusal.{Refusal}
use Rattle.items.specs.Names.{name_room}
use Rattle.rules.specs.Table.{rule_words}
use Rattle.rules.specs.declared.Head.{Head}
use Rattle.std.specs.Prelude.{Ok, Err}
use Rattle.reader.specs.Lines.{Result, empty_names, empty_words, ReadBook}
use Rattle.reader.specs.Reading.{said_read, read_text, fitted, read_answer, ReadSays}
use Rattle.reader.specs.InnerLines.{StartsEmpty, Gives, Holds, CopiedOut}
use Rattle.reader.proofs.ReadRight.{read_right}

pub starts_empty : {text names words : List ℕ} → length text ≤ most_text → names ≡ empty_names → words ≡ empty_words → StartsEmpty text names words
starts_empty h e f = record { text = h; names_empty = e; words_empty = f }

-- A text copied to the front of a buffer.
pub front_copied : (d : List ℕ) (k : ℕ) {x y : List ℕ} → y ≡ x → length x ≡ k → y ++ drop k d ≡ over d 0 x
front_copied d k {x} e long = let same : 0 + length x ≡ k = omega (arith, long) in rw e (sym (over_is d 0 x ∙ rw same refl))

-- The tables of a book, copied to lent ones.
module _ {h : Head} {names words items rules : List ℕ} where
  pub no_items : {r : Refusal} → length items < h.items * name_room → r ≡ refusal_at Fault.NoRoom 0 → CopiedOut h names words items rules (Err r) items rules
  no_items i e = record { answer = rw (e, lt-leb (h.items * name_room) (length items) i); items_are = refl; rules_are = refl }

  module _ (i : h.items * name_room ≤ length items) where
    pub no_rules : {r : Refusal} → length rules < h.rules * rule_words → r ≡ refusal_at Fault.NoRoom 0 → CopiedOut h names words items rules (Err r) items rules
    no_rules j e = record {
      answer = rw (e, le-leb (h.items * name_room) (length items) i, lt-leb (h.rules * rule_words) (length rules) j);
      items_are = refl;
      rules_are = refl;
    }

    pub copied_book : h.rules * rule_words ≤ length rules → Holds h names words → {x y : List ℕ} → x ≡ take (h.items * name_room) names
        → y ≡ take (h.rules * rule_words) words
        → CopiedOut h names words items rules (Ok h) (x ++ drop (h.items * name_room) items) (y ++ drop (h.rules * rule_words) rules)
    copied_book j t e f = record {
      answer = rw (le-leb (h.items * name_room) (length items) i, le-leb (h.rules * rule_words) (length rules) j);
      items_are = front_copied items (h.items * name_room) e (length-take-le (h.items * name_room) names t.items);
      rules_are = front_copied rules (h.rules * rule_words) f (length-take-le (h.rules * rule_words) words t.rules);
    }

-- The text is too long.
pub says_too_long : {text items rules : List ℕ} {r : Refusal} → most_text < length text → r ≡ refusal_at Fault.TooLong 0
    → ReadSays text items rules (said_read (Err r)) items rules
unfolding read_answer
says_too_long {text} h e =
    let long = lt-ltb most_text (length text) h in
    record { answer = rw (e, long); items_are = rw long; rules_are = rw long }

-- The text gives the answer a with these tables.
module _ {text : List ℕ} {a : ReadBook} {names words : List ℕ} (e : Gives text a names words) where
  given : (read_text text).answer ≡ a
  given = ap (λ (r : Result). r.answer) e.result

  -- A book's tables are right, and so they hold its items and rules.
  pub holds_book : {h : Head} → a ≡ Ok h → Holds h names words
  holds_book g =
      let right = rw e.result at (read_right text (given ∙ g)) in
      record { items = right.items.room; rules = right.rules.room }

  module _ (short : length text ≤ most_text) where
    whole : (n m : ℕ) → read_answer text n m ≡ fitted n m a
    unfolding read_answer
    whole n m = rw (le-ltb most_text (length text) short, given)

    pub says_refused : {items rules : List ℕ} {f : Refusal} → a ≡ Err f → ReadSays text items rules (said_read a) items rules
    says_refused {items} {rules} g =
        let same = whole (length items) (length rules) in
        record { answer = rw (same, g); items_are = rw (same, g); rules_are = rw (same, g) }

    pub says_book : {h : Head} → a ≡ Ok h → {items rules : List ℕ} {r : ReadBook} {items' rules' : List ℕ}
        → CopiedOut h names words items rules r items' rules' → ReadSays text items rules (said_read r) items' rules'
    says_book g {items} {rules} {r} d = record {
      answer = ap said_read (sym same);
      items_are = rw (same, e.result) d.items_are;
      rules_are = rw (same, e.result) d.rules_are;
    }
      where
        same : read_answer text (length items) (length rules) ≡ r
        same = whole (length items) (length rules) ∙ rw g (sym d.answer)
