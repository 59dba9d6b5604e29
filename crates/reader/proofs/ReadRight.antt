-- What is read passes the table tests: every text that is a book gives tables that no writer refuses. It rests on what each line adds to the
-- tables, by induction over the lines.
-- Assumes nothing.
use mathlib.Core.Path.{◌≡◌, refl, ◌∙◌, subst}
use mathlib.Core.Bool.{true}
use mathlib.Core.List.{List}
use Prim.Native.Nat.{ℕ, suc, ◌+◌, ◌*◌, ◌≤◌, ◌<◌, zero-le}
use native.Mathlib.Decide.{dec_lt}
use native.Mathlib.Omega.{arith}
use borrow.Author.Count.{below_more}
use lib.ListN.{length, drop, length-replicate}
use Rattle.std.specs.Prelude.{Ok, Err}
use Rattle.laws.proofs.Buffers.{zeros_at}
use Rattle.refusals.specs.Sizes.{most_items, most_rules}
use Rattle.items.specs.Names.{name_room, is_name}
use Rattle.rules.specs.Table.{rule_words, rule_at}
use Rattle.rules.specs.declared.Head.{Head}
use Rattle.rules.specs.declared.Rule.{Rule}
use Rattle.rules.proofs.Put.{ruled_length, ruled_here, ruled_before}
use Rattle.accepts.specs.Accepted.{Standing, TableAccepted}
use Rattle.accepts.specs.Tables.{Tables}
use Rattle.tokens.proofs.Tokens.{name_is_name}
use Rattle.lines.specs.declared.Line.{Line}
use Rattle.reader.specs.Lines.{State, start, Result, head_of, item_name, with_item, rule_of, with_rule, ReadBook}
use Rattle.reader.specs.Reading.{read_text}
use Rattle.reader.proofs.LineCases.{FormRead, ItemRead, RuleRead, Cases, form_next, read_says}
use Rattle.reader.proofs.Entries.{Spare, added_length, added_spare, added_ok, places_length}
use Rattle.reader.proofs.Numbers.{left_few, rule_accepted}

-- What holds of every state that is reached: the tables have their whole room and are right, no byte behind the items is used, and no rule stands
-- behind the row of the last key.
pub record Right (st : State) : Type 0 where
  pub names_room : length st.names ≡ most_items * name_room
  pub words_room : length st.words ≡ most_rules * rule_words
  pub tables : Tables (head_of st.counts) st.names st.words
  pub spare : Spare st.names st.counts.items
  pub kinds : (r : ℕ) → r < st.counts.rules → 3 + (rule_at st.words r).kind ≤ st.counts.after

-- While an item may come, there is no rule.
pub no_rules : {st : State} → Right st → st.counts.after ≤ 2 → st.counts.rules ≡ 0
no_rules {st} r h = go (dec_lt 0 st.counts.rules)
  where
    go : Dec (0 < st.counts.rules) → st.counts.rules ≡ 0
    go (yes s) = absurd (omega (arith, r.kinds 0 s))
    go (no s) = omega arith

no_table : (w : List ℕ) (b : Head) → b.rules ≡ 0 → b.items ≤ most_items → TableAccepted b w
no_table w b e h = record {
  room = omega arith;
  accepted = record { items = h; rules = omega arith; each = λ r s. absurd (omega arith) };
}

pub right_start : Right start
right_start = record {
  names_room = length-replicate {A = ℕ} (most_items * name_room) 0;
  words_room = length-replicate {A = ℕ} (most_rules * rule_words) 0;
  tables = record {
    items = record { size = zero-le; room = zero-le; names = λ i h. absurd (omega arith); distinct = λ i h. absurd (omega arith) };
    rules = no_table _ _ refl zero-le;
  };
  spare = record { zeros = λ i h. zeros_at (most_items * name_room) i };
  kinds = λ r h. absurd (omega arith);
}

module _ (st : State) (l : List ℕ) (right : Right st) (x : Line) where
  pub right_form : FormRead st l x → Right (form_next st)
  right_form h = record {
    names_room = right.names_room;
    words_room = right.words_room;
    tables = right.tables;
    spare = right.spare;
    kinds = λ r s. absurd (omega (arith, no_rules right (omega (arith, h.first))));
  }

  -- An item line.
  module _ (h : ItemRead st l x) where
    pub item_name_lem : is_name (item_name l x) ≡ true
    item_name_lem = (name_is_name (drop x.from l) x.value.left h.value.name).name

    pub item_room : st.counts.items * name_room + name_room ≤ length st.names
    item_room = omega (arith, right.names_room, h.few)

    pub right_item : Right (with_item st l x)
    right_item = record {
      names_room = added_length st.names st.counts.items (item_name l x) item_name_lem item_room right.spare ∙ right.names_room;
      words_room = right.words_room;
      tables = record {
        items =
            added_ok st.names st.counts.items (item_name l x) item_name_lem item_room right.spare right.tables.items h.few
            h.new;
        rules = no_table st.words _ (no_rules right h.row.rise) (omega (arith, h.few));
      };
      spare = added_spare st.names st.counts.items (item_name l x) item_name_lem item_room right.spare;
      kinds = λ r s. absurd (omega (arith, no_rules right h.row.rise));
    }

  -- A rule's line.
  module _ (h : RuleRead st l x) where
    abbrev rule : Rule
    rule = rule_of st l x

    pub rule_room : st.counts.rules * rule_words + rule_words ≤ length st.words
    rule_room = omega (arith, right.words_room, h.few)

    pub rule_here : rule_at (with_rule st l x).words st.counts.rules ≡ rule
    rule_here = ruled_here st.words st.counts.rules rule rule_room (places_length _ (left_few st l x h))

    pub rule_before : (r : ℕ) → r < st.counts.rules → rule_at (with_rule st l x).words r ≡ rule_at st.words r
    rule_before = ruled_before st.words st.counts.rules rule rule_room

    row : st.counts.after ≤ 3 + rule.kind
    row = omega (arith, h.row.rise)

    next_kind : (r : ℕ) → r < st.counts.rules → (rule_at st.words r).kind ≤ rule.kind
    next_kind r s = omega (arith, right.kinds r s, row)

    before_stands : (r : ℕ) → r < st.counts.rules
        → Standing (head_of (with_rule st l x).counts) (rule_at (with_rule st l x).words) r
    before_stands r s = record {
      accepted = rw (rule_before r s) (right.tables.rules.accepted.each r s).accepted;
      order = λ g. rw (rule_before r s) (next (dec_lt (suc r) st.counts.rules));
    }
      where
        next : Dec (suc r < st.counts.rules) → (rule_at st.words r).kind ≤ (rule_at (with_rule st l x).words (suc r)).kind
        next (yes g) = rw (rule_before (suc r) g) ((right.tables.rules.accepted.each r s).order g)
        next (no g) =
            let last : suc r ≡ st.counts.rules = omega arith in
            rw (last, rule_here) (next_kind r s)

    here_stands : Standing (head_of (with_rule st l x).counts) (rule_at (with_rule st l x).words) st.counts.rules
    here_stands = record { accepted = rw rule_here (rule_accepted st l x h); order = λ g. absurd (omega arith) }

    kind_before : (r : ℕ) → r < st.counts.rules → 3 + (rule_at (with_rule st l x).words r).kind ≤ 3 + rule.kind
    kind_before r s = rw (rule_before r s) (omega (arith, next_kind r s))

    pub right_rule : Right (with_rule st l x)
    right_rule = record {
      names_room = right.names_room;
      words_room = ruled_length st.words st.counts.rules rule rule_room ∙ right.words_room;
      tables = record {
        items = right.tables.items;
        rules = record {
          room = omega (arith, right.words_room, h.few, ruled_length st.words st.counts.rules rule rule_room);
          accepted = record {
            items = right.tables.items.size;
            rules = omega (arith, h.few);
            each = below_more _ st.counts.rules before_stands here_stands;
          };
        };
      };
      spare = right.spare;
      kinds = λ r s. rw h.number (omega (arith, kinds r s));
    }
      where
        kinds : (r : ℕ) → r < st.counts.rules + 1 → 3 + (rule_at (with_rule st l x).words r).kind ≤ 3 + rule.kind
        kinds =
            below_more (λ r. 3 + (rule_at (with_rule st l x).words r).kind ≤ 3 + rule.kind) st.counts.rules kind_before (rw rule_here (omega arith))

-- An answer with its tables: a book's tables are right.
abbrev pub AnswerRight : List ℕ → List ℕ → ReadBook → Type 0
AnswerRight names words (Ok h) = Tables h names words
AnswerRight names words (Err r) = Unit

abbrev pub ResultRight : Result → Type 0
ResultRight r = AnswerRight r.names r.words r.answer

right_cases : (st : State) (l : List ℕ) → Right st → Cases st l (λ next k. Right next) ResultRight
right_cases st l right = record {
  refused = λ f p h. tt;
  form = right_form st l right;
  item = right_item st l right;
  rule = right_rule st l right;
  end = λ x h. right.tables;
}

pub read_right : (l : List ℕ) {h : Head} → (read_text l).answer ≡ Ok h → Tables h (read_text l).names (read_text l).words
read_right l e = subst (AnswerRight (read_text l).names (read_text l).words) e
    (read_says (λ st rest. Right st) ResultRight right_cases (length l) start l right_start)
