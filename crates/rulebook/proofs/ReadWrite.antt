-- A rulebook that is read and then written is the same bytes. It rests on what each line adds: after every line, what was read is what would be
-- written of the tables so far.
-- Assumes nothing.
use mathlib.Core.Path.{◌≡◌, refl, sym, ap, ap₂, ◌∙◌, subst}
use mathlib.Core.Bool.{true}
use mathlib.Core.List.{List, [], ◌∷◌, ◌++◌, append_assoc, append-nil}
use Prim.Native.Nat.{ℕ, ◌+◌, ◌*◌, ◌≤◌}
use native.Mathlib.Omega.{arith}
use lib.ListN.{length, take, drop, take-append-drop}
use lib.Seq.{take_all}
use Rattle.std.specs.Prelude.{Ok, Err}
use Rattle.scans.specs.Ascii.{lf}
use Rattle.items.specs.Names.{name_room, is_name}
use Rattle.rules.specs.Table.{rule_at}
use Rattle.rules.specs.declared.Head.{Head}
use Rattle.keys.specs.Keys.{key_text}
use Rattle.keys.specs.declared.Key.{Key}
use Rattle.lines.specs.Lines.{line_len}
use Rattle.lines.specs.declared.Line.{Line}
use Rattle.reader.specs.Lines.{State, start, Result, item_name, with_item, rule_of, with_rule, head_of, ReadBook}
use Rattle.reader.specs.Reading.{read_text}
use Rattle.writer.specs.Texts.{pieces, form_line, end_line, item_line, item_lines, rule_line, rule_lines, book_text}
use Rattle.reader.proofs.LineCases.{FormRead, ItemRead, RuleRead, EndRead, Cases, form_next, read_says}
use Rattle.reader.proofs.Entries.{added_has, added_same}
use Rattle.items.proofs.Entries.{has_name_of, same_names}
use Rattle.writer.proofs.Pieces.{pieces_zero, pieces_grown}
use Rattle.rulebook.proofs.LineTexts.{form_text, item_text, rule_text, end_text}
use Rattle.reader.proofs.ReadRight.{Right, no_rules, right_start, right_form, item_name_lem, item_room, right_item, rule_here, rule_before, right_rule}

-- What would be written of the items and of the rules so far, and of the tables so far but for the end line.
abbrev item_texts : State → List ℕ
item_texts st = item_lines st.names st.counts.items

abbrev rule_texts : State → List ℕ
rule_texts st = rule_lines st.names st.words st.counts.rules

abbrev pub text_so_far : State → List ℕ
text_so_far st = form_line ++ item_texts st ++ rule_texts st

module _ (st : State) (l : List ℕ) (right : Right st) (x : Line) where
  -- An item line adds the item's line.
  module _ (h : ItemRead st l x) where
    item_grown : item_texts (with_item st l x) ≡ item_texts st ++ (key_text Key.Item ++ item_name l x ++ (lf ∷ []))
    item_grown =
        pieces_grown (item_line st.names) (item_line (with_item st l x).names) st.counts.items _
        (λ j s. ap line (same_names (added_same t n name e room right.spare) right.tables.items j s))
        (ap line (has_name_of (with_item st l x).names n name e (added_has t n name e room right.spare)))
      where
        t : List ℕ
        t = st.names

        n : ℕ
        n = st.counts.items

        name : List ℕ
        name = item_name l x

        e : is_name name ≡ true
        e = item_name_lem st l right x h

        room : n * name_room + name_room ≤ length t
        room = item_room st l right x h

        line : List ℕ → List ℕ
        line y = key_text Key.Item ++ y ++ (lf ∷ [])

    ruleless : (f : ℕ → List ℕ) (y : List ℕ) → y ++ pieces f 0 st.counts.rules ≡ y
    ruleless f y = ap (λ (z : List ℕ). y ++ z) (pieces_zero f 0 st.counts.rules (no_rules right h.row.rise)) ∙ append-nil y

    pub item_adds : text_so_far (with_item st l x) ≡ text_so_far st ++ take (line_len x) l
    item_adds =
        ruleless _ (form_line ++ item_texts (with_item st l x))
        ∙ ap (λ (y : List ℕ). form_line ++ y) (item_grown ∙ ap (λ (y : List ℕ). item_texts st ++ y) (sym (item_text st l x h)))
        ∙ sym (append_assoc form_line (item_texts st) (take (line_len x) l))
        ∙ ap (λ (y : List ℕ). y ++ take (line_len x) l) (sym (ruleless _ (form_line ++ item_texts st)))

  -- A rule's line adds the rule's line.
  module _ (h : RuleRead st l x) where
    rule_grown : rule_texts (with_rule st l x) ≡ rule_texts st ++ rule_line st.names (rule_of st l x)
    rule_grown =
        pieces_grown (λ r. rule_line st.names (rule_at st.words r)) (λ r. rule_line st.names (rule_at (with_rule st l x).words r)) st.counts.rules _
        (λ j s. ap (rule_line st.names) (rule_before st l right x h j s))
        (ap (rule_line st.names) (rule_here st l right x h))

    pub rule_adds : text_so_far (with_rule st l x) ≡ text_so_far st ++ take (line_len x) l
    rule_adds =
        ap (λ (y : List ℕ). form_line ++ item_texts st ++ y) (rule_grown ∙ ap (λ (y : List ℕ). rule_texts st ++ y) (sym (rule_text st l x h)))
        ∙ sym (append_assoc (form_line ++ item_texts st) (rule_texts st) (take (line_len x) l))

-- What holds of every state that is reached by reading the bytes y: before the form line nothing is read, and after it what was read is what
-- would be written.
pub record Reached (y : List ℕ) (st : State) : Type 0 where
  pub right : Right st
  pub nothing : st.counts.after ≡ 0 → y ≡ []
  pub none : st.counts.after ≡ 0 → st.counts.lines + st.counts.items + st.counts.rules ≡ 0
  pub text : 1 ≤ st.counts.after → y ≡ text_so_far st
  pub lines : 1 ≤ st.counts.after → st.counts.lines ≡ 1 + st.counts.items + st.counts.rules

pub reached_start : Reached [] start
reached_start = record {
  right = right_start;
  nothing = λ e. refl;
  none = λ e. refl;
  text = λ h. absurd (omega arith);
  lines = λ h. absurd (omega arith);
}

module _ (st : State) (l : List ℕ) (y : List ℕ) (reached : Reached y st) (x : Line) where
  reached_form : FormRead st l x → Reached (y ++ take (line_len x) l) (form_next st)
  reached_form h = record {
    right = right_form st l reached.right x h;
    nothing = λ e. absurd (omega arith);
    none = λ e. absurd (omega arith);
    text = λ s. ap₂ ◌++◌ (reached.nothing h.first) (form_text st l x h) ∙ sym alone;
    lines = λ s. omega (arith, reached.none h.first);
  }
    where
      alone : text_so_far (form_next st) ≡ form_line
      alone =
          ap (λ (z : List ℕ). form_line ++ item_texts st ++ z) (pieces_zero _ 0 st.counts.rules (omega (arith, reached.none h.first)))
          ∙ append-nil (form_line ++ item_texts st)
          ∙ ap (λ (z : List ℕ). form_line ++ z) (pieces_zero _ 0 st.counts.items (omega (arith, reached.none h.first)))
          ∙ append-nil form_line

  -- A later line adds its bytes.
  reached_more : (next : State) → 1 ≤ st.counts.after → 1 ≤ next.counts.after → Right next → text_so_far next ≡ text_so_far st ++ take (line_len x) l
      → next.counts.lines + (st.counts.items + st.counts.rules) ≡ st.counts.lines + (next.counts.items + next.counts.rules)
      → Reached (y ++ take (line_len x) l) next
  reached_more next before after right adds counts = record {
    right = right;
    nothing = λ e. absurd (omega arith);
    none = λ e. absurd (omega arith);
    text = λ s. ap (λ (z : List ℕ). z ++ take (line_len x) l) (reached.text before) ∙ sym adds;
    lines = λ s. omega (arith, reached.lines before, counts);
  }

  reached_item : ItemRead st l x → Reached (y ++ take (line_len x) l) (with_item st l x)
  reached_item h =
      reached_more (with_item st l x) h.row.some (omega arith) (right_item st l reached.right x h) (item_adds st l reached.right x h)
      (omega arith)

  reached_rule : RuleRead st l x → Reached (y ++ take (line_len x) l) (with_rule st l x)
  reached_rule h =
      reached_more (with_rule st l x) h.row.some (omega arith) (right_rule st l reached.right x h) (rule_adds st l reached.right x h)
      (omega arith)

  reached_end : EndRead st l x → book_text (head_of st.counts) st.names st.words ≡ y ++ l
  unfolding book_text
  reached_end h =
      ap₂ ◌++◌ (sym (reached.text h.row.some))
      (ap end_line (sym (reached.lines h.row.some)) ∙ sym (end_text st l x h) ∙ take_all (line_len x) l (omega (arith, h.all)))

-- An answer with its tables: what would be written of a book is the text.
abbrev pub AnswerText : List ℕ → List ℕ → List ℕ → ReadBook → Type 0
AnswerText z names words (Ok h) = book_text h names words ≡ z
AnswerText z names words (Err r) = Unit

abbrev pub ResultText : List ℕ → Result → Type 0
ResultText z r = AnswerText z r.names r.words r.answer

-- The text z is what was read and what is still to be read.
record SoFar (z : List ℕ) (st : State) (l : List ℕ) : Type 0 where
  read : List ℕ
  reached : Reached read st
  whole : read ++ l ≡ z

text_cases : (z : List ℕ) (st : State) (l : List ℕ) → SoFar z st l → Cases st l (λ next k. SoFar z next (drop k l)) (ResultText z)
text_cases z st l p = record {
  refused = λ f p h. tt;
  form = λ x h. next (line_len x) (reached_form st l p.read p.reached x h);
  item = λ x h. next (line_len x) (reached_item st l p.read p.reached x h);
  rule = λ x h. next (line_len x) (reached_rule st l p.read p.reached x h);
  end = λ x h. reached_end st l p.read p.reached x h ∙ p.whole;
}
  where
    next : {after : State} (k : ℕ) → Reached (p.read ++ take k l) after → SoFar z after (drop k l)
    next k r = record {
      read = p.read ++ take k l;
      reached = r;
      whole = append_assoc p.read (take k l) (drop k l) ∙ ap (λ (y : List ℕ). p.read ++ y) (take-append-drop k l) ∙ p.whole;
    }

pub read_write : (l : List ℕ) {h : Head} → (read_text l).answer ≡ Ok h → book_text h (read_text l).names (read_text l).words ≡ l
read_write l e =
    subst (AnswerText l (read_text l).names (read_text l).words) e
    (read_says (SoFar l) (ResultText l) (text_cases l) (length l) start l (record { read = []; reached = reached_start; whole = refl }))
