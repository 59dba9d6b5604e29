-- A rulebook that was written reads back: tables that the writer accepts, written and read, come back equal up to their counts. It rests on one
-- line after another, items first, then rules, then the end.
-- Assumes nothing.
use mathlib.Core.Path.{◌≡◌, refl, sym, ap, ◌∙◌, subst}
use mathlib.Core.List.{List, [], ◌++◌, append_assoc, append-nil}
use Prim.Native.Nat.{ℕ, zero, suc, ◌+◌, ◌*◌, ◌^◌, ◌≤◌, ◌<◌}
use native.Mathlib.Nat.{le_refl, zero-add}
use native.Mathlib.Omega.{arith}
use lib.ListN.{length, length-replicate}
use Rattle.std.specs.Prelude.{Ok}
use Rattle.items.specs.Table.{name_of}
use Rattle.items.proofs.Lookup.{name_is_name}
use Rattle.rules.specs.Table.{rule_words, word_at, rule_at}
use Rattle.rules.specs.declared.Head.{Head}
use Rattle.refusals.specs.Sizes.{most_rules}
use Rattle.reader.specs.Lines.{State, start, Result, result_of}
use Rattle.reader.specs.Reading.{read_text}
use Rattle.writer.specs.Texts.{pieces, form_line, item_line, item_lines, rule_line, rule_lines, end_line, book_text}
use Rattle.accepts.specs.Tables.{Tables, SameTables}
use Rattle.rulebook.specs.RoundTrip.{Words}
use Rattle.laws.proofs.Buffers.{same_take}
use Rattle.reader.proofs.KeyRows.{form_next_lem, NextRow, row_next}
use Rattle.rulebook.proofs.KindKeys.{KindKey, kind_key, kind_step, kind_next}
use Rattle.reader.proofs.LineCases.{form_next}
use Rattle.rulebook.proofs.LineByLine.{Reads, reads_line, reads_end}
use Rattle.rulebook.proofs.LinesRead.{form_line_lem, item_line_lem, end_line_lem}
use Rattle.rulebook.proofs.Filling.{holds_none}
use Rattle.rulebook.proofs.Steps.{Filled, item_step_lem, item_fills, rule_line_lem, rule_step_lem, rule_fills, record_words, end_step_lem}

-- The result of reading is the book under the head h, and its tables are t and w up to their counts.
pub record Back (h : Head) (t w : List ℕ) (r : Result) : Type 0 where
  pub answer : r.answer ≡ Ok h
  pub tables : SameTables h r.names r.words t w

-- The next of m rules may come, if there is one, and the end.
record MayCome (w : List ℕ) (m r after : ℕ) : Type 0 where
  some : 1 ≤ after
  most : after ≤ 5
  rule : r < m → after ≤ 3 + (rule_at w r).kind

marks_small : {w : List ℕ} → Words w → (r : ℕ) → (rule_at w r).class.marks < 2 ^ 64
unfolding rule_at word_at
marks_small u r = u.small _

module _ {h : Head} {t w : List ℕ} (a : Tables h t w) (u : Words w) where
  abbrev n : ℕ
  n = h.items

  abbrev m : ℕ
  m = h.rules

  back : {st : State} → Filled t w n m st → Back h t w (result_of st (Ok h))
  back f = record {
    answer = refl;
    tables = record {
      items = same_take f.names.same (omega (arith, f.names.size, a.items.size)) a.items.room;
      rules = same_take f.words (omega (arith, f.room, a.rules.accepted.rules)) a.rules.room;
    };
  }

  end_reads : {st : State} → Filled t w n m st → 1 ≤ st.counts.after → st.counts.after ≤ 5
      → Reads (Back h t w) st (end_line (1 + n + m))
  end_reads {st} f some most =
      let x = end_line_lem (1 + n + m) (omega (arith, a.items.size, a.rules.accepted.rules)) in
      subst (Reads (Back h t w) st) (append-nil (end_line (1 + n + m)))
      (reads_end x [] (row_next (record { some = some; rise = omega arith }) (omega arith) (omega arith))
      (end_step_lem f (end_line (1 + n + m) ++ []) (ap length (append-nil (end_line (1 + n + m))) ∙ sym x.size))
      (back f))

  abbrev rules_from : ℕ → ℕ → List ℕ
  rules_from r c = pieces (λ k. rule_line t (rule_at w k)) r c

  rules_read : (c r : ℕ) → r + c ≡ m → {st : State} → Filled t w n r st → MayCome w m r st.counts.after
      → Reads (Back h t w) st (rules_from r c ++ end_line (1 + n + m))
  unfolding pieces
  rules_read zero r e {st} f g = end_reads (subst (λ (k : ℕ). Filled t w n k st) (omega arith) f) g.some g.most
  rules_read (suc c) r e {st} f g =
      let stands = a.rules.accepted.each r (omega arith) in
      let rest = rules_from (suc r) c ++ end_line (1 + n + m) in
      let kind : KindKey (rule_at w r).kind = kind_key (rule_at w r).kind stands.accepted.kind in
      let few : r < most_rules = omega (arith, a.rules.accepted.rules) in
      rw (append_assoc (rule_line t (rule_at w r)) (rules_from (suc r) c) (end_line (1 + n + m)))
      (reads_line (rule_line_lem a.items (rule_at w r) stands.accepted (marks_small u r)) rest
      (kind_next (rule_at w r).kind stands.accepted.kind g.some (g.rule (omega arith)))
      (kind_step (rule_at w r).kind st _ _ ∙ rule_step_lem a.items (rule_at w r) stands.accepted rest f few)
      (rules_read c (suc r) (omega arith) (rule_fills a.items (rule_at w r) stands.accepted rest f few (record_words w r))
      (record {
        some = omega arith;
        most = omega (arith, kind.number, stands.accepted.kind);
        rule = λ h. omega (arith, kind.number, stands.order h);
      })))

  items_read : (c i : ℕ) → i + c ≡ n → {st : State} → Filled t w i 0 st → NextRow st.counts.after 1
      → Reads (Back h t w) st (pieces (item_line t) i c ++ (rules_from 0 m ++ end_line (1 + n + m)))
  unfolding pieces
  items_read zero i e {st} f g =
      rules_read m 0 (zero-add m) (subst (λ (k : ℕ). Filled t w k 0 st) (omega arith) f)
      (record { some = g.some; most = omega (arith, g.rise); rule = λ h. omega (arith, g.rise) })
  items_read (suc c) i e {st} f g =
      let rest = pieces (item_line t) (suc i) c ++ (rules_from 0 m ++ end_line (1 + n + m)) in
      let inside : i < n = omega arith in
      subst (Reads (Back h t w) st) (sym (append_assoc (item_line t i) (pieces (item_line t) (suc i) c) (rules_from 0 m ++ end_line (1 + n + m))))
      (reads_line (item_line_lem (name_of t i) (name_is_name a.items i inside)) rest
      (row_next g (omega (arith, g.rise)) (omega arith)) (item_step_lem a.items inside f rest)
      (items_read c (suc i) (omega arith) (item_fills a.items inside f rest)
      (record { some = omega arith; rise = omega arith })))

-- The tables that the writer accepts, written and read, come back equal up to their counts.
pub write_read : {h : Head} {t w : List ℕ} → Tables h t w → Words w → Back h t w (read_text (book_text h t w))
unfolding book_text
write_read {h} {t} {w} a u = whole.reads (length (book_text h t w)) (le_refl _)
  where
    end : List ℕ
    end = end_line (1 + h.items + h.rules)

    filled : Filled t w 0 0 (form_next start)
    filled = record {
      lines = refl;
      items = refl;
      rules = refl;
      names = holds_none t;
      room = length-replicate {A = ℕ} (most_rules * rule_words) 0;
      words = record { same = λ k l. absurd (omega arith) };
    }

    whole : Reads (Back h t w) start (book_text h t w)
    whole =
        subst (Reads (Back h t w) start)
        (sym
        (append_assoc (form_line ++ item_lines t h.items) (rule_lines t w h.rules) end
        ∙ append_assoc form_line (item_lines t h.items) (rule_lines t w h.rules ++ end)))
        (reads_line form_line_lem (item_lines t h.items ++ (rule_lines t w h.rules ++ end)) form_next_lem refl
        (items_read a u h.items 0 (zero-add h.items) filled (record { some = omega arith; rise = omega arith })))
