-- Checking and labellings: of accepted rules and enough labels, no rule is answered, `Ok None`, exactly if the labels are a labelling.
-- Assumes nothing.
use mathlib.Core.Path.{◌≡◌}
use mathlib.Core.List.{List, []}
use Prim.Native.Nat.{ℕ, ◌^◌, ◌<◌}
use lib.ListN.{get_or}
use Rattle.std.specs.Prelude.{Option, None, Result, Ok}
use Rattle.refusals.specs.declared.Refusal.{Refusal}
use Rattle.meaning.specs.Labelling.{Labelling}
use Rattle.meaning.specs.Classes.{classes}
use Rattle.refusals.specs.Said.{success}
use Rattle.labels.specs.Labels.{labels_in, Room}
use Rattle.rules.specs.declared.Head.{Head}
use Rattle.rules.specs.declared.Rule.{Rule}
use Rattle.rules.specs.Record.{book_by}
use Rattle.rules.specs.Table.{rule_at, book_of}
use Rattle.accepts.specs.Accepted.{TableAccepted}
use Rattle.checker.specs.Answer.{said_checked}
use Rattle.checker.specs.Checking.{AllMet, CheckSays, all_met}
use Rattle.checker.proofs.Unique.{check_unique}

module _ {Accepted : Type 0} {h : Head} {at : ℕ → Rule} {levels marks : List ℕ} where
  pub says_all_met : CheckSays Accepted h at levels marks (success 0 []) → AllMet Accepted h at levels marks
  says_all_met (all_met x) = x

  -- Labels that are answered with no rule are a labelling, where their marks are words.
  pub met_labelling : ((i : ℕ) → i < h.items → get_or marks i 0 < 2 ^ 64) → CheckSays Accepted h at levels marks (said_checked (Ok None))
      → Labelling classes (book_by h at) (labels_in levels marks)
  met_labelling words x =
      let all = says_all_met x in
      record {
        labels = λ i s. record { level = (all.labels.each i s).most; marks = words i s };
        meets = λ r s. (all.rules.each r s).meets;
      }

  -- A labelling is answered with no rule, and with nothing else.
  pub labelling_met : Accepted → Room h.items levels marks → Labelling classes (book_by h at) (labels_in levels marks) → {a : Result (Option ℕ) Refusal}
      → CheckSays Accepted h at levels marks (said_checked a) → a ≡ Ok None
  labelling_met accepted room x says =
      check_unique says
      (all_met
      (record {
        accepted = accepted;
        room = room;
        labels = record { each = λ i s. record { most = (x.labels i s).level } };
        rules = record { each = λ r s. record { meets = x.meets r s } };
      }))

-- The same of a flat table.
module _ {h : Head} {t levels marks : List ℕ} where
  pub table_met_labelling : ((i : ℕ) → i < h.items → get_or marks i 0 < 2 ^ 64) → CheckSays (TableAccepted h t) h (rule_at t) levels marks (said_checked (Ok None))
      → Labelling classes (book_of h t) (labels_in levels marks)
  table_met_labelling = met_labelling

  pub table_labelling_met : TableAccepted h t → Room h.items levels marks → Labelling classes (book_of h t) (labels_in levels marks) → {a : Result (Option ℕ) Refusal}
      → CheckSays (TableAccepted h t) h (rule_at t) levels marks (said_checked a) → a ≡ Ok None
  table_labelling_met = labelling_met
