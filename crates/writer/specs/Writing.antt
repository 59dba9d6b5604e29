-- What writing a rulebook and writing a labelling answer, and what is then in the lent buffer.
-- Assumes nothing.
use Rattle.std.specs.Prelude.{List, [], ◌∷◌, ℕ, ◌≤◌, ◌<◌, length, Result, Ok, Err}
use Rattle.refusals.specs.declared.Refusal.{Refusal}
use Rattle.laws.specs.First.{AllBelow, FirstFailing}
use Rattle.laws.specs.Over.{over}
use Rattle.refusals.specs.Said.{Said, success, refused_by, said_refusal}
use Rattle.refusals.specs.Sizes.{most_text}
use Rattle.refusals.specs.declared.Fault.{Fault}
use Rattle.items.specs.Table.{ItemsOk}
use Rattle.labels.specs.Labels.{LevelInRange, Room}
use Rattle.rules.specs.declared.Head.{Head}
use Rattle.accepts.specs.Tables.{Tables}
use Rattle.writer.specs.Texts.{book_text, labels_text}

-- What an answer says: the length of the text, or a refusal.
abbrev pub said_written : Result ℕ Refusal → Said
said_written (Ok len) = success 0 (len ∷ [])
said_written (Err r) = said_refusal r

-- "Writing: 10, 1, 11". The buffer held `out`, and holds what the second index says.
module _ (h : Head) (t w out : List ℕ) where
  abbrev text : List ℕ
  text = book_text h t w

  pub data WriteSays : Said → List ℕ → Type 0 where
    bad_table : (Tables h t w → ⊥) → WriteSays (refused_by Fault.BadTable 0) out
    too_long : Tables h t w → most_text < length text → WriteSays (refused_by Fault.TooLong 0) out
    no_room : Tables h t w → length text ≤ most_text → length out < length text → WriteSays (refused_by Fault.NoRoom 0) out
    written : Tables h t w → length text ≤ most_text → length text ≤ length out → WriteSays (success 0 (length text ∷ [])) (over out 0 text)

-- Items, and a label for each of them whose level is in range.
pub record Labels (t : List ℕ) (n : ℕ) (levels marks : List ℕ) : Type 0 where
  pub items : ItemsOk t n
  pub room : Room n levels marks
  pub range : AllBelow (LevelInRange levels) n

-- "Writing a labelling: 10 for the item names, 11 for the labels, 12, then 11 for the text." Item i of `bad_label` is "the first item whose
-- given label has a level over 15". No such text has over 32,768 bytes.
module _ (t : List ℕ) (n : ℕ) (levels marks out : List ℕ) where
  abbrev lines : List ℕ
  lines = labels_text t n levels marks

  pub data LabelsSays : Said → List ℕ → Type 0 where
    bad_items : (ItemsOk t n → ⊥) → LabelsSays (refused_by Fault.BadTable 0) out
    few_labels : ItemsOk t n → (Room n levels marks → ⊥) → LabelsSays (refused_by Fault.NoRoom 0) out
    bad_label : ItemsOk t n → Room n levels marks → {i : ℕ} → FirstFailing (LevelInRange levels) n i → LabelsSays (refused_by Fault.BadLabel i) out
    short_buffer : Labels t n levels marks → length out < length lines → LabelsSays (refused_by Fault.NoRoom 0) out
    labelled : Labels t n levels marks → length lines ≤ length out → LabelsSays (success 0 (length lines ∷ [])) (over out 0 lines)
