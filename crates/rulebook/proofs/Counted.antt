-- Tables that are equal up to their counts have the same text. It rests on the names and the rules that they share, and on the items that an accepted rule names.
-- Assumes nothing.
use mathlib.Core.Path.{◌≡◌, refl, sym, ap, ap₂, ◌∙◌}
use mathlib.Core.List.{List, ◌∷◌, [], ◌++◌}
use Prim.Native.Nat.{ℕ, zero, suc, ◌+◌, ◌≤◌, ◌<◌}
use native.Mathlib.Omega.{arith}
use Rattle.scans.specs.Ascii.{lf}
use Rattle.rules.specs.Record.{by_kind}
use Rattle.rules.specs.Table.{rule_at}
use Rattle.rules.specs.declared.Head.{Head}
use Rattle.rules.specs.declared.Rule.{Rule}
use Rattle.accepts.specs.Accepted.{RuleAccepted}
use Rattle.accepts.specs.Tables.{Tables, SameTables}
use Rattle.accepts.proofs.Counted.{rule_same, name_same}
use Rattle.keys.specs.Keys.{key_text}
use Rattle.keys.specs.declared.Key.{Key}
use Rattle.tokens.specs.Tokens.{class_text}
use Rattle.writer.specs.Texts.{form_line, item_line, left_piece, left_text, right_text, rule_key, rule_line, end_line, book_text}
use Rattle.writer.proofs.Pieces.{pieces_same}

-- What stands at the end of a rule's line, by its kind: only a follow has a name there.
kind_same : (k : ℕ) (c x y : List ℕ) → k ≤ 2 → (k ≡ 2 → x ≡ y) → by_kind k c c x ≡ by_kind k c c y
kind_same zero c x y h e = refl
kind_same (suc zero) c x y h e = refl
kind_same (suc (suc k)) c x y h e = e (omega arith)

module _ {h : Head} {t w t' w' : List ℕ} (s : SameTables h t w t' w') (a : Tables h t w) where
  -- The line of an accepted rule.
  module _ (x : Rule) (ok : RuleAccepted h.items x) where
    left_same : left_text t' x ≡ left_text t x
    left_same =
        pieces_same (left_piece t' x) (left_piece t x) 0 x.count
        (λ k l.
        let inside : k < x.count = omega arith in
        rw (name_same s a _ ((ok.left.places k (omega (arith, ok.left.few))).item inside)))

    right_same : right_text t' x ≡ right_text t x
    right_same = kind_same x.kind (class_text x.class) _ _ ok.kind (λ e. name_same s a x.right (ok.right e))

    line_same : rule_line t' x ≡ rule_line t x
    line_same = ap₂ (λ (y z : List ℕ). key_text (rule_key x) ++ y ++ z ++ lf ∷ []) left_same right_same

  pub text_counted : book_text h t' w' ≡ book_text h t w
  unfolding book_text
  text_counted =
      ap₂ (λ (y z : List ℕ). form_line ++ y ++ z ++ end_line (1 + h.items + h.rules))
      (pieces_same (item_line t') (item_line t) 0 h.items
      (λ i l. let inside : i < h.items = omega arith in ap (λ (y : List ℕ). key_text Key.Item ++ y ++ lf ∷ []) (name_same s a i inside)))
      (pieces_same (λ r. rule_line t' (rule_at w' r)) (λ r. rule_line t (rule_at w r)) 0 h.rules
      (λ r l.
      let inside : r < h.rules = omega arith in
      ap (rule_line t') (sym (rule_same h w w' s.rules r inside)) ∙ line_same (rule_at w r) (a.rules.accepted.each r inside).accepted))
