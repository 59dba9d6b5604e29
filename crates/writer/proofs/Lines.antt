-- What the functions that write a piece and a line need and answer, in the shape in which each asks for it: names of an item table, each line piece by piece,
-- and the whole texts. They rest on the laws of growing text and of the tables.
-- Assumes nothing.
use mathlib.Core.Path.{◌≡◌, refl, subst}
use mathlib.Core.Bool.{cond}
use mathlib.Core.List.{List, [], ◌∷◌}
use Prim.Native.Nat.{ℕ, zero, suc, ◌+◌, ◌-◌, ◌*◌, ◌≤◌, ◌<◌}
use native.Mathlib.Omega.{arith}
use lib.Dec.{ltb}
use lib.ListN.{length, take, drop}
use borrow.Author.Tests.{lt-ltb, le-ltb}
use Rattle.std.specs.Prelude.{Option}
use Rattle.scans.specs.Ascii.{plus, colon}
use Rattle.refusals.specs.Sizes.{most_left}
use Rattle.items.specs.Names.{name_room}
use Rattle.items.specs.Table.{name_len, name_of, NameAt, ItemsOk}
use Rattle.items.proofs.Table.{name_len_inside, named_len}
use Rattle.rules.specs.Record.{by_kind, left_item}
use Rattle.rules.specs.Table.{rule_at}
use Rattle.rules.specs.declared.Head.{Head}
use Rattle.rules.specs.declared.Rule.{Rule}
use Rattle.accepts.specs.Tables.{Tables}
use Rattle.tokens.specs.Tokens.{class_text}
use Rattle.puts.specs.Writing.{Put}
use Rattle.writer.specs.Texts.{right_text}
use Rattle.writer.specs.InnerTexts.{Named, NamedAt}

-- The part of an item table that holds a name.
module _ {t : List ℕ} {i len : ℕ} (name : NameAt t i) (e : len ≡ name_len t i) where
  pub name_inside : i * name_room + len ≤ length t
  name_inside = omega (arith, name_len_inside t i, named_len name, name.least)

  pub name_put : {d : List ℕ} {at : ℕ} {d' : List ℕ} {r : Option ℕ} → Put d at (take (i * name_room + len - i * name_room) (drop (i * name_room) t)) d' r
      → Put d at (name_of t i) d' r
  name_put {d} {at} {d'} {r} p =
      let n : i * name_room + len - i * name_room ≡ name_len t i = omega arith in
      subst (λ (k : ℕ). Put d at (take k (drop (i * name_room) t)) d' r) n p

-- The items that a rule names have names.
pub item_named : {t : List ℕ} {n i : ℕ} → ItemsOk t n → i < n → NameAt t i
item_named {i = i} items h = items.names i h

module _ {t : List ℕ} {x : Rule} where
  pub left_place : {k : ℕ} → NamedAt t x k → k < most_left
  left_place named = omega (arith, named.rule.accepted.left.few, named.below)

  pub left_named : {k : ℕ} → NamedAt t x k → NameAt t (left_item x k)
  left_named {k} named =
      let rule = named.rule in
      rule.names.names (left_item x k) ((rule.accepted.left.places k (left_place named)).item named.below)

  pub named_at : {k : ℕ} → Named t x → k < x.count → NamedAt t x k
  named_at named h = record { rule = named; below = h }

  pub right_named : Named t x → x.kind ≡ 2 → NameAt t x.right
  right_named named h = named.names.names x.right (named.accepted.right h)

pub table_named : {h : Head} {t w : List ℕ} {r : ℕ} {x : Rule} → Tables h t w → r < h.rules → x ≡ rule_at w r → Named t x
table_named {h} {r = r} tables l e =
    rw e (record { count = h.items; names = tables.items; accepted = (tables.rules.accepted.each r l).accepted })

-- The right side by the kind of rule.
same_two : {A : Type 0} (k : ℕ) (a b : A) → k ≤ 2 → (k ≡ 2 → ⊥) → a ≡ by_kind k a a b
same_two zero a b h g = refl
same_two (suc zero) a b h g = refl
same_two (suc (suc zero)) a b h g = absurd (g refl)
same_two (suc (suc (suc k))) a b h g = absurd (omega arith)

module _ (t : List ℕ) (x : Rule) {d : List ℕ} {at : ℕ} {d' : List ℕ} {r : Option ℕ} where
  pub right_name : x.kind ≡ 2 → Put d at (name_of t x.right) d' r → Put d at (right_text t x) d' r
  right_name h p = rw h p

  pub right_class : Named t x → (x.kind ≡ 2 → ⊥) → Put d at (class_text x.class) d' r → Put d at (right_text t x) d' r
  right_class named h p =
      subst (λ (l : List ℕ). Put d at l d' r) (same_two x.kind (class_text x.class) (name_of t x.right) named.accepted.kind h) p

-- The sign behind a left name.
module _ (k n : ℕ) {s : ℕ} {d : List ℕ} {at : ℕ} {d' : List ℕ} {r : Option ℕ} where
  pub sign_plus : k + 1 < n → s ≡ plus → Put d at (s ∷ []) d' r → Put d at (cond (ltb (k + 1) n) plus colon ∷ []) d' r
  sign_plus h e p = rw (lt-ltb (k + 1) n h) (rw e at p)

  pub sign_colon : n ≤ k + 1 → s ≡ colon → Put d at (s ∷ []) d' r → Put d at (cond (ltb (k + 1) n) plus colon ∷ []) d' r
  sign_colon h e p = rw (le-ltb (k + 1) n h) (rw e at p)
