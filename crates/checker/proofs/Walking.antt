-- The walk over a list of rules: one law for each answer of its functions, and what is known of the rules carried from one to the next.
-- Assumes nothing.
use mathlib.Core.Path.{◌≡◌, refl, sym, subst}
use mathlib.Core.Bool.{Bool, true, false, not}
use mathlib.Core.List.{List}
use Prim.Native.Nat.{ℕ, zero, suc, ◌≤◌, ◌<◌}
use native.Mathlib.Decide.{dec_lt}
use native.Mathlib.Numerals.{add-one}
use native.Mathlib.Omega.{arith}
use borrow.Author.Tests.{not-true, not-false}
use lib.Dec.{leb}
use lib.ListN.{length}
use Rattle.std.specs.Prelude.{Option, Some, None}
use Rattle.laws.specs.Tells.{Tells}
use Rattle.laws.proofs.Bools.{true_not_false}
use Rattle.laws.proofs.Tells.{tells_unique, tells_no, tells_yes, tells_leb, told_no, told_yes}
use Rattle.laws.proofs.First.{all_none, all_more}
use Rattle.meaning.specs.Rules.{Met}
use Rattle.meaning.specs.Classes.{classes}
use Rattle.refusals.specs.declared.Fault.{Fault}
use Rattle.refusals.specs.declared.Refusal.{Refusal}
use Rattle.refusals.specs.Said.{Said, refusal_at, said_refusal}
use Rattle.refusals.specs.Sizes.{most_items, most_rules}
use Rattle.labels.specs.Labels.{labels_in}
use Rattle.rules.specs.declared.Head.{Head}
use Rattle.rules.specs.declared.Rule.{Rule}
use Rattle.rules.specs.Record.{meaning_of}
use Rattle.accepts.specs.Accepted.{RuleAccepted, Standing}
use Rattle.checker.specs.declared.list.Seen.{Seen}
use Rattle.checker.specs.Checking.{bad_table}
use Rattle.checker.specs.List.{list_at, ListAccepted}
use Rattle.checker.specs.InnerJudging.{Judges}
use Rattle.checker.specs.InnerWalking.{Sizes, Count, up_to, InOrder, kind_before, SeenSoFar, Starts, Stands, UnmetOn, GoesOn, Concludes}
use Rattle.checker.proofs.Meets.{rule_met, rule_unmet}
use Rattle.checker.proofs.Says.{judges_accepted}

-- The sizes, and how many rules are looked at.
module _ (len : ℕ) (h : Head) where
  pub sizes_items : most_items < h.items → Tells (Sizes len h) false
  sizes_items s = tells_no (λ p. omega (arith, p.items))

  pub sizes_rules : most_rules < h.rules → Tells (Sizes len h) false
  sizes_rules s = tells_no (λ p. omega (arith, p.rules))

  pub sizes_room : h.items ≤ most_items → h.rules ≤ most_rules → Tells (Sizes len h) (leb h.rules len)
  sizes_room a b = tells_leb _ _ (λ l. record { items = a; rules = b; room = l }) (λ p. p.room)

module _ {len : ℕ} {h : Head} {b : Bool} (sizes : Tells (Sizes len h) b) where
  pub count_all : b ≡ true → Count len h h.rules
  count_all e = record { all = λ s. refl; room = (sizes.holds e).room; few = (sizes.holds e).rules }

  pub count_none : b ≡ false → Count len h 0
  count_none e = record { all = λ s. absurd (sizes.fails e s); room = omega arith; few = omega arith }

-- Rules in order, one more and one less.
module _ (h : Head) {at : ℕ → Rule} where
  order_more : {i : ℕ} → InOrder h at i → kind_before at i ≤ (at i).kind → RuleAccepted h.items (at i) → InOrder h at (suc i)
  order_more {i} p order a = record { each = λ r s. pick r s (dec_lt r i) }
    where
      rises : (r : ℕ) → suc r ≡ i → (at r).kind ≤ (at (suc r)).kind
      rises r e = subst (λ k. kind_before at k ≤ (at k).kind) (sym e) order

      next : (r : ℕ) → r < i → Dec (suc r < i) → (at r).kind ≤ (at (suc r)).kind
      next r s (yes l) = (p.each r s).order l
      next r s (no l) = rises r (omega arith)

      pick : (r : ℕ) → r < suc i → Dec (r < i) → Standing (up_to h (suc i)) at r
      pick r s (yes l) = record { accepted = (p.each r l).accepted; order = λ t. next r l (dec_lt (suc r) i) }
      pick r s (no l) = record { accepted = subst (λ k. RuleAccepted h.items (at k)) (omega arith) a; order = λ t. absurd (omega arith) }

  order_less : {i : ℕ} → InOrder h at (suc i) → InOrder h at i
  order_less p = record {
    each = λ r s. record { accepted = (p.each r (omega arith)).accepted; order = λ t. (p.each r (omega arith)).order (omega arith) };
  }

  order_rises : (i : ℕ) → InOrder h at (suc i) → kind_before at i ≤ (at i).kind
  order_rises zero p = omega arith
  order_rises (suc i) p = (p.each i (omega arith)).order (omega arith)

  order_last : {i : ℕ} → InOrder h at (suc i) → RuleAccepted h.items (at i)
  order_last {i} p = (p.each i (omega arith)).accepted

-- What is known before the first rule.
pub starts_so : Starts (record { good = true; kind = 0; unmet = None })
starts_so = record { start = λ h at levels marks. record { good = tells_yes all_none; kind = refl; unmet = all_none } }

-- Whether a rule may come behind those before it.
module _ (before : Seen) (rule : Rule) (n : ℕ) where
  pub stands_after_bad : not before.good ≡ true → Tells (Stands before rule n) false
  stands_after_bad e = tells_no (λ p. true_not_false p.good (not-true before.good e))

  pub stands_out_of_order : rule.kind < before.kind → Tells (Stands before rule n) false
  stands_out_of_order s = tells_no (λ p. omega (arith, p.order))

  pub stands_by_itself : not before.good ≡ false → before.kind ≤ rule.kind → {b : Bool} → Tells (RuleAccepted n rule) b → Tells (Stands before rule n) b
  stands_by_itself e o t = record {
    holds = λ f. record { good = not-false before.good e; order = o; accepted = t.holds f };
    fails = λ f p. t.fails f p.accepted;
  }

-- The first rule that is not met: an earlier one, this one, or none.
module _ {rule : Rule} {i : ℕ} {levels marks : List ℕ} where
  pub unmet_earlier : {r : ℕ} → UnmetOn (Some r) rule i levels marks (Some r)
  unmet_earlier = record { on = λ at here x. record { below = omega (arith, x.below); before = x.before; fails = x.fails } }

  module _ {b : Bool} (told : Tells (Met classes (meaning_of rule) (labels_in levels marks)) b) where
    pub unmet_now : not b ≡ true → UnmetOn None rule i levels marks (Some i)
    unmet_now e = record { on = λ at here x. record { below = omega arith; before = x; fails = rule_unmet here told e } }

    pub unmet_none : not b ≡ false → UnmetOn None rule i levels marks None
    unmet_none e = record { on = λ at here x. rw (← add-one) (all_more x (rule_met here told e)) }

-- What is known after one rule more.
module _ {before : Seen} {rule : Rule} {i : ℕ} {h : Head} {levels marks : List ℕ} where
  module _ {at : ℕ → Rule} (here : rule ≡ at i) (x : SeenSoFar h at levels marks i before) where
    order_on : Stands before rule h.items → InOrder h at (suc i)
    order_on p = order_more h (x.good.holds p.good) (rw (← x.kind, ← here) p.order) (subst (RuleAccepted h.items) here p.accepted)

    order_back : InOrder h at (suc i) → Stands before rule h.items
    order_back p = record {
      good = tells_unique x.good (tells_yes (order_less h p));
      order = rw (x.kind, here) (order_rises h i p);
      accepted = subst (RuleAccepted h.items) (sym here) (order_last h p);
    }

  pub goes_on : {g : Bool} {u : Option ℕ} → Tells (Stands before rule h.items) g → UnmetOn before.unmet rule i levels marks u
      → GoesOn before rule i h levels marks (record { good = g; kind = rule.kind; unmet = u })
  goes_on t s = record {
    on = λ at here x. record {
      good = record {
        holds = λ e. order_on here x (t.holds e);
        fails = λ e p. t.fails e (order_back here x p);
      };
      kind = rw here refl;
      unmet = s.on at here x.unmet;
    };
  }

-- The end of the walk: the sizes are wrong, the rules are not accepted, or they are.
module _ {seen : Seen} {len : ℕ} {h : Head} {levels marks : List ℕ} {b : Bool} (told : Tells (Sizes len h) b) where
  pub concludes_sizes : not b ≡ true → {r : Refusal} → r ≡ refusal_at Fault.BadTable 0 → Concludes seen len h levels marks (said_refusal r)
  concludes_sizes bad e = rw e (record {
    says = λ rules l count x. bad_table (λ a. told_no told bad (record { items = a.accepted.items; rules = a.accepted.rules; room = rw (← l) a.room }));
  })

  module _ (sizes : not b ≡ false) where
    -- All rules were looked at.
    all_seen : {at : ℕ → Rule} {c : ℕ} → Count len h c → SeenSoFar h at levels marks c seen → SeenSoFar h at levels marks h.rules seen
    all_seen {at} count x = subst (λ k. SeenSoFar h at levels marks k seen) (count.all (told_yes told sizes)) x

    pub concludes_order : not seen.good ≡ true → {r : Refusal} → r ≡ refusal_at Fault.BadTable 0 → Concludes seen len h levels marks (said_refusal r)
    concludes_order bad e = rw e (record {
      says = λ rules l count x. bad_table (λ a. told_no (all_seen count x).good bad (record { each = a.accepted.each }));
    })

    pub concludes_judged : not seen.good ≡ false → {s : Said} → Judges seen.unmet h levels marks s → Concludes seen len h levels marks s
    concludes_judged good j = record { says = λ rules l count x. judges_accepted (accepted rules l (all_seen count x)) j (all_seen count x).unmet }
      where
        accepted : (rules : List Rule) → length rules ≡ len → SeenSoFar h (list_at rules) levels marks h.rules seen → ListAccepted h rules
        accepted rules l x = let s = told_yes told sizes in record {
          room = rw l s.room;
          accepted = record { items = s.items; rules = s.rules; each = (told_yes x.good good).each };
        }
