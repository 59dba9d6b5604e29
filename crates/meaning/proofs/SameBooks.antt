-- Books with the same rules have the same labellings, the same wanted labels and the same refused part.
-- Assumes nothing.
use mathlib.Core.Path.{sym, ap, subst}
use Prim.Native.Nat.{ℕ, ◌<◌}
use native.Mathlib.Omega.{arith}
use Rattle.meaning.specs.Values.{Values}
use Rattle.meaning.specs.Rules as meant
use Rattle.meaning.specs.Rules.{Book, Met, map_rule, SameBooks}
use Rattle.meaning.specs.Labelling.{Labelling, Wanted}
use Rattle.meaning.specs.Parts.{Parts, Refused, in_part, part_values}

pub turned : {A : Type 0} {b c : Book A} → SameBooks b c → SameBooks c b
turned s = record { items = sym s.items; rules = sym s.rules; each = λ r h. sym (s.each r (omega (arith, s.rules))) }

pub labelling_moved : (K : Values) {b c : Book K.Val} → SameBooks b c → {f : ℕ → K.Val} → Labelling K b f → Labelling K c f
labelling_moved K {b} s {f} x = record {
  labels = λ i h. x.labels i (omega (arith, s.items));
  meets = λ r h.
      let h' : r < b.rules = omega (arith, s.rules) in
      subst (λ (y : meant.Rule K.Val). Met K y f) (s.each r h') (x.meets r h');
}

pub wanted_moved : (K : Values) {b c : Book K.Val} → SameBooks b c → {f : ℕ → K.Val} → Wanted K b f → Wanted K c f
wanted_moved K s x = record {
  labelling = labelling_moved K s x.labelling;
  least = λ g y i d.
      x.least g (labelling_moved K (turned s) y) i
      (record { item = omega (arith, s.items, d.item); before = d.before; differs = d.differs });
}

-- In each part they are the same too.
part_same : (P : Parts) (p : ℕ) {b c : Book P.values.Val} → SameBooks b c → SameBooks (in_part P p b) (in_part P p c)
part_same P p s = record { items = s.items; rules = s.rules; each = λ r h. ap (map_rule (P.part p)) (s.each r h) }

pub refused_moved : (P : Parts) {b c : Book P.values.Val} → SameBooks b c → {p : ℕ} → Refused P b p → Refused P c p
refused_moved P s {p} x = record {
  is_part = x.is_part;
  unmet = λ f y. x.unmet f (labelling_moved (part_values P p) (turned (part_same P p s)) y);
  lower = λ q h. ((x.lower q h).0, labelling_moved (part_values P q) (part_same P q s) (x.lower q h).1);
}
