-- An answer is known by what it says: where each answer can be told back from what it says, two answers that say the same are equal. A fault can be told
-- back from its number, and a refusal from its number and its place.
-- Assumes nothing.
use mathlib.Core.Path.{◌≡◌, refl, sym, ap, ◌∙◌}
use mathlib.Core.List.{List, [], ◌∷◌}
use Prim.Native.Nat.{ℕ}
use lib.ListN.{get_or}
use Rattle.refusals.specs.declared.Fault.{Fault}
use Rattle.refusals.specs.declared.Refusal.{Refusal}
use Rattle.refusals.specs.Numbers.{fault_number}
use Rattle.refusals.specs.Said.{Said}

-- Answers that can be told back from what they say are equal if they say the same.
pub said_injective : {A : Type 0} (said : A → Said) (back : Said → A) → ((x : A) → back (said x) ≡ x) → {x y : A} → said x ≡ said y → x ≡ y
said_injective said back e {x} {y} same = sym (e x) ∙ ap back same ∙ e y

-- The fault with a number; a number that no fault has is told as any.
abbrev faults : List Fault
faults =
    Fault.TooLong ∷ Fault.TooLong ∷ Fault.Syntax ∷ Fault.Order ∷ Fault.TooMany ∷ Fault.NameTwice ∷ Fault.NoSuchItem ∷ Fault.LeftOrder ∷ Fault.EndCount
    ∷ Fault.NoLabelling ∷ Fault.BadTable ∷ Fault.NoRoom ∷ Fault.BadLabel ∷ Fault.TooLong ∷ Fault.TooLong ∷ Fault.TooLong ∷ Fault.CsvSyntax ∷ Fault.CsvHeader ∷ []

abbrev pub fault_of : ℕ → Fault
fault_of n = get_or faults n Fault.TooLong

pub fault_back : (f : Fault) → fault_of (fault_number f) ≡ f
fault_back Fault.TooLong = refl
fault_back Fault.Syntax = refl
fault_back Fault.Order = refl
fault_back Fault.TooMany = refl
fault_back Fault.NameTwice = refl
fault_back Fault.NoSuchItem = refl
fault_back Fault.LeftOrder = refl
fault_back Fault.EndCount = refl
fault_back Fault.NoLabelling = refl
fault_back Fault.BadTable = refl
fault_back Fault.NoRoom = refl
fault_back Fault.BadLabel = refl
fault_back Fault.CsvSyntax = refl
fault_back Fault.CsvHeader = refl

-- The refusal with a number and a place.
abbrev pub refusal_of : ℕ → ℕ → Refusal
refusal_of n p = record { fault = fault_of n; place = p }

pub refusal_back : (r : Refusal) → refusal_of (fault_number r.fault) r.place ≡ r
refusal_back r = ap (λ (f : Fault). record { fault = f; place = r.place }) (fault_back r.fault)
