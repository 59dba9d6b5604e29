-- What an answer says: which success of its routine it is, with its values, or a refusal with its number and its place. Each routine whose answer is an
-- enum has a definition that gives each case what it says, and its promise is stated through that.
-- Assumes nothing.
use Rattle.std.specs.Prelude.{List, ℕ}
use Rattle.refusals.specs.declared.Fault.{Fault}
use Rattle.refusals.specs.declared.Refusal.{Refusal}
use Rattle.refusals.specs.Numbers.{fault_number}

-- The successes of a routine are numbered from 0.
pub data Said : Type 0 where
  success : ℕ → List ℕ → Said
  refused : ℕ → ℕ → Said

-- The refusal for a fault at a place.
abbrev pub refusal_at : Fault → ℕ → Refusal
refusal_at f p = record { fault = f; place = p }

-- What it says.
abbrev pub refused_by : Fault → ℕ → Said
refused_by f p = refused (fault_number f) p

abbrev pub said_refusal : Refusal → Said
said_refusal r = refused_by r.fault r.place
