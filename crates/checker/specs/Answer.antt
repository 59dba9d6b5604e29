-- What an answer of checking says.
-- Assumes nothing.
use Rattle.std.specs.Prelude.{[], ◌∷◌, ℕ, Option, Some, None, Result, Ok, Err}
use Rattle.refusals.specs.declared.Refusal.{Refusal}
use Rattle.refusals.specs.Said.{Said, success, said_refusal}

-- ""met", or "unmet" with the number, from 0 in table order, of the first rule not met"; or a refusal.
abbrev pub said_checked : Result (Option ℕ) Refusal → Said
said_checked (Ok None) = success 0 []
said_checked (Ok (Some r)) = success 1 (r ∷ [])
said_checked (Err r) = said_refusal r
