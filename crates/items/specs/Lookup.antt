-- Looking up a name in the item table: what an answer says, and which answer is given.
-- Assumes nothing.
use Rattle.std.specs.Prelude.{◌≡◌, Bool, cond, List, [], ◌∷◌, ℕ, ltb, eqb, get_or, Option, Some, None, Result, Ok, Err}
use Rattle.laws.specs.Every.{every_below}
use Rattle.laws.specs.Search.{first_below}
use Rattle.refusals.specs.declared.Fault.{Fault}
use Rattle.refusals.specs.Said.{Said, success, said_refusal}
use Rattle.items.specs.Names.{name_room, is_name}
use Rattle.items.specs.Table.{table_fits, entry_byte}
use Rattle.refusals.specs.declared.Refusal.{Refusal}

-- What looking up a name answers: the item's number, or None where no item has the name; or a refusal.
abbrev pub Found : Type 0
Found = Result (Option ℕ) Refusal

-- What an answer says: the number of the item that was found, or that the name is absent; or a refusal.
abbrev pub said_found : Found → Said
said_found (Ok (Some i)) = success 0 (i ∷ [])
said_found (Ok None) = success 1 []
said_found (Err r) = said_refusal r

-- "10 | BAD_TABLE | 0"
abbrev pub bad_table : Found
bad_table = Err (record { fault = Fault.BadTable; place = 0 })

-- "those bytes": entry i has the name's bytes, and zeros behind them.
unfoldable pub same_name : List ℕ → ℕ → List ℕ → Bool
same_name t i name = every_below name_room (λ k. eqb (entry_byte t i k) (get_or name k 0))

-- The item's number where it is one of n, and absent else.
abbrev pub numbered : ℕ → ℕ → Found
numbered n i = cond (ltb i n) (Ok (Some i)) (Ok None)

-- "gives the lowest number with those bytes": the first of n entries that is the name, if there is one.
unfoldable pub look_up : List ℕ → ℕ → List ℕ → Found
look_up t n name = numbered n (first_below n (λ i. same_name t i name))

-- "Looking up a name answers with its item number or that it is absent. It tests the item table's size only (BAD_TABLE), gives the lowest
-- number with those bytes, and answers absent for bytes that are no NAME."
unfoldable pub find_in : List ℕ → ℕ → List ℕ → Found
find_in t n name = cond (table_fits t n) (cond (is_name name) (look_up t n name) (Ok None)) bad_table

-- The promise of `find`: what its answer says.
pub record FindSays (t : List ℕ) (n : ℕ) (name : List ℕ) (s : Said) : Type 0 where
  pub answer : s ≡ said_found (find_in t n name)
