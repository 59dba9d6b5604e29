-- The names of a rule, looked up in the item table. The text begins with the left names, each followed by one byte.
-- Assumes nothing.
use Rattle.std.specs.Prelude.{Bool, true, false, ◌&&◌, List, [], ◌∷◌, ℕ, zero, suc, ◌+◌, ◌-◌, ltb, get_or, take, drop, Some, None, Ok, Err}
use Rattle.laws.specs.Every.{every_below}
use Rattle.items.specs.Lookup.{Found, find_in}
use Rattle.scans.specs.Bytes.{name_byte, run_len}

-- The first name, and what stands behind it and the byte that follows it.
abbrev pub first_name : List ℕ → List ℕ
first_name l = take (run_len name_byte l) l

abbrev pub rest_names : List ℕ → List ℕ
rest_names l = drop (run_len name_byte l + 1) l

abbrev pub is_item : Found → Bool
is_item (Ok (Some i)) = true
is_item (Ok None) = false
is_item (Err r) = false

abbrev pub item_number : Found → ℕ
item_number (Ok (Some i)) = i
item_number (Ok None) = 0
item_number (Err r) = 0

-- Each of the first c names is one of the n items of the table t.
unfoldable pub every_item : List ℕ → ℕ → ℕ → List ℕ → Bool
every_item t n zero l = true
every_item t n (suc c) l = is_item (find_in t n (first_name l)) && every_item t n c (rest_names l)

-- The numbers of the first c names' items.
unfoldable pub numbers_of : List ℕ → ℕ → ℕ → List ℕ → List ℕ
numbers_of t n zero l = []
numbers_of t n (suc c) l = item_number (find_in t n (first_name l)) ∷ numbers_of t n c (rest_names l)

-- "Left names stand in strictly rising item order": each of the first c left places holds less than the next.
unfoldable pub rising : ℕ → List ℕ → Bool
rising c left = every_below (c - 1) (λ k. ltb (get_or left k 0) (get_or left (suc k) 0))
