-- The six keys: their texts, the key at the front of a text, and which key may come next; and the keys of lines that are only printed.
-- Assumes nothing.
use Rattle.std.specs.Prelude.{Bool, true, false, cond, ◌&&◌, List, [], ◌∷◌, ℕ, eqb, length, get_or, Option, None, Some}
use Rattle.keys.specs.declared.Key.{Key}
use Rattle.keys.specs.declared.KeyToken.{KeyToken}

-- "Every line is key=value": form= item= cap= floor= follow= end=
abbrev pub key_text : Key → List ℕ
key_text Key.Form = 102 ∷ 111 ∷ 114 ∷ 109 ∷ 61 ∷ []
key_text Key.Item = 105 ∷ 116 ∷ 101 ∷ 109 ∷ 61 ∷ []
key_text Key.Cap = 99 ∷ 97 ∷ 112 ∷ 61 ∷ []
key_text Key.Floor = 102 ∷ 108 ∷ 111 ∷ 111 ∷ 114 ∷ 61 ∷ []
key_text Key.Follow = 102 ∷ 111 ∷ 108 ∷ 108 ∷ 111 ∷ 119 ∷ 61 ∷ []
key_text Key.End = 101 ∷ 110 ∷ 100 ∷ 61 ∷ []

-- The keys, in their order.
abbrev pub every_key : List Key
every_key = Key.Form ∷ Key.Item ∷ Key.Cap ∷ Key.Floor ∷ Key.Follow ∷ Key.End ∷ []

-- "one line label=NAME:CLASS", "refused= with the number, at= with the place": label= refused= at=
abbrev pub label_key : List ℕ
label_key = 108 ∷ 97 ∷ 98 ∷ 101 ∷ 108 ∷ 61 ∷ []

abbrev pub refused_key : List ℕ
refused_key = 114 ∷ 101 ∷ 102 ∷ 117 ∷ 115 ∷ 101 ∷ 100 ∷ 61 ∷ []

abbrev pub at_key : List ℕ
at_key = 97 ∷ 116 ∷ 61 ∷ []

-- The text begins with these bytes.
unfoldable pub starts_with : List ℕ → List ℕ → Bool
starts_with [] l = true
starts_with (x ∷ xs) [] = false
starts_with (x ∷ xs) (b ∷ l) = eqb b x && starts_with xs l

-- The key k, of n bytes.
abbrev pub key_found : Key → ℕ → Option KeyToken
key_found k n = Some (record { key = k; len = n })

-- The key and the length of its text x, if that is at the front; else what is said of the other keys.
abbrev pub found_or : Key → List ℕ → List ℕ → Option KeyToken → Option KeyToken
found_or k x l other = cond (starts_with x l) (key_found k (length x)) other

abbrev pub key_or : Key → List ℕ → Option KeyToken → Option KeyToken
key_or k l other = found_or k (key_text k) l other

unfoldable pub key_at : List ℕ → Option KeyToken
key_at l =
    key_or Key.Form l
    (key_or Key.Item l (key_or Key.Cap l (key_or Key.Floor l (key_or Key.Follow l (key_or Key.End l None)))))

-- The keys are numbered in their order, from 0.
abbrev pub key_number : Key → ℕ
key_number Key.Form = 0
key_number Key.Item = 1
key_number Key.Cap = 2
key_number Key.Floor = 3
key_number Key.Follow = 4
key_number Key.End = 5

abbrev yes! : Bool
yes! = true

abbrev no! : Bool
no! = false

-- "Which key may come next is a table of six rows and six columns": after start, form, item, cap, floor, follow, numbered from 0; the columns
-- are the keys. After anything else, and for any other key, the answer is no.
abbrev pub next_rows : List (List Bool)
next_rows =
    (yes! ∷ no! ∷ no! ∷ no! ∷ no! ∷ no! ∷ [])
    ∷ (no! ∷ yes! ∷ yes! ∷ yes! ∷ yes! ∷ yes! ∷ [])
    ∷ (no! ∷ yes! ∷ yes! ∷ yes! ∷ yes! ∷ yes! ∷ [])
    ∷ (no! ∷ no! ∷ yes! ∷ yes! ∷ yes! ∷ yes! ∷ [])
    ∷ (no! ∷ no! ∷ no! ∷ yes! ∷ yes! ∷ yes! ∷ [])
    ∷ (no! ∷ no! ∷ no! ∷ no! ∷ yes! ∷ yes! ∷ [])
    ∷ []

unfoldable pub next_allowed : ℕ → ℕ → Bool
next_allowed after key = get_or (get_or next_rows after []) key false
