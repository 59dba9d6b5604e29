-- Rules and books (source 000, definition 2.1, and its section 6 for caps), and what it means that labels meet a rule.
-- Assumes nothing.
use Rattle.std.specs.Prelude.{◌≡◌, ℕ, zero, suc, ◌<◌}
use Rattle.meaning.specs.Values.{Values}

-- The left side of a rule: how many items, and which.
pub record Left : Type 0 where
  pub count : ℕ
  pub item : ℕ → ℕ

-- A rule with constants of type A. The items are numbers, from 0 in book order.
pub data Rule (A : Type 0) : Type 0 where
  cap : ℕ → A → Rule A
  floor : Left → A → Rule A
  follow : Left → ℕ → Rule A

-- The same line with other constants.
abbrev pub map_rule : {A B : Type 0} → (A → B) → Rule A → Rule B
map_rule f (cap i v) = cap i (f v)
map_rule f (floor l v) = floor l (f v)
map_rule f (follow l i) = follow l i

-- A book: the number of its items, and its rules in table order.
pub record Book (A : Type 0) : Type 0 where
  pub items : ℕ
  pub rules : ℕ
  pub rule : ℕ → Rule A

-- The book of the same lines with other constants.
abbrev pub map_book : {A B : Type 0} → (A → B) → Book A → Book B
map_book f b = record { items = b.items; rules = b.rules; rule = λ r. map_rule f (b.rule r) }

-- The same items, and the same rules in the same order.
pub record SameBooks {A : Type 0} (b c : Book A) : Type 0 where
  pub items : b.items ≡ c.items
  pub rules : b.rules ≡ c.rules
  pub each : (r : ℕ) → r < b.rules → b.rule r ≡ c.rule r

-- Every name of a rule is an item of the book.
pub record LeftInside (n : ℕ) (l : Left) : Type 0 where
  pub within : (k : ℕ) → k < l.count → l.item k < n

abbrev pub RuleInside : {A : Type 0} → ℕ → Rule A → Type 0
RuleInside n (cap i v) = i < n
RuleInside n (floor l v) = LeftInside n l
RuleInside n (follow l i) = LeftInside n l × (i < n)

pub record Inside {A : Type 0} (b : Book A) : Type 0 where
  pub inside : (r : ℕ) → r < b.rules → RuleInside b.items (b.rule r)

-- The join of the first n values of f, which is the lowest value where n is 0.
abbrev pub join_up_to : (K : Values) → ℕ → (ℕ → K.Val) → K.Val
join_up_to K zero f = K.lowest
join_up_to K (suc n) f = K.join (join_up_to K n f) (f n)

-- The join of the left labels.
abbrev pub join_over : (K : Values) → Left → (ℕ → K.Val) → K.Val
join_over K l labels = join_up_to K l.count (λ k. labels (l.item k))

-- cap: the constant covers the item's label. floor: the join of the left labels covers the constant.
-- follow: the join of the left labels covers the right label.
abbrev pub Met : (K : Values) → Rule K.Val → (ℕ → K.Val) → Type 0
Met K (cap i v) labels = K.Below (labels i) v
Met K (floor l v) labels = K.Below v (join_over K l labels)
Met K (follow l i) labels = K.Below (labels i) (join_over K l labels)
