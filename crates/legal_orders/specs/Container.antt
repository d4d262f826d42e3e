-- Objects that hold values: what is put in is held until it is taken out. How an object's
-- operations and replies are read is a parameter, so that each rule is stated once for all objects.
use Rattle.std.specs.Prelude.{◌≡◌, ℕ, ◌+◌, ◌==◌, Bool, true, false, List, [], ◌∷◌, ◌++◌, Option, Some, None}

-- what an operation does to what is held: it puts a value in, it takes one out, or neither
pub data Effect : Type 0 where
  Puts : ℕ → Effect
  Takes : Effect
  Neither : Effect

-- How an object is read: what each operation word does, what the reply to a take shows (a value, or
-- that nothing was there), and which values a list of the object's words holds.
pub record Reading : Type 0 where
  pub deed : ℕ → Effect
  pub shown : ℕ → Option ℕ
  pub values : List ℕ → List ℕ

-- the value that an operation of this effect puts in, where it puts one in
abbrev pub value_put : Effect → Option ℕ
value_put (Puts v) = Some v
value_put Takes = None
value_put Neither = None

-- the value that an operation of this effect takes out, where it takes and its reply shows a value
abbrev pub value_taken : Effect → Option ℕ → Option ℕ
value_taken (Puts v) shown = None
value_taken Takes shown = shown
value_taken Neither shown = None

-- the value that a step puts in, where it puts one in; a step is an operation word with its reply
abbrev pub put_by : Reading → ℕ × ℕ → Option ℕ
put_by reading step = value_put (reading.deed step.0)

-- the value that a step takes out, where it takes one out; a step is an operation word with its
-- reply
abbrev pub taken_by : Reading → ℕ × ℕ → Option ℕ
taken_by reading step = value_taken (reading.deed step.0) (reading.shown step.1)

-- 1 for true, 0 for false
abbrev pub one_if : Bool → ℕ
one_if true = 1
one_if false = 0

-- how often a value is in a list
abbrev pub times : ℕ → List ℕ → ℕ
times v [] = 0
times v (x ∷ xs) = one_if (x == v) + times v xs

-- A take that shows a value gives it out of the values held, and the others stay, in any order. A
-- take that shows none finds nothing held, and leaves nothing held.
abbrev pub GivesOne : List ℕ → Option ℕ → List ℕ → Type 0
GivesOne before None after = (before ≡ []) × (after ≡ [])
GivesOne before (Some v) after = (w : ℕ) → times w before ≡ times w (v ∷ after)

-- A take that shows a value gives out the first of the values held, and the others stay in their
-- order. A take that shows none finds nothing held, and leaves nothing held.
abbrev pub GivesFirst : List ℕ → Option ℕ → List ℕ → Type 0
GivesFirst before None after = (before ≡ []) × (after ≡ [])
GivesFirst before (Some v) after = before ≡ v ∷ after

-- A container: a put adds its value, a take gives one out or shows that nothing is held, and no
-- other operation changes what is held.
pub record IsContainer (reading : Reading) (next : List ℕ → ℕ → List ℕ × ℕ) : Type 0 where
  pub put : (list : List ℕ) (op v : ℕ) → reading.deed op ≡ Puts v → (w : ℕ)
      → times w (reading.values (next list op).0) ≡ times w (v ∷ reading.values list)
  pub take : (list : List ℕ) (op : ℕ) → reading.deed op ≡ Takes → GivesOne (reading.values list)
      (reading.shown (next list op).1) (reading.values (next list op).0)
  pub neither : (list : List ℕ) (op : ℕ) → reading.deed op ≡ Neither
      → reading.values (next list op).0 ≡ reading.values list

-- A queue: a put adds its value at the end, a take gives out the first value or shows that nothing
-- is held, and no other operation changes what is held.
pub record IsQueue (reading : Reading) (next : List ℕ → ℕ → List ℕ × ℕ) : Type 0 where
  pub put : (list : List ℕ) (op v : ℕ) → reading.deed op ≡ Puts v
      → reading.values (next list op).0 ≡ reading.values list ++ v ∷ []
  pub take : (list : List ℕ) (op : ℕ) → reading.deed op ≡ Takes → GivesFirst (reading.values list)
      (reading.shown (next list op).1) (reading.values (next list op).0)
  pub neither : (list : List ℕ) (op : ℕ) → reading.deed op ≡ Neither
      → reading.values (next list op).0 ≡ reading.values list

-- A stack: a put adds its value at the head of the list, a take gives out the first value or shows
-- that nothing is held, and no other operation changes what is held.
pub record IsStack (reading : Reading) (next : List ℕ → ℕ → List ℕ × ℕ) : Type 0 where
  pub put : (list : List ℕ) (op v : ℕ) → reading.deed op ≡ Puts v
      → reading.values (next list op).0 ≡ v ∷ reading.values list
  pub take : (list : List ℕ) (op : ℕ) → reading.deed op ≡ Takes → GivesFirst (reading.values list)
      (reading.shown (next list op).1) (reading.values (next list op).0)
  pub neither : (list : List ℕ) (op : ℕ) → reading.deed op ≡ Neither
      → reading.values (next list op).0 ≡ reading.values list
