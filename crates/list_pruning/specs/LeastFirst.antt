-- Priority queues, by their lists: the values held, in rising order.
use Rattle.std.specs.Prelude.{◌≡◌, ◌≢◌, ℕ, ◌<◌, ◌≤◌, ◌⊎◌, nat_lt, List, [], ◌∷◌, Some, None, if◌then◌else◌, slice_index}
use Rattle.std.specs.List.{AllByRecursion}
use Rattle.book_base.specs.declared.call.Call.{Call}
use Rattle.book_base.specs.declared.call.Record.{Record}
use Rattle.book_base.specs.Book.{Page, operation_of, record_of}
use Rattle.book_base.specs.Next.{next_call, MayComeNext}
use Rattle.book_base.specs.Pruning.{ViewsAreWithin}
use Rattle.legal_orders.specs.Container.{Puts, Takes, Neither, Reading}
use Rattle.legal_orders.specs.Calls.{PutsIn, PutsInAlone, TakesOut}

-- A list with one more value, put before the first greater item, or at the end where no item is
-- greater.
abbrev pub placed : ℕ → List ℕ → List ℕ
placed v [] = v ∷ []
placed v (x ∷ rest) = if nat_lt v x then v ∷ x ∷ rest else x ∷ placed v rest

-- No item is less than one before it, and each is below a bound.
abbrev pub IsRising : ℕ → List ℕ → Type 0
IsRising bound [] = Unit {0}
IsRising bound (x ∷ rest) = (x < bound) × AllByRecursion (λ y. x ≤ y) rest × IsRising bound rest

-- An object that gives its least value first: a put places its value, which is below a bound, and a
-- take gives out the first item, or finds nothing in the empty list. Other operations keep the
-- list. An operation that is no take has the same reply at each list, all takes are one operation,
-- and a value is shown by one reply.
pub record GivesLeastFirst (reading : Reading) (next : List ℕ → ℕ → List ℕ × ℕ)
    (bound : ℕ) : Type 0 where
  pub small : (op v : ℕ) → reading.deed op ≡ Puts v → v < bound
  pub put : (list : List ℕ) (op v : ℕ) → reading.deed op ≡ Puts v → (next list op).0 ≡ placed v list
  pub take : (x : ℕ) (rest : List ℕ) (op : ℕ) → reading.deed op ≡ Takes
      → (next (x ∷ rest) op).0 ≡ rest
  pub shows : (x : ℕ) (rest : List ℕ) (op : ℕ) → x < bound → reading.deed op ≡ Takes
      → reading.shown (next (x ∷ rest) op).1 ≡ Some x
  pub empty : (op : ℕ) → reading.deed op ≡ Takes → ((next [] op).0 ≡ [])
      × (reading.shown (next [] op).1 ≡ None)
  pub neither : (list : List ℕ) (op : ℕ) → reading.deed op ≡ Neither → (next list op).0 ≡ list
  pub blind : (one other : List ℕ) (op : ℕ) → reading.deed op ≢ Takes
      → (next one op).1 ≡ (next other op).1
  pub one_take : (a b : ℕ) → reading.deed a ≡ Takes → reading.deed b ≡ Takes → a ≡ b
  pub one_reply : (a b v : ℕ) → reading.shown a ≡ Some v → reading.shown b ≡ Some v → a ≡ b

-- A call takes out a value, and its view is within those of all calls outside a cut that take it
-- out. Calls that may not come next yet count too, since one with a lesser view may have to take
-- this item.
pub record IsLeastTake (reading : Reading) (book : List Page) (cut : List ℕ) (v : ℕ)
    (take : Call) : Type 0 where
  pub takes : TakesOut reading book take v
  pub least : (other : Call) → TakesOut reading book other v
      → slice_index cut other.caller ≤ other.number → ViewsAreWithin book take other

-- The next call of a caller takes the first item of a list, with the least view of all answered
-- calls outside the cut that take this value.
abbrev pub TakesFirst : Reading → List Page → List ℕ → List ℕ → ℕ → Type 0
TakesFirst reading book cut [] caller = ⊥
TakesFirst reading book cut (low ∷ rest) caller =
    IsLeastTake reading book cut low (next_call cut caller)

-- a value is less than all items of a rising list, which may be empty
abbrev pub IsBelowFirst : ℕ → List ℕ → Type 0
IsBelowFirst v [] = Unit {0}
IsBelowFirst v (x ∷ rest) = v < x

-- The next call of a caller is the only one that puts in some value, which is less than all items
-- of the list; and the next call of another caller may come next and takes this value, with the
-- least view of all answered calls outside the cut that take it.
pub record PutsLeast (reading : Reading) (book : List Page) (cut list : List ℕ)
    (caller : ℕ) : Type 0 where
  pub value : ℕ
  pub taker : ℕ
  pub alone : PutsInAlone reading book (next_call cut caller) value
  pub below : IsBelowFirst value list
  pub may_come : MayComeNext book cut (next_call cut taker)
  pub takes : IsLeastTake reading book cut value (next_call cut taker)

-- A call may take out a value: it takes, and where it is answered, its reply shows the value.
pub record CouldTake (reading : Reading) (book : List Page) (call : Call) (v : ℕ) : Type 0 where
  pub op : ℕ
  pub operation : operation_of book call ≡ Some op
  pub takes : reading.deed op ≡ Takes
  pub shows : (r : Record) → record_of book call ≡ Some r → reading.shown r.reply ≡ Some v

-- no call that may come next may take out a value
abbrev pub IsTakenByNone : Reading → List Page → List ℕ → ℕ → Type 0
IsTakenByNone reading book cut v = (i : ℕ) → MayComeNext book cut (next_call cut i)
    → CouldTake reading book (next_call cut i) v → ⊥

-- A value needn't be put in next, after a cut and at a list: it isn't less than all items of the
-- list, or no call that may come next may take it out.
abbrev pub IsNeverFirst : Reading → List Page → List ℕ → List ℕ → ℕ → Type 0
IsNeverFirst reading book cut list v = (IsBelowFirst v list → ⊥)
    ⊎ IsTakenByNone reading book cut v

-- The next call of a caller isn't the forced one, and puts in a value that isn't less than all
-- items of the list, or that no call that may come next may take out.
pub record IsUnwanted (reading : Reading) (book : List Page) (cut list : List ℕ) (forced : ℕ)
    (caller : ℕ) : Type 0 where
  pub apart : caller ≢ forced
  pub value : ℕ
  pub puts : PutsIn reading book (next_call cut caller) value
  pub never : IsNeverFirst reading book cut list value
