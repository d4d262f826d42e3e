-- Stacks, by their lists: the values held, in the order in which they were put in.
use Rattle.std.specs.Prelude.{◌≡◌, ◌≢◌, ℕ, ◌<◌, ◌≤◌, ◌⊎◌, Bool, IsTrue, List, [], ◌∷◌, ◌++◌, Option, Some, None, IfSome, slice_index}
use Rattle.std.specs.List.{AllByRecursion}
use Rattle.book_base.specs.declared.call.Call.{Call}
use Rattle.book_base.specs.Cut.{Holds}
use Rattle.book_base.specs.Book.{Page, IsAnswered, Precedes}
use Rattle.book_base.specs.Next.{next_call, MayComeNext}
use Rattle.legal_orders.specs.Container.{Puts, Takes, Neither, Reading}
use Rattle.legal_orders.specs.Calls.{PutsIn, PutsInAlone, FindsNothing}
use Rattle.list_pruning.specs.LeastFirst.{IsLeastTake}
use Rattle.list_pruning.specs.HoldsLast.{IsRead, WritesOutside, IsUnreadWrite}
use Rattle.list_pruning.specs.declared.top.Top.{Top}

-- each item of a list is below a bound
abbrev pub IsSmall : ℕ → List ℕ → Type 0
IsSmall bound list = AllByRecursion (λ x. x < bound) list

-- no item of a list is this value
abbrev pub Lacks : List ℕ → ℕ → Type 0
Lacks list v = AllByRecursion (λ x. x ≢ v) list

-- a list ends with this value
abbrev pub EndsWith : List ℕ → ℕ → Type 0
EndsWith list v = (below : List ℕ) × (list ≡ below ++ v ∷ [])

-- An object that gives its last value first. A put adds its value, which is below a bound, at the
-- list's end; an operation that is neither a put nor a take leaves the list as it is; and the reply
-- to an operation that is no take is the same at each list. A take removes the last item, and its
-- reply shows the item, if this is below the bound; at the empty list it changes nothing, and its
-- reply shows no value. At most one operation word is a take, and at most one reply word shows a
-- given value.
pub record GivesLastFirst (reading : Reading) (next : List ℕ → ℕ → List ℕ × ℕ)
    (bound : ℕ) : Type 0 where
  pub small : (op v : ℕ) → reading.deed op ≡ Puts v → v < bound
  pub put : (list : List ℕ) (op v : ℕ) → reading.deed op ≡ Puts v
      → (next list op).0 ≡ list ++ v ∷ []
  pub take : (list : List ℕ) (x op : ℕ) → reading.deed op ≡ Takes
      → (next (list ++ x ∷ []) op).0 ≡ list
  pub shows : (list : List ℕ) (x op : ℕ) → x < bound → reading.deed op ≡ Takes
      → reading.shown (next (list ++ x ∷ []) op).1 ≡ Some x
  pub empty : (op : ℕ) → reading.deed op ≡ Takes → ((next [] op).0 ≡ [])
      × (reading.shown (next [] op).1 ≡ None)
  pub neither : (list : List ℕ) (op : ℕ) → reading.deed op ≡ Neither → (next list op).0 ≡ list
  pub blind : (one other : List ℕ) (op : ℕ) → reading.deed op ≢ Takes
      → (next one op).1 ≡ (next other op).1
  pub one_take : (a b : ℕ) → reading.deed a ≡ Takes → reading.deed b ≡ Takes → a ≡ b
  pub one_reply : (a b v : ℕ) → reading.shown a ≡ Some v → reading.shown b ≡ Some v → a ≡ b

-- Each call outside a cut that puts in the value `v` may come next after the cut, or is preceded by
-- the call `take`.
abbrev pub PutsAreNextOrLater : Reading → List Page → List ℕ → ℕ → Call → Type 0
PutsAreNextOrLater reading book cut v take = (put : Call) → WritesOutside reading book cut v put
    → MayComeNext book cut put ⊎ Precedes book take put

-- The next call of a caller takes the last item of the list, and has the least view of all answered
-- calls outside the cut that take this value; and each call outside the cut that puts this value in
-- may come next, or the take precedes it.
pub record TakesLast (reading : Reading) (book : List Page) (cut list : List ℕ)
    (caller : ℕ) : Type 0 where
  pub value : ℕ
  pub last : EndsWith list value
  pub puts : PutsAreNextOrLater reading book cut value (next_call cut caller)
  pub takes : IsLeastTake reading book cut value (next_call cut caller)

-- The next call of a caller is the only call that puts in some value, which isn't in the list; and
-- the next call of another caller may come next and takes this value, with the least view of all
-- answered calls outside the cut that take it.
pub record PutsPaired (reading : Reading) (book : List Page) (cut list : List ℕ)
    (caller : ℕ) : Type 0 where
  pub value : ℕ
  pub taker : ℕ
  pub alone : PutsInAlone reading book (next_call cut caller) value
  pub lacks : Lacks list value
  pub may_come : MayComeNext book cut (next_call cut taker)
  pub takes : IsLeastTake reading book cut value (next_call cut taker)

-- A value is kept after a cut: no answered call outside the cut takes it.
abbrev pub IsKept : Reading → List Page → List ℕ → ℕ → Type 0
IsKept reading book cut v = IsRead reading book cut v → ⊥

-- No answered call outside the cut is a take that finds nothing.
abbrev pub IsNeverEmpty : Reading → List Page → List ℕ → Type 0
IsNeverEmpty reading book cut = (call : Call) → FindsNothing reading book call
    → slice_index cut call.caller ≤ call.number → ⊥

-- The next call of a caller is answered, and puts in a value that is kept after the cut.
abbrev pub IsKeptPut : Reading → List Page → List ℕ → ℕ → Type 0
IsKeptPut reading book cut caller = IsAnswered book (next_call cut caller)
    × IsUnreadWrite reading book cut (next_call cut caller)

-- The next call of a caller is answered and puts in a kept value, all values of the list are kept,
-- and no answered call outside the cut finds nothing.
pub record PutsKept (reading : Reading) (book : List Page) (cut list : List ℕ)
    (caller : ℕ) : Type 0 where
  pub put : IsKeptPut reading book cut caller
  pub below : AllByRecursion (IsKept reading book cut) list
  pub never_empty : IsNeverEmpty reading book cut

-- The next call of a caller puts in some value, and the list ends with this value already, or the
-- value isn't what some take shows (`shown`; `None` where that take finds nothing).
abbrev pub PutsNeedless : Reading → List Page → List ℕ → List ℕ → Option ℕ → ℕ → Type 0
PutsNeedless reading book cut list shown caller = (value : ℕ)
    × PutsIn reading book (next_call cut caller) value
    × ((shown ≢ Some value) ⊎ EndsWith list value)

-- An item of a list after a cut: it is below a bound, and some call of the cut puts it in.
pub record IsItem (reading : Reading) (book : List Page) (cut : List ℕ) (bound v : ℕ) : Type 0 where
  pub small : v < bound
  pub put : Call
  pub puts : PutsIn reading book put v
  pub inside : Holds cut put

-- What `top` says of a list after a cut is right: the list ends with `top.last`, if that is a word,
-- and where `top.kept` is true, no answered call outside the cut takes an item of the list.
-- Besides, each item is below a bound and put in by some call of the cut.
pub record HasTop (reading : Reading) (book : List Page) (cut : List ℕ) (bound : ℕ) (top : Top)
    (list : List ℕ) : Type 0 where
  pub last : IfSome top.last (EndsWith list)
  pub items : AllByRecursion (IsItem reading book cut bound) list
  pub kept : IsTrue top.kept → AllByRecursion (IsKept reading book cut) list

-- What two lists of words, `ends` and `others`, tell of a list after a cut is right. The list ends
-- with the last word of `ends`, if there is one. A value that one call of the book alone puts in,
-- where this is a caller's next call, isn't in the list unless it is in `others`. And where `look`
-- is true: if no answered call outside the cut takes an item of `others`, none takes an item of the
-- list.
pub record StandFor (reading : Reading) (book : List Page) (cut ends others : List ℕ) (look : Bool)
    (list : List ℕ) : Type 0 where
  pub last : (v : ℕ) → EndsWith ends v → EndsWith list v
  pub lacks : (caller v : ℕ) → PutsInAlone reading book (next_call cut caller) v → Lacks others v
      → Lacks list v
  pub kept : IsTrue look → AllByRecursion (IsKept reading book cut) others
      → AllByRecursion (IsKept reading book cut) list
