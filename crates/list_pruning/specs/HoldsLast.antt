-- Registers, by the value that they hold: a put writes its value, and a take reads it without
-- removing it.
use Rattle.std.specs.Prelude.{◌≡◌, ◌≢◌, ℕ, ◌≤◌, ◌⊎◌, List, Some, slice_index}
use Rattle.book_base.specs.declared.call.Call.{Call}
use Rattle.book_base.specs.Book.{Page, IsAnswered}
use Rattle.book_base.specs.Next.{next_call}
use Rattle.legal_orders.specs.Container.{Puts, Takes, Reading}
use Rattle.legal_orders.specs.Calls.{PutsIn, TakesOut}

-- An object that holds the value written last. A read shows this value; an operation that is no
-- read has the same reply at each list.
pub record HoldsLast (reading : Reading) (held : List ℕ → ℕ)
    (next : List ℕ → ℕ → List ℕ × ℕ) : Type 0 where
  pub write : (list : List ℕ) (op v : ℕ) → reading.deed op ≡ Puts v → held (next list op).0 ≡ v
  pub keep : (list : List ℕ) (op : ℕ) → ((v : ℕ) → reading.deed op ≢ Puts v)
      → held (next list op).0 ≡ held list
  pub shows : (list : List ℕ) (op : ℕ) → reading.deed op ≡ Takes
      → reading.shown (next list op).1 ≡ Some (held list)
  pub alike : (one other : List ℕ) (op : ℕ) → (reading.deed op ≡ Takes → held one ≡ held other)
      → (next one op).1 ≡ (next other op).1

-- a call outside a cut is answered and reads the value `v`
abbrev pub ReadsOutside : Reading → List Page → List ℕ → ℕ → Call → Type 0
ReadsOutside reading book cut v call = TakesOut reading book call v
    × (slice_index cut call.caller ≤ call.number)

-- a call outside a cut writes the value `v`
abbrev pub WritesOutside : Reading → List Page → List ℕ → ℕ → Call → Type 0
WritesOutside reading book cut v call = PutsIn reading book call v
    × (slice_index cut call.caller ≤ call.number)

-- some answered call outside a cut reads the value `v`
abbrev pub IsRead : Reading → List Page → List ℕ → ℕ → Type 0
IsRead reading book cut v = (call : Call) × ReadsOutside reading book cut v call

-- some call outside a cut writes the value `v`
abbrev pub IsWritten : Reading → List Page → List ℕ → ℕ → Type 0
IsWritten reading book cut v = (call : Call) × WritesOutside reading book cut v call

-- A held value is read by an answered call outside a cut, and written by no call outside it, so
-- that no other value may be written over it there.
abbrev pub IsIrreplaceable : Reading → List Page → List ℕ → ℕ → Type 0
IsIrreplaceable reading book cut held = IsRead reading book cut held
    × (IsWritten reading book cut held → ⊥)

-- a call writes a value that no answered call outside a cut reads
abbrev pub IsUnreadWrite : Reading → List Page → List ℕ → Call → Type 0
IsUnreadWrite reading book cut call = (value : ℕ) × PutsIn reading book call value
    × (IsRead reading book cut value → ⊥)

-- a call writes another value than this one
abbrev pub WritesAnother : Reading → List Page → Call → ℕ → Type 0
WritesAnother reading book call held = (value : ℕ) × PutsIn reading book call value × (value ≢ held)

-- The next call of a caller is answered and writes a value that no answered call outside the cut
-- reads, and no answered call outside the cut reads the value held.
pub record WritesUnread (reading : Reading) (book : List Page) (cut : List ℕ)
    (held caller : ℕ) : Type 0 where
  pub answered : IsAnswered book (next_call cut caller)
  pub write : IsUnreadWrite reading book cut (next_call cut caller)
  pub lost : IsRead reading book cut held → ⊥

-- The next call of a caller needn't be tried: it writes another value over the one held, which
-- calls outside the cut read and none writes, or it is unanswered and writes a value that no
-- answered call outside the cut reads.
abbrev pub IsNeedless : Reading → List Page → List ℕ → ℕ → ℕ → Type 0
IsNeedless reading book cut held caller =
    (IsIrreplaceable reading book cut held × WritesAnother reading book (next_call cut caller) held)
    ⊎ ((IsAnswered book (next_call cut caller) → ⊥)
    × IsUnreadWrite reading book cut (next_call cut caller))
