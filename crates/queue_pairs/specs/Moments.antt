-- Moments: the views of a book are comparable, so that the number of calls that a view counts
-- identifies it.
use Rattle.std.specs.Prelude.{◌≡◌, ℕ, ◌<◌, ◌≤◌, ◌↔◌, List, [], ◌∷◌, Some, slice_get, sum}
use Rattle.book_base.specs.declared.call.Call.{Call}
use Rattle.book_base.specs.declared.call.Record.{Record}
use Rattle.book_base.specs.Cut.{Holds}
use Rattle.book_base.specs.Book.{Page, IsValid, record_of, Precedes}
use Rattle.book_base.specs.Pruning.{HasOneOpen}

-- The moment of a record: how many calls its view counts.
abbrev pub moment_of : Record → ℕ
moment_of r = sum r.view

-- Some view that holds a call has this moment, or an earlier one.
abbrev pub IsHeldBy : List Page → Call → ℕ → Type 0
IsHeldBy book call m = (other : Call) × (s : Record) × (record_of book other ≡ Some s)
    × Holds s.view call × (moment_of s ≤ m)

-- A call may take effect at a moment: some view up to this moment holds it, and, where it is
-- answered, the moment is no later than that of its own view.
pub record MayTakeEffect (book : List Page) (call : Call) (m : ℕ) : Type 0 where
  pub first : IsHeldBy book call m
  pub last : (r : Record) → record_of book call ≡ Some r → m ≤ moment_of r

-- Calls may take effect one after another, from a moment on: each has a moment, and the moments
-- don't fall.
abbrev pub HaveMoments : List Page → ℕ → List Call → Type 0
HaveMoments book m [] = Unit {0}
HaveMoments book m (call ∷ calls) = (n : ℕ) × (m ≤ n) × MayTakeEffect book call n
    × HaveMoments book n calls

-- Calls keep precedence in a list: each stands before those of them that it precedes.
abbrev pub KeepPrecedence : List Page → List Call → Type 0
KeepPrecedence book calls = (j k : ℕ) (a b : Call) → slice_get calls j ≡ Some a
    → slice_get calls k ≡ Some b → Precedes book a b → j < k

-- some view holds each of the calls
abbrev pub AreHeld : List Page → List Call → Type 0
AreHeld book calls = (k : ℕ) (call : Call) → slice_get calls k ≡ Some call → (m : ℕ)
    × IsHeldBy book call m

-- In a valid book, an answered call precedes exactly those calls that no view holds up to the
-- moment of its own view.
abbrev pub PrecedesByMoments : Type 0
PrecedesByMoments = (book : List Page) (a b : Call) (r : Record) → IsValid book
    → record_of book a ≡ Some r
    → Precedes book a b ↔ (IsHeldBy book b (moment_of r) → ⊥)

-- In a valid book with one open, calls that views hold keep precedence exactly where they may take
-- effect one after another.
abbrev pub MomentsKeepPrecedence : Type 0
MomentsKeepPrecedence = (book : List Page) (calls : List Call) → IsValid book → HasOneOpen book
    → AreHeld book calls
    → KeepPrecedence book calls ↔ HaveMoments book 0 calls
