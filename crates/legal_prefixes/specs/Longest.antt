-- The longest legal prefixes of a book without a legal order, and the calls that may come next after
-- each of them.
use Rattle.std.specs.Prelude.{◌≡◌, ◌≢◌, ℕ, ◌+◌, ◌<◌, ◌≤◌, List, length, Some, IsSomeAnd, slice_get, unwrap_or}
use Rattle.book_base.specs.declared.call.Call.{Call}
use Rattle.book_base.specs.declared.call.Place.{Place}
use Rattle.book_base.specs.Book.{Page, operation_of, record_of}
use Rattle.book_base.specs.Order.{HasLegalOrder}
use Rattle.book_base.specs.Next.{MayComeNext}
use Rattle.seq_objects.specs.declared.kind.Kind.{Kind}
use Rattle.seq_objects.specs.Objects.{kind_next, kind_spec}
use Rattle.legal_prefixes.specs.declared.TheConstants.{LIST_ROOM}
use Rattle.legal_prefixes.specs.declared.prefix.LegalPrefix.{LegalPrefix}
use Rattle.legal_prefixes.specs.declared.blocked.Blocked.{Blocked}
use Rattle.legal_prefixes.specs.declared.search.LongestPrefixes.{LongestPrefixes}
use Rattle.legal_prefixes.specs.declared.search.LongestPrefixes.TheVariants.{Longest, Whole, Many}
use Rattle.legal_prefixes.specs.Prefixes.{IsLegalPrefix}
use Rattle.legal_prefixes.specs.Layers.{IsListed, AreApart}

-- no legal prefix of a book has more than `size` places
abbrev pub NoneLonger : Kind → List Page → ℕ → Type 0
NoneLonger kind book size = (places : List Place) (cut list : List ℕ)
    → IsLegalPrefix kind book places cut list → length places ≤ size

-- A book has no legal order, and a legal prefix of it is a longest one: none has more places. Its cut
-- has a count for each caller, and its list fits a state of `LIST_ROOM` words with one more word.
pub record IsLongest (kind : Kind) (book : List Page) (prefix : LegalPrefix) : Type 0 where
  pub leads : IsLegalPrefix kind book prefix.places.items prefix.cut prefix.words.items
  pub longest : NoneLonger kind book (length prefix.places.items)
  pub illegal : ¬ (HasLegalOrder (kind_spec kind) book)
  pub wide : length prefix.cut ≡ length book
  pub short : length prefix.words.items + 1 ≤ LIST_ROOM

-- Some prefixes are the longest legal ones of a book without a legal order: there is one, each is a
-- longest one, no two of them lead to the same cut and list, and each longest legal prefix of the book
-- leads to the cut and the list of one of them. Prefixes that lead to the same cut and list hold the
-- same calls in other orders, and the same calls are blocked after them.
pub record AreLongest (kind : Kind) (book : List Page) (prefixes : List LegalPrefix) : Type 0 where
  pub some : 0 < length prefixes
  pub each : (k : ℕ) (prefix : LegalPrefix) → slice_get prefixes k ≡ Some prefix
      → IsLongest kind book prefix
  pub apart : AreApart prefixes
  pub whole : (places : List Place) (cut list : List ℕ)
      → IsLegalPrefix kind book places cut list → NoneLonger kind book (length places)
      → IsListed prefixes cut list

-- A call is blocked at a cut and a list: no call outside the cut precedes it, and there the object
-- gives it another reply than the recorded one.
pub record IsBlocked (kind : Kind) (book : List Page) (cut list : List ℕ)
    (blocked : Blocked) : Type 0 where
  pub may_come : MayComeNext book cut blocked.call
  pub recorded : IsSomeAnd (record_of book blocked.call) (λ r. r.reply ≡ blocked.recorded)
  pub given : (kind_next kind list (unwrap_or (operation_of book blocked.call) 0)).1 ≡ blocked.given
  pub differs : blocked.given ≢ blocked.recorded

-- each of some calls is blocked at a cut and a list
abbrev pub AreBlocked : Kind → List Page → List ℕ → List ℕ → List Blocked → Type 0
AreBlocked kind book cut list all = (k : ℕ) (blocked : Blocked) → slice_get all k ≡ Some blocked
    → IsBlocked kind book cut list blocked

-- one of some blocked calls is this call
abbrev pub IsOneOf : List Blocked → Call → Type 0
IsOneOf all call = (k : ℕ) × (blocked : Blocked) × (slice_get all k ≡ Some blocked)
    × (blocked.call ≡ call)

-- The blocked calls at a cut and a list are all calls that may come next there.
pub record AreAllBlocked (kind : Kind) (book : List Page) (cut list : List ℕ)
    (all : List Blocked) : Type 0 where
  pub sound : AreBlocked kind book cut list all
  pub complete : (call : Call) → MayComeNext book cut call → IsOneOf all call

-- The blocked calls `new` are those of `old` and the next call of a caller, where this may come next.
pub record AddsBlocked (kind : Kind) (book : List Page) (cut list : List ℕ) (caller : ℕ)
    (old new : List Blocked) : Type 0 where
  pub sound : AreBlocked kind book cut list old → AreBlocked kind book cut list new
  pub kept : (call : Call) → IsOneOf old call → IsOneOf new call
  pub added : (call : Call) → call.caller ≡ caller → MayComeNext book cut call → IsOneOf new call

-- An answer of the search is right: with `Longest` the book has no legal order, and the prefixes are
-- the longest legal ones; with `Whole` the book has a legal order; `Many` says nothing.
abbrev pub IsAnswer : Kind → List Page → LongestPrefixes → Type 0
IsAnswer kind book (Longest prefixes) = AreLongest kind book prefixes.items
IsAnswer kind book Whole = HasLegalOrder (kind_spec kind) book
IsAnswer kind book Many = Unit {0}
