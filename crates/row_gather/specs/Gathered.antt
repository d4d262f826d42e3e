-- The book that a caller has gathered and kept with its cut, and what the caller's next gathering
-- makes of it.
use Rattle.std.specs.Prelude.{◌≡◌, ℕ, ◌+◌, ◌⊎◌, List, [], Option, None, Some, IfSome, length, replicate}
use Rattle.book_base.specs.Cut.{IsWithin}
use Rattle.book_base.specs.Book.{Page, answered}
use Rattle.world_core.specs.Local.{Local}
use Rattle.world_core.specs.Calls.{IsGathered}
use Rattle.world_laws.specs.Gathering.{HasPeekedAll}
use Rattle.row_gather.specs.declared.gathered.Gathered.{Gathered}
use Rattle.row_gather.specs.Words.{words_of_book}

-- Where a book is kept, a caller with the local `l` has gathered it at the cut that is kept with
-- it, by peeking each of its words.
abbrev pub IsGatheredBy : Local → Option Gathered → Type 0
IsGatheredBy l gathered = IfSome gathered (λ g. IsGathered (length g.book) l g.cut g.book)

-- A kept book that is gathered by a caller with the local `l` is also gathered by a caller with a
-- local `m` that has all peeked words of `l`. So the book stays gathered while its caller peeks
-- more.
abbrev pub GatheredByStays : Type 0
GatheredByStays = (l m : Local) (gathered : Option Gathered) → HasPeekedAll l m
    → IsGatheredBy l gathered → IsGatheredBy m gathered

-- The book of n callers without a call.
abbrev pub empty_book : ℕ → List Page
empty_book n = replicate n (record { operations = []; records = [] })

-- A caller with any local has gathered the book of n callers without a call, at the cut that has
-- the count 0 for each of them.
abbrev pub EmptyIsGathered : Type 0
EmptyIsGathered = (n : ℕ) (l : Local) → IsGathered n l (replicate n 0) (empty_book n)

-- The cut has a count for each caller of the book and no others, and it holds all records of the
-- book.
pub record HoldsAll (cut : List ℕ) (book : List Page) : Type 0 where
  pub callers : length book ≡ length cut
  pub within : IsWithin (answered book) cut

-- `book` is the book with which the gathering at the cut `cut` begins. It is the kept book, where
-- the cut holds all records of that book and has one count for each of its callers. Otherwise it is
-- the book without a call, of as many callers as the cut has counts.
pub record IsBegunWith (gathered : Option Gathered) (cut : List ℕ) (book : List Page) : Type 0 where
  pub held : HoldsAll cut book
  pub kept : (g : Gathered) → gathered ≡ Some g → HoldsAll cut g.book → book ≡ g.book
  pub either : ((g : Gathered) × (gathered ≡ Some g) × (book ≡ g.book))
      ⊎ (book ≡ empty_book (length cut))

-- Where no book was kept, the counter of steps has risen from `before` to `after` by the number of
-- words of the gathered book. Where the kept book is of n callers and its cut is within that of the
-- gathered book, the counter has risen by the number of words that the gathered book has and the
-- kept one lacks.
abbrev pub TicksForNew : ℕ → Option Gathered → Gathered → ℕ → ℕ → Type 0
TicksForNew n None g before after = after ≡ before + words_of_book g.book
TicksForNew n (Some kept) g before after =
    length kept.book ≡ n → IsWithin kept.cut g.cut
    → after + words_of_book kept.book ≡ before + words_of_book g.book
