-- Layers of the search: all cuts and lists to which legal prefixes of one length lead.
use Rattle.std.specs.Prelude.{◌≡◌, ℕ, ◌+◌, ◌<◌, ◌≤◌, List, length, Some, slice_get}
use Rattle.book_base.specs.declared.call.Place.{Place}
use Rattle.book_base.specs.Book.{Page}
use Rattle.book_base.specs.Next.{raised, list_after, HoldsAnswered, MayStandNext}
use Rattle.seq_objects.specs.declared.kind.Kind.{Kind}
use Rattle.seq_objects.specs.Objects.{kind_next}
use Rattle.legal_prefixes.specs.declared.prefix.LegalPrefix.{LegalPrefix}
use Rattle.legal_prefixes.specs.Prefixes.{Lead, IsLegalPrefix}

-- A prefix is right for a book: its places are a legal prefix that leads to its cut and its words,
-- and there are `size` of them. The cut has a count for each caller of the book, and there are at
-- most `size` words and one.
pub record IsPrefixOf (kind : Kind) (book : List Page) (size : ℕ) (prefix : LegalPrefix) : Type 0 where
  pub leads : IsLegalPrefix kind book prefix.places.items prefix.cut prefix.words.items
  pub count : length prefix.places.items ≡ size
  pub wide : length prefix.cut ≡ length book
  pub short : length prefix.words.items ≤ size + 1

-- each of some prefixes is right for a book, with `count` places
abbrev pub ArePrefixesOf : Kind → List Page → ℕ → List LegalPrefix → Type 0
ArePrefixesOf kind book count prefixes = (k : ℕ) (prefix : LegalPrefix)
    → slice_get prefixes k ≡ Some prefix → IsPrefixOf kind book count prefix

-- one of some prefixes leads to this cut and this list
abbrev pub IsListed : List LegalPrefix → List ℕ → List ℕ → Type 0
IsListed prefixes cut list = (k : ℕ) × (prefix : LegalPrefix)
    × (slice_get prefixes k ≡ Some prefix) × (prefix.cut ≡ cut) × (prefix.words.items ≡ list)

-- No two of some prefixes lead to the same cut and the same list.
abbrev pub AreApart : List LegalPrefix → Type 0
AreApart prefixes = (j k : ℕ) (one other : LegalPrefix)
    → slice_get prefixes j ≡ Some one → slice_get prefixes k ≡ Some other
    → one.cut ≡ other.cut → one.words.items ≡ other.words.items → j ≡ k

-- The prefixes `new` list what `old` lists, and what comes of a prefix by the next call of a caller,
-- where this may stand next.
pub record AddsCall (kind : Kind) (book : List Page) (prefix : LegalPrefix) (caller : ℕ)
    (old new : List LegalPrefix) : Type 0 where
  pub kept : (cut list : List ℕ) → IsListed old cut list → IsListed new cut list
  pub added : (place : Place) → place.caller ≡ caller
      → MayStandNext book (kind_next kind) prefix.cut prefix.words.items place
      → IsListed new (raised prefix.cut place.caller)
      (list_after book (kind_next kind) prefix.words.items place)

-- The prefixes `new` list what `old` lists, and whatever comes of a prefix by the next call of a
-- caller whose number is below `below`.
pub record AddsNext (kind : Kind) (book : List Page) (prefix : LegalPrefix) (below : ℕ)
    (old new : List LegalPrefix) : Type 0 where
  pub kept : (cut list : List ℕ) → IsListed old cut list → IsListed new cut list
  pub added : (place : Place) → place.caller < below
      → MayStandNext book (kind_next kind) prefix.cut prefix.words.items place
      → IsListed new (raised prefix.cut place.caller)
      (list_after book (kind_next kind) prefix.words.items place)

-- Some prefixes list whatever comes of the first `below` of other ones by one more call.
abbrev pub ListNext : Kind → List Page → List LegalPrefix → ℕ → List LegalPrefix → Type 0
ListNext kind book layer below next = (k : ℕ) (prefix : LegalPrefix) (place : Place)
    → k < below → slice_get layer k ≡ Some prefix
    → MayStandNext book (kind_next kind) prefix.cut prefix.words.items place
    → IsListed next (raised prefix.cut place.caller)
    (list_after book (kind_next kind) prefix.words.items place)

-- A legal prefix goes through one of some prefixes of `size` places: the rest of its places lead
-- from there to where it leads.
pub record GoesThrough (kind : Kind) (book : List Page) (layer : List LegalPrefix) (size : ℕ)
    (places : List Place) (cut list : List ℕ) : Type 0 where
  pub index : ℕ
  pub prefix : LegalPrefix
  pub has : slice_get layer index ≡ Some prefix
  pub rest : List Place
  pub leads : Lead book (kind_next kind) prefix.cut prefix.words.items rest cut list
  pub count : length places ≡ size + length rest

-- Some prefixes are the layer of `count` places: each is right for the book, no two lead to the same
-- cut and list, each legal prefix of at least so many places goes through one of them, and no legal
-- prefix of less places holds all answered calls.
pub record IsLayer (kind : Kind) (book : List Page) (count : ℕ) (layer : List LegalPrefix) : Type 0 where
  pub right : ArePrefixesOf kind book count layer
  pub apart : AreApart layer
  pub through : (places : List Place) (cut list : List ℕ)
      → IsLegalPrefix kind book places cut list → count ≤ length places
      → GoesThrough kind book layer count places cut list
  pub unfinished : (places : List Place) (cut list : List ℕ)
      → IsLegalPrefix kind book places cut list → length places < count
      → HoldsAnswered book cut → ⊥
