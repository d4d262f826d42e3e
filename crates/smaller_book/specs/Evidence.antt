-- Evidence: a part that is made of a book step by step, each step by one of the three rules. Where
-- the part has no legal order, the book has none.
use Rattle.std.specs.Prelude.{◌≡◌, ℕ, ◌⊎◌, Bool, List, [], ◌∷◌, length, None, Some}
use Rattle.book_base.specs.declared.call.Call.{Call}
use Rattle.book_base.specs.declared.call.Record.{Record}
use Rattle.book_base.specs.Cut.{Holds}
use Rattle.book_base.specs.Book.{Page, IsAnswered, record_of, IsValid}
use Rattle.book_base.specs.Order.{HasLegalOrder}
use Rattle.seq_objects.specs.declared.kind.Kind.{Kind}
use Rattle.seq_objects.specs.Objects.{kind_next, kind_spec}
use Rattle.smaller_book.specs.Part.{original, IsNamed, IsPart, KeepsAnswers}
use Rattle.smaller_book.specs.Numbers.{composed}
use Rattle.smaller_book.specs.ReadOnly.{IsReadOnly}
use Rattle.smaller_book.specs.Unseen.{IsHiddenFrom}
use Rattle.smaller_book.specs.OneKey.{LacksUnseen}
use Rattle.smaller_book.specs.Earliest.{all_numbers, IsAtSomeCut}
use Rattle.smaller_book.specs.Keys.{key_of_call, all_without, KeysMayGo, CarriesOverWithoutSome}

-- The part is the book at some cut, and each of its calls has the number that it has in the book.
pub record IsCutBack (book : List Page) (names : List (List ℕ)) (part : List Page) : Type 0 where
  pub at_some_cut : IsAtSomeCut book part
  pub named : names ≡ all_numbers part

-- The part has the calls of the book with these numbers, answered where the book has them answered,
-- and each call of the book that it lacks is read-only or unseen.
pub record LacksUnseenCalls (kind : Kind) (book : List Page) (names : List (List ℕ))
    (part : List Page) : Type 0 where
  pub wide : length names ≡ length book
  pub is_part : IsPart book names part
  pub answers : KeepsAnswers book names part
  pub unseen : LacksUnseen kind book names

-- Calls of keys may be left out of the book. The part has all calls of the book but those that are
-- about some keys, answered where the book has them answered.
pub record LacksKeys (kind : Kind) (book : List Page) (names : List (List ℕ))
    (part : List Page) : Type 0 where
  pub may_go : KeysMayGo kind book
  pub keys : ℕ → Bool
  pub named : names ≡ all_without kind keys book
  pub is_part : IsPart book names part
  pub answers : KeepsAnswers book names part

-- A step leads from a valid book to a part, by one of the three rules.
pub record IsStep (kind : Kind) (book : List Page) (names : List (List ℕ))
    (part : List Page) : Type 0 where
  pub valid : IsValid book
  pub rule : IsCutBack book names part ⊎ LacksUnseenCalls kind book names part
      ⊎ LacksKeys kind book names part

-- Steps lead from a book to a part, each with the numbers of the calls that stay in it. With no
-- step the part is the book, which is valid. Otherwise the first step leads to a book from which
-- the later steps lead to the part, and the numbers go through those of the first step.
abbrev pub AreSteps : Kind → List Page → List (List (List ℕ)) → List (List ℕ) → List Page → Type 0
AreSteps kind book [] names part = IsValid book × (part ≡ book) × (names ≡ all_numbers book)
AreSteps kind book (first ∷ later) names part =
    (mid : List Page) × (rest : List (List ℕ)) × IsStep kind book first mid
    × AreSteps kind mid later rest part × (names ≡ composed first rest)

-- A part is evidence of a book: some steps lead from the book to the part, whose calls have these
-- numbers in the book.
pub record IsEvidence (kind : Kind) (book : List Page) (names : List (List ℕ))
    (part : List Page) : Type 0 where
  pub steps : List (List (List ℕ))
  pub lead : AreSteps kind book steps names part

-- Each part that is evidence of a book is the part of the book that has the calls with these
-- numbers.
abbrev pub EvidenceIsAPart : Type 0
EvidenceIsAPart = (kind : Kind) (book : List Page) (names : List (List ℕ)) (part : List Page)
    → IsEvidence kind book names part → IsPart book names part

-- For each part that is evidence of a book there are keys such that, from whichever well-formed
-- list the book has a legal order, of a set one in which no item stands twice, the part has one from
-- the list without the items of these keys.
abbrev pub EvidenceCarriesOver : Type 0
EvidenceCarriesOver = (kind : Kind) (book : List Page) (names : List (List ℕ)) (part : List Page)
    → IsEvidence kind book names part → CarriesOverWithoutSome kind book part

-- Where the book has a legal order from the first list of the kind's object, each part that is
-- evidence of the book has one from there too, since no object begins with an item that has a key.
abbrev pub EvidenceTells : Type 0
EvidenceTells = (kind : Kind) (book : List Page) (names : List (List ℕ)) (part : List Page)
    → IsEvidence kind book names part → HasLegalOrder (kind_spec kind) book
    → HasLegalOrder (kind_spec kind) part

-- A part that is evidence of a book lacks no call that matters to an answer which it keeps: take a
-- call of the part that is answered there, and the view that this call has in the book. Each call
-- that this view holds, and that is neither read-only nor about a key, is in the part, unless it
-- sets a list and the answered call can't tell.
abbrev pub EvidenceKeepsTheRest : Type 0
EvidenceKeepsTheRest = (kind : Kind) (book : List Page) (names : List (List ℕ)) (part : List Page)
    → IsEvidence kind book names part → (call other : Call) (r : Record) → IsAnswered part call
    → record_of book (original names call) ≡ Some r → Holds r.view other
    → ¬ IsReadOnly (kind_next kind) book other
    → ¬ IsHiddenFrom (kind_next kind) book (original names call) other
    → key_of_call kind book other ≡ None → IsNamed names other
