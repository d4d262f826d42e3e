-- Legal prefixes: what an order of a book's calls may begin with.
use Rattle.std.specs.Prelude.{◌≡◌, ℕ, List, [], ◌∷◌, ◌++◌, length, replicate}
use Rattle.book_base.specs.declared.call.Place.{Place}
use Rattle.book_base.specs.Book.{Page}
use Rattle.book_base.specs.Order.{IsLegalOrder}
use Rattle.book_base.specs.Next.{raised, list_after, MayStandNext}
use Rattle.seq_objects.specs.declared.kind.Kind.{Kind}
use Rattle.seq_objects.specs.Objects.{kind_init, kind_next, kind_spec}

-- Places lead from a cut and a list of the object to another cut and list: each of them may stand
-- next after those before it.
abbrev pub Lead : List Page → (List ℕ → ℕ → List ℕ × ℕ) → List ℕ → List ℕ → List Place → List ℕ
    → List ℕ → Type 0
Lead book next cut list [] to_cut to_list = (cut ≡ to_cut) × (list ≡ to_list)
Lead book next cut list (place ∷ rest) to_cut to_list =
    MayStandNext book next cut list place
    × Lead book next (raised cut place.caller) (list_after book next list place) rest to_cut to_list

-- the cut that holds no call of a book
abbrev pub no_calls : List Page → List ℕ
no_calls book = replicate (length book) 0

-- Places are a legal prefix of a book of an object of this kind, and lead to this cut and this list
-- of the object: each place may stand next after those before it, from the cut without calls and the
-- object's first list on.
abbrev pub IsLegalPrefix : Kind → List Page → List Place → List ℕ → List ℕ → Type 0
IsLegalPrefix kind book places cut list =
    Lead book (kind_next kind) (no_calls book) (kind_init kind) places cut list

-- The places with which a legal order of a book begins are a legal prefix of the book.
abbrev pub OrdersBeginLegally : Type 0
OrdersBeginLegally = (kind : Kind) (book : List Page) (places rest : List Place)
    → IsLegalOrder (kind_spec kind) book (places ++ rest)
    → (cut list : List ℕ) × IsLegalPrefix kind book places cut list
