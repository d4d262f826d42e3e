-- Books of one key of a set or a map, and the lists that their calls keep.
use Rattle.std.specs.Prelude.{◌≡◌, ℕ, ◌⊎◌, Bool, true, false, List, [], ◌∷◌, Some, IsTrue}
use Rattle.book_base.specs.declared.call.Call.{Call}
use Rattle.book_base.specs.SeqSpec.{spec_from}
use Rattle.book_base.specs.Book.{Page, IsCall}
use Rattle.book_base.specs.Order.{HasLegalOrder}
use Rattle.seq_objects.specs.declared.kind.Kind.{Kind}
use Rattle.seq_objects.specs.declared.kind.Kind.TheVariants as kinds
use Rattle.seq_objects.specs.Objects.{kind_next}
use Rattle.smaller_book.specs.Part.{IsPart}
use Rattle.smaller_book.specs.Unseen.{LacksUnseenAmong}
use Rattle.smaller_book.specs.Keys.{key_of_call, key_of_item}

-- Whether a kind is that of sets or of maps. The replies of their operations that change a list
-- tell of the list before.
abbrev pub is_set_or_map : Kind → Bool
is_set_or_map kinds.IntSet = true
is_set_or_map kinds.Map = true
is_set_or_map kinds.Register = false
is_set_or_map kinds.CasRegister = false
is_set_or_map kinds.Queue = false
is_set_or_map kinds.Stack = false
is_set_or_map kinds.Pqueue = false
is_set_or_map kinds.Counter = false

-- A book of a set or a map has calls, and all of them are about this key.
pub record IsOfOneKey (kind : Kind) (book : List Page) (key : ℕ) : Type 0 where
  pub keyed : IsTrue (is_set_or_map kind)
  pub some : (call : Call) × IsCall book call
  pub all : (call : Call) → IsCall book call → key_of_call kind book call ≡ Some key

-- A list has at most one item, and this one has the key.
abbrev pub HoldsAtMost : Kind → ℕ → List ℕ → Type 0
HoldsAtMost kind key list =
    (list ≡ []) ⊎ ((item : ℕ) × (list ≡ item ∷ []) × (key_of_item kind item ≡ Some key))

-- In a book of one key of a set or a map a list has at most one item, of this key. Where the book
-- isn't such a one, this says nothing.
abbrev pub HoldsOneKey : Kind → List Page → List ℕ → Type 0
HoldsOneKey kind book list = (key : ℕ) → IsOfOneKey kind book key → HoldsAtMost kind key list

-- Each call of the book that isn't named by these numbers is read-only, or no named call can tell
-- that it sets a list: whatever the list was before, or in a book of one key of a set or a map,
-- whatever list that has at most this key.
abbrev pub LacksUnseen : Kind → List Page → List (List ℕ) → Type 0
LacksUnseen kind book names =
    LacksUnseenAmong (kind_next kind) book (HoldsOneKey kind book) names

-- Where a part lacks only read-only and unseen calls of the book, a legal order of the book gives
-- one of the part, whichever list the object begins with; in a book of one key of a set or a map,
-- whichever list that has at most this key.
abbrev pub HasOneWithoutUnseenOfKind : Type 0
HasOneWithoutUnseenOfKind =
    (kind : Kind) (book : List Page) (names : List (List ℕ)) (part : List Page) (list : List ℕ)
    → IsPart book names part → LacksUnseen kind book names → HoldsOneKey kind book list
    → HasLegalOrder (spec_from list (kind_next kind)) book
    → HasLegalOrder (spec_from list (kind_next kind)) part
