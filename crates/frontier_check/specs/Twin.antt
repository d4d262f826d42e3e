-- Twins among choices: of two calls with one operation the one is kept that serves for the other.
use Rattle.std.specs.Prelude.{◌≡◌, ℕ, ◌<◌, ◌⊎◌, List, length, slice_index_or}
use Rattle.std.specs.List.{insert, remove}
use Rattle.book_base.specs.declared.call.Call.{Call}
use Rattle.book_base.specs.declared.call.Place.{Place}
use Rattle.book_base.specs.Book.{Page, IsCall, IsAnswered, operation_of}
use Rattle.book_base.specs.Order.{call_at}
use Rattle.book_base.specs.Pruning.{HasOneOpen, ViewsAreWithin}
use Rattle.frontier_check.specs.declared.choice.Choice.{Choice}

-- Call `a` may serve for call `b` in a book: they have the same operation, and either `a` is
-- answered, with a view within that of `b` where `b` is answered too, or neither of them is
-- answered.
pub record ServesFor (book : List Page) (a b : Call) : Type 0 where
  pub same : operation_of book a ≡ operation_of book b
  pub sooner : (IsAnswered book a × ViewsAreWithin book a b)
      ⊎ ((IsAnswered book a → ⊥) × (IsAnswered book b → ⊥))

-- The call at a place is a call of the book, and has the operation of the call at another place.
abbrev pub HasOperationOf : List Page → Place → Place → Type 0
HasOperationOf book other place = IsCall book (call_at place)
    × (operation_of book (call_at place) ≡ operation_of book (call_at other))

-- The place `kept` is one of two places, and its call serves for the call at the other one.
abbrev pub IsKeptOf : List Page → Place → Place → Place → Type 0
IsKeptOf book a b kept = ((kept ≡ a) × ServesFor book (call_at a) (call_at b))
    ⊎ ((kept ≡ b) × ServesFor book (call_at b) (call_at a))

-- The choices `items` are the choices `old` with the choice `new` inserted at some index.
abbrev pub IsAdded : List Choice → Choice → List Choice → Type 0
IsAdded old new items = (i : ℕ) × (items ≡ insert old i new)

-- In a book with one open, the choices `items` are the choices `old` with one of them removed and a
-- kept one inserted. The place of the kept choice is that of the removed choice or that of `new`,
-- and its call serves for the call at the other of these two places.
pub record IsExchanged (book : List Page) (old : List Choice) (new : Choice)
    (items : List Choice) : Type 0 where
  pub one_open : HasOneOpen book
  pub at : ℕ
  pub inside : at < length old
  pub twin : Choice
  pub there : twin ≡ slice_index_or old at twin
  pub kept : Choice
  pub serves : IsKeptOf book twin.place new.place kept.place
  pub exchanged : IsAdded (remove old at) kept items
