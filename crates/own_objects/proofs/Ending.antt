-- A dialogue about a book ends: each step that is told leaves less to tell.
use Rattle.std.proofs.Common.{◌≡◌, ℕ, zero, suc, ◌<◌, List, [], ◌∷◌, flat_map, slice_get, Contains, Some}
use Rattle.std.proofs.lemmas.List.Elements.{Contains-append_left, Contains-append_right}
use Rattle.std.proofs.lemmas.Option.{none-some, slice_get_within, get_or_from_slice_get}
use Rattle.book_base.specs.Book.{Page, page_of}
use Rattle.told_models.specs.declared.table.Transition.{Transition}
use Rattle.told_models.specs.Table.{Table, told_step, Extends}
use Rattle.told_models.specs.Closed.{IsWordOf, number_of_calls}
use Rattle.told_models.specs.Dialogue.{IsAsk}
use Rattle.told_models.proofs.Ending as tables

-- the operation words of a book
words_of : List Page → List ℕ
words_of book = flat_map (λ (page : Page). page.operations) book

-- the word of each call is among them
word_among : (book : List Page) (i number op : ℕ)
    → slice_get (page_of book i).operations number ≡ Some op → Contains (words_of book) op
unfolding words_of
word_among [] i number op is = absurd (none-some op is)
word_among (page ∷ pages) zero number op is =
    Contains-append_left page.operations (words_of pages) op (
      number,
      slice_get_within page.operations number op is,
      get_or_from_slice_get page.operations number op op is,
    )
word_among (page ∷ pages) (suc i) number op is =
    Contains-append_right page.operations (words_of pages) op (word_among pages i number op is)

-- A number for how much of an object is left to tell in a dialogue about a book.
pub left_to_tell : List Page → Table → ℕ
left_to_tell book table = tables.left_to_tell (words_of book) (number_of_calls book) table

-- it falls with each step that is asked for and told
pub left_to_tell-falls : (book : List Page) (old new : Table) (state op : ℕ)
    → IsAsk old (IsWordOf book) (number_of_calls book) state op → Extends old new
    → (transition : Transition) → told_step new state op ≡ Some transition
    → left_to_tell book new < left_to_tell book old
unfolding left_to_tell
left_to_tell-falls book old new state op = tables.left_to_tell-less book (words_of book) old new
    state op (λ word is. word_among book is.0.caller is.0.number word is.1)
