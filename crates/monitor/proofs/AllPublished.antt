-- The one judgement of all that was published.
use Rattle.std.proofs.Common.{◌≡◌, ◌∙◌, refl, sym, ap, subst, ℕ, List, Option, None, Some, arith}
use Rattle.std.proofs.lemmas.List.{length-map, get_or-map}
use Rattle.book_base.specs.SeqSpec.{SeqSpec}
use Rattle.book_base.specs.Book.{Page}
use Rattle.book_base.specs.BookAt.{IsBookAt, book_at}
use Rattle.book_base.specs.Order.{HasLegalOrder}
use Rattle.legal_orders.proofs.BookAt.{book_at_is_the_book_at, books_at_are_one}
use Rattle.world_core.specs.Shape.{Shape}
use Rattle.world_core.specs.Local.{Local, fresh}
use Rattle.world_core.specs.Calls.{AreTogether, IsPublished, book_in}
use Rattle.world_laws.proofs.Validity.{books_are_valid, published_cuts_are_within, book_long}
use Rattle.monitor.specs.declared.witness.Witness.{Witness}
use Rattle.monitor.specs.Worlds.{published_of, published_book}
use Rattle.monitor.proofs.Judged.{witnesses_are_final}
use Rattle.monitor.specs.Published.{IsJudgedAt, IsAnswer, IsExactAnswer, PublishedRecordsAreInTheBook, AnswersAreExact}

-- all that is published is a cut of what was published
all_published : (locals : List Local) → IsPublished locals (published_of locals)
all_published locals = record {
  wide = length-map locals (λ (l : Local). l.published);
  within = λ i low. omega (arith, get_or-map (λ (l : Local). l.published) locals i fresh 0 low);
}

pub published_records_are_in_the_book : PublishedRecordsAreInTheBook
published_records_are_in_the_book s locals t =
    let all = all_published locals in (
      all.wide ∙ sym (book_long locals),
      published_cuts_are_within s locals (published_of locals) t all,
    )

-- the book at the cut of all published records is that of all published records
part_is : (s : Shape) (locals : List Local) (part : List Page) → AreTogether s locals
    → IsBookAt (book_in locals) (published_of locals) part → part ≡ published_book locals
part_is s locals part t h =
    books_at_are_one (book_in locals) (published_of locals) part (published_book locals) h
    (book_at_is_the_book_at (book_in locals) (published_of locals) (books_are_valid s locals t))

module _ (spec : SeqSpec) (s : Shape) (locals : List Local) (t : AreTogether s locals) where
  exact : (answer : Option Witness) → IsAnswer spec locals answer → IsExactAnswer spec locals answer
  exact None h = record { is = h; exact = (λ none. h, λ order. refl) }
  exact (Some w) h = record {
    is = h;
    exact =
        (λ none. absurd cc, λ order. absurd (witnesses_are_final spec s locals w t h order));
  }

  judged : (answer : Option Witness) → IsJudgedAt spec (book_in locals) (published_of locals) answer
      → IsAnswer spec locals answer
  judged None h = let (part, at, order) = h in
      subst (HasLegalOrder spec) (part_is s locals part t at) order
  judged (Some w) h =
      record {
        published =
            subst (λ (cut : List ℕ). IsPublished locals cut) (sym h.0) (all_published locals);
        book = part_is s locals w.book t h.1
            ∙ ap (λ (cut : List ℕ). book_at cut (book_in locals)) (sym h.0);
        none = h.2;
      }

pub answers_are_exact : AnswersAreExact
answers_are_exact spec s locals answer t = (
  exact spec s locals t answer,
  λ h. exact spec s locals t answer (judged spec s locals t answer h),
)
