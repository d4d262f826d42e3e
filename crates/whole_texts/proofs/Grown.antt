-- What holds of a kept order's prefix in a book still holds in a book to which an answer was added.
use Rattle.std.proofs.Common.{Option, Some, None, ◌∙◌, ℕ, ◌<◌, ◌++◌, List, [], ◌∷◌, length, set, slice_get, inl, inr, sym, ap}
use Rattle.std.proofs.lemmas.Bool.{cases_eq}
use Rattle.std.proofs.lemmas.List.{length-set}
use Rattle.book_base.specs.declared.call.Record.{Record}
use Rattle.book_base.specs.SeqSpec.{SeqSpec}
use Rattle.book_base.specs.Book.{Page, page_of, with_answer}
use Rattle.book_base.proofs.GrowthLemmas.{page_of-set_same, page_of-set_other, record_of-with_answer_old}
use Rattle.std.specs.Prelude.{IfSome}
use Rattle.frontier_check.specs.declared.kept_order.KeptOrder.{KeptOrder}
use Rattle.frontier_check.specs.Standing.{HasGrown, IsStandingFor}
use Rattle.frontier_check.proofs.Resuming.{standing_stays}

pub grown_by_answer : (book : List Page) (i : ℕ) (r : Record) → i < length book
    → HasGrown book (with_answer book i r)
grown_by_answer book i r h =
    let p : Page = record (page_of book i) { records = (page_of book i).records ++ r ∷ [] } in
    record {
      callers = length-set book i p;
      operations = λ call op e. elim (cases_eq call.caller i) [
        | inl same ↦
            ap (λ (k : ℕ). slice_get (page_of (set book i p) k).operations call.number) same
            ∙ (ap (λ (q : Page). slice_get q.operations call.number) (page_of-set_same book i p h)
            ∙ (ap (λ (k : ℕ). slice_get (page_of book k).operations call.number) (sym same) ∙ e))
        | inr other ↦ ap (λ (q : Page). slice_get q.operations call.number)
            (page_of-set_other book i call.caller p other) ∙ e
      ];
      records = λ call s e. record_of-with_answer_old book i r call s h e;
    }

pub kept_by_growth : (spec : SeqSpec) (a b : List Page) (kept : Option KeptOrder) → HasGrown a b
    → IfSome kept (IsStandingFor spec a) → IfSome kept (IsStandingFor spec b)
kept_by_growth spec a b None grown h = tt
kept_by_growth spec a b (Some s) grown h = standing_stays spec a b s grown h
