use Rattle.std.proofs.Common.{◌≡◌, ◌∷◌, [], List, ◌∙◌, ap, sym, map, subst, arith}
use Rattle.std.proofs.lemmas.List.{map-append, take_all}
use Rattle.book_base.specs.Book.{Page, IsValid, IsSmall, unanswered_page, unanswered_book}
use Rattle.book_base.specs.BookLayout.{page, pages}
use Rattle.book_base.proofs.GrowthLemmas.{IsValid-unanswered_book, IsSmall-unanswered_book, unanswered_book-more}
use Rattle.book_base.proofs.book.Book.with_calls.Goals as goal

pub loop-i-preserved : goal.loop-i-preserved
loop-i-preserved c =
    let rows = ap (map page) (c.in_ok-push.ensures.items)
    ∙ map-append page c.loop-i.rows.items (c.in_ok-unanswered.field-0 ∷ []) in
    rows ∙ unanswered_book-more (pages c.loop-i.rows.items) c.args.calls.now c.loop-i.i
    (page c.in_ok-unanswered.field-0) (omega (arith, c.n-i-end.ensures.count)) c.loop-i.invariant
    (c.in_ok-unanswered.ensures ∙ ap unanswered_page c.get.ensures)

whole : (c : goal.After-loop-i) → pages c.loop-i.rows.items ≡ unanswered_book c.args.calls.now
whole c = c.loop-i.invariant ∙ ap unanswered_book
    (take_all c.loop-i.i c.args.calls.now (omega (arith, c.n-i-end.ensures.count)))

pub invariant_of-result : goal.invariant_of-result
invariant_of-result c =
    subst (λ (book : List Page). IsValid book × IsSmall book) (sym (whole c)) (
      IsValid-unanswered_book c.args.calls.now,
      IsSmall-unanswered_book c.args.calls.now c.n-i-end.ensures.some
          c.n-i-end.ensures.few c.requires,
    )
