use Rattle.std.proofs.Common.{◌≡◌, ℕ, List, [], ◌∷◌, ◌++◌, take, sym, ap, subst, ◌∙◌, arith}
use Rattle.std.proofs.lemmas.List.{map-append, take_all}
use Rattle.list_laws.proofs.Maps.{map-take_more}
use Rattle.book_base.specs.declared.call.Record.{Record}
use Rattle.book_base.specs.declared.book.CallerPage.{CallerPage}
use Rattle.book_base.specs.Book.{Page, IsValid, IsSmall}
use Rattle.book_base.specs.BookLayout.{page, pages}
use Rattle.book_base.proofs.book.Book.copy.Goals as goal

pub loop-row-preserved : goal.loop-row-preserved
loop-row-preserved c =
    let items : List CallerPage = c.deref-row-items.result.now in
    let row : CallerPage = c.row-item.result in
    let made : List ℕ → List Record → Page = λ ops rs. record { operations = ops; records = rs } in
    let equal : page c.in_ok-prefix.field-0 ≡ page row
    = c.in_ok-prefix.ensures
    ∙ (ap (λ (ops : List ℕ). made ops (take c.len-in-loop-row.result row.records.items))
    (take_all c.len.result row.operations.items (omega (arith, c.len.ensures)))
    ∙ ap (made row.operations.items) (take_all c.len-in-loop-row.result row.records.items
    (omega (arith, c.len-in-loop-row.ensures)))) in
    let pushed : pages c.push.new.self.items
    ≡ pages c.loop-row.rows.items ++ page c.in_ok-prefix.field-0 ∷ []
    = ap pages c.in_ok-push.ensures.items
    ∙ map-append page c.loop-row.rows.items (c.in_ok-prefix.field-0 ∷ []) in
    pushed
    ∙ (ap (λ (b : List Page). b ++ page c.in_ok-prefix.field-0 ∷ []) c.loop-row.invariant
    ∙ (ap (λ (p : Page). pages (take c.loop-row.row-index items) ++ p ∷ [])
    (equal ∙ ap page c.row-item.is)
    ∙ map-take_more page items c.loop-row.row-index row c.loop-row-test.true))

whole : (c : goal.After-loop-row) → pages c.loop-row.rows.items ≡ c.args.self.now
whole c =
    c.loop-row.invariant
    ∙ (ap pages (take_all c.loop-row.row-index c.deref-row-items.result.now c.loop-row-test.false
    ∙ c.deref-row-items.ensures.value) ∙ c.self.view_is)

pub invariant_of-result : goal.invariant_of-result
invariant_of-result c = subst (λ (book : List Page). IsValid book × IsSmall book)
    (c.self.view_is ∙ sym (whole c)) c.self.invariant

pub returns : goal.returns
returns c = whole c
