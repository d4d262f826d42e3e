use Rattle.std.proofs.Common.{◌≡◌, ℕ, ◌+◌, ◌<◌, List, [], ◌∷◌, ◌++◌, take, get_or, length, sym, ap, subst, ◌∙◌, arith}
use Rattle.std.proofs.lemmas.List.{map-append}
use Rattle.book_base.specs.Book.{Page, page_of}
use Rattle.book_base.specs.BookLayout.{page, pages}
use Rattle.book_base.proofs.PageLemmas.{page_of-pages}
use Rattle.book_base.proofs.ViewLemmas.{IsPartTo, prefix_at, part_to_none, part_to_more, part_to_all, book_at_is_valid, book_at_is_small}
use Rattle.book_base.proofs.book.Book.at.Goals as goal

pub loop-caller-init : goal.loop-caller-init
loop-caller-init c = subst (λ (part : List Page). IsPartTo c.args.self.now c.args.cut.now part 0)
    (sym (ap pages c.new-rows.ensures.items)) (part_to_none c.args.self.now c.args.cut.now)

pub loop-caller-preserved : goal.loop-caller-preserved
loop-caller-preserved c =
    let book : List Page = c.args.self.now in
    let i : ℕ = c.loop-caller.caller in
    let inside : i < length book = omega (arith, c.callers-caller-end.ensures.count) in
    let known = page_of-pages c.self.inside.rows.items book i c.index-row.result.now c.self.view_is
    inside c.index-row.ensures in
    let cut : Page → ℕ → Page = λ p n.
    record { operations = take c.held_calls.result p.operations; records = take n p.records } in
    let made : page c.in_ok-prefix.field-0 ≡ cut (page_of book i) (get_or c.args.cut.now i 0)
    = c.in_ok-prefix.ensures ∙ (ap (λ (p : Page). cut p c.get.result) (sym known)
    ∙ ap (cut (page_of book i)) c.get.ensures) in
    let pushed : pages c.push.new.self.items
    ≡ pages c.loop-caller.rows.items ++ page c.in_ok-prefix.field-0 ∷ []
    = ap pages c.in_ok-push.ensures.items
    ∙ map-append page c.loop-caller.rows.items (c.in_ok-prefix.field-0 ∷ []) in
    subst (λ (part : List Page). IsPartTo book c.args.cut.now part (i + 1)) (sym pushed)
    (part_to_more book c.args.cut.now (pages c.loop-caller.rows.items) i
    (page c.in_ok-prefix.field-0) c.loop-caller.invariant
    (prefix_at book c.args.cut.now i c.held_calls.result
    (page c.in_ok-prefix.field-0) c.held_calls.ensures.few c.held_calls.ensures.held made))

pub returns : goal.returns
returns c =
    part_to_all c.args.self.now c.args.cut.now
    (pages c.loop-caller.rows.items) c.loop-caller.caller c.callers-caller-end.ensures.valid
    (omega (arith, c.callers-caller-end.ensures.count, c.loop-caller-test.false))
    c.loop-caller.invariant

pub invariant_of-result : goal.invariant_of-result
invariant_of-result c =
    let part : List Page = pages c.loop-caller.rows.items in (
      book_at_is_valid c.args.self.now c.args.cut.now part c.callers-caller-end.ensures.valid
          (returns c),
      book_at_is_small c.args.self.now c.args.cut.now part c.callers-caller-end.ensures.valid
          c.callers-caller-end.ensures.small (returns c),
    )
