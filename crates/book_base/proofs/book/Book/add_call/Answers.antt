use Rattle.std.proofs.Common.{◌≡◌, ℕ, ◌<◌, ◌∙◌, List, length, refl, sym, ap, subst, set, arith}
use Rattle.std.specs.Prelude.{⊤}
use Rattle.std.proofs.lemmas.Result.{MatchResult-from_err}
use Rattle.book_base.specs.declared.TheConstants.{MAX_CALLS}
use Rattle.book_base.specs.Book.{Page, IsValid, IsSmall, with_call, calls_of}
use Rattle.book_base.specs.BookLayout.{pages}
use Rattle.book_base.proofs.PageLemmas.{page_of-pages, pages-set_same, pages-with_call}
use Rattle.book_base.proofs.GrowthLemmas.{IsValid-with_call, IsSmall-with_call}
use Rattle.book_base.proofs.book.Book.add_call.Goals as goal

unchanged : (c : goal.After-from_residual) → pages (set c.self.inside.rows.items c.args.caller
    (record { operations = c.push.new.self; records = c.index_mut.result.now.records }))
    ≡ c.args.self.now
unchanged c =
    pages-set_same c.self.inside.rows.items c.args.self.now c.args.caller c.index_mut.result.now
    (record { operations = c.push.new.self; records = c.index_mut.result.now.records })
    c.self.view_is c.index_mut.ensures.value
    (ap
    (λ (ops : List ℕ). record { operations = ops; records = c.index_mut.result.now.records.items })
    c.in_err-push.ensures.items)

pub invariant_of-self-in_err-push : goal.invariant_of-self-in_err-push
invariant_of-self-in_err-push c = subst (λ (book : List Page). IsValid book × IsSmall book)
    (c.self.view_is ∙ sym (unchanged c)) c.self.invariant

pub returns-in_err-push-clause-err : goal.returns-in_err-push-clause-err
returns-in_err-push-clause-err c = MatchResult-from_err c.from_residual.result
    (λ _. ⊤) _ c.from_residual.ensures.0 (λ _. unchanged c)

longer : (c : goal.In_ok-push) → pages (set c.self.inside.rows.items c.args.caller
    (record { operations = c.push.new.self; records = c.index_mut.result.now.records }))
    ≡ with_call c.args.self.now c.args.caller c.args.op
longer c =
    pages-with_call c.self.inside.rows.items c.args.self.now c.args.caller c.args.op
    c.index_mut.result.now
    (record { operations = c.push.new.self; records = c.index_mut.result.now.records })
    c.self.view_is c.requires c.index_mut.ensures.value c.in_ok-push.ensures.items refl

pub invariant_of-self-2 : goal.invariant_of-self-2
invariant_of-self-2 c =
    let before =
    subst (λ (book : List Page). IsValid book × IsSmall book) c.self.view_is c.self.invariant in
    let known = page_of-pages c.self.inside.rows.items c.args.self.now c.args.caller
    c.index_mut.result.now c.self.view_is c.requires c.index_mut.ensures.value in
    let room : calls_of c.args.self.now c.args.caller < MAX_CALLS = omega (
      arith,
      ap (λ (p : Page). length p.operations) known,
      c.len.ensures,
      c.if-len-ge-MAX_CALLS.false,
    ) in
    subst (λ (book : List Page). IsValid book × IsSmall book) (sym (longer c)) (
      IsValid-with_call c.args.self.now c.args.caller c.args.op c.requires before.0,
      IsSmall-with_call c.args.self.now c.args.caller c.args.op c.requires room before.1,
    )

pub returns-clause-ok : goal.returns-clause-ok
returns-clause-ok c = longer c
