use Rattle.std.proofs.Common.{◌≡◌, List, ◌∙◌, refl, sym, ap, subst, set}
use Rattle.std.specs.Prelude.{⊤}
use Rattle.std.proofs.lemmas.Result.{MatchResult-from_err}
use Rattle.book_base.specs.declared.call.Record.{Record}
use Rattle.book_base.specs.Book.{Page, IsValid, IsSmall, with_answer}
use Rattle.book_base.specs.BookLayout.{pages}
use Rattle.book_base.proofs.PageLemmas.{pages-set_same, pages-with_answer}
use Rattle.book_base.proofs.GrowthLemmas.{IsValid-with_answer, IsSmall-with_answer}
use Rattle.book_base.proofs.book.Book.put_answer.Goals as goal

unchanged : (c : goal.After-from_residual) → pages (set c.self.inside.rows.items c.args.caller
    (record { operations = c.index_mut.result.now.operations; records = c.push.new.self }))
    ≡ c.args.self.now
unchanged c =
    pages-set_same c.self.inside.rows.items c.args.self.now c.args.caller c.index_mut.result.now
    (record { operations = c.index_mut.result.now.operations; records = c.push.new.self })
    c.self.view_is c.index_mut.ensures.value
    (ap (λ (rs : List Record).
    record { operations = c.index_mut.result.now.operations.items; records = rs })
    c.in_err-push.ensures.items)

pub invariant_of-self : goal.invariant_of-self
invariant_of-self c = subst (λ (book : List Page). IsValid book × IsSmall book)
    (c.self.view_is ∙ sym (unchanged c)) c.self.invariant

pub returns-in_err-push-clause-err : goal.returns-in_err-push-clause-err
returns-in_err-push-clause-err c = MatchResult-from_err c.from_residual.result
    (λ _. ⊤) _ c.from_residual.ensures.0 (λ _. unchanged c)

longer : (c : goal.In_ok-push) → pages (set c.self.inside.rows.items c.args.caller
    (record { operations = c.index_mut.result.now.operations; records = c.push.new.self }))
    ≡ with_answer c.args.self.now c.args.caller
    (record { reply = c.args.reply; view = c.args.view })
longer c =
    pages-with_answer c.self.inside.rows.items c.args.self.now c.args.caller
    (record { reply = c.args.reply; view = c.args.view }) c.index_mut.result.now
    (record { operations = c.index_mut.result.now.operations; records = c.push.new.self })
    c.self.view_is c.requires.caller c.index_mut.ensures.value refl c.in_ok-push.ensures.items

pub invariant_of-self-2 : goal.invariant_of-self-2
invariant_of-self-2 c =
    let before =
    subst (λ (book : List Page). IsValid book × IsSmall book) c.self.view_is c.self.invariant in
    let answer : Record = record { reply = c.args.reply; view = c.args.view } in
    subst (λ (book : List Page). IsValid book × IsSmall book) (sym (longer c)) (
      IsValid-with_answer c.args.self.now c.args.caller answer c.requires.caller c.requires.wide
          c.requires.may before.0,
      IsSmall-with_answer c.args.self.now c.args.caller answer c.requires.caller before.1,
    )

pub returns-clause-ok : goal.returns-clause-ok
returns-clause-ok c = longer c
