use Rattle.std.proofs.Common.{◌≡◌, ℕ, ◌<◌, Option, IsSomeAnd, inr, subst, arith}
use Rattle.std.proofs.lemmas.Option.{slice_get_within}
use Rattle.list_laws.proofs.Options.{some_from_is_some_and}
use Rattle.book_base.specs.declared.call.Record.{Record}
use Rattle.book_base.specs.Cut.{IsWithin}
use Rattle.book_base.specs.Book.{answers_of, record_of}
use Rattle.book_base.proofs.ViewLemmas.{comparable_with_all}
use Rattle.book_base.proofs.book.Book.first_crossing_of.Goals as goal

pub returns-then-number-answers-clause-none : goal.returns-then-number-answers-clause-none
returns-then-number-answers-clause-none c k r e =
    let there : k < answers_of c.args.self.now c.args.caller = slice_get_within _ k r e in
    inr (c.views_within-number.ensures.count.below k r
    (omega (arith, there, c.answers.ensures, c.if-number-answers.true)) e)

pub returns-then-within-clause-none : goal.returns-then-within-clause-none
returns-then-within-clause-none c =
    let number : ℕ = c.views_within-number.result in
    let says : Record → Type 0 = λ r. c.view.result.now ≡ r.view in
    let known = some_from_is_some_and
    (record_of c.args.self.now (record { caller = c.args.caller; number = number })) says
    c.view.ensures.view in
    let is : says known.0 =
    subst (λ (o : Option Record). IsSomeAnd o says) known.1 c.view.ensures.view in
    let within : IsWithin c.args.view.now known.0.view =
    subst (IsWithin c.args.view.now) is (c.within.ensures.0 c.if-within.true) in
    comparable_with_all c.args.self.now c.args.caller number c.args.view.now c.requires.valid
    c.views_within-number.ensures.count known.0 known.1 within
