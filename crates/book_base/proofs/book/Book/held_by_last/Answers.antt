use Rattle.std.proofs.Common.{◌≡◌, ℕ, ◌-◌, List, Option, Some, IsSomeAnd, get_or, refl, ap, ◌∙◌, subst, arith}
use Rattle.list_laws.proofs.Options.{some_from_is_some_and}
use Rattle.book_base.specs.declared.call.Call.{Call}
use Rattle.book_base.specs.declared.call.Record.{Record}
use Rattle.book_base.specs.Book.{record_of}
use Rattle.book_base.proofs.ViewLemmas.{views_grow}
use Rattle.book_base.proofs.book.Book.held_by_last.Goals as goal

seen : (c : goal.After-get) → (r : Record)
    × (record_of c.args.self.now (record { caller = c.args.other; number = c.get-taken.result - 1 })
    ≡ Some r) × (c.get.result ≡ get_or r.view c.args.caller 0)
seen c =
    let says : Record → Type 0 = λ r. c.view.result.now ≡ r.view in
    let known = some_from_is_some_and
    (record_of c.args.self.now (record { caller = c.args.other; number = c.get-taken.result - 1 }))
    says c.view.ensures.view in
    let is : says known.0 =
    subst (λ (o : Option Record). IsSomeAnd o says) known.1 c.view.ensures.view in
    (known.0, known.1, c.get.ensures ∙ ap (λ (view : List ℕ). get_or view c.args.caller 0) is)

pub returns-clause-held : goal.returns-clause-held
returns-clause-held c number lt =
    let known = seen c in (
      record { caller = c.args.other; number = c.get-taken.result - 1 },
      known.0,
      omega (arith, c.get-taken.ensures, c.if-taken-eq0.false),
      known.1,
      omega (arith, lt, known.2),
    )

pub returns-clause-most : goal.returns-clause-most
returns-clause-most c number r lt e =
    let known = seen c in
    let before : Call = record { caller = c.args.other; number = number } in
    let last : Call = record { caller = c.args.other; number = c.get-taken.result - 1 } in
    omega (
      arith,
      views_grow c.args.self.now c.requires.valid before last r known.0 e known.1 refl
          (omega (arith, lt, c.get-taken.ensures)) c.args.caller,
      known.2,
    )
