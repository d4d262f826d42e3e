use Rattle.std.proofs.Common.{ℕ, ◌<◌, ◌↔◌, Option, IsSomeAnd, IsTrue, subst, arith}
use Rattle.list_laws.proofs.Options.{some_from_is_some_and}
use Rattle.book_base.specs.declared.call.Record.{Record}
use Rattle.book_base.specs.Cut.{IsWithin}
use Rattle.book_base.specs.Book.{record_of}
use Rattle.book_base.proofs.ViewLemmas.{views_within_low, views_within_high}
use Rattle.book_base.proofs.book.Book.views_within.Goals as goal

pub views_within_between-requires-clause-between : goal.views_within_between-requires-clause-between
views_within_between-requires-clause-between c =
    let number : ℕ = c.saturating_sub-number.result in
    let says : Record → Type 0 = λ r. IsTrue c.is_within.result ↔ IsWithin r.view c.args.view.now in
    let known = some_from_is_some_and
    (record_of c.args.self.now (record { caller = c.args.caller; number = number })) says
    c.is_within.ensures in
    let tells : says known.0 =
    subst (λ (o : Option Record). IsSomeAnd o says) known.1 c.is_within.ensures in
    let before : number < c.loop-high.high = omega (
      arith,
      c.saturating_sub-number.ensures,
      c.loop-high-test.true,
      c.loop-high.invariant.distance,
    ) in
    views_within_low c.args.self.now c.args.caller c.args.view.now 0 c.loop-high.high number
    c.requires.valid c.loop-high.invariant.within before known.0 known.1
    (tells.0 c.if-is_within.true)

pub loop-high-preserved : goal.loop-high-preserved
loop-high-preserved c =
    let number : ℕ = c.saturating_sub-number.result in
    let says : Record → Type 0 = λ r. IsTrue c.is_within.result ↔ IsWithin r.view c.args.view.now in
    let known = some_from_is_some_and
    (record_of c.args.self.now (record { caller = c.args.caller; number = number })) says
    c.is_within.ensures in
    let tells : says known.0 =
    subst (λ (o : Option Record). IsSomeAnd o says) known.1 c.is_within.ensures in
    let before : number < c.loop-high.high = omega (
      arith,
      c.saturating_sub-number.ensures,
      c.loop-high-test.true,
      c.loop-high.invariant.distance,
    ) in
    record {
      within = views_within_high c.args.self.now c.args.caller c.args.view.now 0 c.loop-high.high
          number c.requires.valid c.loop-high.invariant.within (omega arith) before known.0 known.1
          (λ (within : IsWithin known.0.view c.args.view.now). let yes = tells.1 within in
          absurd (cc (yes, c.if-is_within.false)));
      distance = omega (arith, c.saturating_mul-distance.ensures, c.loop-high.invariant.distance);
    }
