use Rattle.std.proofs.Common.{◌≡◌, ℕ, ◌+◌, ◌-◌, ◌/◌, ◌↔◌, Option, IsSomeAnd, IsTrue, subst, arith}
use Rattle.list_laws.proofs.Options.{some_from_is_some_and}
use Rattle.book_base.specs.declared.call.Record.{Record}
use Rattle.book_base.specs.Cut.{IsWithin}
use Rattle.book_base.specs.Book.{record_of}
use Rattle.book_base.specs.Rising.{AreViewsWithin}
use Rattle.book_base.proofs.ViewLemmas.{views_within_low, views_within_high}
use Rattle.book_base.proofs.book.Book.views_within_between.Goals as goal

pub loop-low-preserved-then-is_within : goal.loop-low-preserved-then-is_within
loop-low-preserved-then-is_within c =
    let middle : ℕ = c.loop-low.low + (c.loop-low.high - c.loop-low.low) / 2 in
    let says : Record → Type 0 = λ r. IsTrue c.is_within.result ↔ IsWithin r.view c.args.view.now in
    let known = some_from_is_some_and
    (record_of c.args.self.now (record { caller = c.args.caller; number = middle })) says
    c.is_within.ensures in
    let tells : says known.0 =
    subst (λ (o : Option Record). IsSomeAnd o says) known.1 c.is_within.ensures in
    views_within_low c.args.self.now c.args.caller c.args.view.now c.loop-low.low c.loop-low.high
    middle c.requires.valid c.loop-low.invariant
    (omega (arith, c.loop-low-test.true)) known.0 known.1 (tells.0 c.if-is_within.true)

pub loop-low-preserved : goal.loop-low-preserved
loop-low-preserved c =
    let middle : ℕ = c.loop-low.low + (c.loop-low.high - c.loop-low.low) / 2 in
    let says : Record → Type 0 = λ r. IsTrue c.is_within.result ↔ IsWithin r.view c.args.view.now in
    let known = some_from_is_some_and
    (record_of c.args.self.now (record { caller = c.args.caller; number = middle })) says
    c.is_within.ensures in
    let tells : says known.0 =
    subst (λ (o : Option Record). IsSomeAnd o says) known.1 c.is_within.ensures in
    views_within_high c.args.self.now c.args.caller c.args.view.now c.loop-low.low c.loop-low.high
    middle c.requires.valid c.loop-low.invariant (omega arith)
    (omega (arith, c.loop-low-test.true)) known.0 known.1
    (λ (within : IsWithin known.0.view c.args.view.now). let yes = tells.1 within in
    absurd (cc (yes, c.if-is_within.false)))

pub returns : goal.returns
returns c =
    let same : c.loop-low.high ≡ c.loop-low.low =
    omega (arith, c.loop-low.invariant.ordered, c.loop-low-test.false) in
    record {
      count = subst (AreViewsWithin c.args.self.now c.args.caller c.args.view.now c.loop-low.low)
          same c.loop-low.invariant;
    }
