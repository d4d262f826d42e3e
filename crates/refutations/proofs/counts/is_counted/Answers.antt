use Rattle.std.proofs.Common.{◌≡◌, ◌∙◌, true, Some, sym}
use Rattle.std.proofs.lemmas.Bool.{false≢true}
use Rattle.std.proofs.lemmas.Option.{none-some}
use Rattle.queue_pairs.specs.Tables.{timed_at}
use Rattle.queue_pairs.proofs.Entries.{timed-is, timed-there}
use Rattle.refutations.specs.Counting.{deal_fits}
use Rattle.refutations.proofs.Counting.{deal_as}
use Rattle.refutations.proofs.counts.is_counted.Goals as goal

pub returns-then-deal_fits : goal.returns-then-deal_fits
returns-then-deal_fits c = λ reading is.
    let t = c.in-Some.timed in
    let call = c.args.call in
    let known : timed_at c.args.table.now call.caller call.number ≡ Some t
    = sym c.at.ensures ∙ c.in-Some.is in
    let timed =
    timed-is reading c.args.book.now c.args.table.now call.caller call.number t is known in
    let deal =
    deal_as reading c.args.book.now c.args.values.now c.args.sort call t.deal timed.deal in
    let fits : deal_fits c.args.sort c.args.values.now t.deal ≡ true
    = sym c.deal_fits.ensures ∙ c.if-deal_fits.true in
    let time = c.time_fits.ensures timed.span in
    (λ e. (deal.0 fits, time.0 e), λ it. time.1 it.1)

pub returns-else-deal_fits : goal.returns-else-deal_fits
returns-else-deal_fits c = λ reading is.
    let t = c.in-Some.timed in
    let call = c.args.call in
    let known : timed_at c.args.table.now call.caller call.number ≡ Some t
    = sym c.at.ensures ∙ c.in-Some.is in
    let timed =
    timed-is reading c.args.book.now c.args.table.now call.caller call.number t is known in
    let deal =
    deal_as reading c.args.book.now c.args.values.now c.args.sort call t.deal timed.deal in (
      λ e. absurd (cc (e, c.if-deal_fits.false)),
      λ it. c.deal_fits.ensures ∙ deal.1 it.0,
    )

pub returns-in-None : goal.returns-in-None
returns-in-None c = λ reading is. (
  λ e. absurd (false≢true e),
  λ it. let there = timed-there reading c.args.book.now c.args.table.now c.args.call is
      c.requires.call in
      absurd (none-some there.0 (sym c.in-None.is ∙ c.at.ensures ∙ there.1)),
)
