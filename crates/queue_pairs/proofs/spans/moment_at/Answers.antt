use Rattle.std.proofs.Common.{◌≡◌, ℕ, ◌∙◌, sum, sym, ap, arith}
use Rattle.std.proofs.lemmas.Option.{same_Some}
use Rattle.book_base.specs.declared.call.Record.{Record}
use Rattle.queue_pairs.proofs.Spanning.{few-counts}
use Rattle.queue_pairs.proofs.spans.moment_at.Goals as goal

pub view_moment-requires-clause-small : goal.view_moment-requires-clause-small
view_moment-requires-clause-small c = few-counts c.args.book.now c.args.call c.record.result
    c.requires.valid c.requires.small c.record.ensures.record

pub view_moment-requires-clause-few : goal.view_moment-requires-clause-few
view_moment-requires-clause-few c = omega (arith, c.record.ensures.wide, c.requires.small.callers)

pub returns-clause-moment : goal.returns-clause-moment
returns-clause-moment c = λ r at.
    let same : c.record.result ≡ r =
    same_Some c.record.result r (sym c.record.ensures.record ∙ at) in
    c.view_moment.ensures.moment ∙ ap (λ (x : Record). sum x.view) same

pub returns-clause-few : goal.returns-clause-few
returns-clause-few c = omega (arith, c.view_moment.ensures.few)
