use Rattle.std.proofs.Common.{◌∙◌, ap, sym, refl}
use Rattle.book_base.specs.declared.call.Place.{Place}
use Rattle.book_base.specs.State.{Contents}
use Rattle.frontier_check.proofs.Choosing.{at_once}
use Rattle.frontier_check.proofs.search.Search.read_only.Goals as goal

pub step-requires : goal.step-requires
step-requires g c = rw (c.copy_from.ensures) (c.requires.fits.after c.op-op.result)

pub returns-clause-some : goal.returns-clause-some
returns-clause-some g c =
    let next = (g.S.SeqObject.spec c.args.self.now.object.now).next in
    let place : Place = record {
      caller = c.args.caller;
      number = c.from-number.result;
      reply = c.record-reply.result.reply;
    } in
    at_once c.args.self.now.book.now next c.args.counts.now c.args.here.now.words place
    c.record-reply.result c.op-op.result c.requires.wide c.requires.may c.from-number.ensures
    c.record-reply.ensures.record c.op-op.ensures refl
    (sym (c.step.ensures.reply ∙ ap (λ (s : Contents). (next s.words c.op-op.result).1)
    c.copy_from.ensures) ∙ c.if-step-reply.false) (c.leaves.ensures c.if-not-leaves.false)
