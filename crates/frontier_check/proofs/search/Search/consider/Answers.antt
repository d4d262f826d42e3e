use Rattle.std.proofs.Common.{◌≡◌, ◌∙◌, ap, sym, arith}
use Rattle.std.proofs.lemmas.Bool.Decides.{Decides-eqb}
use Rattle.std.proofs.lemmas.Result.{on_ok_weaker}
use Rattle.std.proofs.lemmas.Slice.Eq.{slice_eq-Decides}
use Rattle.book_base.specs.declared.call.Call.{Call}
use Rattle.book_base.specs.declared.call.Place.{Place}
use Rattle.book_base.specs.State.{Contents}
use Rattle.book_base.specs.Book.{IsAnswered}
use Rattle.book_base.specs.Next.{MayStandNext}
use Rattle.frontier_check.specs.Search.{places_of}
use Rattle.frontier_check.specs.declared.choice.Choice.{Choice}
use Rattle.frontier_check.proofs.Choosing.{considered-place, considered-skip}
use Rattle.frontier_check.proofs.Serving.{all_calls, considered-choice, considered-idle}
use Rattle.frontier_check.proofs.search.Search.consider.Goals as goal

pub step-reply-requires : goal.step-reply-requires
step-reply-requires g c = rw (c.copy_from.ensures) (c.requires.fits.after c.op.result)

pub choose-requires-clause-calls : goal.choose-requires-clause-calls
choose-requires-clause-calls g c =
    all_calls c.args.self.now.book.now (g.S.SeqObject.spec c.args.self.now.object.now).next
    c.args.counts.now c.args.here.now.words (places_of c.args.choices.now.items) c.requires.sound

pub returns-clause-more : goal.returns-clause-more
returns-clause-more g c =
    let book = c.args.self.now.book.now in
    let next = (g.S.SeqObject.spec c.args.self.now.object.now).next in
    let cut = c.args.counts.now in
    let list = c.args.here.now.words in
    let place : Place =
    record { caller = c.args.caller; number = c.from-number.result; reply = c.step-reply.result } in
    let new : Choice = record { turn = c.turn-turn.result; place = place } in
    let may : MayStandNext book next cut list place =
    considered-place book next cut list place c.op.result c.from-number.ensures c.requires.may
    c.op.ensures (c.is_recorded.ensures.0 c.if-not-is_recorded.false)
    (c.step-reply.ensures.reply ∙ ap
    (λ (s : Contents). (next s.words c.op.result).1) c.copy_from.ensures) in
    on_ok_weaker c.choose.result (considered-choice book next cut list c.args.choices.now.items
    c.choose.new.choices.items new c.requires.wide c.requires.valid c.requires.sound may)
    c.choose.ensures.chosen

pub returns-then-not-answered-clause-more : goal.returns-then-not-answered-clause-more
returns-then-not-answered-clause-more g c =
    let book = c.args.self.now.book.now in
    let next = (g.S.SeqObject.spec c.args.self.now.object.now).next in
    let list = c.args.here.now.words in
    let call : Call = record { caller = c.args.caller; number = c.from-number.result } in
    let same : c.words.result.now ≡ c.words-2.result.now =
    (slice_eq-Decides Decides-eqb _ _ _ c.eq-leaves.ensures).0 c.if-leaves.true in
    let stays : (next list c.op.result).0 ≡ list
    = sym (ap (λ (s : Contents). (next s.words c.op.result).0) c.copy_from.ensures)
    ∙ (sym (ap (λ (s : Contents). s.words) c.step-reply.ensures.list)
    ∙ (sym c.words.ensures ∙ (same ∙ c.words-2.ensures))) in
    considered-idle book next c.args.counts.now list (places_of c.args.choices.now.items) call
    c.op.result c.requires.wide (c.requires.open c.if-self.true) c.requires.sound
    c.from-number.ensures c.op.ensures
    (λ (answered : IsAnswered book call). absurd (omega (arith, c.answers.ensures))) stays

pub returns-then-not-is_recorded-clause-more : goal.returns-then-not-is_recorded-clause-more
returns-then-not-is_recorded-clause-more g c =
    let book = c.args.self.now.book.now in
    let next = (g.S.SeqObject.spec c.args.self.now.object.now).next in
    let call : Call = record { caller = c.args.caller; number = c.from-number.result } in
    considered-skip book next c.args.counts.now c.args.here.now.words
    (places_of c.args.choices.now.items) call c.op.result c.step-reply.result c.requires.sound
    c.from-number.ensures c.op.ensures
    (c.step-reply.ensures.reply ∙ ap
    (λ (s : Contents). (next s.words c.op.result).1) c.copy_from.ensures)
    (λ recorded. absurd (let e = c.is_recorded.ensures.1 recorded in cc))
