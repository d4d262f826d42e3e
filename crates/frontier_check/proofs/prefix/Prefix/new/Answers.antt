use Rattle.std.proofs.Common.{◌∙◌, ℕ, replicate, ap}
use Rattle.book_base.specs.State.{Contents}
use Rattle.book_base.proofs.ReachingLemmas.{suffices-list}
use Rattle.frontier_check.specs.declared.prefix.Prefix.{Prefix}
use Rattle.frontier_check.specs.declared.walk.TheConstants.{MOST_CALLS}
use Rattle.frontier_check.proofs.Following.{put-start, prefix-start}
use Rattle.frontier_check.proofs.prefix.Prefix.new.Goals as goal

pub reset-requires : goal.reset-requires
reset-requires g c =
    let spec = g.S.SeqObject.spec c.args.object.now in
    suffices-list spec.next spec.init MOST_CALLS c.in_ok-here.here.room c.in_ok-here.ensures

pub returns-clause-put : goal.returns-clause-put
returns-clause-put g c =
    let object = c.args.object.now in
    let prefix : Prefix =
    record { places = c.new.result; cut = c.zero.result; here = c.reset.new.state } in
    put-start (g.S.SeqObject.spec object) c.args.book.now prefix
    c.callers.ensures.valid c.callers.ensures.small
    c.new.ensures.items (c.zero.ensures ∙ ap (λ (n : ℕ). replicate n 0) c.callers.ensures.count)
    (ap (λ (s : Contents). s.words) c.reset.ensures)

pub returns-clause-prefix : goal.returns-clause-prefix
returns-clause-prefix g c =
    let object = c.args.object.now in
    let prefix : Prefix =
    record { places = c.new.result; cut = c.zero.result; here = c.reset.new.state } in
    prefix-start (g.S.SeqObject.spec object) c.args.book.now prefix
    c.callers.ensures.valid c.callers.ensures.small
    c.new.ensures.items (c.zero.ensures ∙ ap (λ (n : ℕ). replicate n 0) c.callers.ensures.count)
    (ap (λ (s : Contents). s.words) c.reset.ensures)
