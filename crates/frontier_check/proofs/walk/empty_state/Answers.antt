use Rattle.std.proofs.Common.{◌≡◌, [], sym, ap, subst}
use Rattle.std.proofs.lemmas.Result.{IfOk-weaker}
use Rattle.book_base.specs.State.{Contents}
use Rattle.frontier_check.specs.Prefix.{IsBookCapacity}
use Rattle.frontier_check.proofs.walk.empty_state.Goals as goal

pub returns : goal.returns
returns g c =
    let spec = g.S.SeqObject.spec c.args.object.now in
    IfOk-weaker c.with_room.result (λ state. state ≡ record { words = []; room = c.capacity.result })
    (λ state. IsBookCapacity spec state.room)
    (λ state made. subst (λ n. IsBookCapacity spec n) (sym (ap (λ (s : Contents). s.room) made))
    c.capacity.ensures.fits) c.with_room.ensures
