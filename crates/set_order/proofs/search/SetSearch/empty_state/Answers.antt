use Rattle.std.proofs.Common.{◌≡◌, [], sym, ap, subst}
use Rattle.std.proofs.lemmas.Result.{IfOk-weaker}
use Rattle.book_base.specs.State.{Contents}
use Rattle.set_order.specs.Search.{IsBookCapacity}
use Rattle.set_order.proofs.search.SetSearch.empty_state.Goals as goal

pub returns : goal.returns
returns g c =
    let init = g.O.SetObject.init c.args.self.now.object.now in
    let served = g.O.SetObject.served c.args.self.now.object.now in
    IfOk-weaker c.with_room.result (λ state. state ≡ record { words = []; room = c.capacity.result })
    (λ state. IsBookCapacity init served state.room)
    (λ state made. subst (λ n. IsBookCapacity init served n)
    (sym (ap (λ (s : Contents). s.room) made)) c.capacity.ensures.fits) c.with_room.ensures
