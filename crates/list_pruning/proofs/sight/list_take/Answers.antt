use Rattle.std.proofs.Common.{refl}
use Rattle.list_pruning.proofs.Listing.{has_take}
use Rattle.list_pruning.proofs.sight.list_take.Goals as goal

pub returns : goal.returns
returns c =
    has_take c.args.sight.now c.place_for.new.sight _ c.args.value c.in_ok-place.place c.args.call
    c.index_mut.result.now _ c.in_ok-place.ensures c.index_mut.ensures.value (λ w. refl) refl
    refl c.in_ok-push.ensures.items
