-- The laws, from the proofs of the other files.
use Rattle.std.proofs.Common.{length, ap, inl, inr, arith}
use Rattle.pool_residue.specs.Laws.{CallsStay, TakesAreSound, OptionalCallsAreSound, PlacedCallsLeadOn, PutsReturn}
use Rattle.pool_residue.proofs.Calling.{call_pooled}
use Rattle.pool_residue.proofs.Taking.{taking_reached}
use Rattle.pool_residue.proofs.Allowing.{unknown_reached, none_reached}
use Rattle.pool_residue.proofs.Ahead.{begins, ahead_on, ahead_means, returning_before, spent_places}
use Rattle.pool_residue.proofs.Returning.{left_by_return}
use Rattle.pool_residue.proofs.Returned.{was_left_by}
use Rattle.legal_orders.specs.Container.{value_put}

pub calls_stay : CallsStay
calls_stay container stream process op calls more new new_is old_or_new still are are_more valid ones
    pooled = call_pooled container stream process op calls more new new_is old_or_new still are
    are_more valid ones pooled

pub takes_are_sound : TakesAreSound
takes_are_sound container stream calls are one after of of_after call has takes value lacks taking
    may each = taking_reached container stream calls are one after of of_after call has takes value
    lacks taking may each

pub optional_calls_are_sound : OptionalCallsAreSound
optional_calls_are_sound container stream calls are one after of of_after call has reply either lacks
    allowed may each at means = elim either [
      | inl (takes, none, empty) ↦ none_reached container stream calls are one after of of_after call
          has reply (ap value_put takes) lacks allowed may each takes none empty
          (length means.0) at means.0 means.1 (omega arith) means.2
      | inr (neither, bad) ↦ unknown_reached container stream calls are one after of of_after call
          has reply (ap value_put neither) lacks allowed may each neither bad at means
    ]

pub placed_calls_lead_on : PlacedCallsLeadOn
placed_calls_lead_on container stream calls are returning said ones of closed one has_one from at
    means rest placed known aims =
    let found = ahead_on container stream calls are returning said ones of closed rest from at placed
    (one, has_one, begins container stream calls are returning said ones of closed one from means)
    known aims in
    let leads = ahead_means container stream calls are returning said ones of closed found.0 at
    found.2 in (
      found.0,
      found.1,
      found.2.from,
      leads.0,
      spent_places found.2.spent,
      leads.1,
      returning_before container stream calls are returning said ones of closed found.0 at found.2,
    )

pub puts_return : PutsReturn
puts_return container stream calls more are one after of call has value puts may others ret left = (
  λ means.
      let was = was_left_by container stream calls more are one after of call has value puts may
      others ret left means in (was.at, was.meant, was.there, was.without),
  λ (at, (inside, taken, means), there, without).
      let is = left_by_return container stream calls more are one after of call has value puts may
      others at left inside taken means without there ret in
      (_, is.out, is.is_meant),
)
