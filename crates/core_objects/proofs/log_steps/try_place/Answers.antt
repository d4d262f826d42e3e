use Rattle.std.proofs.Common.{ℕ, ◌+◌, ◌*◌, length, ap, arith}
use Rattle.core_objects.proofs.LogCalls.{number_few, may_place}
use Rattle.core_objects.proofs.log_steps.try_place.Goals as goal

pub overflow_add-number : goal.overflow_add-number
overflow_add-number g c =
    omega (
      arith,
      number_few g.S.SeqObject.spec c.args.rows.now c.args.announced.now c.args.number
          c.requires.caller c.requires.number c.requires.words,
    )

pub object_exchange-requires-clause-program : goal.object_exchange-requires-clause-program
object_exchange-requires-clause-program g c =
    let tickets = c.args.tickets.now in
    λ x small.
    may_place g.S.SeqObject.spec c.args.rows.now c.args.announced.now
    c.args.number (2 * c.args.places + length tickets) tickets c.requires.number
    (ap (λ (k : ℕ). 2 * k + length tickets) c.requires.places) c.requires.stored c.requires.unplaced
    c.requires.tickets x

pub overflow_add-result : goal.overflow_add-result
overflow_add-result g c =
    omega (
      arith,
      number_few g.S.SeqObject.spec c.args.rows.now c.args.announced.now c.args.number
          c.requires.caller c.requires.number c.requires.words,
    )
