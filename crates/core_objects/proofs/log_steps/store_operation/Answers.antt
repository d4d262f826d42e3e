use Rattle.std.proofs.Common.{◌∙◌, ap, arith}
use Rattle.book_base.specs.OperationWord.{low_of, high_of}
use Rattle.core_objects.proofs.LogCalls.{number_few, number_is_low, may_store_low, may_store_second, both_made, both_stored, stored_unplaced, stored_tickets}
use Rattle.core_objects.proofs.log_steps.store_operation.Goals as goal

pub overflow_mul-number : goal.overflow_mul-number
overflow_mul-number g c =
    omega (
      arith,
      number_few g.S.SeqObject.spec c.args.rows.now c.args.announced.now c.args.number
          c.requires.caller c.requires.number c.requires.words,
    )

pub object_store-requires-clause-place : goal.object_store-requires-clause-place
object_store-requires-clause-place g c =
    omega (
      arith,
      c.requires.number,
      c.requires.words,
      (number_is_low g.S.SeqObject.spec c.args.rows.now c.args.announced.now
          c.requires.caller).1,
    )

pub object_store-requires-clause-program : goal.object_store-requires-clause-program
object_store-requires-clause-program g c =
    λ x small.
    may_store_low g.S.SeqObject.spec c.args.rows.now c.args.announced.now
    c.args.number c.low.result c.requires.number c.requires.first
    (c.low.ensures ∙ ap low_of c.op-op.ensures) x

pub overflow_mul-number-2 : goal.overflow_mul-number-2
overflow_mul-number-2 g c =
    omega (
      arith,
      number_few g.S.SeqObject.spec c.args.rows.now c.args.announced.now c.args.number
          c.requires.caller c.requires.number c.requires.words,
    )

pub overflow_add-number : goal.overflow_add-number
overflow_add-number g c =
    omega (
      arith,
      number_few g.S.SeqObject.spec c.args.rows.now c.args.announced.now c.args.number
          c.requires.caller c.requires.number c.requires.words,
    )

pub object_store-requires-2-clause-place : goal.object_store-requires-2-clause-place
object_store-requires-2-clause-place g c =
    omega (
      arith,
      c.requires.number,
      c.requires.words,
      (number_is_low g.S.SeqObject.spec c.args.rows.now c.args.announced.now
          c.requires.caller).1,
    )

pub object_store-requires-2-clause-program : goal.object_store-requires-2-clause-program
object_store-requires-2-clause-program g c =
    let a = c.args.announced.now in
    let b = c.object_store.new.self in
    λ x small.
    may_store_second g.S.SeqObject.spec c.args.rows.now a b b c.args.number
    c.low.result c.high.result c.object_store.ensures.0 0 c.requires.caller
    c.requires.number c.requires.first (c.low.ensures ∙ ap low_of c.op-op.ensures)
    (c.high.ensures ∙ ap high_of c.op-op.ensures) c.object_store.ensures.2 x

pub returns-clause-made : goal.returns-clause-made
returns-clause-made g c =
    let a = c.args.announced.now in
    let b = c.object_store.new.self in
    let d = c.object_store-2.new.self in
    both_made g.S.SeqObject.spec c.args.rows.now a b d c.args.number c.low.result
    c.high.result c.object_store.ensures.0 c.object_store-2.ensures.0
    c.requires.caller c.requires.number c.requires.first (c.low.ensures ∙ ap low_of c.op-op.ensures)
    (c.high.ensures ∙ ap high_of c.op-op.ensures)
    c.object_store.ensures.2 c.object_store-2.ensures.2

pub returns-clause-stored : goal.returns-clause-stored
returns-clause-stored g c =
    let a = c.args.announced.now in
    let b = c.object_store.new.self in
    let d = c.object_store-2.new.self in
    both_stored g.S.SeqObject.spec c.args.rows.now a b d c.args.number
    c.low.result c.high.result c.object_store.ensures.0 c.object_store-2.ensures.0
    c.requires.caller c.requires.number c.requires.first (c.low.ensures ∙ ap low_of c.op-op.ensures)
    (c.high.ensures ∙ ap high_of c.op-op.ensures)
    c.object_store.ensures.2 c.object_store-2.ensures.2

pub returns-clause-unplaced : goal.returns-clause-unplaced
returns-clause-unplaced g c =
    let a = c.args.announced.now in
    let b = c.object_store.new.self in
    let d = c.object_store-2.new.self in
    stored_unplaced g.S.SeqObject.spec c.args.rows.now a b d c.args.number
    c.low.result c.high.result c.object_store.ensures.0 c.object_store-2.ensures.0
    c.requires.caller c.requires.number c.requires.first (c.low.ensures ∙ ap low_of c.op-op.ensures)
    (c.high.ensures ∙ ap high_of c.op-op.ensures)
    c.object_store.ensures.2 c.object_store-2.ensures.2

pub returns-clause-tickets : goal.returns-clause-tickets
returns-clause-tickets g c =
    let a = c.args.announced.now in
    let b = c.object_store.new.self in
    let d = c.object_store-2.new.self in
    stored_tickets g.S.SeqObject.spec c.args.rows.now a b d c.args.number
    c.low.result c.high.result c.object_store.ensures.0 c.object_store-2.ensures.0
    c.requires.caller c.requires.number c.requires.first (c.low.ensures ∙ ap low_of c.op-op.ensures)
    (c.high.ensures ∙ ap high_of c.op-op.ensures)
    c.object_store.ensures.2 c.object_store-2.ensures.2
