use Rattle.std.proofs.Common.{◌+◌, ◌*◌, Some, ◌∙◌, ap, sym, arith}
use Rattle.world_core.specs.Local.{Object_step}
use Rattle.core_objects.proofs.LogCalls.{named_is_low, places_few, may_load_low, may_load_high, may_load_kept, made_one, made_both, tickets_kept, operation_known}
use Rattle.core_objects.proofs.log_steps.load_operation.Goals as goal

pub overflow_mul-named : goal.overflow_mul-named
overflow_mul-named g c =
    let r = c.args.rows.now in
    let low = named_is_low g.S.SeqObject.spec r c.args.announced.now c.args.named
    c.requires.caller c.requires.named in
    omega (arith, low, places_few g.S.SeqObject.spec r c.requires.words)

pub object_load-low-requires-clause-place : goal.object_load-low-requires-clause-place
object_load-low-requires-clause-place g c =
    omega (
      arith,
      c.requires.words,
      named_is_low g.S.SeqObject.spec c.args.rows.now c.args.announced.now
          c.args.named c.requires.caller c.requires.named,
    )

pub object_load-low-requires-clause-program : goal.object_load-low-requires-clause-program
object_load-low-requires-clause-program g c =
    λ x small. may_load_low g.S.SeqObject.spec c.args.rows.now
    c.args.announced.now c.args.named c.requires.named x

pub overflow_mul-named-2 : goal.overflow_mul-named-2
overflow_mul-named-2 g c =
    let r = c.args.rows.now in
    let low = named_is_low g.S.SeqObject.spec r c.args.announced.now c.args.named
    c.requires.caller c.requires.named in
    omega (arith, low, places_few g.S.SeqObject.spec r c.requires.words)

pub overflow_add-named : goal.overflow_add-named
overflow_add-named g c =
    let r = c.args.rows.now in
    let low = named_is_low g.S.SeqObject.spec r c.args.announced.now c.args.named
    c.requires.caller c.requires.named in
    omega (arith, low, places_few g.S.SeqObject.spec r c.requires.words)

pub object_load-high-requires-clause-place : goal.object_load-high-requires-clause-place
object_load-high-requires-clause-place g c =
    omega (
      arith,
      c.requires.words,
      named_is_low g.S.SeqObject.spec c.args.rows.now c.args.announced.now
          c.args.named c.requires.caller c.requires.named,
    )

pub object_load-high-requires-clause-program : goal.object_load-high-requires-clause-program
object_load-high-requires-clause-program g c =
    let r = c.args.rows.now in
    let a = c.args.announced.now in
    let b = c.object_load-low.new.self in
    let step : Object_step = record {
      place = 2 * c.args.named;
      old = c.object_load-low.result;
      new = c.object_load-low.result;
    } in
    λ x small.
    may_load_high g.S.SeqObject.spec r b c.args.named
    (may_load_kept g.S.SeqObject.spec r a b c.args.named c.requires.caller
    (made_one g.S.SeqObject.spec r a b step c.object_load-low.ensures)
    c.requires.named) x

pub returns-clause-made : goal.returns-clause-made
returns-clause-made g c =
    let r = c.args.rows.now in
    let a = c.args.announced.now in
    let b = c.object_load-low.new.self in
    let d = c.object_load-high.new.self in
    let first : Object_step = record {
      place = 2 * c.args.named;
      old = c.object_load-low.result;
      new = c.object_load-low.result;
    } in
    let last : Object_step = record {
      place = 2 * c.args.named + 1;
      old = c.object_load-high.result;
      new = c.object_load-high.result;
    } in
    made_both g.S.SeqObject.spec r a b d c.requires.caller
    (made_one g.S.SeqObject.spec r a b first c.object_load-low.ensures)
    (made_one g.S.SeqObject.spec r b d last c.object_load-high.ensures)

pub returns-clause-tickets : goal.returns-clause-tickets
returns-clause-tickets g c =
    let r = c.args.rows.now in
    let a = c.args.announced.now in
    let b = c.object_load-low.new.self in
    let d = c.object_load-high.new.self in
    let first : Object_step = record {
      place = 2 * c.args.named;
      old = c.object_load-low.result;
      new = c.object_load-low.result;
    } in
    let last : Object_step = record {
      place = 2 * c.args.named + 1;
      old = c.object_load-high.result;
      new = c.object_load-high.result;
    } in
    let low = named_is_low g.S.SeqObject.spec r a c.args.named c.requires.caller
    c.requires.named in
    λ tickets e.
    tickets_kept g.S.SeqObject.spec r b d last tickets c.object_load-high.ensures
    (omega (arith, low))
    (tickets_kept g.S.SeqObject.spec r a b first tickets
    c.object_load-low.ensures (omega (arith, low)) e)

pub returns-clause-operation : goal.returns-clause-operation
returns-clause-operation g c =
    operation_known g.S.SeqObject.spec c.args.rows.now c.args.announced.now
    c.object_load-low.new.self c.object_load-high.new.self c.args.named
    c.object_load-low.result c.object_load-high.result c.object_load-low.ensures
    c.object_load-high.ensures
    ∙ ap Some (sym c.join.ensures)
