use Rattle.std.proofs.Common.{rules, refl, sym, ap, ◌∙◌, arith, length, length-set, Some}
use Rattle.row_table.specs.declared.bench.Kept.{Kept}
use Rattle.row_table.specs.Seats.{View}
use Rattle.row_table.specs.Callers.{local_with}
use Rattle.row_table.proofs.Holders.{joined_with}
use Rattle.row_table.proofs.Parting.{comes_back}
use Rattle.row_table.proofs.Benching.{places_wide}
use Rattle.row_table.proofs.Moving.{back_tied, back_here, back_else}
use Rattle.row_table.proofs.rows.Rows.back.Goals as goal

pub index_mut-requires : goal.index_mut-requires
index_mut-requires g c =
    let wide = places_wide c.args.bench.now.callers c.args.bench.now.places.items
    c.args.bench.now.seat.me.0 c.args.bench.now.tied in
    let low = c.requires.caller.seat.who in
    let long = c.requires.bench.wide in
    omega arith

pub join_seat-requires : goal.join_seat-requires
join_seat-requires g c =
    let low = c.requires.caller.seat.who in
    let long = c.requires.bench.wide in (
      search rules,
      search rules,
      search rules,
      search rules,
      comes_back _ _ _ _ _ _ _ _ (ap (λ m. m.0) c.args.caller.seat.alone) c.requires.gone
          (omega arith),
    )

pub invariant_of-bench : goal.invariant_of-bench
invariant_of-bench g c =
    let low = c.requires.caller.seat.who in
    let long = c.requires.bench.wide in
    let v : View = c.args.bench.now.seat.me.0 in
    let kept : Kept = record { notes = c.args.caller.notes; stance = c.args.caller.stance } in
    let view = joined_with v _ c.join_seat.new.seat.me.0 c.args.caller.seat.who
    (local_with c.args.caller) (ap (λ m. m.0) c.join_seat.ensures.2)
    (ap (λ m. m.0) c.args.caller.seat.alone) c.requires.gone (omega arith) in
    record {
      quiet = search rules;
      tied =
          back_tied c.args.bench.now.callers c.args.caller.callers c.args.bench.now.places.items _ v
          _ c.args.caller.seat.who kept
          (local_with c.args.caller) c.args.bench.now.tied c.args.caller.tied
          (c.requires.caller.callers ∙ sym c.requires.bench.callers) view refl;
    }

pub returns-clause-bench : goal.returns-clause-bench
returns-clause-bench g c =
    let low = c.requires.caller.seat.who in
    let long = c.requires.bench.wide in
    let v : View = c.args.bench.now.seat.me.0 in
    let view =
    joined_with v _ c.learn_as.new.bench.seat.me.0 c.args.caller.seat.who (local_with c.args.caller)
    (ap (λ m. m.0) (c.learn_as.ensures.seat.1 ∙ c.join_seat.ensures.2))
    (ap (λ m. m.0) c.args.caller.seat.alone) c.requires.gone (omega arith) in
    record {
      table = search rules;
      callers = c.learn_as.ensures.kept.1 ∙ c.requires.bench.callers;
      cap = c.learn_as.ensures.kept.2 ∙ c.requires.bench.cap;
      wide = ap (λ (u : View). length u) view
          ∙ length-set v c.args.caller.seat.who (Some (local_with c.args.caller)) ∙ long;
      together = c.learn_as.ensures.together;
    }

pub returns-clause-here : goal.returns-clause-here
returns-clause-here g c =
    let low = c.requires.caller.seat.who in
    let long = c.requires.bench.wide in
    let v : View = c.args.bench.now.seat.me.0 in
    let kept : Kept = record { notes = c.args.caller.notes; stance = c.args.caller.stance } in
    let wide =
    places_wide c.args.bench.now.callers c.args.bench.now.places.items v c.args.bench.now.tied in
    let view =
    joined_with v _ c.learn_as.new.bench.seat.me.0 c.args.caller.seat.who (local_with c.args.caller)
    (ap (λ m. m.0) (c.learn_as.ensures.seat.1 ∙ c.join_seat.ensures.2))
    (ap (λ m. m.0) c.args.caller.seat.alone) c.requires.gone (omega arith) in
    back_here c.args.bench.now.places.items _ v _ c.args.caller.seat.who kept
    (local_with c.args.caller) (omega arith) (omega arith) view c.learn_as.ensures.kept.0

pub returns-clause-others : goal.returns-clause-others
returns-clause-others g c i ne =
    let low = c.requires.caller.seat.who in
    let long = c.requires.bench.wide in
    let v : View = c.args.bench.now.seat.me.0 in
    let kept : Kept = record { notes = c.args.caller.notes; stance = c.args.caller.stance } in
    let view =
    joined_with v _ c.learn_as.new.bench.seat.me.0 c.args.caller.seat.who (local_with c.args.caller)
    (ap (λ m. m.0) (c.learn_as.ensures.seat.1 ∙ c.join_seat.ensures.2))
    (ap (λ m. m.0) c.args.caller.seat.alone) c.requires.gone (omega arith) in
    back_else c.args.bench.now.places.items _ v _ c.args.caller.seat.who i kept
    (local_with c.args.caller) ne view c.learn_as.ensures.kept.0
