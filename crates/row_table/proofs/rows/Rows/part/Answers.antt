use Rattle.std.proofs.Common.{◌≡◌, ℕ, ◌<◌, rules, refl, sym, ap, ◌∙◌, subst, arith, length, length-set, slice_set, None}
use Rattle.row_table.specs.Seats.{View, Together}
use Rattle.std.proofs.lemmas.Option.{same_Some}
use Rattle.world_core.specs.Local.{Local, IsIdle}
use Rattle.row_table.specs.Benches.{fresh_stance}
use Rattle.row_table.specs.Callers.{seated, kept_stance, shape_of}
use Rattle.row_table.proofs.Holders.{inside}
use Rattle.row_table.proofs.Parting.{together_but}
use Rattle.row_table.proofs.Moving.{place_low, place_found, place_kept, kept_local, left_local, left_notes, left_reached, left_tied}
use Rattle.row_table.proofs.rows.Rows.part.Goals as goal

pub index_mut-requires : goal.index_mut-requires
index_mut-requires g c = let low = place_low c.args.bench.now.callers _ _ c.args.caller _
    c.args.bench.now.tied c.requires.held.1 in omega arith

pub unreachable-requires : goal.unreachable-requires
unreachable-requires g c =
    place_kept c.args.bench.now.callers _ _ c.args.caller _ c.args.bench.now.tied c.requires.held.1
    _ c.index_mut.ensures.value (sym c.take.ensures.value ∙ c.in_default.is)

pub invariant_of-bench : goal.invariant_of-bench
invariant_of-bench g c =
    record {
      quiet = search rules;
      tied =
          left_tied c.args.bench.now.callers c.args.bench.now.places.items _
          c.args.bench.now.seat.me.0 _ c.args.caller c.args.bench.now.tied
          (ap (λ m. m.0) c.leave_as-seat.ensures.seat.1)
          (ap (slice_set c.args.bench.now.places.items c.args.caller) c.take.ensures.after);
    }

pub invariant_of-result : goal.invariant_of-result
invariant_of-result g c =
    let e = c.leave_as-seat.ensures.caller in
    let notes =
    kept_local c.args.bench.now.callers _ _ c.args.caller _ c.args.bench.now.tied c.requires.held.1
    _ c.index_mut.ensures.value c.in-Some.kept (sym c.take.ensures.value ∙ c.in-Some.is) in
    record {
      tied = left_notes _ _ _ _ _ _ _ notes c.requires.bench.callers e.0
          (left_local _ _ _ _ _ c.requires.held.1 e.2 e.0);
    }

pub returns-clause-bench : goal.returns-clause-bench
returns-clause-bench g c =
    let v : View = c.args.bench.now.seat.me.0 in
    let view : c.leave_as-seat.new.seat.me.0 ≡ slice_set v c.args.caller None =
    ap (λ m. m.0) c.leave_as-seat.ensures.seat.1 in
    record {
      table = search rules;
      callers = c.requires.bench.callers;
      cap = c.requires.bench.cap;
      wide = ap (λ (u : View). length u) view ∙ length-set v c.args.caller None
          ∙ c.requires.bench.wide;
      together = subst (λ (u : View). Together (shape_of g.P.Program.meaning c.args.self.now) u)
          (sym view) (together_but _ v c.args.caller c.requires.bench.together);
    }

pub returns-clause-caller : goal.returns-clause-caller
returns-clause-caller g c =
    let e = c.leave_as-seat.ensures.caller in
    let v : View = c.args.bench.now.seat.me.0 in
    let wide : length v ≡ c.args.self.now.callers = c.requires.bench.wide in
    let here : c.args.caller < length v = inside v c.args.caller _ c.requires.held.1 in
    let low : c.args.caller < c.args.self.now.callers = omega arith in (
      record {
        seat =
            record {
              table = e.1 ∙ c.requires.bench.table;
              who = subst (λ (k : ℕ). k < c.args.self.now.callers) (sym e.0) low;
              local = left_reached _ v _ _ _ _ c.requires.bench.together low c.requires.held.1 e.0
                  (left_local _ _ _ _ _ c.requires.held.1 e.2 e.0);
            };
        program = refl;
        callers = refl;
        cap = refl;
      },
      e.0,
    )

pub returns-clause-stance : goal.returns-clause-stance
returns-clause-stance g c =
    ap kept_stance
    (place_found c.args.bench.now.callers _ _ c.args.caller _ c.args.bench.now.tied
    c.requires.held.1 _ c.index_mut.ensures.value ∙ (sym c.take.ensures.value ∙ c.in-Some.is))

pub returns-clause-free : goal.returns-clause-free
returns-clause-free g c free =
    let e = c.leave_as-seat.ensures.caller in
    let found : seated c.leave_as-seat.result ≡ free.local =
    left_local _ _ _ _ _ c.requires.held.1 e.2 e.0
    ∙ same_Some c.requires.held.0 free.local (sym c.requires.held.1 ∙ free.here) in
    record {
      idle = subst (λ (l : Local). IsIdle l) (sym found) free.idle;
      stance = same_Some c.in-Some.kept.stance fresh_stance
          (sym (returns-clause-stance g c) ∙ free.stance);
    }
