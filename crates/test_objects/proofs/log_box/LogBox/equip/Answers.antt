use Rattle.std.proofs.Common.{◌≡◌, ◌+◌, ◌≤◌, ◌++◌, map, length, refl, sym, ap, ◌∙◌, subst, arith, Some, vec_len, vec_capacity}
use Rattle.std.specs.List.{All}
use Rattle.std.specs.Vec.Iter.{into_iter_items, into_iter_len}
use Rattle.std.proofs.lemmas.Bool.{cond-true}
use Rattle.std.proofs.lemmas.List.Elements.{All-nil, All-pop}
use Rattle.test_objects.specs.declared.log_pass.LogPass.{LogPass}
use Rattle.test_objects.specs.Passes.{seat_in, callers_in, cap_in}
use Rattle.test_objects.specs.Equipment.{AreReady}
use Rattle.test_objects.proofs.Equipping.{seats_count, seats_more, ready_more, seats_all, equipped, equipped_fresh}
use Rattle.test_objects.proofs.log_box.LogBox.equip.Goals as goal

pub loop-seat-init : goal.loop-seat-init
loop-seat-init g c =
    let b = c.args.self.now in
    let none = c.requires.passes.0 in
    let count = seats_count b.log c.args.seats.items c.requires.seats.0 in
    let long = c.into_iter-rest.ensures.len in
    let tools = c.requires.tools.0 in
    let empty = ap (λ l. length l) none in
    record {
      seats = (λ i. map seat_in (none i) ++ c.into_iter-rest.ensures.rest i);
      ready = subst (λ l. All (λ (p : LogPass). AreReady (callers_in b) (cap_in b) p.tools) l)
          (sym none) (All-nil (λ (p : LogPass). AreReady (callers_in b) (cap_in b) p.tools));
      tools = c.requires.tools.1;
      left = omega arith;
      count = omega arith;
      room = c.requires.passes.1;
    }

pub loop-seat-preserved : goal.loop-seat-preserved
loop-seat-preserved g c =
    let b = c.args.self.now in
    let k = c.loop-seat.invariant in
    let left = k.left in
    let count = k.count in
    let room = k.room in
    let next = c.in-Some.ensures.cases in
    let fewer = next.1 in
    let tools_left = c.in-Some-pop.ensures.cases in
    let grown = c.push.ensures.capacity in
    let ok = c.push.ensures.succeeds (omega arith) in
    let one_more : vec_len c.push.new.self ≡ vec_len c.loop-seat.passes + 1 =
    c.push.ensures.len ∙ cond-true _ _ _ ok in
    let left' : vec_len c.pop.new.self ≡ into_iter_len c.next.new.self = omega arith in
    let count' : vec_len c.push.new.self + into_iter_len c.next.new.self ≡ callers_in b =
    omega arith in
    let room' : callers_in b ≤ vec_capacity c.push.new.self = omega arith in
    let tools = All-pop (AreReady (callers_in b) (cap_in b)) c.loop-seat.all_tools.items
    c.pop.new.self.items (Some c.in-Some-pop.tools) c.in-Some-pop.ensures.items k.tools in
    let pushed = c.push.ensures.items ∙ cond-true _ _ _ ok in
    record {
      seats = seats_more c.args.seats.items _ _ c.loop-seat.passes.items c.push.new.self.items _
          c.in-Some.seat k.seats next.0 pushed refl;
      ready = ready_more (callers_in b)
          (cap_in b) c.loop-seat.passes.items c.push.new.self.items _ k.ready pushed tools.1;
      tools = tools.0;
      left = left';
      count = count';
      room = room';
    }

pub returns-clause-passes : goal.returns-clause-passes
returns-clause-passes g c =
    let k = c.loop-seat.invariant in
    let none = c.in_default.ensures.cases.0 in
    let gone : length (into_iter_items c.loop-seat.rest) ≡ 0 =
    omega (arith, c.loop-seat.rest.rest.ok.0) in
    equipped g.M.Machine.reply_to g.M.Machine.has_seen c.args.self.now c.args.seats.items
    c.loop-seat.passes.items
    (seats_all _ _ _ k.seats gone) c.requires.seats.0 c.requires.seats.1 k.ready

pub returns-clause-fresh : goal.returns-clause-fresh
returns-clause-fresh g c =
    let k = c.loop-seat.invariant in
    let none = c.in_default.ensures.cases.0 in
    let gone : length (into_iter_items c.loop-seat.rest) ≡ 0 =
    omega (arith, c.loop-seat.rest.rest.ok.0) in
    equipped_fresh g.M.Machine.reply_to g.M.Machine.has_seen c.args.self.now c.args.seats.items
    c.loop-seat.passes.items
    (seats_all _ _ _ k.seats gone) c.requires.seats.0 c.requires.seats.1 k.ready
