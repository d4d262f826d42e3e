use Rattle.std.proofs.Common.{◌-◌, ℕ, sym, subst, arith}
use Rattle.book_base.proofs.ReachingLemmas.{suffices-list, suffices-next, suffices-step}
use Rattle.frontier_check.specs.declared.walk.TheConstants.{MOST_CALLS}
use Rattle.frontier_check.specs.Prefix.{IsBookCapacity}
use Rattle.frontier_check.proofs.takes.is_first_out.Goals as goal

pub reset-requires : goal.reset-requires
reset-requires g c =
    let spec = g.S.SeqObject.spec c.args.object.now in
    let room = c.reply_of_take.new.spare.room in
    let big = subst (λ (n : ℕ). IsBookCapacity spec n) (sym c.reply_of_take.ensures) c.requires in
    suffices-list spec.next spec.init MOST_CALLS room big

pub step-first-requires : goal.step-first-requires
step-first-requires g c =
    let spec = g.S.SeqObject.spec c.args.object.now in
    let room = c.reply_of_take.new.spare.room in
    let big = subst (λ (n : ℕ). IsBookCapacity spec n) (sym c.reply_of_take.ensures) c.requires in
    rw (c.reset.ensures)
    (suffices-next spec.next spec.init MOST_CALLS room c.args.first (omega arith) big)

pub step-second-requires : goal.step-second-requires
step-second-requires g c =
    let spec = g.S.SeqObject.spec c.args.object.now in
    let room = c.reply_of_take.new.spare.room in
    let big = subst (λ (n : ℕ). IsBookCapacity spec n) (sym c.reply_of_take.ensures) c.requires in
    let one = suffices-step spec.next spec.init MOST_CALLS (MOST_CALLS - 1) room c.args.first
    (omega arith) big in
    rw (c.step-first.ensures.list, c.reset.ensures)
    (suffices-next spec.next (spec.next spec.init c.args.first).0 (MOST_CALLS - 1) room
    c.args.second (omega arith) one)

pub step-requires : goal.step-requires
step-requires g c =
    let spec = g.S.SeqObject.spec c.args.object.now in
    let room = c.reply_of_take.new.spare.room in
    let big = subst (λ (n : ℕ). IsBookCapacity spec n) (sym c.reply_of_take.ensures) c.requires in
    let one = suffices-step spec.next spec.init MOST_CALLS (MOST_CALLS - 1) room c.args.first
    (omega arith) big in
    let list = (spec.next spec.init c.args.first).0 in
    let two = suffices-step spec.next list (MOST_CALLS - 1) (MOST_CALLS - 2) room c.args.second
    (omega arith) one in
    rw (c.step-second.ensures.list, c.step-first.ensures.list, c.reset.ensures)
    (suffices-next spec.next (spec.next list c.args.second).0 (MOST_CALLS - 2) room c.args.take
    (omega arith) two)
