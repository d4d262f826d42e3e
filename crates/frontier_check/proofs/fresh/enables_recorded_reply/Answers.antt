use Rattle.std.proofs.Common.{ℕ, sym, subst, arith}
use Rattle.book_base.proofs.ReachingLemmas.{suffices-next, suffices-step}
use Rattle.frontier_check.specs.Prefix.{IsBookCapacity}
use Rattle.frontier_check.proofs.Following.{stands-fit, suffices-prefix}
use Rattle.frontier_check.proofs.fresh.enables_recorded_reply.Goals as goal

pub copy_from-requires : goal.copy_from-requires
copy_from-requires g c =
    let spec = g.S.SeqObject.spec c.args.object.now in
    stands-fit spec c.args.book.now c.args.prefix.now c.requires.put.stands
    c.loop-other.spare.room
    (subst (λ (n : ℕ). IsBookCapacity spec n) (sym c.loop-other.invariant) c.requires.room)

pub step-reply-requires : goal.step-reply-requires
step-reply-requires g c =
    let spec = g.S.SeqObject.spec c.args.object.now in
    let prefix = c.args.prefix.now in
    let room = c.loop-other.spare.room in
    let big = subst (λ (n : ℕ). IsBookCapacity spec n) (sym c.loop-other.invariant)
    c.requires.room in
    let fits = suffices-prefix spec c.args.book.now prefix 2 room c.requires.put.stands
    (omega (arith, c.if-len-gt-MOST_CALLS.false, c.len.ensures)) big in
    rw (c.copy_from.ensures)
    (suffices-next spec.next prefix.here.words 2 room c.op-op.result (omega arith) fits)

pub step-requires : goal.step-requires
step-requires g c =
    let spec = g.S.SeqObject.spec c.args.object.now in
    let prefix = c.args.prefix.now in
    let room = c.loop-other.spare.room in
    let big = subst (λ (n : ℕ). IsBookCapacity spec n) (sym c.loop-other.invariant)
    c.requires.room in
    let fits = suffices-prefix spec c.args.book.now prefix 2 room c.requires.put.stands
    (omega (arith, c.if-len-gt-MOST_CALLS.false, c.len.ensures)) big in
    let after = suffices-step spec.next prefix.here.words 2 1 room c.op-op.result (omega arith)
    fits in
    rw (c.step-reply.ensures.list, c.copy_from.ensures)
    (suffices-next spec.next (spec.next prefix.here.words c.op-op.result).0 1 room c.op.result
    (omega arith) after)
