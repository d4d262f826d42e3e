use Rattle.std.proofs.Common.{inl, inr}
use Rattle.late_residue.specs.Reached.{description_of, descriptions_of}
use Rattle.late_residue.proofs.Items.{not_true}
use Rattle.late_residue.proofs.Handling.{meant-grows, added_none, added_on, added_left, added_put, taken_placed, taken_other, taken_leaving, taken_both, taken_put}
use Rattle.late_residue.proofs.closing.take.Goals as goal

pub returns-then-has-clause-added : goal.returns-then-has-clause-added
returns-then-has-clause-added g c calls = added_left (g.O.SeqObject.spec c.args.object.now) calls
    c.args.returning.now c.args.reply (description_of c.args.one)
    (description_of c.in_ok-without.field-0) (descriptions_of c.args.ones.now.items)
    (descriptions_of c.args.left.now.items) (descriptions_of c.put.new.ones.items)
    c.in_ok-without.ensures (inl (c.has.ensures.0 c.if-has.true))
    (λ at meant. meant-grows _ _ c.in_ok-put.ensures.grows at meant) c.in_ok-put.ensures.cases

pub returns-then-has-clause-taken : goal.returns-then-has-clause-taken
returns-then-has-clause-taken g c = taken_placed (g.O.SeqObject.spec c.args.object.now).next
    c.args.returning.now c.args.reply (description_of c.args.one)
    (description_of c.in_ok-without.field-0) (descriptions_of c.args.ones.now.items)
    (descriptions_of c.put.new.ones.items) c.in_ok-without.ensures c.in_ok-put.ensures.means
    (c.has.ensures.0 c.if-has.true)

pub returns-then-places-clause-added : goal.returns-then-places-clause-added
returns-then-places-clause-added g c calls = added_none (g.O.SeqObject.spec c.args.object.now) calls
    c.args.returning.now c.args.reply _ (descriptions_of c.args.ones.now.items)
    (descriptions_of c.args.left.now.items)

pub returns-then-places-clause-taken : goal.returns-then-places-clause-taken
returns-then-places-clause-taken g c = taken_other (g.O.SeqObject.spec c.args.object.now).next
    c.args.returning.now c.args.reply (description_of c.args.one)
    (descriptions_of c.args.ones.now.items) (descriptions_of c.args.left.now.items)
    (c.places.ensures.0 c.if-places.true)
    (λ among. not_true c.has.result c.if-has.false (c.has.ensures.1 among))

pub returns-then-not-may_have-clause-added : goal.returns-then-not-may_have-clause-added
returns-then-not-may_have-clause-added g c calls = added_put
    (g.O.SeqObject.spec c.args.object.now) calls c.args.returning.now c.args.reply
    (description_of c.args.one) (descriptions_of c.args.ones.now.items)
    (descriptions_of c.args.left.now.items) (descriptions_of c.add.new.ones.items)
    c.in_ok-add.ensures.grows c.in_ok-add.ensures.cases c.in_ok-add.ensures.apart
    (taken_put (g.O.SeqObject.spec c.args.object.now).next c.args.returning.now c.args.reply
    (description_of c.args.one) (descriptions_of c.add.new.ones.items)
    (descriptions_of c.args.left.now.items)
    (λ among. not_true c.has.result c.if-has.false (c.has.ensures.1 among))
    (λ among. not_true c.may_have.result c.if-not-may_have.true (c.may_have.ensures.1 among))
    c.in_ok-add.ensures.means)

pub returns-then-not-may_have-clause-taken : goal.returns-then-not-may_have-clause-taken
returns-then-not-may_have-clause-taken g c = taken_put
    (g.O.SeqObject.spec c.args.object.now).next c.args.returning.now c.args.reply
    (description_of c.args.one) (descriptions_of c.add.new.ones.items)
    (descriptions_of c.args.left.now.items)
    (λ among. not_true c.has.result c.if-has.false (c.has.ensures.1 among))
    (λ among. not_true c.may_have.result c.if-not-may_have.true (c.may_have.ensures.1 among))
    c.in_ok-add.ensures.means

pub returns-then-leaves-clause-added : goal.returns-then-leaves-clause-added
returns-then-leaves-clause-added g c calls = added_left (g.O.SeqObject.spec c.args.object.now) calls
    c.args.returning.now c.args.reply (description_of c.args.one)
    (description_of c.in_ok-without-2.field-0) (descriptions_of c.args.ones.now.items)
    (descriptions_of c.args.left.now.items) (descriptions_of c.put-2.new.ones.items)
    c.in_ok-without-2.ensures (inr (
      c.may_have.ensures.0 c.if-not-may_have.false,
      λ of. not_true c.places.result c.if-places.false (c.places.ensures.1 of),
    ))
    (λ at meant. meant-grows _ _ c.in_ok-put-2.ensures.grows at meant) c.in_ok-put-2.ensures.cases

pub returns-then-leaves-clause-taken : goal.returns-then-leaves-clause-taken
returns-then-leaves-clause-taken g c = taken_leaving (g.O.SeqObject.spec c.args.object.now).next
    c.args.returning.now c.args.reply (description_of c.args.one)
    (description_of c.in_ok-without-2.field-0) (descriptions_of c.args.ones.now.items)
    (descriptions_of c.put-2.new.ones.items) c.in_ok-without-2.ensures c.in_ok-put-2.ensures.means
    (c.leaves.ensures c.if-leaves.true)

pub returns-clause-added : goal.returns-clause-added
returns-clause-added g c calls =
    let spec = g.O.SeqObject.spec c.args.object.now in
    let one = description_of c.args.one in
    added_on spec calls c.args.returning.now c.args.reply _ (descriptions_of c.args.ones.now.items)
    (descriptions_of c.args.left.now.items) (descriptions_of c.args.ones.now.items)
    (descriptions_of c.put-2.new.ones.items) (descriptions_of c.add-2.new.ones.items)
    (descriptions_of c.put-2.new.ones.items)
    (added_left spec calls c.args.returning.now c.args.reply one
    (description_of c.in_ok-without-2.field-0) (descriptions_of c.args.ones.now.items)
    (descriptions_of c.args.left.now.items) (descriptions_of c.put-2.new.ones.items)
    c.in_ok-without-2.ensures (inr (
      c.may_have.ensures.0 c.if-not-may_have.false,
      λ of. not_true c.places.result c.if-places.false (c.places.ensures.1 of),
    ))
    (λ at meant. meant-grows _ _ c.in_ok-put-2.ensures.grows at meant) c.in_ok-put-2.ensures.cases)
    (added_put spec calls c.args.returning.now c.args.reply one
    (descriptions_of c.args.ones.now.items) (descriptions_of c.put-2.new.ones.items)
    (descriptions_of c.add-2.new.ones.items) c.in_ok-add-2.ensures.grows
    c.in_ok-add-2.ensures.cases c.in_ok-add-2.ensures.apart
    (taken_both spec.next c.args.returning.now c.args.reply one
    (description_of c.in_ok-without-2.field-0) (descriptions_of c.add-2.new.ones.items)
    (descriptions_of c.put-2.new.ones.items) c.in_ok-without-2.ensures c.in_ok-put-2.ensures.means
    c.in_ok-add-2.ensures.means))

pub returns-clause-taken : goal.returns-clause-taken
returns-clause-taken g c = taken_both (g.O.SeqObject.spec c.args.object.now).next
    c.args.returning.now c.args.reply (description_of c.args.one)
    (description_of c.in_ok-without-2.field-0) (descriptions_of c.add-2.new.ones.items)
    (descriptions_of c.put-2.new.ones.items) c.in_ok-without-2.ensures c.in_ok-put-2.ensures.means
    c.in_ok-add-2.ensures.means
