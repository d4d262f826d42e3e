use Rattle.std.proofs.Common.{ℕ, ◌≤◌, List, [], ◌∷◌, sym, ap, subst}
use Rattle.std.proofs.lemmas.List.{length-map}
use Rattle.late_residue.specs.declared.reached.Reached.{Reached}
use Rattle.late_residue.specs.Reached.{Has, description_of, descriptions_of}
use Rattle.late_residue.specs.Description.{Description}
use Rattle.late_residue.specs.Meaning.{AreMeant}
use Rattle.late_residue.specs.Placing.{IsTaken}
use Rattle.late_residue.specs.LateOnes.{AreAdded}
use Rattle.late_residue.proofs.Handling.{item_at}
use Rattle.late_residue.proofs.Next.{begun_none, begun_next, begun_taken, is_beyond, late_next}
use Rattle.late_residue.proofs.next_set.next_set.Goals as goal

pub loop-one-init : goal.loop-one-init
loop-one-init g c = begun_none (g.O.SeqObject.spec c.args.object.now) c.args.calls.now
    c.args.returning.now c.args.reply c.args.before.now (descriptions_of c.new-ones.result.items)
    (descriptions_of c.new-left.result.items)
    (ap (λ (l : List Reached). descriptions_of l) c.new-ones.ensures.items)
    (ap (λ (l : List Reached). descriptions_of l) c.new-left.ensures.items)

pub loop-one-preserved : goal.loop-one-preserved
loop-one-preserved g c = begun_next (g.O.SeqObject.spec c.args.object.now) c.args.calls.now
    c.args.returning.now c.args.reply c.args.before.now (descriptions_of c.loop-one.ones.items)
    (descriptions_of c.loop-one.left.items) (descriptions_of c.admit.new.ones.items)
    (descriptions_of c.admit.new.left.items) c.loop-one.one-index c.one-item.result
    c.loop-one.invariant
    (item_at c.args.before.now c.loop-one.one-index c.one-item.result _ c.loop-one-test.true
    c.one-item.is)
    (subst (λ (d : Description). AreAdded (g.O.SeqObject.spec c.args.object.now) c.args.calls.now
    c.args.returning.now c.args.reply (d ∷ []) (descriptions_of c.loop-one.ones.items)
    (descriptions_of c.loop-one.left.items) (descriptions_of c.admit.new.ones.items)
    (descriptions_of c.admit.new.left.items)) c.in_ok-copy.ensures c.in_ok-admit.ensures.added)
    (subst (λ (d : Description). IsTaken (g.O.SeqObject.spec c.args.object.now).next
    c.args.returning.now c.args.reply (descriptions_of c.admit.new.ones.items)
    (descriptions_of c.admit.new.left.items) d) c.in_ok-copy.ensures c.in_ok-admit.ensures.taken)

pub close-requires : goal.close-requires
close-requires g c = begun_taken (g.O.SeqObject.spec c.args.object.now) c.args.calls.now
    c.args.returning.now c.args.reply c.args.before.now (descriptions_of c.loop-one.ones.items)
    (descriptions_of c.loop-one.left.items) c.loop-one.one-index c.loop-one.invariant

pub returns-then-branch-clause-after : goal.returns-then-branch-clause-after
returns-then-branch-clause-after g c stream process = late_next
    (g.O.SeqObject.spec c.args.object.now) c.args.calls.now c.args.returning.now c.args.reply
    c.args.before.now (descriptions_of c.loop-one.ones.items)
    (descriptions_of c.loop-one.left.items) (descriptions_of c.close.new.ones.items)
    (descriptions_of c.close.new.left.items) (descriptions_of c.in_ok-pruned.field-0.items)
    c.loop-one.one-index stream process (g.O.Overwriting.writes c.args.object.now)
    (subst (λ (n : ℕ). n ≤ c.loop-one.one-index) (sym (length-map c.args.before.now description_of))
    c.loop-one-test.false) c.loop-one.invariant c.in_ok-close.ensures.added
    (c.in_ok-close.ensures.closed c.if-branch.true)
    (λ at meant. c.in_ok-pruned.ensures.means at
    (subst (λ (l : List Reached). AreMeant (descriptions_of l) at) (sym c.deref.ensures.value) meant))
    (λ one has. subst (λ (l : List Reached). Has (descriptions_of l) one) c.deref.ensures.value
    (c.in_ok-pruned.ensures.from one has))

pub returns-clause-beyond : goal.returns-clause-beyond
returns-clause-beyond g c stream are late = is_beyond (g.O.SeqObject.spec c.args.object.now)
    c.args.calls.now c.args.returning.now c.args.reply c.args.before.now
    (descriptions_of c.loop-one.ones.items) (descriptions_of c.loop-one.left.items)
    (descriptions_of c.close.new.ones.items) (descriptions_of c.close.new.left.items)
    c.loop-one.one-index c.args.limit stream c.loop-one.invariant c.in_ok-close.ensures.added are late
    (c.in_ok-close.ensures.beyond c.if-branch.false)

pub admit-requires : goal.admit-requires
admit-requires g c = begun_taken (g.O.SeqObject.spec c.args.object.now) c.args.calls.now
    c.args.returning.now c.args.reply c.args.before.now (descriptions_of c.loop-one.ones.items)
    (descriptions_of c.loop-one.left.items) c.loop-one.one-index c.loop-one.invariant
