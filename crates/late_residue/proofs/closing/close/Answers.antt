use Rattle.std.proofs.Common.{ℕ, ◌<◌, [], sym, subst, arith, leb-true}
use Rattle.std.proofs.lemmas.List.{length-map}
use Rattle.late_residue.specs.Reached.{description_of, descriptions_of}
use Rattle.late_residue.proofs.Handling.{added_none, added_on, closed_old, within_items}
use Rattle.late_residue.proofs.closing.close.Goals as goal

pub loop-k-init : goal.loop-k-init
loop-k-init g c = record {
  added = added_none (g.O.SeqObject.spec c.args.object.now) c.args.calls.now c.args.returning.now
      c.args.reply [] (descriptions_of c.args.ones.now.items) (descriptions_of c.args.left.now.items);
  leads = λ j one less. absurd (omega (arith, less));
}

pub returns-then-k-len-clause-added : goal.returns-then-k-len-clause-added
returns-then-k-len-clause-added g c = c.loop-k.invariant.added

pub returns-then-k-len-clause-closed : goal.returns-then-k-len-clause-closed
returns-then-k-len-clause-closed g c all one (j, is) =
    let within = within_items c.loop-k.ones.items j one is in
    let below : j < c.loop-k.k = omega (arith, within, c.len.ensures, c.if-k-len.true) in
    c.loop-k.invariant.leads j one below is

pub expand-requires : goal.expand-requires
expand-requires g c = record {
  within = omega (arith, c.len.ensures, c.if-k-len.false);
  taken = c.loop-k.invariant.added.taken c.requires;
}

pub returns-then-not-branch-clause-added : goal.returns-then-not-branch-clause-added
returns-then-not-branch-clause-added g c = added_on (g.O.SeqObject.spec c.args.object.now)
    c.args.calls.now c.args.returning.now c.args.reply [] (descriptions_of c.args.ones.now.items)
    (descriptions_of c.args.left.now.items) (descriptions_of c.loop-k.ones.items)
    (descriptions_of c.loop-k.left.items) (descriptions_of c.expand.new.ones.items)
    (descriptions_of c.expand.new.left.items) c.loop-k.invariant.added c.in_ok-expand.ensures.added

pub loop-k-preserved : goal.loop-k-preserved
loop-k-preserved g c = record {
  added = added_on (g.O.SeqObject.spec c.args.object.now) c.args.calls.now c.args.returning.now
      c.args.reply [] (descriptions_of c.args.ones.now.items)
      (descriptions_of c.args.left.now.items) (descriptions_of c.loop-k.ones.items)
      (descriptions_of c.loop-k.left.items) (descriptions_of c.expand.new.ones.items)
      (descriptions_of c.expand.new.left.items) c.loop-k.invariant.added
      c.in_ok-expand.ensures.added;
  leads = closed_old (g.O.SeqObject.spec c.args.object.now).next
      (g.O.Overwriting.writes c.args.object.now) c.args.calls.now
      c.args.returning.now c.args.reply (descriptions_of c.loop-k.ones.items)
      (descriptions_of c.loop-k.left.items) (descriptions_of c.expand.new.ones.items)
      (descriptions_of c.expand.new.left.items) c.loop-k.k c.in_ok-expand.ensures.added.grows
      c.in_ok-expand.ensures.added.stays
      (subst (λ (n : ℕ). c.loop-k.k < n) (sym (length-map c.loop-k.ones.items description_of))
      (omega (arith, c.len.ensures, c.if-k-len.false))) c.loop-k.invariant.leads
      (c.in_ok-expand.ensures.leads c.if-not-branch.false);
}

pub returns-clause-added : goal.returns-clause-added
returns-clause-added g c = c.loop-k.invariant.added

pub returns-clause-closed : goal.returns-clause-closed
returns-clause-closed g c all one (j, is) =
    let within = within_items c.loop-k.ones.items j one is in
    let few = leb-true _ _ all in
    let below : j < c.loop-k.k = omega (arith, within, c.len-2.ensures, few, c.loop-k-test.false) in
    c.loop-k.invariant.leads j one below is
