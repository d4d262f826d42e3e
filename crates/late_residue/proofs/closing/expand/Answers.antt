use Rattle.std.proofs.Common.{◌≡◌, ◌∙◌, ◌<◌, [], length, Some, slice_get, sym, subst, inl, inr, arith}
use Rattle.std.proofs.lemmas.Bool.{cases_lt}
use Rattle.std.proofs.lemmas.Option.{same_Some, slice_get-get_or, slice_get_within}
use Rattle.book_base.specs.declared.TheConstants.{MAX_ROOM}
use Rattle.late_residue.specs.Description.{Description}
use Rattle.late_residue.specs.Reached.{description_of, descriptions_of}
use Rattle.late_residue.proofs.Items.{map-at, not_true, grows-at}
use Rattle.late_residue.proofs.Handling.{added_none, added_on, item_at, leads_none, leads_next, within_items}
use Rattle.late_residue.proofs.closing.expand.Goals as goal

pub returns-then-not-is_short-clause-added : goal.returns-then-not-is_short-clause-added
returns-then-not-is_short-clause-added g c = added_none (g.O.SeqObject.spec c.args.object.now)
    c.args.calls.now c.args.returning.now c.args.reply [] (descriptions_of c.args.ones.now.items)
    (descriptions_of c.args.left.now.items)

pub returns-then-not-is_short-clause-long : goal.returns-then-not-is_short-clause-long
returns-then-not-is_short-clause-long g c none =
    let one = description_of c.index.result.now in (
      one,
      (
        c.args.k,
        map-at description_of c.args.ones.now.items c.args.k c.index.result.now
            (item_at c.args.ones.now.items c.args.k c.index.result.now _ c.requires.within
            c.index.ensures),
      ),
      elim (cases_lt (length one.list) MAX_ROOM) [
        | inl less ↦
            absurd (not_true c.is_short.result c.if-not-is_short.true (c.is_short.ensures.1 less))
        | inr long ↦ long
      ],
    )

pub loop-call-init : goal.loop-call-init
loop-call-init g c = record {
  added = added_none (g.O.SeqObject.spec c.args.object.now) c.args.calls.now c.args.returning.now
      c.args.reply [] (descriptions_of c.args.ones.now.items) (descriptions_of c.args.left.now.items);
  leads = λ one there. leads_none (g.O.SeqObject.spec c.args.object.now).next
      (g.O.Overwriting.writes c.args.object.now) c.args.calls.now
      c.args.returning.now c.args.reply (descriptions_of c.args.ones.now.items)
      (descriptions_of c.args.left.now.items) one;
}

pub place-requires : goal.place-requires
place-requires g c =
    let one = description_of c.index.result.now in
    let first = map-at description_of c.args.ones.now.items c.args.k c.index.result.now
    (item_at c.args.ones.now.items c.args.k c.index.result.now _ c.requires.within c.index.ensures) in
    let there : slice_get (descriptions_of c.loop-call.ones.items) c.args.k ≡ Some one =
    grows-at (descriptions_of c.args.ones.now.items) (descriptions_of c.loop-call.ones.items)
    c.args.k one c.loop-call.invariant.added.grows first in
    record {
      within = within_items c.loop-call.ones.items c.args.k one there;
      is_open = (
        c.loop-call.call-index,
        slice_get-get_or c.args.calls.now c.loop-call.call-index _ c.loop-call-test.true,
      );
      short = λ other is. subst (λ (d : Description). length d.list < MAX_ROOM)
          (same_Some one other (sym there ∙ is)) (c.is_short.ensures.0 c.if-not-is_short.false);
      taken = c.loop-call.invariant.added.taken c.requires.taken;
    }

pub loop-call-preserved : goal.loop-call-preserved
loop-call-preserved g c = record {
  added = added_on (g.O.SeqObject.spec c.args.object.now) c.args.calls.now c.args.returning.now
      c.args.reply [] (descriptions_of c.args.ones.now.items)
      (descriptions_of c.args.left.now.items) (descriptions_of c.loop-call.ones.items)
      (descriptions_of c.loop-call.left.items) (descriptions_of c.place.new.ones.items)
      (descriptions_of c.place.new.left.items) c.loop-call.invariant.added
      c.in_ok-place.ensures.added;
  leads = λ one is. leads_next (g.O.SeqObject.spec c.args.object.now).next
      (g.O.Overwriting.writes c.args.object.now) c.args.calls.now
      c.args.returning.now c.args.reply (descriptions_of c.loop-call.ones.items)
      (descriptions_of c.loop-call.left.items) (descriptions_of c.place.new.ones.items)
      (descriptions_of c.place.new.left.items) one c.loop-call.call-index _
      c.in_ok-place.ensures.added.grows c.in_ok-place.ensures.added.stays
      (c.loop-call.invariant.leads one is)
      (c.in_ok-place.ensures.leads one (grows-at (descriptions_of c.args.ones.now.items)
      (descriptions_of c.loop-call.ones.items) c.args.k one c.loop-call.invariant.added.grows is));
}

pub returns-clause-added : goal.returns-clause-added
returns-clause-added g c = c.loop-call.invariant.added

pub returns-clause-leads : goal.returns-clause-leads
returns-clause-leads g c all one there at covered j call less is may =
    let within = slice_get_within c.args.calls.now j call is in
    let below : j < c.loop-call.call-index = omega (arith, within, c.loop-call-test.false) in
    c.loop-call.invariant.leads one there at covered j call below is may
