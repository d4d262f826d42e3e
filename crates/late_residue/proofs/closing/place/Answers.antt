use Rattle.std.proofs.Common.{◌⊎◌, ℕ, List, [], ◌∷◌, subst, inl, inr}
use Rattle.residue_laws.specs.Residue.{Configuration, IsInResidue}
use Rattle.late_residue.specs.Description.{Description}
use Rattle.late_residue.specs.Reached.{description_of, descriptions_of}
use Rattle.late_residue.specs.Meaning.{Means}
use Rattle.late_residue.specs.Known.{MayHaveReply}
use Rattle.late_residue.specs.Placing.{Hides, LeadsTo, MayBePlaced, with_call}
use Rattle.late_residue.proofs.Items.{map-at, not_true, on_ok, some_of, none_of}
use Rattle.late_residue.proofs.Handling.{added_none, added_given, at_all, item_at, all_of_one}
use Rattle.late_residue.proofs.Hiding.{covered_placed, hides_resting}
use Rattle.late_residue.proofs.closing.place.Goals as goal

pub adds_nothing-requires : goal.adds_nothing-requires
adds_nothing-requires g c = record {
  is_open = c.requires.is_open;
  short = c.requires.short (description_of c.index-one.result.now)
      (map-at description_of c.args.ones.now.items c.args.k c.index-one.result.now
      (item_at c.args.ones.now.items c.args.k c.index-one.result.now _ c.requires.within
      c.index-one.ensures));
}

pub returns-then-places-clause-added : goal.returns-then-places-clause-added
returns-then-places-clause-added g c = added_none (g.O.SeqObject.spec c.args.object.now)
    c.args.calls.now c.args.returning.now c.args.reply [] (descriptions_of c.args.ones.now.items)
    (descriptions_of c.args.left.now.items)

pub returns-then-places-clause-leads : goal.returns-then-places-clause-leads
returns-then-places-clause-leads g c = at_all
    (λ (d : Description). (at : Configuration) → Means d at ⊎ Hides
    (g.O.SeqObject.spec c.args.object.now).next (g.O.Overwriting.writes c.args.object.now)
    c.args.calls.now c.args.returning.now.call d at
    → MayBePlaced (g.O.SeqObject.spec c.args.object.now).next c.args.calls.now at c.args.call.now
    → LeadsTo (g.O.SeqObject.spec c.args.object.now).next
    (g.O.Overwriting.writes c.args.object.now) c.args.calls.now c.args.returning.now c.args.reply
    (descriptions_of c.args.ones.now.items) (descriptions_of c.args.left.now.items) d at
    c.args.call.now)
    c.args.ones.now.items c.args.k c.index-one.result.now
    (item_at c.args.ones.now.items c.args.k c.index-one.result.now _ c.requires.within
    c.index-one.ensures)
    (λ at covered may.
    let of = c.places.ensures.0 c.if-places.true in
    absurd (may.unplaced (
      of.0,
      covered_placed (g.O.SeqObject.spec c.args.object.now).next
          (g.O.Overwriting.writes c.args.object.now) c.args.calls.now
          (g.met.O.Overwriting.they_overwrite c.args.object.now) c.args.returning.now.call
          (description_of c.index-one.result.now) at covered _ of.1,
    )))

pub returns-then-branch-clause-added : goal.returns-then-branch-clause-added
returns-then-branch-clause-added g c = added_none (g.O.SeqObject.spec c.args.object.now)
    c.args.calls.now c.args.returning.now c.args.reply [] (descriptions_of c.args.ones.now.items)
    (descriptions_of c.args.left.now.items)

pub returns-then-branch-clause-leads : goal.returns-then-branch-clause-leads
returns-then-branch-clause-leads g c =
    let there = item_at c.args.ones.now.items c.args.k c.index-one.result.now _ c.requires.within
    c.index-one.ensures in
    at_all
    (λ (d : Description). (at : Configuration) → Means d at ⊎ Hides
    (g.O.SeqObject.spec c.args.object.now).next (g.O.Overwriting.writes c.args.object.now)
    c.args.calls.now c.args.returning.now.call d at
    → MayBePlaced (g.O.SeqObject.spec c.args.object.now).next c.args.calls.now at c.args.call.now
    → LeadsTo (g.O.SeqObject.spec c.args.object.now).next
    (g.O.Overwriting.writes c.args.object.now) c.args.calls.now c.args.returning.now c.args.reply
    (descriptions_of c.args.ones.now.items) (descriptions_of c.args.left.now.items) d at
    c.args.call.now)
    c.args.ones.now.items c.args.k c.index-one.result.now there
    (λ at covered may. elim (c.in_ok-adds_nothing.ensures c.if-branch.true at covered may) [
      | inl means ↦ inl (c.requires.taken (description_of c.index-one.result.now)
          (c.args.k, map-at description_of c.args.ones.now.items c.args.k c.index-one.result.now there)
          (with_call (g.O.SeqObject.spec c.args.object.now).next at c.args.call.now) means)
      | inr hides ↦ inr hides
    ])

pub expanded-requires : goal.expanded-requires
expanded-requires g c = record {
  is_open = c.requires.is_open;
  short = c.requires.short (description_of c.index-one.result.now)
      (map-at description_of c.args.ones.now.items c.args.k c.index-one.result.now
      (item_at c.args.ones.now.items c.args.k c.index-one.result.now _ c.requires.within
      c.index-one.ensures));
  lacking = λ of. not_true c.places.result c.if-places.false (c.places.ensures.1 of);
}

pub admit-requires : goal.admit-requires
admit-requires g c = c.requires.taken

pub returns-in-Some-clause-added : goal.returns-in-Some-clause-added
returns-in-Some-clause-added g c =
    let spec = g.O.SeqObject.spec c.args.object.now in
    let next = description_of c.in-Some.next in
    let there = item_at c.args.ones.now.items c.args.k c.index-one.result.now _ c.requires.within
    c.index-one.ensures in
    on_ok c.admit.result (λ added. added_given spec c.args.calls.now c.args.returning.now
    c.args.reply (next ∷ []) [] (descriptions_of c.args.ones.now.items)
    (descriptions_of c.args.left.now.items) (descriptions_of c.admit.new.ones.items)
    (descriptions_of c.admit.new.left.items)
    (λ stream are reached none. all_of_one (IsInResidue spec stream) c.args.calls.now next
    (some_of _ c.in_ok-next.field-0 c.in-Some.next c.in-Some.is c.in_ok-next.ensures.sound
    stream are (reached (description_of c.index-one.result.now)
    (c.args.k, map-at description_of c.args.ones.now.items c.args.k c.index-one.result.now there))))
    added) c.admit.ensures.added

pub returns-in-Some-clause-leads : goal.returns-in-Some-clause-leads
returns-in-Some-clause-leads g c =
    on_ok c.admit.result (λ taken. at_all
    (λ (d : Description). (at : Configuration) → Means d at ⊎ Hides
    (g.O.SeqObject.spec c.args.object.now).next (g.O.Overwriting.writes c.args.object.now)
    c.args.calls.now c.args.returning.now.call d at
    → MayBePlaced (g.O.SeqObject.spec c.args.object.now).next c.args.calls.now at c.args.call.now
    → LeadsTo (g.O.SeqObject.spec c.args.object.now).next
    (g.O.Overwriting.writes c.args.object.now) c.args.calls.now c.args.returning.now c.args.reply
    (descriptions_of c.admit.new.ones.items) (descriptions_of c.admit.new.left.items) d at
    c.args.call.now)
    c.args.ones.now.items c.args.k c.index-one.result.now
    (item_at c.args.ones.now.items c.args.k c.index-one.result.now _ c.requires.within
    c.index-one.ensures)
    (λ at covered may. let next = with_call (g.O.SeqObject.spec c.args.object.now).next at c.args.call.now
    in elim covered [
      | inl means ↦ inl (taken next (some_of _ c.in_ok-next.field-0 c.in-Some.next c.in-Some.is
          c.in_ok-next.ensures.means at means may.unplaced))
      | inr hides ↦ elim (hides.unseen c.args.call.now may) [
        | inl write ↦ inl (taken next (some_of _ c.in_ok-next.field-0 c.in-Some.next c.in-Some.is
            c.in_ok-next.ensures.hidden write c.args.returning.now.call at hides may))
        | inr rests ↦ inr (
          rests.0,
          hides_resting (g.O.SeqObject.spec c.args.object.now).next
              (g.O.Overwriting.writes c.args.object.now) c.args.calls.now
              (g.met.O.Overwriting.they_overwrite c.args.object.now) c.args.returning.now.call
              (description_of c.index-one.result.now) c.args.call.now at hides may rests,
        )
      ]
    ])) c.admit.ensures.taken

pub returns-in-None-clause-added : goal.returns-in-None-clause-added
returns-in-None-clause-added g c = added_none (g.O.SeqObject.spec c.args.object.now)
    c.args.calls.now c.args.returning.now c.args.reply [] (descriptions_of c.args.ones.now.items)
    (descriptions_of c.args.left.now.items)

pub returns-in-None-clause-leads : goal.returns-in-None-clause-leads
returns-in-None-clause-leads g c = at_all
    (λ (d : Description). (at : Configuration) → Means d at ⊎ Hides
    (g.O.SeqObject.spec c.args.object.now).next (g.O.Overwriting.writes c.args.object.now)
    c.args.calls.now c.args.returning.now.call d at
    → MayBePlaced (g.O.SeqObject.spec c.args.object.now).next c.args.calls.now at c.args.call.now
    → LeadsTo (g.O.SeqObject.spec c.args.object.now).next
    (g.O.Overwriting.writes c.args.object.now) c.args.calls.now c.args.returning.now c.args.reply
    (descriptions_of c.args.ones.now.items) (descriptions_of c.args.left.now.items) d at
    c.args.call.now)
    c.args.ones.now.items c.args.k c.index-one.result.now
    (item_at c.args.ones.now.items c.args.k c.index-one.result.now _ c.requires.within
    c.index-one.ensures)
    (λ at covered may. elim covered [
      | inl means ↦ absurd (none_of _ c.in_ok-next.field-0 c.in-None.is c.in_ok-next.ensures.none
          (subst (λ (l : List ℕ). MayHaveReply c.args.call.now
          ((g.O.SeqObject.spec c.args.object.now).next l c.args.call.now.op).1) means.list may.reply))
      | inr hides ↦ elim (hides.unseen c.args.call.now may) [
        | inl write ↦ absurd (none_of _ c.in_ok-next.field-0 c.in-None.is c.in_ok-next.ensures.none
            (subst (λ (n : List ℕ × ℕ). MayHaveReply c.args.call.now n.1)
            (g.met.O.Overwriting.they_overwrite c.args.object.now c.args.call.now.op
            write at.list c.index-one.result.now.list.items) may.reply))
        | inr rests ↦ inr (
          rests.0,
          hides_resting (g.O.SeqObject.spec c.args.object.now).next
              (g.O.Overwriting.writes c.args.object.now) c.args.calls.now
              (g.met.O.Overwriting.they_overwrite c.args.object.now) c.args.returning.now.call
              (description_of c.index-one.result.now) c.args.call.now at hides may rests,
        )
      ]
    ])
