use Rattle.std.proofs.Common.{◌≡◌, ◌<◌, ℕ, ◌+◌, ◌*◌, Bool, if◌then◌else◌, List, [], ◌∷◌, ◌++◌, length, sym, ap, ◌∙◌, subst, arith, length-append}
use Rattle.std.specs.Prelude.{is_ok}
use Rattle.world_core.specs.Local.{Object_step}
use Rattle.core_objects.specs.LogCalls.{places_on, HasPlaced, KnowsPlaces}
use Rattle.core_objects.proofs.LogCalls.{number_few, made_none, made_one, stored_kept, tickets_grown, tried_made, tried_placed, tried_unplaced, finds_a_place}
use Rattle.core_objects.proofs.log_steps.place_ticket.Goals as goal

pub loop-place-init : goal.loop-place-init
loop-place-init g c =
    record {
      made = made_none g.S.SeqObject.spec c.args.rows.now c.args.announced.now
          c.requires.caller;
      stored = c.requires.stored;
      unplaced = c.requires.unplaced;
      known = c.requires.tickets;
      place = omega (arith, c.len-place.ensures, c.args.tickets.now.ok);
      more = omega arith;
      capacity = omega arith;
    }

pub overflow_add-number : goal.overflow_add-number
overflow_add-number g c =
    omega (
      arith,
      number_few g.S.SeqObject.spec c.args.rows.now c.args.announced.now c.args.number
          c.requires.caller c.requires.number c.requires.words,
    )

pub returns-then-ticket-number-clause-made : goal.returns-then-ticket-number-clause-made
returns-then-ticket-number-clause-made g c =
    let r = c.args.rows.now in
    let tickets : List ℕ = c.loop-place.tickets.items in
    let inv = c.loop-place.invariant in
    let step = c.try_place-ticket.ensures.stepped in
    let at =
    ap (λ (k : ℕ). 2 * k + length c.deref.result.now) c.requires.places
    ∙ ap (λ (xs : List ℕ). 2 * places_on r + length xs) c.deref.ensures.value in
    tried_made g.S.SeqObject.spec r c.args.announced.now c.loop-place.announced
    c.try_place-ticket.new.announced c.args.number step.0
    c.try_place-ticket.result (2 * c.args.places + length c.deref.result.now) tickets
    c.requires.caller c.requires.number inv.made step.1 at inv.unplaced

pub returns-then-ticket-number-clause-stored : goal.returns-then-ticket-number-clause-stored
returns-then-ticket-number-clause-stored g c =
    let r = c.args.rows.now in
    let inv = c.loop-place.invariant in
    let step = c.try_place-ticket.ensures.stepped in
    let tried : Object_step = record {
      place = 2 * c.args.places + length c.deref.result.now;
      old = step.0;
      new = c.try_place-ticket.result;
    } in
    stored_kept g.S.SeqObject.spec r c.loop-place.announced
    c.try_place-ticket.new.announced inv.made.still.0
    (made_one g.S.SeqObject.spec r c.loop-place.announced
    c.try_place-ticket.new.announced tried step.1) inv.stored

pub returns-then-ticket-number-clause-placed : goal.returns-then-ticket-number-clause-placed
returns-then-ticket-number-clause-placed g c =
    let r = c.args.rows.now in
    let tickets : List ℕ = c.loop-place.tickets.items in
    let inv = c.loop-place.invariant in
    let step = c.try_place-ticket.ensures.stepped in
    let at =
    ap (λ (k : ℕ). 2 * k + length c.deref.result.now) c.requires.places
    ∙ ap (λ (xs : List ℕ). 2 * places_on r + length xs) c.deref.ensures.value in
    let grown : c.push.new.self.items ≡ tickets ++ c.try_place-ticket.result ∷ [] =
    c.push.ensures.items ∙ ap
    (λ (b : Bool). if b then tickets ++ c.try_place-ticket.result ∷ [] else tickets)
    (ap is_ok c.unwrap.ensures) in
    subst (HasPlaced r c.try_place-ticket.new.announced) (sym grown)
    (tried_placed g.S.SeqObject.spec r c.args.announced.now
    c.loop-place.announced c.try_place-ticket.new.announced c.args.number step.0
    c.try_place-ticket.result (2 * c.args.places + length c.deref.result.now) tickets
    c.requires.caller c.requires.number inv.made step.1 at inv.unplaced
    c.if-ticket-number.true)

pub returns-then-ticket-number-clause-tickets : goal.returns-then-ticket-number-clause-tickets
returns-then-ticket-number-clause-tickets g c =
    let r = c.args.rows.now in
    let tickets : List ℕ = c.loop-place.tickets.items in
    let inv = c.loop-place.invariant in
    let step = c.try_place-ticket.ensures.stepped in
    let tried : Object_step = record {
      place = 2 * c.args.places + length c.deref.result.now;
      old = step.0;
      new = c.try_place-ticket.result;
    } in
    let at =
    ap (λ (k : ℕ). 2 * k + length c.deref.result.now) c.requires.places
    ∙ ap (λ (xs : List ℕ). 2 * places_on r + length xs) c.deref.ensures.value in
    let grown : c.push.new.self.items ≡ tickets ++ c.try_place-ticket.result ∷ [] =
    c.push.ensures.items ∙ ap
    (λ (b : Bool). if b then tickets ++ c.try_place-ticket.result ∷ [] else tickets)
    (ap is_ok c.unwrap.ensures) in
    let low : length tickets < places_on r =
    omega (arith, c.loop-place-test.true, inv.place, c.requires.places) in
    subst (KnowsPlaces r c.try_place-ticket.new.announced) (sym grown)
    (tickets_grown g.S.SeqObject.spec r c.loop-place.announced
    c.try_place-ticket.new.announced tried tickets step.1 at low
    c.try_place-ticket.ensures.filled inv.known)

pub loop-place-preserved : goal.loop-place-preserved
loop-place-preserved g c =
    let r = c.args.rows.now in
    let tickets : List ℕ = c.loop-place.tickets.items in
    let inv = c.loop-place.invariant in
    let step = c.try_place-ticket.ensures.stepped in
    let tried : Object_step = record {
      place = 2 * c.args.places + length c.deref.result.now;
      old = step.0;
      new = c.try_place-ticket.result;
    } in
    let at =
    ap (λ (k : ℕ). 2 * k + length c.deref.result.now) c.requires.places
    ∙ ap (λ (xs : List ℕ). 2 * places_on r + length xs) c.deref.ensures.value in
    let grown : c.push.new.self.items ≡ tickets ++ c.try_place-ticket.result ∷ [] =
    c.push.ensures.items ∙ ap
    (λ (b : Bool). if b then tickets ++ c.try_place-ticket.result ∷ [] else tickets)
    (ap is_ok c.unwrap.ensures) in
    let count : length c.push.new.self.items ≡ length tickets + 1 =
    ap (λ (xs : List ℕ). length xs) grown
    ∙ length-append tickets (c.try_place-ticket.result ∷ []) in
    let low : length tickets < places_on r =
    omega (arith, c.loop-place-test.true, inv.place, c.requires.places) in
    record {
      made =
          tried_made g.S.SeqObject.spec r c.args.announced.now
          c.loop-place.announced c.try_place-ticket.new.announced c.args.number step.0
          c.try_place-ticket.result (2 * c.args.places + length c.deref.result.now) tickets
          c.requires.caller c.requires.number inv.made step.1 at inv.unplaced;
      stored =
          stored_kept g.S.SeqObject.spec r c.loop-place.announced
          c.try_place-ticket.new.announced inv.made.still.0
          (made_one g.S.SeqObject.spec r c.loop-place.announced
          c.try_place-ticket.new.announced tried step.1) inv.stored;
      unplaced =
          tried_unplaced g.S.SeqObject.spec r c.args.announced.now
          c.loop-place.announced c.try_place-ticket.new.announced c.args.number step.0
          c.try_place-ticket.result (2 * c.args.places + length c.deref.result.now) tickets
          c.requires.caller c.requires.number inv.made step.1 at inv.unplaced
          c.if-ticket-number.false;
      known =
          subst (KnowsPlaces r c.try_place-ticket.new.announced) (sym grown)
          (tickets_grown g.S.SeqObject.spec r c.loop-place.announced
          c.try_place-ticket.new.announced tried tickets step.1 at low
          c.try_place-ticket.ensures.filled inv.known);
      place = omega (arith, count, inv.place);
      more = omega (arith, count, inv.more);
      capacity = omega (arith, inv.capacity, c.push.ensures.capacity);
    }

pub unreachable-requires : goal.unreachable-requires
unreachable-requires g c =
    let inv = c.loop-place.invariant in
    let end = c.loop-place-test.false in
    finds_a_place g.S.SeqObject.spec c.args.rows.now c.loop-place.announced
    c.loop-place.tickets.items inv.made.still.0 inv.known inv.unplaced
    (omega (arith, end, inv.place, c.requires.places))
