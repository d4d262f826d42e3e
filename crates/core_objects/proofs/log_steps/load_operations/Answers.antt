use Rattle.std.proofs.Common.{◌≡◌, ◌<◌, ℕ, ◌+◌, ◌-◌, Bool, if◌then◌else◌, List, [], ◌∷◌, ◌++◌, length, Some, take, take_all, slice_index_or, sym, ap, ◌∙◌, subst, arith, length-append}
use Rattle.std.specs.Prelude.{is_ok}
use Rattle.std.proofs.lemmas.List.{take-append-le}
use Rattle.std.proofs.lemmas.Option.{slice_get-get_or}
use Rattle.world_core.specs.CallSteps.{all_steps_of}
use Rattle.drv_wrapper.specs.States.{announced_local}
use Rattle.world_objects.specs.LogWords.{ticket_place, ticket_of, known, known_operation}
use Rattle.core_objects.specs.LogCalls.{places_on, KnowsLog}
use Rattle.core_objects.proofs.LogCalls.{made_none, made_both, place_kept, log_kept, log_grown}
use Rattle.core_objects.proofs.log_steps.load_operations.Goals as goal

pub loop-place-init : goal.loop-place-init
loop-place-init g c =
    record {
      made = made_none g.S.SeqObject.spec c.args.rows.now c.args.announced.now
          c.requires.caller;
      tickets = c.requires.tickets;
      log = c.requires.log;
      before = take_all _ c.args.log.now.items (omega arith);
      place = omega (arith, c.len-place.ensures, c.args.log.now.ok);
      capacity = omega arith;
    }

pub overflow_sub-tickets : goal.overflow_sub-tickets
overflow_sub-tickets g c =
    let tickets : List ℕ = c.args.tickets.now in
    let place : ℕ = c.loop-place.place in
    let low : place < length tickets = omega (arith, c.loop-place-test.true) in
    omega (
      arith,
      (c.loop-place.invariant.tickets.filled place (slice_index_or tickets place 0)
          (slice_get-get_or tickets place 0 low)).1,
    )

pub load_operation-op-requires-clause-named : goal.load_operation-op-requires-clause-named
load_operation-op-requires-clause-named g c =
    let r = c.args.rows.now in
    let tickets : List ℕ = c.args.tickets.now in
    let place : ℕ = c.loop-place.place in
    let inv = c.loop-place.invariant in
    let ticket : ℕ = slice_index_or tickets place 0 in
    let low : place < length tickets = omega (arith, c.loop-place-test.true) in
    let filled = inv.tickets.filled place ticket (slice_get-get_or tickets place 0 low) in
    let named : ticket ≡ ticket_of (ticket - 1) = omega (arith, filled.1) in
    record {
      own = c.requires.placed.place;
      placed =
          place_kept g.S.SeqObject.spec r c.args.announced.now
          c.loop-place.announced c.requires.placed.place c.requires.caller inv.made
          c.requires.placed.placed;
      place = place;
      before = omega (arith, c.loop-place-test.true, c.requires.placed.last);
      low = omega (arith, low, inv.tickets.few);
      ticket = filled.0 ∙ ap Some named;
    }

pub loop-place-preserved : goal.loop-place-preserved
loop-place-preserved g c =
    let r = c.args.rows.now in
    let tickets : List ℕ = c.args.tickets.now in
    let log : List ℕ = c.loop-place.log.items in
    let place : ℕ = c.loop-place.place in
    let inv = c.loop-place.invariant in
    let a = c.args.announced.now in
    let b = c.loop-place.announced in
    let d = c.load_operation-op.new.announced in
    let op : ℕ = c.load_operation-op.result in
    let ticket : ℕ = slice_index_or tickets place 0 in
    let low : place < length tickets = omega (arith, c.loop-place-test.true) in
    let known_then = c.load_operation-op.ensures.tickets tickets inv.tickets in
    let filled = known_then.filled place ticket (slice_get-get_or tickets place 0 low) in
    let named : ticket ≡ ticket_of (ticket - 1) = omega (arith, filled.1) in
    let grown : c.push.new.self.items ≡ log ++ op ∷ [] =
    c.push.ensures.items ∙ ap (λ (b : Bool). if b then log ++ op ∷ [] else log)
    (ap is_ok c.unwrap.ensures) in
    let count : length c.push.new.self.items ≡ length log + 1 =
    ap (λ (xs : List ℕ). length xs) grown ∙ length-append log (op ∷ []) in
    record {
      made = made_both g.S.SeqObject.spec r a b d c.requires.caller inv.made
          c.load_operation-op.ensures.made;
      tickets = known_then;
      log =
          subst (KnowsLog r d) (sym grown)
          (log_grown (places_on r) ticket op log (all_steps_of (announced_local d))
          (log_kept g.S.SeqObject.spec r b d log
          c.load_operation-op.ensures.made inv.log)
          (ap (λ (p : ℕ). known (ticket_place (places_on r) p) (all_steps_of (announced_local d)))
          (sym inv.place) ∙ filled.0)
          (ap (λ (t : ℕ). known_operation (Some t) (all_steps_of (announced_local d))) named
          ∙ c.load_operation-op.ensures.operation));
      before =
          ap (take (length c.args.log.now.items)) grown
          ∙ take-append-le (length c.args.log.now.items) log (op ∷ [])
          (omega (arith, ap (λ (xs : List ℕ). length xs) inv.before))
          ∙ inv.before;
      place = omega (arith, count, inv.place);
      capacity = omega (arith, inv.capacity, c.push.ensures.capacity);
    }
