use Rattle.std.proofs.Common.{◌≡◌, ℕ, ◌+◌, ◌*◌, Bool, if◌then◌else◌, List, [], ◌∷◌, ◌++◌, length, take, sym, ap, ◌∙◌, subst, arith, length-append}
use Rattle.std.specs.Prelude.{is_ok}
use Rattle.world_core.specs.CallSteps.{all_steps_of}
use Rattle.drv_wrapper.specs.States.{who_announced, op_announced, announced_local}
use Rattle.book_base.specs.Reaching.{IsCapacityFor}
use Rattle.book_base.proofs.ReachingLemmas.{suffices-fewer}
use Rattle.world_objects.specs.LogProgram.{list_of}
use Rattle.core_objects.specs.LogCalls.{KnowsTickets, KnowsOperations, places_on, number_on, HasMade, HasStored, HasPlaced, KnowsPlaces, KnowsLog}
use Rattle.core_objects.proofs.LogCalls.{meaning, number_few, made_both, made_all, log_kept, stored_kept, placed_kept, own_log_known, has_replied}
use Rattle.core_objects.proofs.core_log.CoreLogCoreObject.reply.Goals as goal

pub overflow_add-number : goal.overflow_add-number
overflow_add-number g c =
    let r = c.args.rows.now in
    let a = c.args.announced.now in
    let pass = c.args.pass.now in
    let who : c.from-2.result ≡ who_announced a = c.from-2.ensures ∙ c.requires.fits.caller_is in
    let same : c.from-2.result * pass.cap + c.number.result ≡ number_on r a =
    ap (λ (i : ℕ). i * pass.cap + c.number.result) who
    ∙ ap (λ (k : ℕ). who_announced a * k + c.number.result) c.requires.fits.cap_is
    ∙ ap (λ (m : ℕ). who_announced a * r.cap + m) c.number.ensures in
    omega (
      arith,
      number_few g.S.SeqObject.spec r a (c.from-2.result * pass.cap + c.number.result)
          c.requires.caller same c.requires.program.objects,
    )

pub load_operations-requires-clause-log : goal.load_operations-requires-clause-log
load_operations-requires-clause-log g c =
    let r = c.args.rows.now in
    let log : List ℕ = c.args.pass.now.log.items in
    log_kept g.S.SeqObject.spec r c.store_operation.new.announced
    c.place_ticket.new.announced log c.place_ticket.ensures.made
    (log_kept g.S.SeqObject.spec r c.args.announced.now
    c.store_operation.new.announced log c.store_operation.ensures.made c.requires.fits.log_known)

pub reply_after-reply-requires-clause-made : goal.reply_after-reply-requires-clause-made
reply_after-reply-requires-clause-made g c =
    let before = ap (λ (xs : List ℕ). length xs) c.load_operations.ensures.before in
    let log = ap (λ (xs : List ℕ). length xs) c.deref-2.ensures.value in
    omega (arith, before, log, c.len-made.ensures, c.args.pass.now.log.ok)

pub reply_after-reply-requires-clause-state : goal.reply_after-reply-requires-clause-state
reply_after-reply-requires-clause-state g c =
    let object = c.args.self.now.object in
    let log : List ℕ = c.load_operations.new.log.items in
    let count : length c.args.pass.now.log.items ≡ c.len-made.result =
    omega (arith, c.len-made.ensures, c.args.pass.now.log.ok) in
    c.requires.fits.state_is
    ∙ ap (list_of (g.S.SeqObject.spec object).next (g.S.SeqObject.spec object).init)
    (sym c.load_operations.ensures.before
    ∙ ap (λ (k : ℕ). take k log) count
    ∙ ap (take c.len-made.result) (sym c.deref-2.ensures.value))

pub reply_after-reply-requires-clause-room : goal.reply_after-reply-requires-clause-room
reply_after-reply-requires-clause-room g c =
    let spec = g.S.SeqObject.spec c.args.self.now.object in
    suffices-fewer spec.next spec.init (length c.deref-2.result.now + 1) _
    c.args.pass.now.state.room (omega arith) c.requires.fits.state_fits

pub returns : goal.returns
returns g c =
    let r = c.args.rows.now in
    let object = c.args.self.now.object in
    let fits = c.requires.fits in
    let a = c.args.announced.now in
    let b = c.store_operation.new.announced in
    let d = c.place_ticket.new.announced in
    let e = c.load_operations.new.announced in
    let tickets : List ℕ = c.place_ticket.new.tickets.items in
    let log : List ℕ = c.load_operations.new.log.items in
    let op : ℕ = c.op-op.result in
    let reply : ℕ = c.reply_after-reply.result in
    let placing : HasMade (meaning g.S.SeqObject.spec) r a d =
    made_both g.S.SeqObject.spec r a b d c.requires.caller
    c.store_operation.ensures.made c.place_ticket.ensures.made in
    let made : HasMade (meaning g.S.SeqObject.spec) r a e =
    made_both g.S.SeqObject.spec r a d e c.requires.caller placing
    c.load_operations.ensures.made in
    let here = c.place_ticket.ensures.made.still.0 in
    let stored : HasStored r e =
    stored_kept g.S.SeqObject.spec r d e here c.load_operations.ensures.made
    c.place_ticket.ensures.stored in
    let placed : HasPlaced r e tickets =
    placed_kept g.S.SeqObject.spec r d e tickets here
    c.load_operations.ensures.made c.place_ticket.ensures.placed in
    let tickets_known : KnowsPlaces r e tickets =
    subst (KnowsPlaces r e) c.deref.ensures.value c.load_operations.ensures.tickets in
    let log_known : KnowsLog r e log = c.load_operations.ensures.log in
    let count : length log + 1 ≡ length tickets =
    c.load_operations.ensures.whole ∙ ap (λ (xs : List ℕ). length xs) c.deref.ensures.value in
    let operation : op_announced e ≡ op = made.operation ∙ sym c.op-op.ensures in
    let reply_is : reply ≡ ((g.S.SeqObject.spec object).next
    (list_of (g.S.SeqObject.spec object).next (g.S.SeqObject.spec object).init log) op).1 =
    c.reply_after-reply.ensures.reply
    ∙ ap (λ (xs : List ℕ). ((g.S.SeqObject.spec object).next
    (list_of (g.S.SeqObject.spec object).next (g.S.SeqObject.spec object).init xs) op).1)
    c.deref-2.ensures.value in
    let grown : c.push.new.self.items ≡ log ++ op ∷ [] =
    c.push.ensures.items ∙ ap (λ (b : Bool). if b then log ++ op ∷ [] else log)
    (ap is_ok c.unwrap.ensures) in
    let longer : length c.push.new.self.items ≡ length log + 1 =
    ap (λ (xs : List ℕ). length xs) grown ∙ length-append log (op ∷ []) in
    let all_known : KnowsLog r e (log ++ op ∷ []) =
    own_log_known g.S.SeqObject.spec r e op log tickets stored
    (sym operation) placed tickets_known count log_known in
    let steps : all_steps_of (announced_local e) ≡ all_steps_of (announced_local a) ++ made.steps =
    made_all g.S.SeqObject.spec r a e made in
    record {
      made = (
        has_replied g.S.SeqObject.spec r a e object log tickets op reply
            c.requires.first made c.requires.program.program_is operation placed
            count log_known reply_is,
        record {
          caller_is = fits.caller_is;
          callers_are = fits.callers_are;
          cap_is = fits.cap_is;
          tickets_fit = omega (arith, fits.tickets_fit, c.place_ticket.ensures.capacity);
          log_fits = omega
              (arith, fits.log_fits, c.load_operations.ensures.capacity, c.push.ensures.capacity);
          state_fits = subst (λ (k : ℕ). IsCapacityFor (g.S.SeqObject.spec object)
              (r.callers * r.cap) k) (sym c.reply_after-reply.ensures.room) fits.state_fits;
          state_is =
              c.reply_after-reply.ensures.state
              ∙ ap (list_of (g.S.SeqObject.spec object).next (g.S.SeqObject.spec object).init)
              (ap (λ (xs : List ℕ). xs ++ op ∷ []) c.deref-2.ensures.value ∙ sym grown);
          tickets_known = subst (KnowsTickets (places_on r) tickets) steps tickets_known;
          log_known =
              subst (λ (xs : List ℕ). KnowsOperations (places_on r) xs
              (all_steps_of (announced_local a) ++ made.steps)) (sym grown)
              (subst (KnowsOperations (places_on r) (log ++ op ∷ [])) steps all_known);
          whole = omega (arith, longer, count);
        },
      );
    }
