use Rattle.std.proofs.Common.{◌≡◌, refl, sym, subst, ap, ℕ, ◌+◌, ◌*◌, ◌<◌, List, length, arith}
use Rattle.book_base.specs.SeqSpec.{SeqSpec}
use Rattle.report_lines.specs.Phases.{Progress}
use Rattle.row_table.specs.declared.caller.Caller.{Caller}
use Rattle.row_table.specs.Callers.{shape_of, who_of, local_with}
use Rattle.drv_wrapper.specs.States.{caller_announced, announced_local, caller_answered, caller_viewed}
use Rattle.drv_wrapper.proofs.Locals.{local_has_phase}
use Rattle.enforcer.specs.States.{caller_published}
use Rattle.client_calls.specs.Asking.{FitsCaller}
use Rattle.client_calls.specs.Endings.{caller_ended, HasEnded, IsNoted}
use Rattle.client_calls.specs.declared.stand.CallerState.{CallerState}
use Rattle.client_calls.specs.declared.stand.CallerState.TheVariants as at
use Rattle.client_calls.specs.Stands.{caller_at, phases_at}
use Rattle.client_calls.specs.Course.{HasCome, Counts}
use Rattle.client_calls.proofs.Standing.{come_at, counted_at, fits_at, fits_stays, stands_before, phases_with, come_with, counted_with, fits_with, kept_with, standing_with, same_sheet, same_with, capacity_later}
use Rattle.client_calls.proofs.Kept.{gathered_by_is, stays_kept, stand_noted, kept_at}
use Rattle.client_calls.proofs.Coming.{none_yet, announced_come, answered_come, viewed_come, published_come}
use Rattle.client_calls.proofs.Ends.{idle_announced, ended_come, phases_noted}
use Rattle.client_calls.proofs.Told.{announced_asked, answered_asked, viewed_asked, published_asked, ended_asked, counted_as, counted_after, call_left}
use Rattle.client_calls.proofs.client.Client.advance.Goals as goal
use Rattle.client_calls.proofs.client.Client.advance.Goals.{in-Idle, in-Announced, in-Answered, in-Viewed, in-Published, in_default}

pub announce-requires-clause-left : goal.announce-requires-clause-left
announce-requires-clause-left g c =
    let left : phases_at (length c.args.self.sheet.lines.items) (at.Idle c.in-Idle.caller)
    < 5 * length c.args.self.sheet.operations.now =
    subst (λ (s : CallerState _). phases_at (length c.args.self.sheet.lines.items) s
    < 5 * length c.args.self.sheet.operations.now) c.in-Idle.is c.requires.left in
    omega (
      arith,
      left,
      idle_announced _ _ _ (g.met.E.Ending.stays (g.E.Ending.object c.args.self.sheet.ending)) _ _ _
          c.in-Idle.caller (come_at _ _ c.in-Idle.is c.requires.work.course),
      c.requires.work.has_capacity.rows,
    )

pub end_call-stand-requires-clause-keeps : goal.end_call-stand-requires-clause-keeps
end_call-stand-requires-clause-keeps g c = record {
  gathered =
      gathered_by_is _ _ (kept_at _ _ c.args.self.sheet.gathered c.in-Published.is
      c.args.self.kept);
  stands = c.requires.work.stands;
}

pub invariant_of-result : goal.invariant_of-result
invariant_of-result g c =
    let self = c.args.self in
    let s = c.match-stand.stand in
    let h = c.match-stand.sheet in
    record {
      kept = elim c.match-stand.branch [
        | in-Idle w ↦
            kept_with s _ h _ w.stand-is w.sheet-is (stays_kept _ _ self.sheet.gathered
            w.announce.ensures.grows (kept_at _ _ self.sheet.gathered w.in-Idle.is self.kept))
        | in-Announced w ↦
            kept_with s _ h _ w.stand-is w.sheet-is (stays_kept _ _ self.sheet.gathered
            w.ask.ensures.grows (kept_at _ _ self.sheet.gathered w.in-Announced.is self.kept))
        | in-Answered w ↦
            kept_with s _ h _ w.stand-is w.sheet-is (stays_kept _ _ self.sheet.gathered
            w.view.ensures.grows (kept_at _ _ self.sheet.gathered w.in-Answered.is self.kept))
        | in-Viewed w ↦
            kept_with s _ h _ w.stand-is w.sheet-is (stays_kept _ _ self.sheet.gathered
            w.publish.ensures.grows (kept_at _ _ self.sheet.gathered w.in-Viewed.is self.kept))
        | in-Published w ↦
            kept_with s _ h _ w.stand-is w.sheet-is ∣ w.end_call-stand.ensures.keeps.gathered ∣₁
        | in_default w ↦ kept_with s self.stand h self.sheet w.stand-is w.sheet-is self.kept
      ];
    }

pub returns-clause-phase : goal.returns-clause-phase
returns-clause-phase g c =
    let self = c.args.self in
    let own = self.sheet.lines.items in
    let s = c.match-stand.stand in
    let h = c.match-stand.sheet in
    let before =
    λ (t : CallerState _) (is : self.stand ≡ t).
    ap (λ (z : CallerState _). phases_at (length own) z + 1) is in
    elim c.match-stand.branch [
      | in-Idle w ↦
          phases_with s _ h _ w.stand-is w.sheet-is _ (omega (arith, before _ w.in-Idle.is))
      | in-Announced w ↦
          phases_with s _ h _ w.stand-is w.sheet-is _ (omega (arith, before _ w.in-Announced.is))
      | in-Answered w ↦
          phases_with s _ h _ w.stand-is w.sheet-is _ (omega (arith, before _ w.in-Answered.is))
      | in-Viewed w ↦
          phases_with s _ h _ w.stand-is w.sheet-is _ (omega (arith, before _ w.in-Viewed.is))
      | in-Published w ↦
          let sheet = w.end_call-stand.new.self in
          let ends = w.end_call-stand.ensures.ends in
          let after : phases_at (length sheet.lines.items) w.end_call-stand.result
          ≡ 5 * length own + 5 =
          phases_noted c.next_op-op.result own ends.0
          w.end_call-stand.result sheet.lines.items ends.2 in
          phases_with s _ h _ w.stand-is w.sheet-is _
          (omega (arith, before _ w.in-Published.is, after))
      | in_default w ↦
          absurd
          (stands_before self.stand c.requires.goes w.in_default.not-Idle w.in_default.not-Announced
          w.in_default.not-Answered w.in_default.not-Viewed w.in_default.not-Published)
    ]

pub returns-clause-same : goal.returns-clause-same
returns-clause-same g c =
    let object = g.E.Ending.object in
    let h = c.match-stand.sheet in
    let old = c.args.self.sheet in
    elim c.match-stand.branch [
      | in-Idle w ↦ same_sheet object h old w.sheet-is
      | in-Announced w ↦ same_sheet object h old w.sheet-is
      | in-Answered w ↦ same_sheet object h old w.sheet-is
      | in-Viewed w ↦ same_sheet object h old w.sheet-is
      | in-Published w ↦ same_with object h _ old w.sheet-is w.end_call-stand.ensures.same
      | in_default w ↦ same_sheet object h old w.sheet-is
    ]

pub returns-clause-work : goal.returns-clause-work
returns-clause-work g c =
    let self = c.args.self in
    let old = self.sheet in
    let meaning = g.P.Program.meaning in
    let rows = c.args.shared.now.rows.now in
    let says = g.E.Ending.says in
    let object = g.E.Ending.object in
    let stays = g.met.E.Ending.stays (object old.ending) in
    let s = c.match-stand.stand in
    let h = c.match-stand.sheet in
    let fits = g.A.Asks.fits c.args.shared.now.asks.now in
    let count = g.A.Asks.count in
    let p = c.match-stand.pass in
    record {
      course =
          elim c.match-stand.branch [
            | in-Idle w ↦
                let left : phases_at (length old.lines.items) (at.Idle w.in-Idle.caller)
                < 5 * length old.operations.now =
                subst
                (λ (z : CallerState _).
                phases_at (length old.lines.items) z < 5 * length old.operations.now)
                w.in-Idle.is c.requires.left in
                come_with s _ h old w.stand-is w.sheet-is meaning rows says object
                (announced_come meaning rows (says (object old.ending)) stays old.who
                old.operations.now
                old.lines.items w.in-Idle.caller w.announce.result _ c.next_op-op.ensures
                (come_at _ _ w.in-Idle.is c.requires.work.course)
                (omega (arith, left)) w.announce.ensures.caller w.announce.ensures.operation
                w.announce.ensures.progress w.announce.ensures.grows
                (none_yet (local_with w.in-Idle.caller) (announced_local w.announce.result)
                (local_has_phase (shape_of meaning rows) (who_of w.in-Idle.caller)
                (local_with w.in-Idle.caller)
                (come_at _ _ w.in-Idle.is c.requires.work.course).caller.seat.local)
                (come_at _ _ w.in-Idle.is c.requires.work.course).may.idle.announcing
                (ap (λ (x : Progress). x.published) w.announce.ensures.progress)
                w.announce.ensures.announced.object_steps))
            | in-Announced w ↦
                let come = come_at _ _ w.in-Announced.is c.requires.work.course in
                come_with s _ h old w.stand-is w.sheet-is meaning rows says object
                (answered_come meaning rows (says (object old.ending)) stays old.who
                old.operations.now
                old.lines.items w.in-Announced.announced w.ask.result come
                (w.ask.ensures.rows rows c.requires.serves come.caller, w.ask.ensures.who)
                w.ask.ensures.operation w.ask.ensures.allowed w.ask.ensures.calls
                w.ask.ensures.grows)
            | in-Answered w ↦
                come_with s _ h old w.stand-is w.sheet-is meaning rows says object
                (viewed_come meaning rows (says (object old.ending)) stays old.who
                old.operations.now
                old.lines.items w.in-Answered.answered w.view.result
                (come_at _ _ w.in-Answered.is c.requires.work.course)
                w.view.ensures.caller w.view.ensures.wide w.view.ensures.progress
                w.view.ensures.grows)
            | in-Viewed w ↦
                come_with s _ h old w.stand-is w.sheet-is meaning rows says object
                (published_come meaning rows (says (object old.ending)) stays old.who
                old.operations.now
                old.lines.items w.in-Viewed.viewed w.publish.result
                (come_at _ _ w.in-Viewed.is c.requires.work.course)
                w.publish.ensures.caller w.publish.ensures.record w.publish.ensures.progress
                w.publish.ensures.grows)
            | in-Published w ↦
                let sheet = w.end_call-stand.new.self in
                let ends = w.end_call-stand.ensures.ends in
                let come = ended_come meaning rows
                (says (object old.ending)) stays old.who old.operations.now old.lines.items
                w.in-Published.published ends.0 w.end_call-stand.result sheet.lines.items
                (come_at _ _ w.in-Published.is c.requires.work.course)
                (subst
                (λ (o : SeqSpec). HasEnded meaning rows (says o) w.in-Published.published ends.0)
                w.end_call-stand.ensures.same.judges ends.1)
                (subst
                (λ (o : ℕ). IsNoted o old.lines.items ends.0 sheet.lines.items
                w.end_call-stand.result)
                c.next_op-op.ensures ends.2) in
                come_with s _ h sheet w.stand-is w.sheet-is meaning rows says object
                (subst (λ (o : SeqSpec). HasCome meaning rows (says o) sheet.who
                sheet.operations.now
                w.end_call-stand.result sheet.lines.items) (sym
                w.end_call-stand.ensures.same.judges)
                (subst (λ (i : ℕ). HasCome meaning rows (says (object old.ending)) i
                sheet.operations.now
                w.end_call-stand.result sheet.lines.items) (sym w.end_call-stand.ensures.same.who)
                (subst (λ (ops : List ℕ). HasCome meaning rows (says (object old.ending)) old.who
                ops
                w.end_call-stand.result sheet.lines.items) (sym
                w.end_call-stand.ensures.same.operations) come)))
            | in_default w ↦ come_with s self.stand h old w.stand-is w.sheet-is meaning rows says
                object
                c.requires.work.course
          ];
      pass = record {
        fits_caller = elim c.match-stand.branch [
          | in-Idle w ↦
              fits_with s _ h old w.stand-is w.sheet-is fits p _ w.pass-is
              (fits_stays meaning rows fits _ w.in-Idle.caller (caller_announced w.announce.result)
              (come_at _ _ w.in-Idle.is c.requires.work.course).caller w.announce.ensures.caller
              (ap (λ (x : Progress). x.steps) w.announce.ensures.progress)
              (fits_at fits _ _ _ w.in-Idle.is c.requires.work.pass.fits_caller))
          | in-Announced w ↦
              fits_with s _ h old w.stand-is w.sheet-is fits p _ w.pass-is w.ask.ensures.fits
          | in-Answered w ↦
              fits_with s _ h old w.stand-is w.sheet-is fits p _ w.pass-is
              (fits_stays meaning rows fits _ (caller_answered w.in-Answered.answered)
              (caller_viewed w.view.result)
              (come_at _ _ w.in-Answered.is c.requires.work.course).caller w.view.ensures.caller
              (ap (λ (x : Progress). x.steps) w.view.ensures.progress)
              (fits_at fits _ _ _ w.in-Answered.is c.requires.work.pass.fits_caller))
          | in-Viewed w ↦
              fits_with s _ h old w.stand-is w.sheet-is fits p _ w.pass-is
              (fits_stays meaning rows fits _ (caller_viewed w.in-Viewed.viewed)
              (caller_published w.publish.result)
              (come_at _ _ w.in-Viewed.is c.requires.work.course).caller w.publish.ensures.caller
              (ap (λ (x : Progress). x.steps) w.publish.ensures.progress)
              (fits_at fits _ _ _ w.in-Viewed.is c.requires.work.pass.fits_caller))
          | in-Published w ↦
              let sheet = w.end_call-stand.new.self in
              let ends = w.end_call-stand.ensures.ends in
              let at_end : caller_ended ends.0 ≡ caller_at w.end_call-stand.result =
              stand_noted c.next_op-op.result old.lines.items ends.0 sheet.lines.items
              w.end_call-stand.result ends.2 in
              fits_with s _ h sheet w.stand-is w.sheet-is fits p _ w.pass-is
              (subst (λ (d : Caller _). FitsCaller fits self.pass d) at_end
              (fits_stays meaning rows fits self.pass (caller_published w.in-Published.published)
              (caller_ended ends.0)
              (come_at _ _ w.in-Published.is c.requires.work.course).caller ends.1.still
              (ap (λ (x : Progress). x.steps) ends.1.progress)
              (fits_at fits self.pass _ _ w.in-Published.is c.requires.work.pass.fits_caller)))
          | in_default w ↦ fits_with s self.stand h old w.stand-is w.sheet-is fits p _ w.pass-is
              c.requires.work.pass.fits_caller
        ];
        counts = elim c.match-stand.branch [
          | in-Idle w ↦
              counted_with s _ h old w.stand-is w.sheet-is p _ w.pass-is count
              (counted_as old.operations.now (count self.pass) _ (at.Announced w.announce.result) _
              _
              (λ made told asked.
              announced_asked _ _ _ _ _ _ made told w.in-Idle.caller w.announce.result _
              (come_at _ _ w.in-Idle.is c.requires.work.course) w.announce.ensures.progress asked)
              (counted_at (count self.pass) old.operations.now old.lines.items _ _ w.in-Idle.is
              c.requires.work.pass.counts))
          | in-Announced w ↦
              counted_with s _ h old w.stand-is w.sheet-is p _ w.pass-is count
              (counted_after old.operations.now (count self.pass) _ _ _ _ (at.Answered
              w.ask.result) _
              (λ made told asked. answered_asked _ _ _ _ _ _ made told w.in-Announced.announced
              w.ask.result _ _ (come_at _ _ w.in-Announced.is c.requires.work.course)
              w.ask.ensures.calls w.ask.ensures.operation refl refl asked)
              w.ask.ensures.count (counted_at (count self.pass) old.operations.now old.lines.items
              _ _
              w.in-Announced.is c.requires.work.pass.counts))
          | in-Answered w ↦
              counted_with s _ h old w.stand-is w.sheet-is p _ w.pass-is count
              (counted_as old.operations.now (count self.pass) _ (at.Viewed w.view.result) _ _
              (λ made told asked. viewed_asked _ _ _ _ _ _ made told w.in-Answered.answered
              w.view.result (come_at _ _ w.in-Answered.is c.requires.work.course)
              w.view.ensures.call.1 w.view.ensures.progress asked)
              (counted_at (count self.pass) old.operations.now old.lines.items _ _ w.in-Answered.is
              c.requires.work.pass.counts))
          | in-Viewed w ↦
              counted_with s _ h old w.stand-is w.sheet-is p _ w.pass-is count
              (counted_as old.operations.now (count self.pass) _ (at.Published w.publish.result) _ _
              (λ made told asked.
              published_asked meaning rows (g.E.Ending.says (g.E.Ending.object old.ending)) old.who
              old.operations.now _ made told w.in-Viewed.viewed w.publish.result
              w.publish.ensures.progress asked)
              (counted_at (count self.pass) old.operations.now old.lines.items _ _ w.in-Viewed.is
              c.requires.work.pass.counts))
          | in-Published w ↦
              let sheet = w.end_call-stand.new.self in
              let ends = w.end_call-stand.ensures.ends in
              counted_with s _ h sheet w.stand-is w.sheet-is p _ w.pass-is count
              (subst (λ (ops : List ℕ). Counts (count self.pass) ops w.end_call-stand.result
              sheet.lines.items) (sym w.end_call-stand.ensures.same.operations)
              (counted_as old.operations.now (count self.pass) _ w.end_call-stand.result _ _
              (λ made told asked.
              ended_asked meaning rows _ old.who old.operations.now old.lines.items made told
              w.in-Published.published ends.0 w.end_call-stand.result sheet.lines.items ends.1
              (subst
              (λ (o : ℕ). IsNoted o old.lines.items ends.0 sheet.lines.items
              w.end_call-stand.result)
              c.next_op-op.ensures ends.2)
              (phases_noted c.next_op-op.result old.lines.items ends.0
              w.end_call-stand.result sheet.lines.items ends.2)
              asked)
              (counted_at (count self.pass) old.operations.now old.lines.items _ _ w.in-Published.is
              c.requires.work.pass.counts)))
          | in_default w ↦ counted_with s self.stand h old w.stand-is w.sheet-is p _ w.pass-is count
              c.requires.work.pass.counts
        ];
      };
      has_capacity =
          capacity_later object _ self _ (returns-clause-same g c) c.requires.work.has_capacity;
      stands =
          elim c.match-stand.branch [
            | in-Idle w ↦ standing_with h _ w.sheet-is object c.requires.work.stands
            | in-Announced w ↦ standing_with h _ w.sheet-is object c.requires.work.stands
            | in-Answered w ↦ standing_with h _ w.sheet-is object c.requires.work.stands
            | in-Viewed w ↦ standing_with h _ w.sheet-is object c.requires.work.stands
            | in-Published w ↦ standing_with h _ w.sheet-is object
                w.end_call-stand.ensures.keeps.stands
            | in_default w ↦ standing_with h _ w.sheet-is object c.requires.work.stands
          ];
    }

pub ask-requires-clause-table : goal.ask-requires-clause-table
ask-requires-clause-table g c = (
  c.args.shared.now.rows.now,
  c.requires.serves,
  (come_at _ _ c.in-Announced.is c.requires.work.course).caller,
)

pub ask-requires-clause-first : goal.ask-requires-clause-first
ask-requires-clause-first g c = (come_at _ _ c.in-Announced.is c.requires.work.course).may.1

pub ask-requires-clause-fits : goal.ask-requires-clause-fits
ask-requires-clause-fits g c = fits_at (g.A.Asks.fits c.args.shared.now.asks.now) c.args.self.pass _
    _ c.in-Announced.is c.requires.work.pass.fits_caller

pub ask-requires-clause-left : goal.ask-requires-clause-left
ask-requires-clause-left g c =
    call_left c.args.self.sheet.operations.now _ c.in-Announced.announced
    c.args.self.sheet.lines.items
    (subst (λ (s : CallerState _). phases_at (length c.args.self.sheet.lines.items) s
    < 5 * length c.args.self.sheet.operations.now) c.in-Announced.is c.requires.left)
    (counted_at _ c.args.self.sheet.operations.now c.args.self.sheet.lines.items _ _
    c.in-Announced.is c.requires.work.pass.counts)
