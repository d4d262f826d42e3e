use Rattle.std.proofs.Common.{◌≡◌, refl, sym, subst, ap, ℕ, ◌+◌, ◌*◌, ◌≤◌, List, length, arith}
use Rattle.book_base.specs.SeqSpec.{SeqSpec}
use Rattle.report_lines.specs.Phases.{Progress}
use Rattle.row_table.specs.declared.caller.Caller.{Caller}
use Rattle.enforcer.specs.States.{caller_seen}
use Rattle.client_calls.specs.Asking.{FitsCaller}
use Rattle.client_calls.specs.Endings.{caller_ended, HasEndedSeen, IsNoted}
use Rattle.client_calls.specs.declared.stand.CallerState.{CallerState}
use Rattle.client_calls.specs.declared.stand.CallerState.TheVariants as at
use Rattle.client_calls.specs.Stands.{caller_at, phases_at}
use Rattle.client_calls.specs.Course.{HasCome, Counts}
use Rattle.client_calls.proofs.Standing.{come_at, counted_at, fits_at, fits_stays, phases_with, come_with, counted_with, fits_with, kept_with, standing_with, same_sheet, same_with, capacity_later}
use Rattle.client_calls.proofs.Kept.{gathered_by_is, stand_noted, kept_at}
use Rattle.client_calls.proofs.Ends.{again_come, phases_noted}
use Rattle.client_calls.proofs.Told.{again_asked, counted_as}
use Rattle.client_calls.proofs.client.Client.judge_again.Goals as goal
use Rattle.client_calls.proofs.client.Client.judge_again.Goals.{in-Unjudged, in_default}

pub next_op-op-requires : goal.next_op-op-requires
next_op-op-requires g c =
    let few : phases_at (length c.args.self.sheet.lines.items) (at.Unjudged c.in-Unjudged.seen)
    ≤ 5 * length c.args.self.sheet.operations.now =
    subst (λ (s : CallerState _). phases_at (length c.args.self.sheet.lines.items) s
    ≤ 5 * length c.args.self.sheet.operations.now) c.in-Unjudged.is c.requires.within in
    omega (arith, few)

pub end_seen-stand-requires-clause-rows : goal.end_seen-stand-requires-clause-rows
end_seen-stand-requires-clause-rows g c =
    (come_at _ _ c.in-Unjudged.is c.requires.work.course).caller

pub end_seen-stand-requires-clause-keeps : goal.end_seen-stand-requires-clause-keeps
end_seen-stand-requires-clause-keeps g c = record {
  gathered =
      gathered_by_is _ _ (kept_at _ _ c.args.self.sheet.gathered c.in-Unjudged.is c.args.self.kept);
  stands = c.requires.work.stands;
}

pub end_seen-stand-requires-clause-room : goal.end_seen-stand-requires-clause-room
end_seen-stand-requires-clause-room g c =
    let few : phases_at (length c.args.self.sheet.lines.items) (at.Unjudged c.in-Unjudged.seen)
    ≤ 5 * length c.args.self.sheet.operations.now =
    subst (λ (s : CallerState _). phases_at (length c.args.self.sheet.lines.items) s
    ≤ 5 * length c.args.self.sheet.operations.now) c.in-Unjudged.is c.requires.within in
    omega (arith, few, c.requires.work.has_capacity.lines)

pub invariant_of-result : goal.invariant_of-result
invariant_of-result g c =
    let self = c.args.self in
    let s = c.match-stand.stand in
    let h = c.match-stand.sheet in
    record {
      kept = elim c.match-stand.branch [
        | in-Unjudged w ↦
            kept_with s _ h _ w.stand-is w.sheet-is ∣ w.end_seen-stand.ensures.keeps.gathered ∣₁
        | in_default w ↦ kept_with s self.stand h self.sheet w.stand-is w.sheet-is self.kept
      ];
    }

pub returns-clause-phases : goal.returns-clause-phases
returns-clause-phases g c =
    let self = c.args.self in
    let own = self.sheet.lines.items in
    let s = c.match-stand.stand in
    let h = c.match-stand.sheet in
    elim c.match-stand.branch [
      | in-Unjudged w ↦
          let sheet = w.end_seen-stand.new.self in
          let ends = w.end_seen-stand.ensures.ends in
          let after : phases_at (length sheet.lines.items) w.end_seen-stand.result
          ≡ 5 * length own + 5 =
          phases_noted w.next_op-op.result own ends.0 w.end_seen-stand.result sheet.lines.items
          ends.2 in
          let before = ap (λ (z : CallerState _). phases_at (length own) z) w.in-Unjudged.is in
          phases_with s _ h _ w.stand-is w.sheet-is _ (omega (arith, before, after))
      | in_default w ↦ phases_with s self.stand h self.sheet w.stand-is w.sheet-is _ refl
    ]

pub returns-clause-same : goal.returns-clause-same
returns-clause-same g c =
    let object = g.E.Ending.object in
    let h = c.match-stand.sheet in
    let old = c.args.self.sheet in
    elim c.match-stand.branch [
      | in-Unjudged w ↦ same_with object h _ old w.sheet-is w.end_seen-stand.ensures.same
      | in_default w ↦ same_sheet object h old w.sheet-is
    ]

pub returns-clause-work : goal.returns-clause-work
returns-clause-work g c =
    let self = c.args.self in
    let old = self.sheet in
    let meaning = g.P.Program.meaning in
    let rows = c.args.shared.now.rows.now in
    let says = g.E.Ending.says in
    let object = g.E.Ending.object in
    let stays = g.met.E.Ending.stays (object old.ending) in
    let s = c.match-stand.stand in
    let h = c.match-stand.sheet in
    let fits = g.A.Asks.fits c.args.shared.now.asks.now in
    let count = g.A.Asks.count in
    record {
      course =
          elim c.match-stand.branch [
            | in-Unjudged w ↦
                let sheet = w.end_seen-stand.new.self in
                let ends = w.end_seen-stand.ensures.ends in
                let come = again_come meaning rows
                (says (object old.ending)) stays old.who old.operations.now old.lines.items
                w.in-Unjudged.seen ends.0 w.end_seen-stand.result sheet.lines.items
                (come_at _ _ w.in-Unjudged.is c.requires.work.course)
                (subst
                (λ (o : SeqSpec). HasEndedSeen meaning rows (says o) w.in-Unjudged.seen ends.0)
                w.end_seen-stand.ensures.same.judges ends.1)
                (subst
                (λ (o : ℕ). IsNoted o old.lines.items ends.0 sheet.lines.items
                w.end_seen-stand.result)
                w.next_op-op.ensures ends.2) in
                come_with s _ h sheet w.stand-is w.sheet-is meaning rows says object
                (subst (λ (o : SeqSpec). HasCome meaning rows (says o) sheet.who
                sheet.operations.now
                w.end_seen-stand.result sheet.lines.items) (sym
                w.end_seen-stand.ensures.same.judges)
                (subst (λ (i : ℕ). HasCome meaning rows (says (object old.ending)) i
                sheet.operations.now
                w.end_seen-stand.result sheet.lines.items) (sym w.end_seen-stand.ensures.same.who)
                (subst (λ (ops : List ℕ). HasCome meaning rows (says (object old.ending)) old.who
                ops
                w.end_seen-stand.result sheet.lines.items) (sym
                w.end_seen-stand.ensures.same.operations) come)))
            | in_default w ↦ come_with s self.stand h old w.stand-is w.sheet-is meaning rows says
                object
                c.requires.work.course
          ];
      pass = record {
        fits_caller = elim c.match-stand.branch [
          | in-Unjudged w ↦
              let sheet = w.end_seen-stand.new.self in
              let ends = w.end_seen-stand.ensures.ends in
              let at_end : caller_ended ends.0 ≡ caller_at w.end_seen-stand.result =
              stand_noted w.next_op-op.result old.lines.items ends.0 sheet.lines.items
              w.end_seen-stand.result ends.2 in
              fits_with s _ h sheet w.stand-is w.sheet-is fits self.pass self.pass refl
              (subst (λ (d : Caller _). FitsCaller fits self.pass d) at_end
              (fits_stays meaning rows fits self.pass (caller_seen w.in-Unjudged.seen)
              (caller_ended ends.0)
              (come_at _ _ w.in-Unjudged.is c.requires.work.course).caller ends.1.still
              (ap (λ (x : Progress). x.steps) ends.1.progress)
              (fits_at fits self.pass _ _ w.in-Unjudged.is c.requires.work.pass.fits_caller)))
          | in_default w ↦ fits_with s self.stand h old w.stand-is w.sheet-is fits self.pass
              self.pass
              refl c.requires.work.pass.fits_caller
        ];
        counts = elim c.match-stand.branch [
          | in-Unjudged w ↦
              let sheet = w.end_seen-stand.new.self in
              let ends = w.end_seen-stand.ensures.ends in
              counted_with s _ h sheet w.stand-is w.sheet-is self.pass self.pass refl count
              (subst (λ (ops : List ℕ). Counts (count self.pass) ops w.end_seen-stand.result
              sheet.lines.items) (sym w.end_seen-stand.ensures.same.operations)
              (counted_as old.operations.now (count self.pass) _ w.end_seen-stand.result _ _
              (λ made told asked.
              again_asked meaning rows _ old.who old.operations.now old.lines.items made told
              w.in-Unjudged.seen ends.0 w.end_seen-stand.result sheet.lines.items ends.1
              (subst
              (λ (o : ℕ). IsNoted o old.lines.items ends.0 sheet.lines.items
              w.end_seen-stand.result)
              w.next_op-op.ensures ends.2)
              (phases_noted w.next_op-op.result old.lines.items ends.0
              w.end_seen-stand.result sheet.lines.items ends.2)
              asked)
              (counted_at (count self.pass) old.operations.now old.lines.items _ _ w.in-Unjudged.is
              c.requires.work.pass.counts)))
          | in_default w ↦ counted_with s self.stand h old w.stand-is w.sheet-is self.pass self.pass
              refl count c.requires.work.pass.counts
        ];
      };
      has_capacity =
          capacity_later object _ self _ (returns-clause-same g c) c.requires.work.has_capacity;
      stands =
          elim c.match-stand.branch [
            | in-Unjudged w ↦ standing_with h _ w.sheet-is object
                w.end_seen-stand.ensures.keeps.stands
            | in_default w ↦ standing_with h _ w.sheet-is object c.requires.work.stands
          ];
    }
