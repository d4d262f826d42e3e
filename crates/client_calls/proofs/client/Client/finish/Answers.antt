use Rattle.std.proofs.Common.{◌≡◌, ◌∙◌, sym, subst, ap, ℕ, Bool, ◌<◌, List, [], ◌∷◌, ◌++◌, Some, None, length, slice_index, if◌then◌else◌, arith}
use Rattle.std.specs.Result.{is_ok}
use Rattle.world_core.specs.Local.{Local}
use Rattle.report_lines.specs.declared.line.Line.{Line}
use Rattle.report_lines.specs.Lines.{any_error}
use Rattle.row_table.specs.declared.stance.Stance.{Stance}
use Rattle.row_table.specs.Callers.{shape_of, local_with}
use Rattle.client_calls.specs.declared.sheet.Sheet.{Sheet}
use Rattle.client_calls.specs.Ends.{HasLeftAt}
use Rattle.client_calls.specs.Stands.{phases_at}
use Rattle.client_calls.specs.Finishing.{end_at, stance_left, IsLeftStanding, KeepsAsked}
use Rattle.client_calls.proofs.Asked.{keeps_asked}
use Rattle.client_calls.proofs.Left.{line_within, left_standing, left_free}
use Rattle.client_calls.proofs.LinesLeft.{operation_left, noted_left, unnoted_left}
use Rattle.client_calls.proofs.client.Client.finish.Goals as goal
use Rattle.client_calls.proofs.client.Client.finish.Goals.{in-Some, in_default}

pub next_op-op-requires : goal.next_op-op-requires
next_op-op-requires g c =
    let left : length c.args.self.sheet.lines.items < length c.args.self.sheet.operations.now =
    operation_left _ _ _ _ _ _ c.args.self.stand c.in-Some.end c.requires.course
    (sym c.stop-caller.ensures.end ∙ c.in-Some.is) in
    omega (arith, left)

pub unwrap-requires : goal.unwrap-requires
unwrap-requires g c =
    let left : length c.args.self.sheet.lines.items < length c.args.self.sheet.operations.now =
    operation_left _ _ _ _ _ _ c.args.self.stand c.in-Some.end c.requires.course
    (sym c.stop-caller.ensures.end ∙ c.in-Some.is) in
    c.push.ensures.succeeds (omega (arith, left, c.requires.room))

pub returns-clause-asked : goal.returns-clause-asked
returns-clause-asked g c =
    let sheet = c.args.self.sheet in
    subst (λ (l : Local). KeepsAsked (shape_of g.P.Program.meaning c.args._rows.now).program
    sheet.who (phases_at (length sheet.lines.items) c.args.self.stand) l)
    (sym c.stop-caller.ensures.caller.local)
    (keeps_asked _ _ _ _ _ c.args.self.stand sheet.lines.items c.requires.course)

pub returns-clause-standing : goal.returns-clause-standing
returns-clause-standing g c =
    let phases = phases_at (length c.args.self.sheet.lines.items) c.args.self.stand in
    subst (λ (x : Stance). IsLeftStanding phases (local_with c.stop-caller.result.0) x)
    (sym c.stop-caller.ensures.stance)
    (subst (λ (l : Local). IsLeftStanding phases l (stance_left c.args.self.stand))
    (sym c.stop-caller.ensures.caller.local)
    (left_standing _ _ _ _ _ c.args.self.sheet.lines.items c.args.self.stand c.requires.course))

pub returns-clause-free : goal.returns-clause-free
returns-clause-free g c judged none through =
    let own = c.args.self.sheet.lines.items in
    elim c.match-end.branch [
      | in-Some w ↦ absurd (line_within c.args.self.stand w.in-Some.end (length own)
          (sym c.stop-caller.ensures.end ∙ w.in-Some.is) through)
      | in_default w ↦
          c.stop-caller.ensures.stance
          ∙ left_free _ _ _ _ _ own c.args.self.stand c.requires.course judged
          (ap (λ (s : Sheet _). any_error s.lines.items) (sym w.sheet-is) ∙ none) through
    ]

pub returns-clause-leaves : goal.returns-clause-leaves
returns-clause-leaves g c judged allotment spent =
    let sheet = c.args.self.sheet in
    let says = g.E.Ending.says (g.E.Ending.object sheet.ending) in
    let n = c.args._rows.now.callers in
    let p = phases_at (length sheet.lines.items) c.args.self.stand in
    elim c.match-end.branch [
      | in-Some w ↦
          let there : end_at c.args.self.stand ≡ Some w.in-Some.end =
          sym c.stop-caller.ensures.end ∙ w.in-Some.is in
          let all = λ (o : ℕ). sheet.lines.items ++ record { op = o; end = w.in-Some.end } ∷ [] in
          let items : w.push.new.self.items
          ≡ all (slice_index sheet.operations.now (length sheet.lines.items)) =
          w.push.ensures.items
          ∙ ap (λ (b : Bool). if b then all w.next_op-op.result else sheet.lines.items)
          (ap is_ok w.unwrap.ensures)
          ∙ ap all w.next_op-op.ensures in
          subst (λ (s : Sheet _). HasLeftAt (g.E.Ending.says (g.E.Ending.object s.ending)) n
          sheet.operations.now allotment p (local_with c.stop-caller.result.0) s.lines.items)
          (sym w.sheet-is)
          (subst (λ (own : List Line). HasLeftAt says n sheet.operations.now allotment p
          (local_with c.stop-caller.result.0) own) (sym items)
          (subst (λ (l : Local). HasLeftAt says n sheet.operations.now allotment p l
          (all (slice_index sheet.operations.now (length sheet.lines.items))))
          (sym c.stop-caller.ensures.caller.local)
          (noted_left _ _ says _ _ sheet.lines.items c.args.self.stand w.in-Some.end allotment
          c.requires.course there spent)))
      | in_default w ↦
          let none : end_at c.args.self.stand ≡ None =
          sym c.stop-caller.ensures.end ∙ w.in_default.is in
          subst (λ (s : Sheet _). HasLeftAt (g.E.Ending.says (g.E.Ending.object s.ending)) n
          sheet.operations.now allotment p (local_with c.stop-caller.result.0) s.lines.items)
          (sym w.sheet-is)
          (subst
          (λ (l : Local). HasLeftAt says n sheet.operations.now allotment p l sheet.lines.items)
          (sym c.stop-caller.ensures.caller.local)
          (unnoted_left _ _ says _ _ sheet.lines.items c.args.self.stand allotment c.requires.course
          none judged spent))
    ]
