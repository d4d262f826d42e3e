use Rattle.std.proofs.Common.{refl, sym, subst, ap}
use Rattle.report_lines.specs.Phases.{Progress}
use Rattle.row_table.specs.declared.rows.Rows.{Rows}
use Rattle.row_table.specs.Callers.{IsCallerOf}
use Rattle.drv_wrapper.specs.States.{caller_announced, announced_local, caller_answered, answered_local}
use Rattle.run_report.proofs.Starts.{fits_known}
use Rattle.run_report.proofs.Returns.{fits_back}
use Rattle.core_runs.specs.Inside.{fits_inside}
use Rattle.core_runs.proofs.Passes.{comes_no_further, grows_by_steps}
use Rattle.core_runs.proofs.inside_object.InsideObjectAsks.ask.Goals as goal

pub ask-requires-clause-caller : goal.ask-requires-clause-caller
ask-requires-clause-caller g c =
    subst (λ (x : Rows _). IsCallerOf g.O.P.Program.meaning x (caller_announced c.args.announced))
    (sym c.requires.table.1.0) c.requires.table.2

pub ask-requires-clause-fits : goal.ask-requires-clause-fits
ask-requires-clause-fits g c =
    fits_back g.O.P.Program.meaning c.args.self.now.rows.now
    (fits_inside (g.O.CoreObject.fits c.args.self.now.object.now))
    (caller_announced c.args.announced) _ _ _ _ (ask-requires-clause-caller g c) refl refl refl
    c.requires.fits

pub returns-clause-rows : goal.returns-clause-rows
returns-clause-rows g c r served h =
    subst (λ (x : Rows _). IsCallerOf g.O.P.Program.meaning x (caller_answered c.ask.result))
    served.0 c.ask.ensures.caller.0

pub returns-clause-calls : goal.returns-clause-calls
returns-clause-calls g c = let made = c.ask.ensures.made in
    comes_no_further (announced_local c.args.announced) (answered_local c.ask.result) made.0 made.2

pub returns-clause-grows : goal.returns-clause-grows
returns-clause-grows g c = let made = c.ask.ensures.made in
    grows_by_steps (announced_local c.args.announced) (answered_local c.ask.result) made.0 made.1

pub returns-clause-fits : goal.returns-clause-fits
returns-clause-fits g c =
    let made = c.ask.ensures.made in
    fits_known g.O.P.Program.meaning c.args.self.now.rows.now
    (fits_inside (g.O.CoreObject.fits c.args.self.now.object.now)) _
    (caller_answered c.ask.result) _ _ c.ask.ensures.caller.0 c.ask.ensures.caller.1
    (ap (λ (p : Progress). p.steps) made.2) made.3
