use Rattle.std.proofs.Common.{ℕ, List, ◌++◌, Option, None, length, ◌≡◌, ap, ◌∙◌, arith}
use Rattle.std.proofs.lemmas.List.{take_all, length-map}
use Rattle.text_fields.specs.Lines.{text_of, by_number}
use Rattle.client_scripts.specs.Plans.{sizes}
use Rattle.client_scripts.specs.Grammar.{stop_line}
use Rattle.client_scripts.proofs.Groups.{length-stops}
use Rattle.client_scripts.proofs.Written.{part_more}
use Rattle.client_scripts.proofs.writer.put_stops.Goals as goal

pub loop-caller-preserved : goal.loop-caller-preserved
loop-caller-preserved c =
    let plan = c.args.script.now in
    let size : length plan.stops ≡ length plan.operations =
    length-stops (sizes plan.operations) plan.stops c.callers-caller-end.ensures.plan.stops
    ∙ length-map plan.operations (λ (ops : List ℕ). length ops) in
    part_more stop_line c.args.out.now.items c.loop-caller.out.items c.put_stop.new.out.items
    plan.stops None c.loop-caller.caller (omega arith) c.loop-caller.invariant
    (c.in_ok-put_stop.ensures ∙ ap
    (λ (s : Option ℕ). c.loop-caller.out.items ++ text_of (stop_line c.loop-caller.caller s))
    c.stop.ensures)

pub returns : goal.returns
returns c =
    let plan = c.args.script.now in
    let size : length plan.stops ≡ length plan.operations =
    length-stops (sizes plan.operations) plan.stops c.callers-caller-end.ensures.plan.stops
    ∙ length-map plan.operations (λ (ops : List ℕ). length ops) in
    c.loop-caller.invariant ∙ ap
    (λ (s : List (Option ℕ)). c.args.out.now.items ++ text_of (by_number stop_line 0 s))
    (take_all c.loop-caller.caller plan.stops (omega arith))
