use Rattle.std.proofs.Common.{◌∙◌, sym, ap, ℕ, ◌*◌, Option, length, arith}
use Rattle.report_lines.specs.Allotments.{phases_for, operations_at}
use Rattle.run_report.proofs.Starts.{allotment_at, operations_within, stops_within}
use Rattle.run_report.proofs.start.allotment_of.Goals as goal

pub overflow_mul-result : goal.overflow_mul-result
overflow_mul-result c = omega (
  arith,
  c.calls.ensures,
  operations_within 256 c.args.script.now.operations c.args.who c.requires.plan.calls,
)

pub returns-in-Some-clause-allotment : goal.returns-in-Some-clause-allotment
returns-in-Some-clause-allotment c =
    let plan = c.args.script.now in
    let calls : ℕ = length (operations_at plan.operations c.args.who) in
    ap (λ (s : Option ℕ). phases_for s calls) (sym c.in-Some.is ∙ c.stop.ensures)
    ∙ sym (allotment_at plan.operations plan.stops c.args.who c.requires.who)

pub returns-in-Some-clause-within : goal.returns-in-Some-clause-within
returns-in-Some-clause-within c =
    let plan = c.args.script.now in
    let calls : ℕ = length (operations_at plan.operations c.args.who) in
    omega (
      arith,
      ap (λ (s : Option ℕ). phases_for s calls) (sym c.in-Some.is ∙ c.stop.ensures),
      stops_within plan.operations plan.stops c.args.who c.requires.plan.stops,
    )

pub returns-in-None-clause-allotment : goal.returns-in-None-clause-allotment
returns-in-None-clause-allotment c =
    let plan = c.args.script.now in
    let calls : ℕ = length (operations_at plan.operations c.args.who) in
    ap (λ (n : ℕ). 5 * n) c.calls.ensures
    ∙ ap (λ (s : Option ℕ). phases_for s calls) (sym c.in-None.is ∙ c.stop.ensures)
    ∙ sym (allotment_at plan.operations plan.stops c.args.who c.requires.who)
