use Rattle.std.proofs.Common.{◌≡◌, ◌∙◌, sym, subst, ap, ℕ, List, min, slice_index, arith}
use Rattle.report_lines.specs.Allotments.{turns_of}
use Rattle.run_report.specs.declared.pace.Pace.{Pace}
use Rattle.run_report.specs.Starts.{run_allotments, allotments_by}
use Rattle.run_report.proofs.Turning.{given_by_turns}
use Rattle.run_report.proofs.settling.allotment_at.Goals as goal

pub returns-in-Alone-clause-allotment : goal.returns-in-Alone-clause-allotment
returns-in-Alone-clause-allotment c =
    let plan = c.args.script.now in
    subst (λ (p : Pace). c.allotment_of-most.result ≡ slice_index (allotments_by p plan) c.args.who)
    (sym c.in-Alone.is) c.allotment_of-most.ensures.allotment

pub returns-in-ByTurns-clause-allotment : goal.returns-in-ByTurns-clause-allotment
returns-in-ByTurns-clause-allotment c =
    let plan = c.args.script.now in
    let who = c.args.who in
    let named : c.named.result ≡ turns_of plan.turns who =
    c.named.ensures ∙ ap (λ (turns : List ℕ). turns_of turns who) c.turns.ensures in
    let given : c.min.result ≡ min (slice_index (run_allotments plan) who) (turns_of plan.turns who) =
    c.min.ensures ∙ ap (λ (k : ℕ). min c.allotment_of-most.result k) named
    ∙ ap (λ (k : ℕ). min k (turns_of plan.turns who)) c.allotment_of-most.ensures.allotment in
    subst (λ (p : Pace). c.min.result ≡ slice_index (allotments_by p plan) who)
    (sym c.in-ByTurns.is) (given ∙ sym (given_by_turns plan who c.requires.who))

pub returns-in-ByTurns-clause-within : goal.returns-in-ByTurns-clause-within
returns-in-ByTurns-clause-within c =
    omega (arith, c.min.ensures, c.allotment_of-most.ensures.within)
