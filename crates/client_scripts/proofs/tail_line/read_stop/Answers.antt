use Rattle.std.proofs.Common.{◌≡◌, ℕ, true, sym, subst, ◌∙◌, arith}
use Rattle.text_fields.proofs.NumberTexts.{same_first, same_number}
use Rattle.client_scripts.specs.ScriptRules.{IsStop}
use Rattle.client_scripts.specs.ScriptLayout.{told}
use Rattle.client_scripts.proofs.tail_line.read_stop.Goals as goal

pub returns-else-may_stop-clause-none : goal.returns-else-may_stop-clause-none
returns-else-may_stop-clause-none c = λ caller phases h text.
    let begun = told c.args.clients.now c.args.least in
    let first = same_first _ _ _ _ (sym c.in_ok-caller.ensures.found.1 ∙ text) in
    let second = same_first _ _ _ _ (sym c.in_ok-phases.ensures.found.1 ∙ first.1) in
    let callers : caller ≡ c.in_ok-caller.caller =
    same_number caller c.in_ok-caller.caller h.numbers.0 (omega arith) (sym first.0) in
    let steps : phases ≡ c.in_ok-phases.phases =
    same_number phases c.in_ok-phases.phases h.numbers.1.0 (omega arith) (sym second.0) in
    let may = subst (λ (p : ℕ). IsStop begun c.in_ok-caller.caller p) steps
    (subst (λ (i : ℕ). IsStop begun i phases) callers h) in
    let is : c.may_stop.result ≡ true = c.may_stop.ensures.1 may in
    absurd (cc (is, c.if-may_stop.false))
