use Rattle.std.proofs.Common.{◌∙◌, ◌++◌, ◌+◌, ◌/◌, ◌%◌, ℕ, List, drop, get_or, ap, refl}
use Rattle.std.proofs.lemmas.Bool.{ne_eqb}
use Rattle.set_order.specs.Search.{picked}
use Rattle.set_order.proofs.Picking.{picked-step_in, picked-step_out}
use Rattle.set_order.proofs.walk.part_of.Goals as goal
use Rattle.set_order.proofs.walk.part_of.Goals.{then-digits-eq1+in_ok-push, else-digits-eq1}

pub loop-caller-preserved : goal.loop-caller-preserved
loop-caller-preserved c =
    let callers = c.args.callers.now in
    let digits = c.loop-caller.digits in
    let at = c.loop-caller.caller-index in
    let part = c.loop-caller.part.items in
    let rest = picked (digits / 2) (drop (at + 1) callers) in
    elim c.if-digits-eq1.branch [
      | then-digits-eq1+in_ok-push w ↦
          ap (λ v. v.items ++ rest) w.part-is
          ∙ (ap (λ (x : List ℕ). x ++ rest) w.in_ok-push.ensures.items
          ∙ (picked-step_in part digits callers at (get_or callers at 0) c.loop-caller-test.true
          refl w.if-digits-eq1.true ∙ c.loop-caller.invariant))
      | else-digits-eq1 w ↦
          ap (λ v. v.items ++ rest) w.part-is
          ∙ (picked-step_out part digits callers at c.loop-caller-test.true
          (ne_eqb (digits % 2) 1 w.if-digits-eq1.false) ∙ c.loop-caller.invariant)
    ]
