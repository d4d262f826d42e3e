use Rattle.std.proofs.Common.{◌≡◌, ℕ, ◌+◌, ◌<◌, ◌≤◌, length, slice_get, Some, None, sym, ap, subst, ◌∙◌, inl, inr, arith}
use Rattle.std.specs.BTreeMap.{BTreeMap, get}
use Rattle.std.specs.Map.{lookup}
use Rattle.std.specs.Ordering.{is_eq}
use Rattle.std.proofs.lemmas.Bool.{cases_lt}
use Rattle.std.proofs.lemmas.Option.{none-some, slice_get_within}
use Rattle.told_models.specs.declared.table.Transition.{Transition}
use Rattle.told_models.specs.Table.{Table, told_step, pair_order, is_same_pair}
use Rattle.told_models.proofs.Telling.{told_at}
use Rattle.told_models.proofs.Listing.{has_steps}
use Rattle.told_models.proofs.table.ToldTable.steps.Goals as goal

pub loop-k-init : goal.loop-k-init
loop-k-init c = (
  λ state op transition has. absurd (none-some transition
      (sym (ap (lookup (λ (pair : ℕ × ℕ). is_eq (pair_order (state, op) pair)))
      c.new-steps.ensures.empty) ∙ has)),
  λ j state op transition below at. absurd (omega (arith, below)),
)

pub loop-k-preserved : goal.loop-k-preserved
loop-k-preserved c = (
  c.in_ok-add_step_at.ensures.own c.loop-k.invariant.0,
  λ j state op transition below at. elim (cases_lt j c.loop-k.k) [
    | inl earlier ↦ c.in_ok-add_step_at.ensures.kept state op
        (c.loop-k.invariant.1 j state op transition earlier at)
    | inr later ↦
        let here : j ≡ c.loop-k.k = omega (arith, below, later) in
        c.in_ok-add_step_at.ensures.added state op transition
        (ap (slice_get c.args.self.now.steps) (sym here) ∙ at)
  ],
)

pub returns-clause-steps : goal.returns-clause-steps
returns-clause-steps c = has_steps c.args.self.now c.loop-k.steps c.loop-k.invariant.0
    (λ state op transition told.
    let at = told_at c.args.self.now.steps state op transition told in
    let size : length c.self.inside.steps.entries ≡ length c.args.self.now.steps =
    ap (λ (t : Table). length t.steps) c.self.view_is in
    c.loop-k.invariant.1 at.0 state op transition (omega (
      arith,
      slice_get_within c.args.self.now.steps at.0 ((state, op), transition) at.1,
      c.len-k-end.ensures.len,
      c.loop-k-test.false,
      size,
    )) at.1)
