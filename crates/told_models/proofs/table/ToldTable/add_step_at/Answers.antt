use Rattle.std.proofs.Common.{◌≡◌, ℕ, Option, Some, slice_get, sym, ap, subst, ◌∙◌}
use Rattle.std.specs.BTreeMap.{get}
use Rattle.std.proofs.lemmas.Option.{same_Some}
use Rattle.told_models.specs.declared.table.Transition.{Transition}
use Rattle.told_models.specs.Table.{Table, told_step, pair_order}
use Rattle.told_models.proofs.Listing.{put_here, put_kept, put_own}
use Rattle.told_models.proofs.table.ToldTable.add_step_at.Goals as goal

pub returns-in_ok-insert-clause-added : goal.returns-in_ok-insert-clause-added
returns-in_ok-insert-clause-added c state op transition at =
    let pair = c.in-Some.field-0-0.now in
    let entry : Some ((state, op), transition) ≡ Some (pair, c.in-Some.field-0-1.now) =
    sym at ∙ ap (λ (t : Table). slice_get t.steps c.args.k) (sym c.self.view_is)
    ∙ sym c.in-Some.ensures.entry in
    let same : (state, op) ≡ pair =
    ap (λ (e : (ℕ × ℕ) × Transition). e.0) (same_Some ((state, op), transition)
    (pair, c.in-Some.field-0-1.now) entry) in
    subst (λ (p : ℕ × ℕ). get pair_order c.insert.new.self p ≡ told_step c.args.self.now p.0 p.1)
    (sym same)
    (put_here c.args.self.now c.args.steps.now c.insert.new.self pair.0 pair.1
    c.in-Some-get.transition (sym c.get.ensures ∙ c.in-Some-get.is)
    c.in_ok-insert.ensures.updates.0)

pub returns-in_ok-insert-clause-kept : goal.returns-in_ok-insert-clause-kept
returns-in_ok-insert-clause-kept c =
    put_kept c.args.self.now c.args.steps.now c.insert.new.self c.in-Some.field-0-0.now.0
    c.in-Some.field-0-0.now.1 c.in-Some-get.transition (sym c.get.ensures ∙ c.in-Some-get.is)
    c.in_ok-insert.ensures.updates.0

pub returns-in_ok-insert-clause-own : goal.returns-in_ok-insert-clause-own
returns-in_ok-insert-clause-own c own state op =
    put_own c.args.self.now c.args.steps.now c.insert.new.self c.in-Some.field-0-0.now.0
    c.in-Some.field-0-0.now.1 c.in-Some-get.transition
    (sym c.get.ensures ∙ c.in-Some-get.is) c.in_ok-insert.ensures.updates.0 state op (own state op)
