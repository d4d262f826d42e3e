use Rattle.std.proofs.Common.{◌≡◌, ℕ, ◌+◌, [], ◌∷◌, length, Contains, Option, None, IfSome, IfNone, subst, sym, ap, arith}
use Rattle.told_models.specs.Table.{Table, told_step}
use Rattle.told_models.specs.Search.{AreExpanded}
use Rattle.told_models.proofs.Leading.{near_among}
use Rattle.told_models.proofs.Searching.{IsSearched, searched-first, searched-more, searched-closed, searched-all}
use Rattle.told_models.proofs.table.ToldTable.untold.Goals as goal
use Rattle.told_models.proofs.table.ToldTable.untold.Goals.{else-loop-steps-test, then-loop-steps-test+then-first-end}

pub loop-steps-init : goal.loop-steps-init
loop-steps-init c = rw (c.in_ok-insert.ensures.keys, c.new-states.ensures.empty)
    (subst (λ (n : ℕ). IsSearched c.args.self.now c.args.ops.now.keys (n ∷ []) 0 0)
    (ap (λ (t : Table). t.init) (sym c.self.view_is))
    (searched-first c.args.self.now c.args.ops.now.keys))

pub returns-in-Some-clause-ask : goal.returns-in-Some-clause-ask
returns-in-Some-clause-ask c =
    let ops = c.args.ops.now.keys in
    let pair = c.in-Some.pair in
    let untold = subst (λ (o : Option (ℕ × ℕ)). IfSome o (λ pair.
    Contains c.loop-steps.states.keys pair.0 × Contains ops pair.1
    × (told_step c.args.self.now pair.0 pair.1 ≡ None))) c.in-Some.is
    c.in_ok-pair.ensures.untold in
    record {
      untold = untold.2;
      word = untold.1;
      near = near_among c.args.self.now (Contains ops) (Contains ops) (c.loop-steps._steps + 1)
          c.args.most pair.0 (λ op is. is) (omega (arith, c.loop-steps-test.true))
          (c.loop-steps.invariant.near pair.0 untold.0);
    }

pub loop-steps-preserved : goal.loop-steps-preserved
loop-steps-preserved c =
    let old = c.loop-steps.states.keys in
    let new = c.expand.new.states.keys in
    let expanded = subst (λ (o : Option (ℕ × ℕ)). IfNone o (AreExpanded c.args.self.now
    c.args.ops.now.keys new c.loop-steps.first (length old))) c.in_default.is
    c.in_ok-pair.ensures.expanded in
    rw c.len-end.ensures.len (searched-more c.args.self.now c.args.ops.now.keys old new
    c.loop-steps.first c.loop-steps._steps c.loop-steps.invariant c.in_ok-pair.ensures.continues
    expanded (c.in_ok-pair.ensures.near (c.loop-steps._steps + 1)))

pub returns-clause-closed : goal.returns-clause-closed
returns-clause-closed c = elim c.loop-steps-test.branch [
  | else-loop-steps-test w ↦ λ state op near.
      searched-closed c.args.self.now c.args.ops.now.keys c.loop-steps.states.keys
      c.loop-steps.first c.loop-steps._steps c.loop-steps.invariant state op
      (near_among c.args.self.now (Contains c.args.ops.now.keys) (Contains c.args.ops.now.keys)
      c.args.most c.loop-steps._steps state (λ op is. is) w.loop-steps-test.false near)
  | then-loop-steps-test+then-first-end w ↦
      searched-all c.args.self.now c.args.ops.now.keys c.loop-steps.states.keys
      c.loop-steps.first c.loop-steps._steps c.args.most c.loop-steps.invariant
      (omega (arith, w.if-first-end.true, w.len-end.ensures.len))
]
