use Rattle.std.proofs.Common.{◌≡◌, ℕ, ◌<◌, length, Contains, Option, None, IfSome, IfNone, subst, arith}
use Rattle.told_models.specs.Table.{told_step}
use Rattle.told_models.specs.Search.{LeadsInto}
use Rattle.told_models.proofs.Searching.{near-more, expanded-next, found_before}
use Rattle.told_models.proofs.Inserting.{continues_inside}
use Rattle.told_models.proofs.table.ToldTable.expand.Goals as goal

pub loop-k-init : goal.loop-k-init
loop-k-init c = record {
  continues = λ k state at. at;
  expanded = λ k state op from to at among. absurd (omega (arith, from, to));
  near =
      λ most near. near-more c.args.self.now c.args.ops.now.keys c.args.states.now.keys most near;
}

pub index-state-requires : goal.index-state-requires
index-state-requires c =
    let inside : c.loop-k.k < length c.args.states.now.keys =
    omega (arith, c.len-k-end.ensures.len, c.loop-k-test.true) in
    continues_inside c.args.states.now.keys c.loop-k.states.keys c.loop-k.k
    c.loop-k.invariant.continues inside

pub returns-in-Some-clause-untold : goal.returns-in-Some-clause-untold
returns-in-Some-clause-untold c =
    let state = c.index-state.result.now in
    let inside : c.loop-k.k < length c.args.states.now.keys =
    omega (arith, c.len-k-end.ensures.len, c.loop-k-test.true) in
    let untold = subst (λ (o : Option ℕ). IfSome o (λ op. Contains c.args.ops.now.keys op
    × (told_step c.args.self.now state op ≡ None))) c.in-Some.is c.in_ok-op.ensures.untold in (
      found_before c.args.states.now.keys c.loop-k.states.keys c.loop-k.k state
          c.loop-k.invariant.continues inside c.index-state.ensures,
      untold.0,
      untold.1,
    )

pub returns-in-Some-clause-near : goal.returns-in-Some-clause-near
returns-in-Some-clause-near c most near =
    let inside : c.loop-k.k < length c.args.states.now.keys =
    omega (arith, c.len-k-end.ensures.len, c.loop-k-test.true) in
    c.in_ok-op.ensures.near most (near c.index-state.result.now
    (found_before c.args.states.now.keys c.loop-k.states.keys c.loop-k.k c.index-state.result.now
    c.loop-k.invariant.continues inside c.index-state.ensures))
    (c.loop-k.invariant.near most near)

pub loop-k-preserved : goal.loop-k-preserved
loop-k-preserved c =
    let old = c.args.states.now.keys in
    let states = c.loop-k.states.keys in
    let state = c.index-state.result.now in
    let inside : c.loop-k.k < length old =
    omega (arith, c.len-k-end.ensures.len, c.loop-k-test.true) in
    record {
      continues = λ k other at. c.in_ok-op.ensures.continues k other
          (c.loop-k.invariant.continues k other at);
      expanded = expanded-next c.args.self.now c.args.ops.now.keys states
          c.expand_at.new.states.keys c.args.first c.loop-k.k state c.in_ok-op.ensures.continues
          (continues_inside old states c.loop-k.k c.loop-k.invariant.continues inside)
          c.index-state.ensures (subst (λ (o : Option ℕ). IfNone o ((op : ℕ)
          → Contains c.args.ops.now.keys op → LeadsInto c.args.self.now
          c.expand_at.new.states.keys state op)) c.in_default.is c.in_ok-op.ensures.expanded)
          c.loop-k.invariant.expanded;
      near = λ most near. c.in_ok-op.ensures.near most (near state (found_before old states
          c.loop-k.k state c.loop-k.invariant.continues inside c.index-state.ensures))
          (c.loop-k.invariant.near most near);
    }

pub returns-clause-expanded : goal.returns-clause-expanded
returns-clause-expanded c k state op from to at among =
    c.loop-k.invariant.expanded k state op from
    (omega (arith, to, c.len-k-end.ensures.len, c.loop-k-test.false)) at among
