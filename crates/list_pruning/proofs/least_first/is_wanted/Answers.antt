use Rattle.std.proofs.Common.{inl, inr}
use Rattle.list_pruning.proofs.least_first.is_wanted.Goals as goal

pub returns-then-not-is_below_first : goal.returns-then-not-is_below_first
returns-then-not-is_below_first g c _ = inl (λ below. let is = c.is_below_first.ensures.1 below in
    let lacks = c.if-not-is_below_first.true in cc)

pub returns : goal.returns
returns g c untrue = inr (c.may_be_taken.ensures untrue)
