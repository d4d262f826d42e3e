use Rattle.std.proofs.Common.{Option, sym, subst}
use Rattle.seq_objects.specs.Objects.{kind_spec}
use Rattle.late_residue.specs.LateOnes.{IsBeyond}
use Rattle.watch_core.specs.Part.{Parted, IsHeldAt, calls_at}
use Rattle.watch_core.proofs.Lookups.{written_same, on_err}
use Rattle.watch_core.proofs.parts.return_in.Goals as goal

pub returns-in_err-take_return-clause-same : goal.returns-in_err-take_return-clause-same
returns-in_err-take_return-clause-same c =
    let new = c.take_return.new.self in
    on_err c.from_residual.result (written_same c.args.parts.now (c.get_mut.follows.lender new)
    c.args.key c.in-Some.part.now new (sym c.in-Some.ensures.value) (c.get_mut.follows.holds new)
    c.in_err-take_return.ensures.same)

pub returns-then-not-branch-clause-beyond : goal.returns-then-not-branch-clause-beyond
returns-then-not-branch-clause-beyond c events held =
    let spec = kind_spec c.args.kind in
    subst (λ (o : Option Parted). IsBeyond spec events (calls_at o) c.args.limit)
    c.in-Some.ensures.value
    (c.in_ok-take_return.ensures.beyond c.if-not-branch.true events
    (subst (λ (o : Option Parted). IsHeldAt spec o events) (sym c.in-Some.ensures.value) held))
