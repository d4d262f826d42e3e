use Rattle.std.proofs.Common.{Option, subst}
use Rattle.std.specs.Prelude.{IfSome}
use Rattle.hunts.specs.declared.trial.Catch.{Catch}
use Rattle.hunts.specs.Hunting.{IsCaughtLast}
use Rattle.hunts.specs.Caught.{IsShown}
use Rattle.hunts.proofs.hunting.hunted_output.Goals as goal

pub returns-in_ok-caught_text-in-Some : goal.returns-in_ok-caught_text-in-Some
returns-in_ok-caught_text-in-Some g c =
    let hunted = c.in_ok-catch.field-0 in
    let is = c.in_ok-catch.ensures.hunted in
    let IsLast : Catch _ → Type 0 = IsCaughtLast g.B.Pass.ObjectPass.made
    g.B.Pass.ObjectPass.told c.args.settings.now hunted.runs in
    let caught : IsLast c.in-Some.catch = subst (λ (found : Option (Catch _)). IfSome found IsLast)
    c.in-Some.is is.caught in
    let shown = subst (λ (k : Catch _). IsShown c.args.settings.now.workload.kind k c.args.shown
    c.in_ok-caught_text-in-Some.field-0.items) c.in-Some.catch-is
    c.in_ok-caught_text-in-Some.ensures in (
      hunted.runs,
      (c.in-Some.catch, is.within, caught, shown),
      c.in_ok-catch.ensures.heard,
    )
