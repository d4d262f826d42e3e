use Rattle.std.proofs.Common.{refl}
use Rattle.refutations.proofs.closed.leads_inside.Goals as goal

pub returns-in-Some-clause-inside : goal.returns-in-Some-clause-inside
returns-in-Some-clause-inside g c list listed =
    let leads = rw c.in-Some.is at c.in_ok-after.ensures.leads in
    let has = c.has.ensures list listed in (
      λ h. (leads list).0 (has.0 h),
      λ l. has.1 ((leads list).1 l),
    )

pub returns-in-None-clause-inside : goal.returns-in-None-clause-inside
returns-in-None-clause-inside g c list listed =
    let none = rw c.in-None.is at c.in_ok-after.ensures.none in (λ h. none list, λ l. refl)
