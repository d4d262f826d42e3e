use Rattle.std.proofs.Common.{refl, subst}
use Rattle.frontier_check.specs.Verdict.{IsRight}
use Rattle.frontier_check.specs.declared.verdict.Verdict.{Verdict}
use Rattle.monitor.proofs.published.judge_at.Goals as goal

pub returns-in-Legal : goal.returns-in-Legal
returns-in-Legal g c =
    let spec = g.S.SeqObject.spec c.args.object.now in
    let part = c.in_ok-part.part in (
      part,
      c.in_ok-part.ensures,
      (
        _,
        subst (λ (v : Verdict). IsRight spec part v) c.in-Legal.is
            c.in_ok-check.ensures.verdict,
      ),
    )

pub returns-in-Illegal : goal.returns-in-Illegal
returns-in-Illegal g c =
    let spec = g.S.SeqObject.spec c.args.object.now in
    let part = c.in_ok-part.part in (
      refl,
      c.in_ok-part.ensures,
      subst (λ (v : Verdict). IsRight spec part v) c.in-Illegal.is
          c.in_ok-check.ensures.verdict,
    )
