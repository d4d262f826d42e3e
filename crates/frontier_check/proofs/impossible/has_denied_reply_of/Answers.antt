use Rattle.std.proofs.Common.{not, ap, inl, inr, arith}
use Rattle.std.proofs.lemmas.Bool.{cases_lt}
use Rattle.frontier_check.proofs.Tested.{same_tested}
use Rattle.frontier_check.proofs.impossible.has_denied_reply_of.Goals as goal

pub loop-number-preserved : goal.loop-number-preserved
loop-number-preserved g c number least less =
    elim (cases_lt number c.loop-number.number) [
      | inl earlier ↦ c.loop-number.invariant number least earlier
      | inr most ↦ same_tested _ _ _ _ _ _ _ c.is_denied.ensures (omega (arith, most, less))
          (ap not c.if-is_denied.false)
    ]

pub returns-clause-allowed : goal.returns-clause-allowed
returns-clause-allowed g c e number least answered =
    c.loop-number.invariant number least
    (omega (arith, answered, c.loop-number-test.false, c.answers-count.ensures))
