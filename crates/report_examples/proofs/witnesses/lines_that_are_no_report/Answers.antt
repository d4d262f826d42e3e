use Rattle.std.proofs.Common.{◌^◌, inl, inr, ◌≡◌, ◌<◌, ◌≤◌, ◌∷◌, [], refl, arith}
use Rattle.reports.specs.Cases.{pending, unchecked, failed, answer}
use Rattle.report_examples.specs.Lines.{call}
use Rattle.report_examples.proofs.witnesses.lines_that_are_no_report.Goals as goal

pub returns-clause-after_pending : goal.returns-clause-after_pending
returns-clause-after_pending c h = let some =
    h.delivered (call 0 0) (pending 5) refl (omega arith) in absurd cc

pub returns-clause-after_unchecked : goal.returns-clause-after_unchecked
returns-clause-after_unchecked c h = let some =
    h.delivered (call 0 0) (unchecked 5 (answer 50 (1 ∷ []))) refl (omega arith) in absurd cc

pub returns-clause-after_error : goal.returns-clause-after_error
returns-clause-after_error c h = let some =
    h.delivered (call 0 0) (failed 5 (answer 50 (1 ∷ [])) (1 ∷ [])) refl (omega arith) in absurd cc

pub returns-clause-own_unseen : goal.returns-clause-own_unseen
returns-clause-own_unseen c h = let own : 0 < 0 = h.seen.own (call 0 0) (0 ∷ []) refl in
    absurd (omega (arith, own))

pub returns-clause-of_two_callers : goal.returns-clause-of_two_callers
returns-clause-of_two_callers c h = let wide : 2 ≡ 1 = h.seen.wide (call 0 0) (1 ∷ 0 ∷ []) refl in
    absurd (omega (arith, wide))

pub returns-clause-one_too_many : goal.returns-clause-one_too_many
returns-clause-one_too_many c h = let within : 2 ≤ 1 = h.seen.within (call 0 0) (2 ∷ []) refl 0 in
    absurd (omega (arith, within))

pub returns-clause-no_callers : goal.returns-clause-no_callers
returns-clause-no_callers c h = let some : 1 ≤ 0 = h.some in absurd (omega (arith, some))

pub returns-clause-no_operation : goal.returns-clause-no_operation
returns-clause-no_operation c h = let small : 2 ^ 128 < 2 ^ 128 = h.operations.0.0 in
    absurd (omega (arith, small))

pub returns-clause-no_reply : goal.returns-clause-no_reply
returns-clause-no_reply c h = let small : 2 ^ 64 < 2 ^ 64 =
    h.replies (call 0 0) (answer (2 ^ 64) (1 ∷ [])) refl in absurd (omega (arith, small))

pub returns-clause-crossing : goal.returns-clause-crossing
returns-clause-crossing c h = elim (h.valid.comparable (call 0 0) (call 1 0)
    (answer 50 (1 ∷ 0 ∷ [])) (answer 60 (0 ∷ 1 ∷ [])) refl refl) [
      | inl within ↦ let low : 1 ≤ 0 = within 0 in absurd (omega (arith, low))
      | inr within ↦ let low : 1 ≤ 0 = within 1 in absurd (omega (arith, low))
    ]

pub returns-clause-too_many_callers : goal.returns-clause-too_many_callers
returns-clause-too_many_callers c h = let few : 17 ≤ 16 = h.callers in absurd (omega (arith, few))

pub returns-clause-too_many_calls : goal.returns-clause-too_many_calls
returns-clause-too_many_calls c h = let few : 257 ≤ 256 = h.calls.0 in absurd (omega (arith, few))
