use Rattle.std.proofs.Common.{◌≡◌, ◌+◌, ◌≤◌, [], ◌∷◌, refl, arith, inl, inr}
use Rattle.report_examples.specs.Lines.{call}
use Rattle.report_examples.proofs.lines.seen_cuts_fit.Goals as goal

pub returns-clause-unpublished : goal.returns-clause-unpublished
returns-clause-unpublished c h = let low : 1 ≤ 0 = h.within (call 1 0) (1 ∷ 1 ∷ 1 ∷ []) refl 2 in
    absurd (omega (arith, low))

pub returns-clause-narrow : goal.returns-clause-narrow
returns-clause-narrow c h = let wide : 2 ≡ 3 = h.wide (call 1 0) (1 ∷ 1 ∷ []) refl in
    absurd (omega (arith, wide))

pub returns-clause-lacks_its_own : goal.returns-clause-lacks_its_own
returns-clause-lacks_its_own c h = let own : 0 ≡ 0 + 1 = h.own (call 1 0) (1 ∷ 0 ∷ 0 ∷ []) refl in
    absurd (omega (arith, own))

pub returns-clause-own_later_one : goal.returns-clause-own_later_one
returns-clause-own_later_one c h = let own : 2 ≡ 0 + 1 = h.own (call 1 0) (1 ∷ 2 ∷ 0 ∷ []) refl in
    absurd (omega (arith, own))

pub returns-clause-crossing : goal.returns-clause-crossing
returns-clause-crossing c h =
    elim (h.comparable (call 0 0) (call 1 0) (1 ∷ 0 ∷ 0 ∷ []) (0 ∷ 1 ∷ 0 ∷ []) refl refl) [
      | inl within ↦ let low : 1 ≤ 0 = within 0 in absurd (omega (arith, low))
      | inr within ↦ let low : 1 ≤ 0 = within 1 in absurd (omega (arith, low))
    ]
