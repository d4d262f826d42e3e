-- Faults of closed lists: a closed list has none, and of all faults of some entries one is first.
use Rattle.std.proofs.Common.{◌≡◌, ℕ, ◌∙◌, sym, ap, inl, inr, arith}
use Rattle.std.proofs.lemmas.Bool.{cases_lt}
use Rattle.refutations.specs.declared.fault.ClosedFault.{ClosedFault}
use Rattle.refutations.specs.declared.fault.ClosedFault.TheVariants.{Unlisted, Whole, Leads}
use Rattle.refutations.specs.Fault.{turn_of, number_of, step_of}
use Rattle.refutations.specs.Laws.{ClosedListsFailNoTest, FirstFaultsAreOne}

pub closed_lists_fail_no_test : ClosedListsFailNoTest
closed_lists_fail_no_test spec book entries h (Unlisted e) f = f.4 (h.made f.0 f.1 f.3)
closed_lists_fail_no_test spec book entries h (Whole e) f =
    (h.closed.closed f.0 (e, f.1)).unfinished f.2
closed_lists_fail_no_test spec book entries h (Leads e caller) f =
    f.2 ((h.closed.closed f.0 (e, f.1)).leads caller)

-- Two faults of one turn, of one entry or item, and of one step are equal.
same_fault : (e f : ClosedFault) → turn_of e ≡ turn_of f → number_of e ≡ number_of f
    → step_of e ≡ step_of f → e ≡ f
same_fault (Unlisted e) (Unlisted f) turn number step = ap (λ (k : ℕ). Unlisted k) number
same_fault (Whole e) (Whole f) turn number step = ap (λ (k : ℕ). Whole k) number
same_fault (Leads e i) (Leads f j) turn number step =
    ap (λ (k : ℕ). Leads k i) number ∙ ap (λ (k : ℕ). Leads f k) (omega (arith, step))
same_fault (Unlisted e) (Whole f) turn number step = absurd (omega (arith, turn))
same_fault (Unlisted e) (Leads f j) turn number step = absurd (omega (arith, turn))
same_fault (Whole e) (Unlisted f) turn number step = absurd (omega (arith, turn))
same_fault (Whole e) (Leads f j) turn number step = absurd (omega (arith, step))
same_fault (Leads e i) (Unlisted f) turn number step = absurd (omega (arith, turn))
same_fault (Leads e i) (Whole f) turn number step = absurd (omega (arith, step))

pub first_faults_are_one : FirstFaultsAreOne
first_faults_are_one spec book entries e f h k =
    elim (cases_lt (turn_of e) (turn_of f)) [
      | inl less ↦ absurd (k.first e (inl less) h.fails)
      | inr no_sooner ↦ elim (cases_lt (turn_of f) (turn_of e)) [
        | inl less ↦ absurd (h.first f (inl less) k.fails)
        | inr no_later ↦
            let turn : turn_of e ≡ turn_of f = omega arith in
            elim (cases_lt (number_of e) (number_of f)) [
              | inl less ↦ absurd (k.first e (inr (turn, inl less)) h.fails)
              | inr not_less ↦ elim (cases_lt (number_of f) (number_of e)) [
                | inl less ↦ absurd (h.first f (inr (sym turn, inl less)) k.fails)
                | inr not_more ↦
                    let number : number_of e ≡ number_of f = omega arith in
                    elim (cases_lt (step_of e) (step_of f)) [
                      | inl less ↦ absurd (k.first e (inr (turn, inr (number, less))) h.fails)
                      | inr not_before ↦ elim (cases_lt (step_of f) (step_of e)) [
                        | inl less ↦
                            absurd (h.first f (inr (sym turn, inr (sym number, less))) k.fails)
                        | inr not_after ↦ same_fault e f turn number (omega arith)
                      ]
                    ]
              ]
            ]
      ]
    ]
