-- The phases that keep a caller's marks but for one more at the end, and those that keep its calls.
use Rattle.std.proofs.Common.{◌≡◌, subst, ap, ℕ, List, [], ◌∷◌, ◌++◌, refl, arith}
use Rattle.std.proofs.lemmas.Grind.{common_steps}
use Rattle.world_core.specs.Calls.{Reached, Made}
use Rattle.report_lines.specs.Progress.{with_last}
use Rattle.report_lines.specs.Phases.{Progress, IsProgressAfter}
use Rattle.report_lines.specs.Steps.{AnnouncingIsAPhase, AskingIsAPhase, PublishingIsAPhase}

pub announcing_is_a_phase : AnnouncingIsAPhase
announcing_is_a_phase operations k progress low h = grind (arith, common_steps)

pub asking_is_a_phase : AskingIsAPhase
asking_is_a_phase operations k progress h = grind (arith, common_steps)

pub publishing_is_a_phase : PublishingIsAPhase
publishing_is_a_phase operations k progress h = grind (arith, common_steps)

-- a progress that some phases make is made by an equal number of phases, and an equal progress is
-- made too
pub progress_along : (operations : List ℕ) (p q : ℕ) (x y : Progress) → p ≡ q → x ≡ y
    → IsProgressAfter operations p x → IsProgressAfter operations q y
progress_along operations p q x y same is h =
    subst (λ (k : ℕ). IsProgressAfter operations k y) same
    (subst (λ (z : Progress). IsProgressAfter operations p z) is h)

-- a list of calls whose last call changes keeps the calls before it
pub the_last_call_goes_on : (further : Reached → Reached) (calls : List Made) (last : Made)
    → with_last further (calls ++ last ∷ [])
    ≡ calls ++ record { operation = last.operation; reached = further last.reached } ∷ []
the_last_call_goes_on further [] last = refl
the_last_call_goes_on further (c ∷ []) last = refl
the_last_call_goes_on further (c ∷ d ∷ calls) last =
    ap (λ (cs : List Made). c ∷ cs) (the_last_call_goes_on further (d ∷ calls) last)
