-- Which steps are no run, which world isn't reachable, and which locals are together.
use Rattle.std.proofs.Common.{◌≡◌, Bool, true, false, ◌&&◌, nat_lt, List, [], ◌∷◌, length, slice_index, refl, sym, ap, ◌∙◌, arith}
use Rattle.std.proofs.lemmas.List.{length-set}
use Rattle.world_core.specs.declared.region.Region.TheVariants.{N}
use Rattle.world_core.specs.Shape.{Shape}
use Rattle.world_core.specs.Local.{Local, fresh}
use Rattle.world_core.specs.Event.{Announce, Look, Begins_none, is_enabled, is_loaded, local_after}
use Rattle.world_core.specs.World.{World, Step, start, local_of, after, after_all, are_possible, end_of, IsRun, IsReachable}
use Rattle.world_core.specs.Calls.{AreTogether, IsLocalOf}
use Rattle.world_examples.specs.Schedules.{pair, by, two_calls, local_at}
use Rattle.world_examples.specs.Parts.{nobody, stepped}

fails : false ≡ true → ⊥
fails e = absurd cc

-- an announcement at the start isn't a run
pub first_impossible : IsRun pair (by 0 Announce ∷ []) → ⊥
first_impossible run = fails run

-- two looks, of which the second finds a count that the table doesn't have, aren't a run
pub later_impossible : IsRun pair
    (by 0 (Look N 0 0 Begins_none) ∷ by 0 (Look N 0 1 Begins_none) ∷ []) → ⊥
later_impossible run = fails run

-- without callers no step is enabled, so a world without callers whose object word isn't 0 isn't
-- reachable
pub not_reachable : IsReachable nobody stepped → ⊥
not_reachable ([], run, ends) = let words : 0 ≡ 7 =
    ap (λ (w : World). slice_index w.words 0) ends in omega (arith, words)
not_reachable (step ∷ steps, run, ends) =
    let none : nat_lt step.who 0 ≡ false = grind arith in
    let w : World = start nobody in
    fails (sym (ap
    (λ (b : Bool). ((b && is_enabled nobody step.who (local_of w step.who) step.event) && is_loaded
    nobody w.words step.event) && are_possible nobody (after nobody w step) steps) none) ∙ run)

-- any steps keep the number of locals
locals_kept : (s : Shape) (w : World) (steps : List Step)
    → length (after_all s w steps).locals ≡ length w.locals
locals_kept s w [] = refl
locals_kept s w (step ∷ steps) =
    locals_kept s (after s w step) steps
    ∙ length-set w.locals step.who (local_after s.callers (local_of w step.who) step.event)

-- a single local isn't the list of locals of a reachable world of two callers
pub one_local : AreTogether pair (fresh ∷ []) → ⊥
one_local (w, (steps, run, ends), are) =
    let two : length (end_of pair steps).locals ≡ 2 = locals_kept pair (start pair) steps in
    let one : length (end_of pair steps).locals ≡ 1 =
    ap (λ (v : World). length v.locals) ends ∙ ap (λ (ls : List Local). length ls) are in
    omega (arith, two, one)

-- the locals at the end of the run of two whole calls are together
pub both_locals : AreTogether pair (end_of pair two_calls).locals
both_locals = (end_of pair two_calls, (two_calls, refl, refl), refl)

-- the local of caller 1 at the end of the run of two whole calls is a local of caller 1
pub second_local : IsLocalOf pair 1 (local_at two_calls 1)
second_local = ((end_of pair two_calls).locals, both_locals, omega arith, refl)

-- the fresh local isn't a local of caller 2 where there are two callers
pub third_local : IsLocalOf pair 2 fresh → ⊥
third_local (locals, together, low, is) = omega (arith, low)
