use Rattle.std.proofs.Common.{◌≡◌, ℕ, zero, suc, ◌%◌, ◌<◌, ◌⊎◌, List, [], ◌∷◌, ◌++◌, take, slice_index, refl, inl, inr, arith, rules}
use Rattle.world_core.specs.World.{end_of}
use Rattle.world_core.specs.Local.{Local}
use Rattle.world_core.specs.Calls.{AreTogether, local_at}
use Rattle.world_examples.specs.Schedules.{pair, announced_both, published_one, two_calls, silent}
use Rattle.world_examples.specs.JudgedRuns.{locals_after}
use Rattle.report_lines.specs.Lines.{lines_at, AreLinesOf}
use Rattle.report_lines.specs.Allotments.{phases_of}
use Rattle.client_calls.specs.Finishing.{KeepsAsked}
use Rattle.report_examples.specs.ReportedRuns.{five_and_six, stopped}
use Rattle.report_lines.specs.Reporting.{HaveMade}
use Rattle.report_lines.proofs.Worlds.{worlds_are_lawful}
use Rattle.report_examples.proofs.ReportedRuns.{stopped_together, stopped_lines}
use Rattle.report_examples.proofs.stops.stops_are_kept_to_the_phase.Goals as goal

published_together : AreTogether pair (locals_after (announced_both ++ published_one))
published_together = (
  end_of pair (announced_both ++ published_one),
  (announced_both ++ published_one, refl, refl),
  refl,
)

published_lines : AreLinesOf silent (locals_after (announced_both ++ published_one)) stopped
published_lines = record { calls = refl; judged = stopped_lines.judged }

recorded : HaveMade pair five_and_six (3 ∷ 2 ∷ []) (locals_after (take 24 two_calls)) stopped
recorded = search rules

published : HaveMade pair five_and_six (4 ∷ 2 ∷ [])
    (locals_after (announced_both ++ published_one)) stopped
published = search rules

-- the second caller was asked, and its program allows each reply
asked_second : (first : ℕ) → (first % 5 ≡ 3) ⊎ (first % 5 ≡ 4)
    → (locals : List Local) (i : ℕ) → i < 2
    → KeepsAsked pair.program i (phases_of (slice_index (first ∷ 2 ∷ []) i) (lines_at stopped i))
    (local_at locals i)
asked_second first late locals zero low = record {
  unasked = λ e. absurd (omega (arith, e, late));
  asked = λ e. absurd (omega (arith, e, late));
}
asked_second first late locals (suc zero) low =
    record { unasked = λ e. absurd (omega (arith, e)); asked = λ e. (0, refl) }
asked_second first late locals (suc (suc i)) low = absurd (omega (arith, low))

pub returns-clause-recorded : goal.returns-clause-recorded
returns-clause-recorded c = record {
  kind = refl;
  together = stopped_together;
  lines = stopped_lines;
  made = recorded.made;
  asked = asked_second 3 (inl refl) (locals_after (take 24 two_calls));
  lawful = worlds_are_lawful silent pair five_and_six (3 ∷ 2 ∷ [])
      (locals_after (take 24 two_calls)) stopped stopped_together stopped_lines recorded;
}

pub returns-clause-published : goal.returns-clause-published
returns-clause-published c = record {
  kind = refl;
  together = published_together;
  lines = published_lines;
  made = published.made;
  asked = asked_second 4 (inr refl) (locals_after (announced_both ++ published_one));
  lawful = worlds_are_lawful silent pair five_and_six (4 ∷ 2 ∷ [])
      (locals_after (announced_both ++ published_one)) stopped published_together
      published_lines published;
}

pub returns-clause-unpublished : goal.returns-clause-unpublished
returns-clause-unpublished c h = let e : 0 ≡ 1 = (h.made 0 (omega arith)).published in
    absurd (omega (arith, e))

pub returns-clause-published_too_soon : goal.returns-clause-published_too_soon
returns-clause-published_too_soon c h = let e : 1 ≡ 0 = (h.made 0 (omega arith)).published in
    absurd (omega (arith, e))
