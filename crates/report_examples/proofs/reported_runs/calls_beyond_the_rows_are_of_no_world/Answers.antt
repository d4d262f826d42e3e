use Rattle.std.proofs.Common.{◌≡◌, ◌<◌, List, [], length, slice_index_or, refl, ap, ◌∙◌, arith}
use Rattle.std.proofs.lemmas.List.FromFn.{length-map-range_with_len}
use Rattle.world_core.specs.declared.region.Region.TheVariants.{N}
use Rattle.world_core.specs.Local.{Local}
use Rattle.world_examples.specs.Schedules.{pair}
use Rattle.world_core.specs.Calls.{Made, call_in, calls_in, local_at}
use Rattle.world_laws.proofs.Locals.{locals_have_phases}
use Rattle.report_lines.proofs.Runs.{calls_at}
use Rattle.report_examples.proofs.reported_runs.calls_beyond_the_rows_are_of_no_world.Goals as goal

pub returns-clause-unlawful : goal.returns-clause-unlawful
returns-clause-unlawful c h =
    let locals : List Local = h.reached.0.locals in
    let l : Local = local_at locals 0 in
    let phases = locals_have_phases pair locals (h.reached.0, h.reached.1, refl) in
    let low : 0 < 2 = omega arith in
    let two : 2 ≡ length (calls_in l) =
    ap (λ (calls : List (List Made)). length (slice_index_or calls 0 [])) h.reached.2.calls
    ∙ ap (λ (own : List Made). length own) (calls_at locals 0) in
    absurd (omega (
      arith,
      two,
      length-map-range_with_len (λ k. call_in l k) 0 (length l.operations),
      (phases.1 0 low).operations,
      phases.2 0 N low,
    ))
