-- The bound of scans, over runs.
use Rattle.std.proofs.Common.{◌≡◌, ℕ, ◌<◌, List, [], ◌∷◌, ◌++◌, Option, Some, None, sym, ap, ◌∙◌, subst}
use Rattle.std.proofs.lemmas.Option.{same_Some}
use Rattle.world_core.specs.declared.region.Region.{Region}
use Rattle.world_core.specs.declared.want.Want.TheVariants.{Done}
use Rattle.world_core.specs.Shape.{Shape}
use Rattle.world_core.specs.Local.{Scan, Given, Local}
use Rattle.world_core.specs.World.{World, start, local_of, end_of}
use Rattle.world_core.specs.Calls.{local_at}
use Rattle.world_core.proofs.Bounds.{scan_is_short}
use Rattle.world_laws.specs.Bounds.{IsBounded, ScansAreBounded, ScansAreBoundedInRuns, EndedScansAreBounded}
use Rattle.world_laws.proofs.Knowing.{start_sound}
use Rattle.world_laws.proofs.Begun.{IsBegun, Taking}
use Rattle.world_laws.proofs.Ordering.{Anywhere, AllPlaced, start_placed, steps_placed, together}
use Rattle.world_laws.proofs.Spanning.{spanned}

taking_bounded : (s : Shape) (i : ℕ) (from : World) (region : Region) (taken : List ℕ)
    → i < s.callers → Taking s i from region taken → IsBounded s.callers i taken
taking_bounded s i from region taken low h =
    let short = scan_is_short s.callers i taken low h.steady in
    record {
      steady = h.steady;
      looks = short.looks;
      peeks = short.peeks;
      words = short.words h.wants;
    }

begun_bounded : (s : Shape) (w : World) (i : ℕ) (l : Local) (o : Option Scan) (scan : Scan)
    → i < s.callers → IsBegun s w i Anywhere l o → o ≡ Some scan → IsBounded s.callers i scan.taken
begun_bounded s w i l None scan low h is = absurd cc
begun_bounded s w i l (Some other) scan low (from, kind, h) is =
    subst (λ (c : Scan). IsBounded s.callers i c.taken) (same_Some other scan is)
    (taking_bounded s i from other.region other.taken low h.taking)

pub scans_are_bounded_in_runs : ScansAreBoundedInRuns
scans_are_bounded_in_runs s steps i scan run low is =
    let all : AllPlaced s (end_of s steps) =
    steps_placed s (start s) steps (start_sound s) (start_placed s) run in
    begun_bounded s (end_of s steps) i (local_of (end_of s steps) i)
    (local_of (end_of s steps) i).scan scan low (all i low).begun is

pub scans_are_bounded : ScansAreBounded
scans_are_bounded s locals i scan t low =
    let o = together s locals t in
    subst
    (λ (ls : List Local). (local_at ls i).scan ≡ Some scan → IsBounded s.callers i scan.taken) o.are
    (begun_bounded s o.world i (local_of o.world i) (local_of o.world i).scan scan low
    (o.placed i low).begun)

pub ended_scans_are_bounded : EndedScansAreBounded
ended_scans_are_bounded s who given r h =
    let it = spanned s who given r h in
    let gave = it.step.gave in
    record {
      scan = gave.scan;
      under = sym (it.step.quiet it.quiet) ∙ gave.under;
      word = gave.word;
      done = gave.done ∙ ap (λ (g : Given). Done g.cut) it.is;
      bounded = taking_bounded s who (end_of s r.before) gave.given.region
          (gave.scan.taken ++ gave.word ∷ []) it.low gave.taking;
    }
