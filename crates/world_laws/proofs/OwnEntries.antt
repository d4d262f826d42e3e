-- The laws of own entries.
use Rattle.std.proofs.Common.{◌≡◌, ℕ, ◌+◌, ◌<◌, List, [], length, slice_index, slice_index_or, sym, ◌∙◌, subst, arith}
use Rattle.world_core.specs.declared.region.Region.{Region}
use Rattle.world_core.specs.declared.region.Region.TheVariants.{N, M}
use Rattle.world_core.specs.Shape.{Shape}
use Rattle.world_core.specs.Local.{Local, own_count, embedded_in}
use Rattle.world_core.specs.World.{World, start, local_of}
use Rattle.world_core.specs.Calls.{AreTogether, local_at}
use Rattle.world_laws.specs.Own.{IsCutOf, ViewsCountTheirCall, SeenCutsCountTheirCall, EmbeddedCutsCountTheirRow}
use Rattle.world_laws.proofs.Each.{each_at}
use Rattle.world_laws.proofs.Low.{IsLowCut}
use Rattle.world_laws.proofs.Knowing.{Sound, start_sound, steps_sound, embedded_long}
use Rattle.world_laws.proofs.Owning.{AllOwned, start_owned, steps_owned}

-- Locals that are together are those of a world in which all that was proved of own entries holds
-- too.
record Of (s : Shape) (locals : List Local) : Type 0 where
  world : World
  sound : Sound s world
  owned : AllOwned s world
  are : world.locals ≡ locals

together : (s : Shape) (locals : List Local) → AreTogether s locals → Of s locals
together s locals (w, (steps, run, at), are) =
    record {
      world = w;
      sound =
          subst (λ (v : World). Sound s v) at (steps_sound s (start s) steps (start_sound s) run);
      owned = subst (λ (v : World). AllOwned s v) at
          (steps_owned s (start s) steps (start_sound s) (start_owned s) run);
      are = are;
    }

module _ (s : Shape) (w : World) (sound : Sound s w) where
  cut_of : (r : Region) (i own : ℕ) (cut : List ℕ) → IsLowCut s w r cut → slice_index cut i ≡ own
      → IsCutOf w.locals r i own cut
  cut_of r i own cut low is =
      record {
        wide = low.wide ∙ sym sound.kept.locals_long;
        within = λ j below.
            let fits : j < s.callers = omega (arith, below, sound.kept.locals_long) in
            let a = low.low j fits in
            omega (arith, a, (sound.kept.agree j fits).counts r);
        own = is;
      }

  module _ (owned : AllOwned s w) (i : ℕ) (low : i < s.callers) where
    view_of : (k : ℕ) → k < length (local_of w i).views
        → IsCutOf w.locals N i (k + 1) (slice_index_or (local_of w i).views k [])
    view_of k below =
        cut_of N i (k + 1) (slice_index_or (local_of w i).views k [])
        (each_at (IsLowCut s w N) (local_of w i).views k [] (sound.low i low).views below)
        ((owned i low).owns.views k below)

    seen_of : (k : ℕ) → k < length (local_of w i).seen
        → IsCutOf w.locals M i (k + 1) (slice_index_or (local_of w i).seen k [])
    seen_of k below =
        cut_of M i (k + 1) (slice_index_or (local_of w i).seen k [])
        (each_at (IsLowCut s w M) (local_of w i).seen k [] (sound.low i low).seen below)
        ((owned i low).owns.seen k below)

    embedded_of : (r : Region) (k : ℕ) → k < own_count (local_of w i) r
        → IsCutOf w.locals r i k (slice_index_or (embedded_in (local_of w i) r) k [])
    embedded_of r k below =
        let short : k < length (embedded_in (local_of w i) r) =
        omega (arith, below, embedded_long s w sound.kept sound.low i low r) in
        cut_of r i k (slice_index_or (embedded_in (local_of w i) r) k []) (each_at (IsLowCut s w r)
        (embedded_in (local_of w i) r) k [] ((sound.low i low).embedded r) short)
        ((owned i low).owns.embedded r k short)

pub views_count_their_call : ViewsCountTheirCall
views_count_their_call s locals i k t low =
    let o = together s locals t in
    subst (λ (ls : List Local). k < length (local_at ls i).views
    → IsCutOf ls N i (k + 1) (slice_index_or (local_at ls i).views k [])) o.are
    (view_of s o.world o.sound o.owned i low k)

pub seen_cuts_count_their_call : SeenCutsCountTheirCall
seen_cuts_count_their_call s locals i k t low =
    let o = together s locals t in
    subst (λ (ls : List Local). k < length (local_at ls i).seen
    → IsCutOf ls M i (k + 1) (slice_index_or (local_at ls i).seen k [])) o.are
    (seen_of s o.world o.sound o.owned i low k)

pub embedded_cuts_count_their_row : EmbeddedCutsCountTheirRow
embedded_cuts_count_their_row s locals i k r t low =
    let o = together s locals t in
    subst (λ (ls : List Local). k < own_count (local_at ls i) r
    → IsCutOf ls r i k (slice_index_or (embedded_in (local_at ls i) r) k [])) o.are
    (embedded_of s o.world o.sound o.owned i low r k)
