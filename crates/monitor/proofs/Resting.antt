-- What a round leaves of the local of a caller that rests.
use Rattle.std.proofs.Common.{◌≡◌, ◌∙◌, refl, sym, ap, subst, ℕ, ◌+◌, ◌-◌, ◌≤◌, List, [], ◌∷◌, ◌++◌, length, None, Some, slice_get, append_assoc, arith}
use Rattle.std.specs.Prelude.{Option, Result, Ok, Err, IfOk}
use Rattle.list_laws.proofs.Places.{slice_get-push_last}
use Rattle.world_core.specs.declared.region.Region.TheVariants.{M}
use Rattle.world_core.specs.Local.{Phase, Announcing, Scan, Local, Given, Looked, Peeked, IsIdle}
use Rattle.world_core.specs.Calls.{IsGathered}
use Rattle.world_core.specs.Event.{Begins_scan, Purpose, For_nothing, purpose_of, served}
use Rattle.world_laws.specs.Given.{IsGivenIn}
use Rattle.collect_scan.specs.Scanned.{ScannedWords, found_by, scan_with, local_in_scan, most_words, HasScanned}
use Rattle.collect_scan.specs.Given.{given_with}
use Rattle.row_gather.specs.declared.gathered.Gathered.{Gathered}
use Rattle.row_gather.specs.Gathered.{IsGatheredBy, TicksForNew}
use Rattle.row_gather.specs.Peeks.{HasOnlyPeeked, with_peeked}
use Rattle.row_gather.proofs.Kept.{gathered_by_stays}
use Rattle.drv_wrapper.specs.Growth.{Grows}
use Rattle.drv_wrapper.proofs.Growing.{grows_by}
use Rattle.monitor.specs.Rounds.{HasScannedOnce}
use Rattle.monitor.specs.Monitors.{HasGathered, TicksForBook}

-- the local after a scan of M that serves no purpose
abbrev scanned_idly : List ℕ → List Looked → List Peeked → Local → Local
scanned_idly cut looks peeks l =
    record l {
      scan = None;
      cuts = l.cuts ++ given_with l M cut ∷ [];
      looked = looks ++ l.looked;
      peeked = peeks ++ l.peeked;
    }

-- a scan of M while announcing serves no purpose
idle_scanned : (n : ℕ) (cut : List ℕ) (l m : Local) → l.phase ≡ Announcing
    → HasScanned n M Begins_scan cut l m
    → (looks : List Looked) × (peeks : List Peeked) × (m ≡ scanned_idly cut looks peeks l)
idle_scanned n cut l m phase h =
    let found : ScannedWords = found_by n M h.taken in
    let scan : Scan = scan_with l M Begins_scan h.taken in
    let ended : Local = record (local_in_scan n l M Begins_scan h.taken)
    { scan = None; cuts = l.cuts ++ given_with l M cut ∷ [] } in
    let purpose : purpose_of l.phase l.staged scan ≡ For_nothing =
    ap (λ (p : Phase). purpose_of p l.staged scan) phase in
    (found.looks, found.peeks, h.is ∙ ap (λ (p : Purpose). served ended p cut) purpose)

-- One scan was made, and its caller is idle after it.
pub record RestsAfter (cut : List ℕ) (l m : Local) : Type 0 where
  pub once : HasScannedOnce cut l m
  pub idle : IsIdle m

scanned_rests : (cut : List ℕ) (looks : List Looked) (peeks : List Peeked) (l : Local) → IsIdle l
    → RestsAfter cut l (scanned_idly cut looks peeks l)
scanned_rests cut looks peeks l idle =
    record {
      once = record {
        adds = record {
          cuts = refl;
          none = refl;
          looks = looks;
          looked = refl;
          peeks = peeks;
          peeked = refl;
        };
        progress = refl;
      };
      idle = record { announcing = idle.announcing; unstaged = idle.unstaged };
    }

pub rests_scanned : (n : ℕ) (cut : List ℕ) (l m : Local) → IsIdle l
    → HasScanned n M Begins_scan cut l m → RestsAfter cut l m
rests_scanned n cut l m idle h =
    let (looks, peeks, is) = idle_scanned n cut l m idle.announcing h in
    subst (RestsAfter cut l) (sym is) (scanned_rests cut looks peeks l idle)

-- further peeks keep the caller idle after one scan
peeked_rests : (cut : List ℕ) (l m : Local) (more : List Peeked) → RestsAfter cut l m
    → RestsAfter cut l (with_peeked m more)
peeked_rests cut l m more h =
    let adds = h.once.adds in
    record {
      once =
          record {
            adds =
                record {
                  cuts = adds.cuts;
                  none = adds.none;
                  looks = adds.looks;
                  looked = adds.looked;
                  peeks = more ++ adds.peeks;
                  peeked = ap (λ (ps : List Peeked). more ++ ps) adds.peeked
                      ∙ sym (append_assoc more adds.peeks l.peeked);
                };
            progress = h.once.progress;
          };
      idle = record { announcing = h.idle.announcing; unstaged = h.idle.unstaged };
    }

pub rests_peeked : (cut : List ℕ) (l m k : Local) (ticks ticks' : ℕ) → RestsAfter cut l m
    → HasOnlyPeeked m k ticks ticks' → RestsAfter cut l k
rests_peeked cut l m k ticks ticks' h peeks =
    subst (RestsAfter cut l) (sym peeks.local) (peeked_rests cut l m peeks.more h)

-- what the caller had found before the scan it has still found
pub grows_once : (cut : List ℕ) (l m : Local) → HasScannedOnce cut l m → Grows l m
grows_once cut l m h = grows_by l m h.adds.looks h.adds.peeks
    (given_with l M cut ∷ []) h.adds.looked h.adds.peeked h.adds.cuts

-- the cut is one that a scan of M gave, and the last one of the caller
pub given_last : (cut : List ℕ) (l m : Local) → HasScannedOnce cut l m
    → slice_get m.cuts (length l.cuts) ≡ Some (given_with l M cut)
given_last cut l m h = ap (λ (cuts : List Given). slice_get cuts (length l.cuts)) h.adds.cuts
    ∙ slice_get-push_last l.cuts (given_with l M cut)

pub given_once : (cut : List ℕ) (l m : Local) → HasScannedOnce cut l m → IsGivenIn m.cuts M cut
given_once cut l m h =
    record { place = length l.cuts; since = length l.looked; is = given_last cut l m h }

-- the book that is kept from an earlier round is still one that the caller gathered
pub kept_once : (cut : List ℕ) (l m : Local) (gathered : Option Gathered) → HasScannedOnce cut l m
    → IsGatheredBy l gathered → IsGatheredBy m gathered
kept_once cut l m gathered h kept =
    gathered_by_stays l m gathered (grows_once cut l m h).peeked kept

-- the book that was gathered, with the cut that it is at
pub ok_gathered : {E : Type 0} (n : ℕ) (cut : List ℕ) (l m : Local) (r : Result Gathered E)
    → HasScannedOnce cut l m → IfOk r (λ g. g.cut ≡ cut)
    → IfOk r (λ g. IsGathered n m cut g.book) → IfOk r (HasGathered n l m)
ok_gathered n cut l m (Ok g) once at is =
    record {
      once = subst (λ (x : List ℕ). HasScannedOnce x l m) (sym at) once;
      book = subst (λ (x : List ℕ). IsGathered n m x g.book) (sym at) is;
    }
ok_gathered n cut l m (Err e) once at is = tt

-- the ticks of a new book are those of its scan and then those of its gathering
pub ok_ticks : {E : Type 0} (n : ℕ) (before kept : Option Gathered) (from scanned to : ℕ)
    (r : Result Gathered E) → kept ≡ before → from ≤ scanned → scanned ≤ from + most_words n
    → IfOk r (λ g. TicksForNew n kept g scanned to) → IfOk r (λ g. TicksForBook n before g from to)
ok_ticks n before kept from scanned to (Ok g) same least most h =
    record {
      scan = scanned - from;
      few = omega (arith, least, most);
      new = subst (λ (k : ℕ). TicksForNew n before g k to) (omega (arith, least))
          (subst (λ (o : Option Gathered). TicksForNew n o g scanned to) same h);
    }
ok_ticks n before kept from scanned to (Err e) same least most h = tt
