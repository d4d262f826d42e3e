-- The notes that a caller keeps of its local while it runs: they are always equal to `notes_of` its
-- local.
use Rattle.std.specs.Prelude.{◌≡◌, ℕ, suc, Bool, true, false, ◌&&◌, List, [], ◌∷◌, Option, Some, None}
use Rattle.world_core.specs.declared.region.Region.{Region}
use Rattle.world_core.specs.declared.region.Region.TheVariants.{N, M}
use Rattle.world_core.specs.Local as local
use Rattle.world_core.specs.Local.{Local, Scan, Given}
use Rattle.world_core.specs.Event.{is_unstaged, is_same_region}
use Rattle.world_core.specs.Scan.{wanted, has_ended}
use Rattle.world_core.specs.declared.want.Want.{Want}
use Rattle.world_core.specs.declared.want.Want.TheVariants.{Done}
use Rattle.world_core.specs.Standing.{standing}
use Rattle.row_table.specs.declared.phase.Phase.{Phase}
use Rattle.row_table.specs.declared.phase.Phase.TheVariants.{Announcing, Asking, Viewing, Publishing, Judging}
use Rattle.row_table.specs.declared.notes.ScanUnderWay.{ScanUnderWay}
use Rattle.row_table.specs.declared.notes.Notes.{Notes}

-- The phase of a local, as notes have it.
abbrev pub phase_in : local.Phase → Phase
phase_in local.Announcing = Announcing
phase_in local.Asking = Asking
phase_in local.Viewing = Viewing
phase_in local.Publishing = Publishing
phase_in local.Judging = Judging

-- What caller `me` of n keeps of a scan under way: the state of the scan after the words that the
-- scan has taken, and whether it is the scan for the view of the caller's call.
abbrev pub under_way : ℕ → ℕ → Scan → ScanUnderWay
under_way n me scan = record { core = standing n me scan.region scan.taken; is_view = scan.is_view }

-- What a caller keeps of the scan under way in its local, where there is one.
abbrev pub scan_kept : ℕ → ℕ → Option Scan → Option ScanUnderWay
scan_kept n me None = None
scan_kept n me (Some scan) = Some (under_way n me scan)

-- The last cut in a list of given cuts; `None` where the list is empty.
abbrev pub last_given : List Given → Option (List ℕ)
last_given [] = None
last_given (given ∷ []) = Some given.cut
last_given (given ∷ next ∷ more) = last_given (next ∷ more)

-- The cut with which a scan has ended, if nothing more is due in it.
abbrev pub cut_of : Want → Option (List ℕ)
cut_of (Done cut) = Some cut
cut_of _ = None

-- What caller `me` of n keeps of its local: its counts, its phase, whether its row under way has no
-- staged word, its scan, and the last cut that a scan gave it.
abbrev pub notes_of : ℕ → ℕ → Local → Notes
notes_of n me l =
    record {
      announced = l.announced;
      published = l.published;
      phase = phase_in l.phase;
      unstaged = is_unstaged l.staged;
      scan = scan_kept n me l.scan;
      given = last_given l.cuts;
    }

-- The notes of the locals that a seat has, by caller from number `i` on; none of a caller whose
-- local the seat doesn't have.
abbrev pub notes_from : ℕ → ℕ → List (Option Local) → List (Option Notes)
notes_from n i [] = []
notes_from n i (None ∷ v) = None ∷ notes_from n (suc i) v
notes_from n i (Some l ∷ v) = Some (notes_of n i l) ∷ notes_from n (suc i) v

-- The phase after a scan of a region ended: publishing, where the view's scan of N ended while
-- viewing; announcing, where a scan of M ended while judging; and else the phase before.
abbrev pub phase_after : Phase → Region → Bool → Phase
phase_after Viewing N true = Publishing
phase_after Judging M is_view = Announcing
phase_after phase region is_view = phase

-- Whether a scan of this region is under way, and what is due next in it passes the test `is_it`.
abbrev pub takes : ℕ → Option Scan → Region → (Want → Bool) → Bool
takes n None region is_it = false
takes n (Some scan) region is_it = is_same_region scan.region region && is_it (wanted n scan.taken)

-- A scan is under way and hasn't ended.
abbrev pub IsOpen : Option ScanUnderWay → Type 0
IsOpen None = ⊥
IsOpen (Some scan) = has_ended scan.core.course ≡ false

-- What is due next in the scan under way, if one is under way.
abbrev pub wanted_next : ℕ → Option Scan → Option Want
wanted_next n None = None
wanted_next n (Some scan) = Some (wanted n scan.taken)

-- The last cut in a list of given cuts, where no scan is under way; `None` where a scan is under
-- way, or where the list is empty.
abbrev pub given_by_last : Option Scan → List Given → Option (List ℕ)
given_by_last None cuts = last_given cuts
given_by_last (Some scan) cuts = None

-- The cut that a local was given last, if a scan gave it one and no scan is under way in it.
abbrev pub given_now : Local → Option (List ℕ)
given_now l = given_by_last l.scan l.cuts
