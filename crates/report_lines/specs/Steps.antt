-- How each of the five phases of a call changes its caller's progress.
use Rattle.std.specs.Prelude.{ℕ, ◌+◌, ◌*◌, ◌<◌, List, [], length, slice_index}
use Rattle.book_base.specs.declared.call.Record.{Record}
use Rattle.report_lines.specs.Phases.{Progress, no_progress, IsProgressAfter}
use Rattle.report_lines.specs.Progress.{after_announcing, after_viewing, after_publishing, after_seeing}

-- A caller whose progress has no call, no published record and no object step may be one that has
-- made no phase yet.
abbrev pub NoPhaseIsMade : Type 0
NoPhaseIsMade = (operations : List ℕ) → IsProgressAfter operations 0 no_progress

-- Where a caller has judged k calls and has an operation left, announcing it is the caller's next
-- phase.
abbrev pub AnnouncingIsAPhase : Type 0
AnnouncingIsAPhase =
    (operations : List ℕ) (k : ℕ) (progress : Progress) → k < length operations
    → IsProgressAfter operations (5 * k) progress
    → IsProgressAfter operations (5 * k + 1) (after_announcing (slice_index operations k) progress)

-- Where a caller has announced its call k, asking the object is its next phase, which changes no
-- progress.
abbrev pub AskingIsAPhase : Type 0
AskingIsAPhase =
    (operations : List ℕ) (k : ℕ) (progress : Progress)
    → IsProgressAfter operations (5 * k + 1) progress
    → IsProgressAfter operations (5 * k + 2) progress

-- Where a caller has asked the object for its call k, taking the view is its next phase, which
-- gives the call its record.
abbrev pub ViewingIsAPhase : Type 0
ViewingIsAPhase =
    (operations : List ℕ) (k : ℕ) (progress : Progress) (r : Record)
    → IsProgressAfter operations (5 * k + 2) progress
    → IsProgressAfter operations (5 * k + 3) (after_viewing r progress)

-- Where call k of a caller has its record, publishing the record is the caller's next phase.
abbrev pub PublishingIsAPhase : Type 0
PublishingIsAPhase =
    (operations : List ℕ) (k : ℕ) (progress : Progress)
    → IsProgressAfter operations (5 * k + 3) progress
    → IsProgressAfter operations (5 * k + 4) (after_publishing progress)

-- Where a caller has published the record of its call k, seeing a cut is the call's last phase, in
-- which the call is judged.
abbrev pub SeeingIsAPhase : Type 0
SeeingIsAPhase =
    (operations : List ℕ) (k : ℕ) (progress : Progress) (cut : List ℕ)
    → IsProgressAfter operations (5 * k + 4) progress
    → IsProgressAfter operations (5 * (k + 1)) (after_seeing cut progress)
