-- The handle of a caller: its parts, when it is sound, and what becomes of it by its calls.
use Rattle.std.specs.Prelude.{◌≡◌, ℕ, ◌<◌, false, List, Option}
use Rattle.std.specs.Arc.{arc_value}
use Rattle.book_base.specs.declared.call.Record.{Record}
use Rattle.book_base.specs.Order.{HasLegalOrder}
use Rattle.world_core.specs.declared.program.Outside.{Outside}
use Rattle.seq_objects.specs.declared.kind.Kind.{Kind}
use Rattle.seq_objects.specs.Objects.{kind_spec}
use Rattle.book_text.specs.BookRules.{IsBookText}
use Rattle.text_fields.specs.declared.version.Version.TheVariants.{Second}
use Rattle.row_table.specs.declared.caller.Caller.{Caller}
use Rattle.row_table.specs.declared.rows.Rows.{Rows}
use Rattle.row_table.specs.Callers.{local_with, stance_of, IsCallerOf, IsFree}
use Rattle.row_gather.specs.declared.gathered.Gathered.{Gathered}
use Rattle.row_gather.specs.Gathered.{IsGatheredBy}
use Rattle.drv_wrapper.specs.declared.announced.Announced as announced
use Rattle.drv_wrapper.specs.Stands.{ready}
use Rattle.drv_wrapper.specs.States.{caller_announced, announced_local}
use Rattle.enforcer.specs.declared.outcome.Outcome.{Outcome}
use Rattle.enforcer.specs.declared.outcome.Outcome.TheVariants as outcome
use Rattle.enforcer.specs.Judged.{is_illegal}
use Rattle.enforcer.specs.Verdicts.{OrderStandsIn}
use Rattle.call_handles.specs.declared.stage.HandleStage.{HandleStage}
use Rattle.call_handles.specs.declared.stage.HandleStage.TheVariants.{Idle, Announced, Wrong, Unjudged}
use Rattle.call_handles.specs.declared.stage.Wrong as wrong
use Rattle.call_handles.specs.declared.verdict.HandleVerdict.{HandleVerdict}
use Rattle.call_handles.specs.declared.verdict.HandleVerdict.TheVariants as verdict
use Rattle.call_handles.specs.declared.caller_handle.CallerHandle.{CallerHandle}
use Rattle.call_handles.specs.declared.kept.KeptByHandle.{KeptByHandle}
use Rattle.announced_calls.specs.Outside.{every_reply}
use Rattle.announced_calls.specs.Ends.{IsAnnouncedBy, IsPublishedBy, IsJudgedAs}

-- The rows of a caller's handle.
abbrev pub rows_of : CallerHandle → Rows Outside
rows_of h = arc_value h.kept.rows

-- The kind by which the calls of a handle are judged.
abbrev pub kind_of : CallerHandle → Kind
kind_of h = h.kept.kind

-- Where the caller of a handle is: between two calls, in an announced call, or halted after one.
abbrev pub stage_of : CallerHandle → HandleStage
stage_of h = h.stage

-- The caller of a handle in this stage.
abbrev pub caller_in : HandleStage → Caller Outside
caller_in (Idle c) = c
caller_in (Announced call) = caller_announced call
caller_in (Wrong w) = w.caller
caller_in (Unjudged c) = c

-- A handle in this stage has a caller of these rows, who is free in the stage `Idle`. In the stages
-- `Idle` and `Announced` the kept book, if there is one, was gathered by this caller. In the stage
-- `Wrong` the book of the error has no legal order.
abbrev pub IsSoundAt : Rows Outside → Kind → Option Gathered → HandleStage → Type 0
IsSoundAt r kind gathered (Idle c) = IsCallerOf every_reply r c × IsFree c
    × IsGatheredBy (local_with c) gathered
IsSoundAt r kind gathered (Announced call) = IsCallerOf every_reply r (caller_announced call)
    × IsGatheredBy (announced_local call) gathered
IsSoundAt r kind gathered (Wrong w) = IsCallerOf every_reply r w.caller
    × ¬ HasLegalOrder (kind_spec kind) w.book
IsSoundAt r kind gathered (Unjudged c) = IsCallerOf every_reply r c

-- The kept order of a handle stands in its kept book, judged by the handle's kind.
abbrev pub KeepsStanding : KeptByHandle → Type 0
KeepsStanding kept =
    OrderStandsIn (kind_spec kept.kind) kept.gathered kept.standing

-- A caller's handle is sound: its caller, its stage and its kept book fit one another, and its kept
-- order stands in that book.
abbrev pub IsSoundCaller : CallerHandle → Type 0
IsSoundCaller h = IsSoundAt (rows_of h) h.kept.kind h.kept.gathered h.stage × KeepsStanding h.kept

-- The two handles are of one table, and judge by one kind.
abbrev pub IsOfSameTable : CallerHandle → CallerHandle → Type 0
IsOfSameTable h k = (rows_of k ≡ rows_of h) × (kind_of k ≡ kind_of h)

-- The caller is between two calls.
abbrev pub IsBetweenCalls : CallerHandle → Type 0
IsBetweenCalls h = (c : Caller Outside) × (h.stage ≡ Idle c)

-- The caller is between two calls and has a call left.
abbrev pub MayAnnounce : CallerHandle → Type 0
MayAnnounce h = (c : Caller Outside) × (h.stage ≡ Idle c)
    × ((local_with c).announced < (rows_of h).cap)

-- The caller has announced a call whose reply isn't handed in yet.
abbrev pub HasAnnounced : CallerHandle → Type 0
HasAnnounced h = (call : announced.Announced Outside) × (h.stage ≡ Announced call)

-- The caller's last call was an error.
abbrev pub IsInError : CallerHandle → Type 0
IsInError h = (w : wrong.Wrong) × (h.stage ≡ Wrong w)

-- The caller of the handle h announced a call with this operation, which is under way at the handle
-- k.
abbrev pub HasBegun : ℕ → CallerHandle → CallerHandle → Type 0
HasBegun op h k =
    (c : Caller Outside) × (call : announced.Announced Outside) × (h.stage ≡ Idle c)
    × (k.stage ≡ Announced call)
    × IsAnnouncedBy every_reply (rows_of h) c op call

-- The outcome of a call that was an error.
abbrev pub outcome_of : wrong.Wrong → Outcome
outcome_of w = outcome.Illegal w.reply w.view w.seen w.book

-- What the answer to an announced call says, with the stage of the call's caller afterwards. A
-- delivered call comes with a legal order of the published records at the seen cut, and a wrong one
-- with their book, which has no legal order. The record of a call that isn't judged is published
-- all the same, and its caller is halted.
abbrev pub AnswersFor : Rows Outside → Kind → announced.Announced Outside → ℕ → HandleStage
    → HandleVerdict → Type 0
AnswersFor r kind call reply stage verdict.Legal =
    (c : Caller Outside) × (found : Outcome) × (stage ≡ Idle c) × (is_illegal found ≡ false)
    × IsJudgedAs every_reply r (kind_spec kind) call reply c found
AnswersFor r kind call reply stage verdict.Illegal =
    (w : wrong.Wrong) × (stage ≡ Wrong w)
    × IsJudgedAs every_reply r (kind_spec kind) call reply w.caller (outcome_of w)
AnswersFor r kind call reply stage verdict.Unjudged =
    (c : Caller Outside) × (told : Record) × (seen : List ℕ) × (stage ≡ Unjudged c)
    × IsPublishedBy every_reply r call reply c told seen
    × (stance_of c ≡ record ready { live = false })

-- The call that is announced at the handle h has ended with this reply and this answer, which is
-- right, and its caller is in the stage of the handle k.
abbrev pub HasEnded : ℕ → CallerHandle → HandleVerdict → CallerHandle → Type 0
HasEnded reply h found k =
    (call : announced.Announced Outside) × (h.stage ≡ Announced call)
    × AnswersFor (rows_of h) (kind_of h) call reply k.stage found

-- The call that was announced at the handle h is published with this reply, and nothing is judged:
-- its caller is between two calls at the handle k.
abbrev pub HasPublished : ℕ → CallerHandle → CallerHandle → Type 0
HasPublished reply h k =
    (call : announced.Announced Outside) × (c : Caller Outside) × (told : Record) × (seen : List ℕ)
    × (h.stage ≡ Announced call)
    × (k.stage ≡ Idle c) × IsPublishedBy every_reply (rows_of h) call reply c told seen

-- The bytes are the text of the book of the handle's error, which has no legal order.
abbrev pub IsWitnessOf : CallerHandle → List ℕ → Type 0
IsWitnessOf h bytes =
    (w : wrong.Wrong) × (h.stage ≡ Wrong w) × IsBookText Second bytes (kind_of h) w.book
    × ¬ HasLegalOrder (kind_spec (kind_of h)) w.book
