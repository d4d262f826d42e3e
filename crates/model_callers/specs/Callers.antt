-- Callers whose calls are judged by a model: their parts, when they are sound, and what becomes of
-- them by a call up to its judgement.
use Rattle.std.specs.Prelude.{◌≡◌, ℕ, ◌<◌, false, List, [], Option, None, IfSome}
use Rattle.std.specs.Arc.{arc_value}
use Rattle.book_base.specs.declared.call.Record.{Record}
use Rattle.world_core.specs.declared.program.Outside.{Outside}
use Rattle.world_core.specs.Calls.{IsGathered}
use Rattle.world_core.specs.Local.{fresh}
use Rattle.seq_objects.specs.Replies.{reply_value}
use Rattle.row_table.specs.declared.caller.Caller.{Caller}
use Rattle.row_table.specs.declared.rows.Rows.{Rows}
use Rattle.row_table.specs.Callers.{who_of, local_with, stance_of, IsCallerOf, IsFree}
use Rattle.row_gather.specs.declared.gathered.Gathered.{Gathered}
use Rattle.row_gather.specs.Exact.{IsTheBookAt}
use Rattle.row_gather.specs.Gathered.{IsGatheredBy}
use Rattle.drv_wrapper.specs.declared.announced.Announced as announced
use Rattle.drv_wrapper.specs.Stands.{ready}
use Rattle.drv_wrapper.specs.States.{caller_announced, announced_local}
use Rattle.told_models.specs.declared.answer.Answer.TheVariants as told
use Rattle.told_models.specs.Table.{Table}
use Rattle.told_models.specs.Answers.{IsRightAnswer}
use Rattle.told_models.specs.declared.told_search.ToldSearch.{ToldSearch}
use Rattle.told_models.specs.Searching.{IsSearch}
use Rattle.model_checks.specs.Words.{operation_word}
use Rattle.model_checks.specs.Checks.{AreSmall}
use Rattle.announced_calls.specs.Outside.{every_reply}
use Rattle.announced_calls.specs.Ends.{IsAnnouncedBy, IsPublishedBy}
use Rattle.model_callers.specs.declared.gathered_call.GatheredCall.{GatheredCall}
use Rattle.model_callers.specs.declared.stage.ModelStage.{ModelStage}
use Rattle.model_callers.specs.declared.stage.ModelStage.TheVariants.{Idle, Announced, Judging, Wrong, Unjudged}
use Rattle.model_callers.specs.declared.model_caller.ModelCaller.{ModelCaller}

-- The rows of a caller.
abbrev pub rows_of : ModelCaller → Rows Outside
rows_of h = arc_value h.kept.rows

-- What was told to a caller of the model.
abbrev pub table_of : ModelCaller → Table
table_of h = h.kept.table

-- A published call is gathered: its caller belongs to these rows and has peeked each word of the
-- book at the cut that it has seen since. In each reachable world in which the caller has its local
-- this is the book of all callers' calls at that cut.
pub record IsGatheredCall (r : Rows Outside) (call : GatheredCall) : Type 0 where
  pub caller : IsCallerOf every_reply r call.caller
  pub gathered : IsGathered r.callers (local_with call.caller) call.gathered.cut call.gathered.book
  pub exact : IsTheBookAt every_reply r call.caller call.gathered.cut call.gathered.book

-- A caller in this stage belongs to these rows, and is free in the stages `Idle` and `Judging`. In
-- the stages `Idle` and `Announced` it has gathered the kept book, if there is one; in the stages
-- `Judging` and `Wrong` it has gathered the book of its call. A search is one of this book by no
-- more than was told. In the stage `Wrong` the book has no legal order for any object that agrees
-- with what was told.
abbrev pub IsSoundAt : Rows Outside → Table → Option Gathered → ModelStage → Type 0
IsSoundAt r table gathered (Idle c) = IsCallerOf every_reply r c × IsFree c
    × IsGatheredBy (local_with c) gathered
IsSoundAt r table gathered (Announced call) = IsCallerOf every_reply r (caller_announced call)
    × IsGatheredBy (announced_local call) gathered
IsSoundAt r table gathered (Judging call search) = IsGatheredCall r call × IsFree call.caller
    × IfSome search (IsSearch table call.gathered.book)
IsSoundAt r table gathered (Wrong call) = IsGatheredCall r call
    × IsRightAnswer table call.gathered.book told.Illegal
IsSoundAt r table gathered (Unjudged c) = IsCallerOf every_reply r c

-- A caller is sound: its rows, what was told, its kept book and its stage fit one another, and the
-- numbers of the states that were told are below 2 ^ 32.
abbrev pub IsSoundCaller : ModelCaller → Type 0
IsSoundCaller h = IsSoundAt (rows_of h) (table_of h) h.kept.gathered h.stage
    × AreSmall (table_of h)

-- The two are callers of one table, to which the same was told.
abbrev pub IsOfSameModel : ModelCaller → ModelCaller → Type 0
IsOfSameModel h k = (rows_of k ≡ rows_of h) × (table_of k ≡ table_of h)

-- A caller has made no call, has this number, and nothing was told to it but that the initial state
-- has the number 0.
abbrev pub IsFreshCaller : Rows Outside → ℕ → ModelCaller → Type 0
IsFreshCaller r who h = (rows_of h ≡ r)
    × (table_of h ≡ record { init = 0; steps = []; promises = [] })
    × ((c : Caller Outside) × (h.stage ≡ Idle c) × (who_of c ≡ who) × (local_with c ≡ fresh)
    × (stance_of c ≡ ready))

-- A caller is between two calls and has a call left.
abbrev pub MayAnnounce : ModelCaller → Type 0
MayAnnounce h = (c : Caller Outside) × (h.stage ≡ Idle c)
    × ((local_with c).announced < (rows_of h).cap)

-- A caller has announced a call whose reply isn't handed in yet.
abbrev pub HasAnnounced : ModelCaller → Type 0
HasAnnounced h = (call : announced.Announced Outside) × (h.stage ≡ Announced call)

-- A caller's call is published, and its judgement hasn't ended.
abbrev pub IsJudging : ModelCaller → Type 0
IsJudging h = (call : GatheredCall) × (search : Option ToldSearch) × (h.stage ≡ Judging call search)

-- A caller's last call was an error.
abbrev pub IsInError : ModelCaller → Type 0
IsInError h = (call : GatheredCall) × (h.stage ≡ Wrong call)

-- The caller h announced a call with the operation of this number, which is under way at k.
abbrev pub HasBegun : ℕ → ModelCaller → ModelCaller → Type 0
HasBegun op h k =
    (c : Caller Outside) × (call : announced.Announced Outside) × (h.stage ≡ Idle c)
    × (k.stage ≡ Announced call)
    × IsAnnouncedBy every_reply (rows_of h) c (operation_word op) call

-- The announced call is published with this reply, and gathered: its caller has seen since a cut
-- that holds all its own records, and has made no other call.
pub record IsPublishedCall (r : Rows Outside) (call : announced.Announced Outside) (reply : ℕ)
    (done : GatheredCall) : Type 0 where
  pub gathered : IsGatheredCall r done
  pub free : IsFree done.caller
  pub published : IsPublishedBy every_reply r call reply done.caller done.record done.gathered.cut

-- The announced call is published with this reply, its book isn't gathered, and the caller that is
-- left makes no further call.
abbrev pub IsLeftUnjudged : Rows Outside → announced.Announced Outside → ℕ → Caller Outside → Type 0
IsLeftUnjudged r call reply c = (done : Record) × (seen : List ℕ)
    × IsPublishedBy every_reply r call reply c done seen
    × (stance_of c ≡ record ready { live = false })

-- The call that was announced at h is published with the reply of this number, and is to be judged
-- at k.
abbrev pub IsToBeJudged : ℕ → ModelCaller → ModelCaller → Type 0
IsToBeJudged reply h k = (call : announced.Announced Outside) × (done : GatheredCall)
    × (h.stage ≡ Announced call) × (k.stage ≡ Judging done None)
    × IsPublishedCall (rows_of h) call (reply_value reply) done

-- The call that was announced at h is published with the reply of this number, and nobody judges it
-- at k, whose caller is halted.
abbrev pub IsHalted : ℕ → ModelCaller → ModelCaller → Type 0
IsHalted reply h k = (call : announced.Announced Outside) × (c : Caller Outside)
    × (h.stage ≡ Announced call) × (k.stage ≡ Unjudged c)
    × IsLeftUnjudged (rows_of h) call (reply_value reply) c
