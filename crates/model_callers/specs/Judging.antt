-- Judgements of published calls by what was told of a model: what a caller says as it goes on.
use Rattle.std.specs.Prelude.{◌≡◌, ℕ, ◌+◌, ◌≤◌, ◌<◌, ◌^◌, Option, Some, None, Vec}
use Rattle.std.specs.declared.alloc.Global.{Global}
use Rattle.book_base.specs.declared.call.Place.{Place}
use Rattle.world_core.specs.declared.program.Outside.{Outside}
use Rattle.row_table.specs.declared.rows.Rows.{Rows}
use Rattle.row_gather.specs.declared.gathered.Gathered.{Gathered}
use Rattle.drv_wrapper.specs.Stands.{IsStopped}
use Rattle.told_models.specs.declared.answer.Answer.TheVariants as told
use Rattle.told_models.specs.Table.{Table}
use Rattle.told_models.specs.Answers.{IsRightAnswer}
use Rattle.told_models.specs.declared.told_search.ToldSearch.{ToldSearch}
use Rattle.model_checks.specs.declared.answer.ModelAnswer.TheVariants as answer
use Rattle.model_checks.specs.declared.request.ModelReply.{ModelReply}
use Rattle.model_checks.specs.declared.request.ModelReply.TheVariants.{NoMemory, Said}
use Rattle.model_checks.specs.Words.{operation_word}
use Rattle.model_checks.specs.Checks.{left_by}
use Rattle.model_callers.specs.declared.gathered_call.GatheredCall.{GatheredCall}
use Rattle.model_callers.specs.declared.stage.ModelStage.{ModelStage}
use Rattle.model_callers.specs.declared.stage.ModelStage.TheVariants.{Idle, Judging, Wrong}
use Rattle.model_callers.specs.declared.model_caller.ModelCaller.{ModelCaller}
use Rattle.model_callers.specs.Callers.{rows_of, table_of, IsGatheredCall}

-- The reply of a gathered call may be delivered: some order of its book is legal for each object
-- that agrees with what was told. The book is kept for the caller's next call.
pub record IsDelivered (r : Rows Outside) (table : Table) (call : GatheredCall) : Type 0 where
  pub gathered : IsGatheredCall r call
  pub order : Vec Place Global
  pub legal : IsRightAnswer table call.gathered.book (told.Legal order)

-- A gathered call is an error: its book has no legal order for any object that agrees with what was
-- told. It becomes `wrong`, whose caller is halted.
pub record IsWrongCall (r : Rows Outside) (table : Table) (call wrong : GatheredCall) : Type 0 where
  pub gathered : IsGatheredCall r wrong
  pub same : (wrong.record ≡ call.record) × (wrong.gathered ≡ call.gathered)
  pub stopped : IsStopped call.caller wrong.caller
  pub illegal : IsRightAnswer table call.gathered.book told.Illegal

-- Numbers of a state and an operation ask for a step of a book that wasn't told: that of a word of
-- the book, which is the operation's where it is a number's word at all, as each is that a model's
-- caller announced.
pub record IsAskedFor (table : Table) (call : GatheredCall) (state op : ℕ) : Type 0 where
  pub word : ℕ
  pub asked : IsRightAnswer table call.gathered.book (told.Ask state word)
  pub numbered : (number : ℕ) → number < 2 ^ 32 → word ≡ operation_word number → op ≡ number

-- The number for how much of a judgement is left to try.
abbrev pub left_of : GatheredCall → Option ToldSearch → ℕ
left_of call search = left_by call.gathered.book search

-- A judgement of a gathered call went on by so many steps, by what was told, and said this. Here are
-- the book that is kept, and the stage of the call's caller afterwards. With `Legal` the reply is
-- delivered, and the caller is between two calls; with `Illegal` the call is an error. Else the
-- judgement hasn't ended: with `Paused` it has less left to try by as many as there are steps, and
-- with `NoMemory` it begins anew when it goes on.
abbrev pub GoesOnTo : Rows Outside → Table → ℕ → GatheredCall → Option ToldSearch → ModelReply
    → Option Gathered → ModelStage → Type 0
GoesOnTo r table steps call search (Said answer.Legal) kept stage =
    IsDelivered r table call × (stage ≡ Idle call.caller) × (kept ≡ Some call.gathered)
GoesOnTo r table steps call search (Said answer.Illegal) kept stage =
    (wrong : GatheredCall) × (stage ≡ Wrong wrong) × IsWrongCall r table call wrong
GoesOnTo r table steps call search (Said (answer.Ask state op)) kept stage =
    (later : Option ToldSearch) × (stage ≡ Judging call later)
    × (left_of call later ≤ left_of call search) × IsAskedFor table call state op
GoesOnTo r table steps call search (Said answer.Paused) kept stage =
    (later : Option ToldSearch) × (stage ≡ Judging call later)
    × (left_of call later + steps ≤ left_of call search)
GoesOnTo r table steps call search NoMemory kept stage = stage ≡ Judging call None
GoesOnTo r table steps call search reply kept stage = ⊥

-- The judgement at h went on by so many steps, and said this; k is the caller afterwards.
abbrev pub HasGoneOn : ℕ → ModelCaller → ModelReply → ModelCaller → Type 0
HasGoneOn steps h reply k = (call : GatheredCall) × (search : Option ToldSearch)
    × (h.stage ≡ Judging call search)
    × GoesOnTo (rows_of h) (table_of h) steps call search reply k.kept.gathered k.stage
