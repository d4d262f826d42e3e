-- What is told to a caller of the model, the text of its error, and what it replies to a request.
use Rattle.std.specs.Prelude.{◌≡◌, ℕ, List, Some}
use Rattle.seq_objects.specs.Replies.{reply_value}
use Rattle.told_models.specs.declared.table.Transition.{Transition}
use Rattle.told_models.specs.declared.fault.PromiseFault.TheVariants as promise
use Rattle.told_models.specs.declared.answer.Answer.TheVariants as told
use Rattle.told_models.specs.Table.{told_step, IsPromised, TellsStep, TakesPromise, IsPromiseFault}
use Rattle.told_models.specs.Answers.{IsRightAnswer}
use Rattle.model_checks.specs.declared.request.ModelStep.{ModelStep}
use Rattle.model_checks.specs.declared.request.ModelRequest.{ModelRequest}
use Rattle.model_checks.specs.declared.request.ModelRequest.TheVariants.{Begin, End, Leaves, Tell, GoOn}
use Rattle.model_checks.specs.declared.request.ModelReply.{ModelReply}
use Rattle.model_checks.specs.declared.request.ModelReply.TheVariants.{Done, Contradicts, LeavesNot, NoMemory}
use Rattle.model_checks.specs.Words.{operation_word}
use Rattle.model_checks.specs.Requests.{transition_of}
use Rattle.model_text.specs.Grammar.{IsWrittenBook}
use Rattle.model_callers.specs.declared.gathered_call.GatheredCall.{GatheredCall}
use Rattle.model_callers.specs.declared.stage.ModelStage.TheVariants.{Wrong}
use Rattle.model_callers.specs.declared.model_caller.ModelCaller.{ModelCaller}
use Rattle.model_callers.specs.Callers.{table_of, IsJudging}
use Rattle.model_callers.specs.Judging.{HasGoneOn}

-- The caller k is h but for what was told.
abbrev pub IsButForTable : ModelCaller → ModelCaller → Type 0
IsButForTable h k = k ≡ record h { kept = record h.kept { table = table_of k } }

-- A promise is made: with `Done` the table takes it, and all else is as before; with `LeavesNot` a
-- told step breaks it. But for `Done` nothing has changed.
abbrev pub MakesPromise : ℕ → ℕ → ModelCaller → ModelReply → ModelCaller → Type 0
MakesPromise op reply h Done k =
    TakesPromise (table_of h) (table_of k) (operation_word op) (reply_value reply)
    × IsButForTable h k
MakesPromise op reply h LeavesNot k = (state : ℕ)
    × IsPromiseFault (table_of h) (operation_word op) (reply_value reply) (promise.LeavesNot state)
    × (k ≡ h)
MakesPromise op reply h NoMemory k = k ≡ h
MakesPromise op reply h other k = ⊥

-- A step is told: with `Done` the table tells it, and all else is as before; with `Contradicts`
-- another step was told there, and with `LeavesNot` it breaks a promise. But for `Done` nothing has
-- changed.
abbrev pub IsTold : ModelStep → ModelCaller → ModelReply → ModelCaller → Type 0
IsTold step h Done k =
    TellsStep (table_of h) (table_of k) step.state (operation_word step.op) (transition_of step)
    × IsButForTable h k
IsTold step h Contradicts k = (told : Transition)
    × (told_step (table_of h) step.state (operation_word step.op) ≡ Some told)
    × (told ≡ transition_of step → ⊥) × (k ≡ h)
IsTold step h LeavesNot k =
    IsPromised (table_of h) (operation_word step.op) (reply_value step.reply)
    × (step.next ≡ step.state → ⊥) × (k ≡ h)
IsTold step h NoMemory k = k ≡ h
IsTold step h reply k = ⊥

-- A caller serves this request: it is told of the model at any time, and a judgement goes on only
-- where one hasn't ended.
abbrev pub MayServe : ModelRequest → ModelCaller → Type 0
MayServe (Begin caller op) h = ⊥
MayServe (End caller reply) h = ⊥
MayServe (Leaves op reply) h = Unit {0}
MayServe (Tell step) h = Unit {0}
MayServe (GoOn steps) h = IsJudging h

-- What a caller replies to a request, and where it is afterwards.
abbrev pub Serves : ModelRequest → ModelCaller → ModelReply → ModelCaller → Type 0
Serves (Begin caller op) h reply k = ⊥
Serves (End caller reply) h said k = ⊥
Serves (Leaves op reply) h said k = MakesPromise op reply h said k
Serves (Tell step) h reply k = IsTold step h reply k
Serves (GoOn steps) h reply k = HasGoneOn steps h reply k

-- The bytes are the text of the book of the caller's error, which has no legal order for any object
-- that agrees with what was told.
abbrev pub IsWitnessOf : ModelCaller → List ℕ → Type 0
IsWitnessOf h bytes = (call : GatheredCall) × (h.stage ≡ Wrong call)
    × IsWrittenBook bytes call.gathered.book
    × IsRightAnswer (table_of h) call.gathered.book told.Illegal
