-- What a check does when a program asks it, and what it replies.
use Rattle.std.specs.Prelude.{◌≡◌, ℕ, IsSome, Some, None}
use Rattle.seq_objects.specs.Replies.{reply_value}
use Rattle.told_models.specs.declared.table.Transition.{Transition}
use Rattle.told_models.specs.declared.fault.PromiseFault.TheVariants as promise
use Rattle.told_models.specs.Table.{told_step, IsPromised, TellsStep, TakesPromise, IsPromiseFault}
use Rattle.model_checks.specs.declared.check.ModelCheck.{ModelCheck}
use Rattle.model_checks.specs.declared.answer.ModelAnswer.TheVariants.{Legal}
use Rattle.model_checks.specs.declared.request.ModelStep.{ModelStep}
use Rattle.model_checks.specs.declared.request.ModelRequest.{ModelRequest}
use Rattle.model_checks.specs.declared.request.ModelRequest.TheVariants.{Begin, End, Leaves, Tell, GoOn}
use Rattle.model_checks.specs.declared.request.ModelReply.{ModelReply}
use Rattle.model_checks.specs.declared.request.ModelReply.TheVariants.{Done, Unfit, Contradicts, LeavesNot, NoMemory, Said}
use Rattle.model_checks.specs.Words.{operation_word}
use Rattle.model_checks.specs.History.{Event, Begins, Ends, MayHappen, book_with}
use Rattle.model_checks.specs.Checks.{IsRightFor, HasTried}

-- The check has the history and the table of another one.
abbrev pub HasSame : ModelCheck → ModelCheck → Type 0
HasSame old new = (new.book ≡ old.book) × (new.table ≡ old.table)

-- An event of the history is told: with `Done` it may happen, the book is the one with it, what was
-- told of the model is as before, and there is no order; with `Unfit` it may not happen. But for
-- `Done` nothing has changed.
abbrev pub TellsEvent : Event → ModelCheck → ModelReply → ModelCheck → Type 0
TellsEvent event old Done new = MayHappen old.book event
    × (new.book ≡ book_with old.book event) × (new.table ≡ old.table) × (new.order ≡ None)
TellsEvent event old Unfit new = (MayHappen old.book event → ⊥) × (new ≡ old)
TellsEvent event old NoMemory new = MayHappen old.book event × (new ≡ old)
TellsEvent event old reply new = ⊥

-- A promise is made: with `Done` the table takes it, and all else is as before; with `LeavesNot` a
-- told step breaks it. But for `Done` nothing has changed.
abbrev pub MakesPromise : ℕ → ℕ → ModelCheck → ModelReply → ModelCheck → Type 0
MakesPromise op reply old Done new =
    TakesPromise old.table new.table (operation_word op) (reply_value reply)
    × (new ≡ record old { table = new.table })
MakesPromise op reply old LeavesNot new = (state : ℕ)
    × IsPromiseFault old.table (operation_word op) (reply_value reply) (promise.LeavesNot state)
    × (new ≡ old)
MakesPromise op reply old NoMemory new = new ≡ old
MakesPromise op reply old other new = ⊥

-- A step of a model by the numbers of its states, its operation and its reply.
abbrev pub transition_of : ModelStep → Transition
transition_of step = record { next = step.next; reply = reply_value step.reply }

-- A step is told: with `Done` the table tells it, and all else is as before; with `Contradicts`
-- another step was told there, and with `LeavesNot` it breaks a promise. But for `Done` nothing has
-- changed.
abbrev pub IsTold : ModelStep → ModelCheck → ModelReply → ModelCheck → Type 0
IsTold step old Done new =
    TellsStep old.table new.table step.state (operation_word step.op) (transition_of step)
    × (new ≡ record old { table = new.table })
IsTold step old Contradicts new = (told : Transition)
    × (told_step old.table step.state (operation_word step.op) ≡ Some told)
    × (told ≡ transition_of step → ⊥) × (new ≡ old)
IsTold step old LeavesNot new =
    IsPromised old.table (operation_word step.op) (reply_value step.reply)
    × (step.next ≡ step.state → ⊥) × (new ≡ old)
IsTold step old NoMemory new = new ≡ old
IsTold step old reply new = ⊥

-- The check goes on: what it says is right, it has an order exactly where it says `Legal`, and with
-- `Paused` it has less left to try by as many as there are steps, and else no more. The history and
-- what was told of the model are as before, and so they are with `NoMemory`, with which there is no
-- order.
abbrev pub HasGoneOn : ℕ → ModelCheck → ModelReply → ModelCheck → Type 0
HasGoneOn steps old (Said said) new = IsRightFor new said × HasTried steps old said new
    × (IsSome new.order → said ≡ Legal) × HasSame old new
HasGoneOn steps old NoMemory new = HasSame old new × (new.order ≡ None)
HasGoneOn steps old reply new = ⊥

-- What a check replies to a request, and where it is afterwards.
abbrev pub Serves : ModelRequest → ModelCheck → ModelReply → ModelCheck → Type 0
Serves (Begin caller op) old reply new = TellsEvent (Begins caller op) old reply new
Serves (End caller reply) old said new = TellsEvent (Ends caller reply) old said new
Serves (Leaves op reply) old said new = MakesPromise op reply old said new
Serves (Tell step) old reply new = IsTold step old reply new
Serves (GoOn steps) old reply new = HasGoneOn steps old reply new
