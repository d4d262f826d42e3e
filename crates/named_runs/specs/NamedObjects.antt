-- Which named object answered the calls of a run's callers.
use Rattle.std.specs.Prelude.{◌≡◌, ℕ, List, Option, IfSome, map, All}
use Rattle.std.specs.List.{range_with_len}
use Rattle.shared_words.specs.declared.entry.Entry.{Entry}
use Rattle.world_core.specs.Calls.{Made}
use Rattle.report_lines.specs.Phases.{IsTold}
use Rattle.seq_objects.specs.declared.kind.Kind.{Kind}
use Rattle.seq_objects.specs.Objects.{kind_init, kind_next, kind_spec}
use Rattle.test_objects.specs.Replays.{last_reply}
use Rattle.test_objects.specs.Forms.{IsTallyReply, IsCellReply}
use Rattle.test_objects.specs.Lossy.{lossy_reply}
use Rattle.test_objects.specs.Twice.{twice_reply}
use Rattle.test_objects.specs.Late.{late_reply}
use Rattle.test_objects.specs.Invent.{invent_reply}
use Rattle.test_objects.specs.FaultyForms.{IsQueueReply}
use Rattle.test_objects.specs.declared.behaviour.Behaviour.{Behaviour}
use Rattle.test_objects.specs.declared.behaviour.Behaviour.TheVariants.{Lawful, Tally, Cell, Lossy, Twice, Late, Invent, Split, Onepass}
use Rattle.run_report.specs.Places.{AreInOrder}
use Rattle.core_runs.specs.Logged.{IsLoggedBy, AreFormed}

-- These are the passes of n callers, in order, and each is the object's own.
pub record AreOwnPasses {T : Type 0} (is_own : T → Type 0) (caller : T → ℕ) (n : ℕ)
    (passes : List T) : Type 0 where
  pub callers : map caller passes ≡ range_with_len 0 n
  pub own : All is_own passes

-- The told list of each pass, where it has one, is of the calls of its caller: pass number `i` is
-- of `calls i`, of which `phases i` phases are made.
abbrev pub TellOwnCalls : {T : Type 0} → (T → Option (List (ℕ × ℕ))) → (ℕ → ℕ) → (ℕ → List Made)
    → List T → Type 0
TellOwnCalls told phases calls passes =
    AreInOrder (λ i pass. IfSome (told pass) (IsTold (phases i) (calls i))) passes

-- The object of a behaviour, for scripts of a kind, answered the calls of n callers, of which
-- caller `i` made `phases i` phases. Where the object answers from a log, all calls that it was
-- asked for went into one log, and each reply is its machine's answer to the log up to the call.
-- Otherwise each reply has the form that the object's replies to the operation have.
abbrev pub IsOfBehaviour : Behaviour → Kind → ℕ → (ℕ → ℕ) → (ℕ → List Made) → Type 0
IsOfBehaviour Lawful kind n phases calls =
    IsLoggedBy (last_reply (kind_next kind) (kind_init kind)) n phases calls
IsOfBehaviour Tally kind n phases calls = AreFormed IsTallyReply n calls
IsOfBehaviour Cell kind n phases calls = AreFormed IsCellReply n calls
IsOfBehaviour Lossy kind n phases calls =
    IsLoggedBy (lossy_reply (kind_spec kind)) n phases calls
IsOfBehaviour Twice kind n phases calls =
    IsLoggedBy (twice_reply (kind_spec kind)) n phases calls
IsOfBehaviour Late kind n phases calls =
    IsLoggedBy (late_reply (kind_spec kind)) n phases calls
IsOfBehaviour Invent kind n phases calls =
    IsLoggedBy (invent_reply (kind_spec kind)) n phases calls
IsOfBehaviour Split kind n phases calls = AreFormed IsTallyReply n calls
IsOfBehaviour Onepass kind n phases calls = AreFormed IsQueueReply n calls

-- Whatever calls these passes tell, the object of the behaviour answered them: for each kind and
-- each n for which the object was opened, where the passes are its own and those of n callers.
abbrev pub HasAnswered : {T : Type 0} → Behaviour → (Kind → ℕ → Type 0) → (T → Type 0) → (T → ℕ)
    → (T → Option (List (ℕ × ℕ))) → List T → Type 0
HasAnswered behaviour is_opened_for is_own caller told passes =
    (kind : Kind) (n : ℕ) (phases : ℕ → ℕ) (calls : ℕ → List Made) → is_opened_for kind n
    → AreOwnPasses is_own caller n passes → TellOwnCalls told phases calls passes
    → IsOfBehaviour behaviour kind n phases calls

-- A log was opened for n callers and scripts of a kind. It has n callers, and calls of n callers
-- that are all answered from one log by `answer` are answered by the object of the behaviour.
abbrev pub IsLogFor : Behaviour → (List Entry → ℕ) → ℕ → Kind → ℕ → Type 0
IsLogFor behaviour answer callers kind n =
    (callers ≡ n) × ((phases : ℕ → ℕ) (calls : ℕ → List Made) → IsLoggedBy answer n phases calls
    → IsOfBehaviour behaviour kind n phases calls)
