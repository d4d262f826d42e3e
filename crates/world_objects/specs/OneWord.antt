-- Objects of one word, whose calls make at most one step on it.
use Rattle.std.specs.Prelude.{◌≡◌, ℕ, Bool, true, false, ◌&&◌, ◌==◌, if◌then◌else◌, List, [], ◌∷◌, Option, Some, None, slice_get, slice_index_or}
use Rattle.book_base.specs.declared.TheConstants.{BAD}
use Rattle.book_base.specs.SeqSpec.{SeqSpec}
use Rattle.world_core.specs.Shape.{Shape, Meaning}
use Rattle.world_core.specs.Local.{Local, Object_step}
use Rattle.world_core.specs.CallSteps.{operation_now, steps_now}
use Rattle.world_core.specs.World.{Step, IsRun, local_of, object_word}
use Rattle.world_core.specs.History.{IsLinearizable, history_of}
use Rattle.world_objects.specs.Effects.{Effects, IsLinearizedByEffects}

-- An object of one word: which operations make a step, and which word the step leaves and which
-- reply it gives, by the word that it finds.
pub record OneWord : Type 0 where
  pub makes_step : ℕ → Bool
  pub leaves : ℕ → ℕ → ℕ
  pub replies : ℕ → ℕ → ℕ

-- The reply that the step of a call gives, once the call has made it.
abbrev pub reply_by_step : OneWord → ℕ → List Object_step → Option ℕ
reply_by_step o operation [] = None
reply_by_step o operation (step ∷ more) = Some (o.replies operation step.old)

-- The reply of a call that has made these steps, where it has one yet: a call whose operation makes
-- no step replies bad at once.
abbrev pub reply_of : OneWord → ℕ → List Object_step → Option ℕ
reply_of o operation steps =
    if o.makes_step operation then reply_by_step o operation steps else Some BAD

-- Whether a call has made no step, given the steps that it has made.
abbrev pub is_without_steps : List Object_step → Bool
is_without_steps [] = true
is_without_steps (step ∷ more) = false

-- Whether a call has a reply, and this reply is the given one.
abbrev pub is_reply : Option ℕ → ℕ → Bool
is_reply None reply = false
is_reply (Some x) reply = reply == x

-- The program of an object of one word. A call whose operation makes a step makes it once, and then
-- gets the reply of that step; any other call makes no step and gets the reply `bad`.
abbrev pub one_word_program : OneWord → Meaning
one_word_program o =
    record {
      objects = 1;
      may_step = λ i l step. o.makes_step (operation_now l)
          && (is_without_steps (steps_now l) && step.new == o.leaves (operation_now l) step.old);
      may_reply = λ i l reply. is_reply (reply_of o (operation_now l) (steps_now l)) reply;
    }

-- The shape of a world of n callers with at most cap calls each, for an object of one word.
abbrev pub one_word_shape : ℕ → ℕ → OneWord → Shape
one_word_shape n cap o = record { callers = n; cap = cap; program = one_word_program o }

-- An object of one word serves a sequential object, given the list that each word stands for. The
-- word 0 stands for the first list; a step leaves the word of the next list and gives the reply to
-- its operation; and an operation without a step changes no list and has the reply `bad`.
pub record Serves (o : OneWord) (list : ℕ → List ℕ) (spec : SeqSpec) : Type 0 where
  pub first : list 0 ≡ spec.init
  pub step : (operation x : ℕ) → o.makes_step operation ≡ true
      → spec.next (list x) operation ≡ (list (o.leaves operation x), o.replies operation x)
  pub no_step : (operation x : ℕ) → o.makes_step operation ≡ false
      → spec.next (list x) operation ≡ (list x, BAD)

-- The reply of a call by its operation and its steps; a call that isn't announced has no operation,
-- and no reply.
abbrev pub reply_if_announced : OneWord → Option ℕ → List Object_step → Option ℕ
reply_if_announced o None steps = None
reply_if_announced o (Some operation) steps = reply_of o operation steps

-- The reply of call k of a local, where it has one yet.
abbrev pub reply_in : OneWord → Local → ℕ → Option ℕ
reply_in o l k =
    reply_if_announced o (slice_get l.operations k) (slice_index_or l.object_steps k [])

-- The effects of an object of one word: the list is read off the word, and a call has its reply
-- from its step on, or from its announcement on where its operation makes no step.
abbrev pub one_word_effects : Shape → OneWord → (ℕ → List ℕ) → Effects
one_word_effects s o list =
    record {
      list = λ w. list (object_word s w 0);
      reply = λ w call. reply_in o (local_of w call.caller) call.number;
    }

-- The object history of every run of an object of one word is linearizable for the sequential
-- object that it serves.
abbrev pub OneWordsLinearize : Type 0
OneWordsLinearize =
    (o : OneWord) (list : ℕ → List ℕ) (spec : SeqSpec)
    → Serves o list spec
    → (n cap : ℕ) (steps : List Step) → IsRun (one_word_shape n cap o) steps
    → IsLinearizable spec (history_of (one_word_shape n cap o) steps)

-- The object history of every run of an object of one word has a linearization in the order in
-- which calls take effect: each at its step, or at its announcement where it makes no step.
abbrev pub OneWordOrdersAreOfSteps : Type 0
OneWordOrdersAreOfSteps =
    (o : OneWord) (list : ℕ → List ℕ) (spec : SeqSpec)
    → Serves o list spec
    → (n cap : ℕ) (steps : List Step) → IsRun (one_word_shape n cap o) steps
    → IsLinearizedByEffects spec (one_word_shape n cap o)
    (one_word_effects (one_word_shape n cap o) o list) steps
