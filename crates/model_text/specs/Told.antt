-- What is told of a model, line after line, and the table that the lines make.
use Rattle.std.specs.Prelude.{◌≡◌, ◌↔◌, ℕ, ◌-◌, Bool, true, false, IsTrue, nat_lt, nat_eq, ◌&&◌, ◌||◌, not, List, [], ◌∷◌, ◌++◌, length, slice_get, Option, Some, None}
use Rattle.std.specs.List.{list_any, flat_map}
use Rattle.told_models.specs.declared.table.Transition.{Transition}
use Rattle.told_models.specs.Table.{Table, is_same_pair, told_step, IsPromised}
use Rattle.model_text.specs.declared.told_line.Subject.{Subject}
use Rattle.model_text.specs.declared.told_line.Subject.TheVariants.{Leaves, Step}
use Rattle.model_text.specs.declared.told_line.ToldLine.{ToldLine}

-- the pair of two numbers is less than another one: its first number is less, or they are the same
-- and its second one is less
abbrev pub is_less : ℕ → ℕ → ℕ → ℕ → Bool
is_less a b c d = nat_lt a c || (nat_eq a c && nat_lt b d)

-- what a line speaks of, with its reply, comes before what another one speaks of, with its reply
abbrev pub is_before : Subject → ℕ → Subject → ℕ → Bool
is_before (Leaves op) reply (Leaves other) after = is_less op reply other after
is_before (Leaves op) reply (Step state other next) after = true
is_before (Step state op to) reply (Leaves other) after = false
is_before (Step state op to) reply (Step at other next) after = is_less state op at other

-- a line comes before another one: promises come before steps, promises rise by operation and then
-- by reply, and steps by state and then by operation
abbrev pub comes_before : ToldLine → ToldLine → Bool
comes_before a b = is_before a.subject a.reply b.subject b.reply

-- a line comes after another one, where there is one
abbrev pub comes_after : Option ToldLine → ToldLine → Bool
comes_after None line = true
comes_after (Some last) line = comes_before last line

-- a line comes after the last one of some lines
abbrev pub rises_after : List ToldLine → ToldLine → Bool
rises_after told line = comes_after (slice_get told (length told - 1)) line

-- what a line speaks of, with its reply, is the promise that the operation changes no state at which
-- it has this reply
abbrev pub promises_it : ℕ → ℕ → Subject → ℕ → Bool
promises_it op reply (Leaves other) after = is_same_pair (op, reply) (other, after)
promises_it op reply (Step state other next) after = false

-- a line promises that the operation changes no state at which it has the reply
abbrev pub is_promise : ℕ → ℕ → ToldLine → Bool
is_promise op reply line = promises_it op reply line.subject line.reply

-- a reply keeps the promises among some lines: where the line is a step to another state, no line
-- promises that its operation changes no state at which it has this reply
abbrev pub keeps : List ToldLine → Subject → ℕ → Bool
keeps told (Leaves op) reply = true
keeps told (Step state op next) reply =
    nat_eq state next || not (list_any (is_promise op reply) told)

-- A line may follow some lines: it comes after the last one, and its reply keeps their promises.
pub record MayFollow (told : List ToldLine) (line : ToldLine) : Type 0 where
  pub rises : IsTrue (rises_after told line)
  pub keeps_promises : IsTrue (keeps told line.subject line.reply)

-- Each of some lines may follow the lines `told` and those before it.
abbrev pub AllFollow : List ToldLine → List ToldLine → Type 0
AllFollow told [] = Unit {0}
AllFollow told (line ∷ lines) = MayFollow told line × AllFollow (told ++ line ∷ []) lines

-- ---- the table

-- the step that a line tells, if it tells one
abbrev pub step_by : Subject → ℕ → List ((ℕ × ℕ) × Transition)
step_by (Leaves op) reply = []
step_by (Step state op next) reply = ((state, op), record { next = next; reply = reply }) ∷ []

-- the promise that a line makes, if it makes one
abbrev pub promise_by : Subject → ℕ → List (ℕ × ℕ)
promise_by (Leaves op) reply = (op, reply) ∷ []
promise_by (Step state op next) reply = []

-- the table of some lines, with the initial state 0, their steps and their promises
unfoldable pub told_table : List ToldLine → Table
told_table told = record {
  init = 0;
  steps = flat_map (λ line. step_by line.subject line.reply) told;
  promises = flat_map (λ line. promise_by line.subject line.reply) told;
}

-- the line of a promise: an operation and a reply
abbrev pub promise_line : ℕ × ℕ → ToldLine
promise_line promise = record { subject = Leaves promise.0; reply = promise.1 }

-- the line of a step: a state and an operation, and the transition there
abbrev pub step_line : (ℕ × ℕ) × Transition → ToldLine
step_line step = record {
  subject = Step step.0.0 step.0.1 step.1.next;
  reply = step.1.reply;
}

-- Two tables tell the same: the same initial state, steps and promises.
pub record TellsAlike (a b : Table) : Type 0 where
  pub init : a.init ≡ b.init
  pub steps : (state op : ℕ) → told_step a state op ≡ told_step b state op
  pub promises : (op reply : ℕ) → IsPromised a op reply ↔ IsPromised b op reply
