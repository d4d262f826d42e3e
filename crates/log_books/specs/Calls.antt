-- Calls of a log as calls of an object, with their lines.
use Rattle.std.specs.Prelude.{◌≡◌, ◌⊎◌, ℕ, true, List, [], ◌∷◌, Option, Some, None, option_map, unwrap_or, slice_get}
use Rattle.history_text.specs.declared.call.LogCall.{LogCall}
use Rattle.history_text.specs.declared.call.LogAnswer.{LogAnswer}
use Rattle.history_books.specs.declared.timed_call.Answer.{Answer}
use Rattle.log_books.specs.declared.key_calls.LinedCall.{LinedCall}
use Rattle.log_books.specs.declared.operation.Operation.{Operation}
use Rattle.log_books.specs.declared.options.Options.{Options}
use Rattle.log_books.specs.Words.{has_numbers, IsNamed, IsWordOf, IsReplyOf}

-- An answer of a log to a call of an operation became this one: it returned at the same moment, its
-- reply is what the answer says, and `end` is its line. An answer without a value has the initial
-- one. A call that is unanswered in the log stays so.
abbrev pub IsAnswerOf : Options → List (List ℕ) → Operation → Option LogAnswer → Option Answer → Option ℕ
    → Type 0
IsAnswerOf options names operation None made end = (made ≡ None) × (end ≡ None)
IsAnswerOf options names operation (Some answer) made end = (its : Answer) × (made ≡ Some its)
    × (its.returned ≡ answer.returned) × (end ≡ Some answer.line)
    × IsReplyOf (has_numbers options.kind) names operation.says
    (unwrap_or (option_map (λ value. value.now) answer.value) options.initial.now) its.reply

-- A call of a log became this one, where values have their numbers by these names: it was invoked at
-- the same line and moment, and has its operation and its answer.
pub record IsMadeOf (options : Options) (names : List (List ℕ)) (call : LogCall) (made : LinedCall)
    : Type 0 where
  pub operation : Operation
  pub named : IsNamed options call.operation.now operation
  pub word : IsWordOf options names operation call made.call.op
  pub line : made.line ≡ call.line
  pub invoked : made.call.invoked ≡ call.invoked
  pub answered : IsAnswerOf options names operation call.answer made.call.answer made.end

-- A call of a log is left out: it is unanswered, and its operation changes nothing.
pub record IsLeftOut (options : Options) (call : LogCall) : Type 0 where
  pub operation : Operation
  pub named : IsNamed options call.operation.now operation
  pub reads : operation.reads ≡ true
  pub lost : call.answer ≡ None

-- the call at a place of a log is left out
abbrev pub IsLeftOutAt : Options → List LogCall → ℕ → Type 0
IsLeftOutAt options log place = (call : LogCall) × (slice_get log place ≡ Some call) × IsLeftOut options call

-- the call at a place of a log became this one
abbrev pub IsMadeAt : Options → List (List ℕ) → List LogCall → ℕ → LinedCall → Type 0
IsMadeAt options names log place made = (call : LogCall) × (slice_get log place ≡ Some call)
    × IsMadeOf options names call made

-- The calls are those at these places of a log, one after another, but for those that are left out.
abbrev pub AreMadeAt : Options → List (List ℕ) → List LogCall → List ℕ → List LinedCall → Type 0
AreMadeAt options names log [] made = made ≡ []
AreMadeAt options names log (place ∷ places) made =
    (IsLeftOutAt options log place × AreMadeAt options names log places made)
    ⊎ ((first : LinedCall) × (rest : List LinedCall) × (made ≡ first ∷ rest)
    × IsMadeAt options names log place first × AreMadeAt options names log places rest)
