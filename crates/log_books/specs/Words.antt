-- What the words of a log's call say: its operation with numbers for its values, and its reply.
use Rattle.std.specs.Prelude.{◌≡◌, ◌⊎◌, ℕ, ◌-◌, ◌<◌, ◌^◌, ◌==◌, ◌||◌, nat_le, Bool, true, false, List, [], ◌∷◌, ◌++◌, map, length, Option, Some, None, option_map, option_and_then, option_to_list, bytes_eq, codes, decimal, slice_get, if◌then◌else◌}
use Rattle.std.specs.List.{AllZip}
use Rattle.seq_objects.specs.declared.kind.Kind.{Kind}
use Rattle.seq_objects.specs.declared.kind.Kind.TheVariants as kinds
use Rattle.seq_objects.specs.Words.{Spells}
use Rattle.seq_objects.specs.Replies.{reply_done, reply_none, reply_no, reply_yes, reply_value}
use Rattle.history_text.specs.declared.call.LogCall.{LogCall}
use Rattle.history_text.specs.Items.{items_of}
use Rattle.history_text.specs.Words.{or_else, plain_of, in_brackets_of, says_nothing}
use Rattle.log_books.specs.declared.names.Names.{Names}
use Rattle.log_books.specs.declared.operation.Operation.{Operation}
use Rattle.log_books.specs.declared.operation.Says.{Says}
use Rattle.log_books.specs.declared.operation.Says.TheVariants.{Done, Value, Maybe, Whether, Success}
use Rattle.log_books.specs.declared.options.NamedOperation.{NamedOperation}
use Rattle.log_books.specs.declared.options.Options.{Options}
use Rattle.log_books.specs.Keys.{key_of}

-- whether the values of a kind are numbers of its own, and no names
abbrev pub has_numbers : Kind → Bool
has_numbers kinds.Counter = true
has_numbers kinds.Pqueue = true
has_numbers other = false

-- the values that have names, by their numbers
abbrev pub names_of : Names → List (List ℕ)
names_of names = map (λ name. name.now) names.known.keys

-- Values keep their numbers, and others may have come.
abbrev pub KeepsNames : List (List ℕ) → List (List ℕ) → Type 0
KeepsNames old new = (n : ℕ) (name : List ℕ) → slice_get old n ≡ Some name → slice_get new n ≡ Some name

-- A number stands for a value, where values are numbers, or else have their numbers by these names.
abbrev pub StandsFor : Bool → List (List ℕ) → List ℕ → ℕ → Type 0
StandsFor true names value n = (n < 2 ^ 32) × (decimal n ≡ plain_of value)
StandsFor false names value n = (n < 2 ^ 32) × (slice_get names n ≡ Some value)

-- the arguments that a call has before all others: for a map the call's key
abbrev pub first_of : Kind → LogCall → List (List ℕ)
first_of kinds.Map call = option_to_list (key_of call)
first_of other call = []

-- the list of the other arguments of a call, of which so many are missing: that of the log, or what
-- is in the brackets of the call's value
abbrev pub list_of : ℕ → LogCall → Option (List ℕ)
list_of missing call = or_else (option_map (λ list. list.now) call.arguments)
    (if nat_le missing 1 then None
    else option_and_then in_brackets_of (option_map (λ value. value.now) call.value))

-- the other arguments of a call, of which so many are missing, by their list, or without one
abbrev pub others_of : ℕ → LogCall → Option (List ℕ) → Option (List (List ℕ))
others_of missing call (Some list) = items_of false list
others_of missing call None = if missing == 1
    then option_map (λ value. value.now ∷ []) call.value else Some []

-- the arguments of a call of an operation that has so many, as they are written
abbrev pub arguments_of : Kind → ℕ → LogCall → Option (List (List ℕ))
arguments_of kind count call =
    let first = first_of kind call in
    let missing = count - length first in
    option_map (λ others. first ++ others) (others_of missing call (list_of missing call))

-- the operation that a log names so, where the options say which
abbrev pub named_by : List ℕ → List NamedOperation → Option Operation
named_by name [] = None
named_by name (named ∷ others) =
    if bytes_eq named.name.now name then Some named.operation else named_by name others

-- An operation is the one of a name in a log: the one that the options say, where they do.
abbrev pub IsNamed : Options → List ℕ → Operation → Type 0
IsNamed options name operation = (said : Operation) → named_by name options.operations.items ≡ Some said
    → operation ≡ said

-- An operation word is that of a call of this operation, where values have their numbers by these
-- names.
pub record IsWordOf (options : Options) (names : List (List ℕ)) (operation : Operation)
    (call : LogCall) (op : ℕ) : Type 0 where
  pub values : List (List ℕ)
  pub numbers : List ℕ
  pub used : ℕ
  pub given : arguments_of options.kind operation.arguments call ≡ Some values
  pub many : length values ≡ operation.arguments
  pub stand : AllZip (StandsFor (has_numbers options.kind) names) values numbers
  pub spelled : Spells options.kind (operation.name.now ∷ map decimal numbers) op used

-- whether a value says no
abbrev pub says_no : List ℕ → Bool
says_no value = bytes_eq value (codes "false") || bytes_eq value (codes "no") || bytes_eq value (codes "0")

-- whether a value says yes
abbrev pub says_yes : List ℕ → Bool
says_yes value = bytes_eq value (codes "true") || bytes_eq value (codes "yes") || bytes_eq value (codes "1")

-- A reply gives this value.
abbrev pub Gives : Bool → List (List ℕ) → List ℕ → ℕ → Type 0
Gives numbered names value reply = (n : ℕ) × StandsFor numbered names value n × (reply ≡ reply_value n)

-- A reply is that of an answer with this value, by what replies of the operation say.
abbrev pub IsReplyOf : Bool → List (List ℕ) → Says → List ℕ → ℕ → Type 0
IsReplyOf numbered names Done value reply = reply ≡ reply_done
IsReplyOf numbered names Success value reply = reply ≡ (if says_no value then reply_no else reply_yes)
IsReplyOf numbered names Whether value reply = ((says_no value ≡ true) × (reply ≡ reply_no))
    ⊎ ((says_yes value ≡ true) × (reply ≡ reply_yes))
IsReplyOf numbered names Maybe value reply = ((says_nothing value ≡ true) × (reply ≡ reply_none))
    ⊎ Gives numbered names value reply
IsReplyOf numbered names Value value reply = Gives numbered names value reply
