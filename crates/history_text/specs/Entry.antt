-- What a line says, by its fields: its words by their roles, its first fault, and its entry.
use Rattle.std.specs.Prelude.{◌≡◌, ◌≢◌, ℕ, ◌^◌, ◌<◌, nat_lt, ◌||◌, ◌&&◌, not, Bool, true, false, if◌then◌else◌, List, [], ◌∷◌, Option, Some, None, is_some, is_none, unwrap_or, option_map, option_and_then, Result, Ok, Err, bytes_eq, codes, decimal}
use Rattle.std.specs.Borrow.{Bor}
use Rattle.history_text.specs.declared.layout.Role.{Role}
use Rattle.history_text.specs.declared.layout.Role.TheVariants as role
use Rattle.history_text.specs.declared.layout.Layout.{Layout}
use Rattle.history_text.specs.declared.event.Stage.{Stage}
use Rattle.history_text.specs.declared.event.Stage.TheVariants as stage
use Rattle.history_text.specs.declared.entry.Entry.{Entry}
use Rattle.history_text.specs.declared.entry.Entry.TheVariants.{OfCall, Whole, Other}
use Rattle.history_text.specs.declared.call.LogAnswer.{LogAnswer}
use Rattle.history_text.specs.declared.line_words.LineWords.{LineWords}
use Rattle.history_text.specs.declared.line_words.Keyed.{Keyed}
use Rattle.history_text.specs.declared.moment.Moment.{Moment}
use Rattle.history_text.specs.declared.moment.Moment.TheVariants as moment
use Rattle.history_text.specs.declared.fault.LogWhat.{LogWhat}
use Rattle.history_text.specs.declared.fault.LogWhat.TheVariants as fault
use Rattle.history_text.specs.Words.{plain_of, in_brackets_of, says_nothing, is_no_client}
use Rattle.history_text.specs.Items.{items_of}
use Rattle.history_text.specs.Layout.{FieldText, value_of}
use Rattle.history_text.specs.Pairing.{is_failure}

-- the stage with this name
abbrev pub stage_named : List ℕ → Option Stage
stage_named name =
    if bytes_eq name (codes "invoke") then Some stage.Invoke
    else (if bytes_eq name (codes "ok") then Some stage.Ok
    else (if bytes_eq name (codes "fail") then Some stage.Fail
    else (if bytes_eq name (codes "info") then Some stage.Info else None)))

-- an item where it says something
abbrev pub saying : Option (List ℕ) → Option (List ℕ)
saying None = None
saying (Some item) = if says_nothing item then None else Some item

-- the value of the first field with a role, where it says something
abbrev pub said_of : Layout → List FieldText → Role → Option (List ℕ)
said_of layout fields role = saying (value_of layout fields role)

-- the moment that an item says
abbrev pub IsMoment : Option (List ℕ) → Moment → Type 0
IsMoment item moment.Missing = saying item ≡ None
IsMoment item (moment.At n) = (word : List ℕ) × (saying item ≡ Some word) × (decimal n ≡ plain_of word)
IsMoment item moment.Wrong = (word : List ℕ) × (saying item ≡ Some word)
    × ((n : ℕ) → n < 2 ^ 64 → decimal n ≢ plain_of word)

-- A key and a value, where a line has them.
pub record KeyedText : Type 0 where
  pub key : Option (List ℕ)
  pub value : Option (List ℕ)

abbrev pub keyed_text : Keyed → KeyedText
keyed_text keyed = record {
  key = option_map (λ key. key.now) keyed.key;
  value = option_map (λ value. value.now) keyed.value;
}

-- a key and a value from a list of two items
abbrev pub pair_of : List (List ℕ) → Option KeyedText
pair_of (key ∷ value ∷ []) = Some (record { key = Some key; value = Some value })
pair_of items = None

-- the key and the value of a line: where the layout is keyed, the value is a list of the two
abbrev pub keyed_of : Layout → List FieldText → Option KeyedText
keyed_of layout fields =
    if layout.keyed
    then option_and_then (λ list. option_and_then pair_of (items_of false list))
    (option_and_then in_brackets_of (value_of layout fields role.Value))
    else Some (record {
      key = said_of layout fields role.Key;
      value = value_of layout fields role.Value;
    })

-- The words of a line by their roles.
pub record AreWords (layout : Layout) (fields : List FieldText) (words : LineWords) : Type 0 where
  -- the process
  pub process : option_map (λ word. word.now) words.process ≡ said_of layout fields role.Process
  -- the stage, where the line has a type, and where that is the name of one
  pub «stage» : words.stage
      ≡ option_map (λ word. stage_named (plain_of word)) (said_of layout fields role.Type)
  -- the name of the operation, as a plain word
  pub operation : option_map (λ word. word.now) words.operation
      ≡ option_map plain_of (said_of layout fields role.Operation)
  -- the key and the value
  pub keyed : option_map keyed_text words.keyed ≡ keyed_of layout fields
  -- what is in the list of the arguments, where the line has arguments, and where they are a list
  pub arguments : option_map (option_map (λ word. word.now)) words.arguments
      ≡ option_map in_brackets_of (said_of layout fields role.Arguments)
  -- whether the line is a whole call
  pub whole : words.whole ≡ is_some (value_of layout fields role.Start)
  -- the moments
  pub time : IsMoment (value_of layout fields role.Time) words.time
  pub start : IsMoment (value_of layout fields role.Start) words.start
  pub end : IsMoment (value_of layout fields role.End) words.end
  -- the reply of a whole call
  pub reply : option_map (λ word. word.now) words.reply ≡ value_of layout fields role.Reply

-- whether a process is named that is no client
abbrev pub names_no_client : Option (Bor (List ℕ)) → Bool
names_no_client None = false
names_no_client (Some process) = is_no_client process.now

-- whether the type is missing from an event, or is none
abbrev pub lacks_stage : Bool → Option (Option Stage) → Bool
lacks_stage whole None = not whole
lacks_stage whole (Some its) = is_none its

-- whether there are arguments that are no list
abbrev pub lacks_list : {X : Type 0} → Option (Option X) → Bool
lacks_list None = false
lacks_list (Some list) = is_none list

-- whether a moment is no number
abbrev pub is_wrong : Moment → Bool
is_wrong moment.Missing = false
is_wrong (moment.At n) = false
is_wrong moment.Wrong = true

-- whether a return is no number, or comes before the invocation
abbrev pub ends_wrong : ℕ → Moment → Bool
ends_wrong start moment.Missing = false
ends_wrong start (moment.At n) = nat_lt n start
ends_wrong start moment.Wrong = true

-- whether the moments of a whole call are wrong: its invocation has one, and so may its return
abbrev pub lasts_wrong : Moment → Moment → Bool
lasts_wrong moment.Missing end = true
lasts_wrong (moment.At start) end = ends_wrong start end
lasts_wrong moment.Wrong end = true

-- whether the moments of a line are wrong
abbrev pub has_wrong_moment : LineWords → Bool
has_wrong_moment words =
    if words.whole then lasts_wrong words.start words.end else is_wrong words.time

-- what is wrong with a line whose words are these, by itself: the first test that fails
abbrev pub own_fault : LineWords → Option LogWhat
own_fault words =
    if names_no_client words.process then None
    else (if lacks_stage words.whole words.stage then Some fault.Type
    else (if is_none words.operation then Some fault.Operation
    else (if is_none words.keyed || lacks_list words.arguments then Some fault.Value
    else (if not words.whole && is_none words.process then Some fault.Process
    else (if has_wrong_moment words then Some fault.Time else None)))))

-- the stage of a line, that of an answer where it names none
abbrev pub stage_or_ok : Option (Option Stage) → Stage
stage_or_ok None = stage.Ok
stage_or_ok (Some None) = stage.Ok
stage_or_ok (Some (Some its)) = its

-- whether an event tells that its outcome isn't known
abbrev pub is_loss : Stage → Bool
is_loss stage.Invoke = false
is_loss stage.Ok = false
is_loss stage.Fail = false
is_loss stage.Info = true

-- the moment, where there is one
abbrev pub moment_at : Moment → Option ℕ
moment_at moment.Missing = None
moment_at (moment.At n) = Some n
moment_at moment.Wrong = None

-- what is in the list of the arguments, where there is one
abbrev pub list_in : {X : Type 0} → Option (Option X) → Option X
list_in None = None
list_in (Some list) = list

-- the answer of a whole call that returned at a moment
abbrev pub answer_said : ℕ → LineWords → Option ℕ → Option LogAnswer
answer_said line words None = None
answer_said line words (Some returned) =
    Some (record { line = line; returned = returned; value = words.reply })

-- what the line of a whole call says: a call that failed is none, and one whose outcome isn't known
-- has no answer
abbrev pub whole_said : ℕ → LineWords → Bor (List ℕ) → Keyed → Entry
whole_said line words operation keyed =
    if is_failure (stage_or_ok words.stage) then Other else Whole (record {
      process = words.process;
      key = keyed.key;
      operation = operation;
      value = keyed.value;
      arguments = list_in words.arguments;
      line = line;
      invoked = unwrap_or (moment_at words.start) 0;
      answer = if is_loss (stage_or_ok words.stage) then None
          else answer_said line words (moment_at words.end);
    })

-- what the line of an event says
abbrev pub event_said : LineWords → Bor (List ℕ) → Keyed → Option (Bor (List ℕ)) → Entry
event_said words operation keyed None = Other
event_said words operation keyed (Some process) = OfCall (record {
  process = process;
  stage = stage_or_ok words.stage;
  operation = operation;
  key = keyed.key;
  value = keyed.value;
  arguments = list_in words.arguments;
  time = moment_at words.time;
})

-- what a line says of an operation
abbrev pub said_with : ℕ → LineWords → Option (Bor (List ℕ)) → Option Keyed → Entry
said_with line words None keyed = Other
said_with line words (Some operation) None = Other
said_with line words (Some operation) (Some keyed) =
    if words.whole then whole_said line words operation keyed
    else event_said words operation keyed words.process

-- What a line without a fault says, whose words are these: nothing where it is of no client.
abbrev pub entry_said : ℕ → LineWords → Entry
entry_said line words =
    if names_no_client words.process then Other
    else said_with line words words.operation words.keyed

-- what a line says, or what is wrong with it
abbrev pub entry_or : ℕ → LineWords → Option LogWhat → Result Entry LogWhat
entry_or line words None = Ok (entry_said line words)
entry_or line words (Some what) = Err what

abbrev pub entry_or_fault : ℕ → LineWords → Result Entry LogWhat
entry_or_fault line words = entry_or line words (own_fault words)

-- A line whose fields are these is read as an entry, or has a fault.
pub record IsRead (layout : Layout) (line : ℕ) (fields : List FieldText)
    (read : Result Entry LogWhat) : Type 0 where
  pub words : LineWords
  pub are : AreWords layout fields words
  pub is : read ≡ entry_or_fault line words
