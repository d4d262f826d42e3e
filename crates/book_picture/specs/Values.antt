-- The values that calls show, and the colours of these values.
use Rattle.std.specs.Prelude.{◌≡◌, ℕ, ◌%◌, ◌≤◌, Bool, true, false, not, ◌==◌, List, [], ◌∷◌, ◌++◌, length, codes, decimal, Option, Some, None, option_map, unwrap_or, if◌then◌else◌}
use Rattle.std.specs.List.{AllByRecursion, Contains, list_any, position}
use Rattle.book_base.specs.declared.call.Call.{Call}
use Rattle.book_base.specs.Book.{Page, operation_of, record_of}
use Rattle.seq_objects.specs.declared.entry.Arity.{Arity}
use Rattle.seq_objects.specs.declared.entry.Arity.TheVariants.{Nullary, Unary, Binary}
use Rattle.seq_objects.specs.declared.kind.Kind.{Kind}
use Rattle.seq_objects.specs.declared.kind.Kind.TheVariants as kinds
use Rattle.seq_objects.specs.Words.{entries, is_known_word, code_of, argument_of}
use Rattle.seq_objects.specs.Replies.{shown_value}
use Rattle.sketch.specs.declared.event.Event.{Event}
use Rattle.sketch.specs.declared.event.Event.TheVariants.{Invoke, Return}
use Rattle.sketch.specs.Sketch.{StandsIn}
use Rattle.book_picture.specs.declared.values.TheConstants.{COLOURS}
use Rattle.book_picture.specs.MarkedCalls.{is_marked}
use Rattle.book_picture.specs.declared.marked_calls.MarkedCalls.{MarkedCalls}

-- Whether a number follows the name of an operation that has this code.
abbrev pub has_argument : Kind → ℕ → Bool
has_argument kinds.Queue code = code == 1
has_argument kinds.Stack code = code == 1
has_argument kinds.Register code = code == 1
has_argument kinds.Counter code = false
has_argument kinds.IntSet code = true
has_argument kinds.Pqueue code = code == 1
has_argument kinds.CasRegister code = not (code == 2)
has_argument kinds.Map code = true

-- Whether a number follows the name of an operation of this arity.
abbrev pub takes_number : Arity → Bool
takes_number Nullary = false
takes_number Unary = true
takes_number Binary = true

-- An operation of a kind's table has an argument exactly where a number follows its name.
abbrev pub ArgumentsAreOfTheTable : Type 0
ArgumentsAreOfTheTable = (kind : Kind) → AllByRecursion
    (λ entry. has_argument kind entry.code ≡ takes_number entry.arity) (entries kind)

-- The value that a reply shows, where there is a reply and it shows one.
abbrev pub value_in_reply : Option ℕ → Option ℕ
value_in_reply None = None
value_in_reply (Some reply) = shown_value reply

-- The value that an operation with its reply shows: its first argument, or else the value of the
-- reply.
abbrev pub value_of_step : Kind → ℕ → Option ℕ → Option ℕ
value_of_step kind word reply =
    if is_known_word kind word then (if has_argument kind (code_of word)
    then Some (argument_of word) else value_in_reply reply) else value_in_reply reply

-- The value that a call of a book shows, where it shows one.
abbrev pub value_of_call : Kind → List Page → Call → Option ℕ
value_of_call kind book call = value_of_step kind (unwrap_or (operation_of book call) 0)
    (option_map (λ r. r.reply) (record_of book call))

-- A list of values with a further value appended, where there is one and the list lacks it.
abbrev pub with_value : List ℕ → Option ℕ → List ℕ
with_value values None = values
with_value values (Some value) =
    if list_any (λ x. x == value) values then values else values ++ value ∷ []

-- A list of values after an event: where the event invokes a call that shows a value which the list
-- lacks, this value is appended.
abbrev pub with_event : Kind → List Page → List ℕ → Event → List ℕ
with_event kind book values (Invoke call) = with_value values (value_of_call kind book call)
with_event kind book values (Return call) = values

-- A list of values after some events: the values that the invoked calls show are appended, each
-- where the list lacks it, in the order of the invocations.
abbrev pub values_after : Kind → List Page → List ℕ → List Event → List ℕ
values_after kind book values [] = values
values_after kind book values (event ∷ events) =
    values_after kind book (with_event kind book values event) events

-- Where an event of a list invokes a call that shows a value, this value is among the values of
-- the events.
abbrev pub EachValueAppears : Type 0
EachValueAppears = (kind : Kind) (book : List Page) (events : List Event) (call : Call) (value : ℕ)
    → StandsIn events (Invoke call)
    → value_of_call kind book call ≡ Some value → Contains (values_after kind book [] events) value

-- The index of the first item of a list that is this value, or 0 where none is.
abbrev pub place_among : List ℕ → ℕ → ℕ
place_among values value = unwrap_or (position (λ x. x == value) values) 0

-- The colour of a value: its index in the list of values, or 0 where the list lacks it, modulo the
-- number of colours; `None` for no value.
abbrev pub colour_of : List ℕ → Option ℕ → Option ℕ
colour_of values None = None
colour_of values (Some value) = Some (place_among values value % COLOURS)

-- Where no more values appear than there are colours, any two values have different colours.
abbrev pub FewValuesAreToldApart : Type 0
FewValuesAreToldApart = (values : List ℕ) (v w : ℕ) → length values ≤ COLOURS → Contains values v
    → Contains values w
    → colour_of values (Some v) ≡ colour_of values (Some w) → v ≡ w

-- The class of a call's element by its colour: `value-N` for the colour N, and `plain` for none.
abbrev pub colour_class : Option ℕ → List ℕ
colour_class None = codes "plain"
colour_class (Some colour) = codes "value-" ++ decimal colour

-- The class of a marked call's element beside its colour; empty for a call that isn't marked.
abbrev pub mark_class : Bool → List ℕ
mark_class true = codes " marked"
mark_class false = []

-- The classes of a call's element: its colour, and whether it is marked.
abbrev pub class_of_call : Kind → List Page → List ℕ → MarkedCalls → Call → List ℕ
class_of_call kind book values marks call = colour_class
    (colour_of values (value_of_call kind book call)) ++ mark_class (is_marked marks call)
