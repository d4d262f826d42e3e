-- The texts of scripts.
use Rattle.std.specs.Prelude.{◌≡◌, ℕ, ◌+◌, List, [], ◌∷◌, ◌++◌, map, codes, decimal, Option, Some, None}
use Rattle.book_base.specs.declared.call.Call.{Call}
use Rattle.seq_objects.specs.declared.kind.Kind.{Kind}
use Rattle.seq_objects.specs.Words.{operation_words}
use Rattle.text_fields.specs.declared.version.Version.{Version}
use Rattle.text_fields.specs.Lines.{text_of, by_number}
use Rattle.text_fields.specs.Head.{head_lines}
use Rattle.book_text.specs.CallLines.{place_words}
use Rattle.book_text.specs.Grammar.{end_words}
use Rattle.client_scripts.specs.Plans.{Plan, sizes, IsPlan}

-- the line of a call: its caller and number, and its operation
abbrev pub call_words : Kind → Call → ℕ → List (List ℕ)
call_words kind call op = place_words call ++ operation_words kind op

-- the line of a caller's call with this number
abbrev pub call_line : Kind → ℕ → ℕ → ℕ → List (List (List ℕ))
call_line kind caller number op =
    call_words kind (record { caller = caller; number = number }) op ∷ []

-- the lines of a caller's calls
abbrev pub caller_lines : Kind → ℕ → List ℕ → List (List (List ℕ))
caller_lines kind caller operations = by_number (call_line kind caller) 0 operations

-- the words of a stop: the caller, and after how many phases it stops
abbrev pub stop_words : ℕ → ℕ → List (List ℕ)
stop_words caller phases = codes "stop" ∷ decimal caller ∷ decimal phases ∷ []

-- the line of a caller's stop, where it has one
abbrev pub stop_line : ℕ → Option ℕ → List (List (List ℕ))
stop_line caller None = []
stop_line caller (Some phases) = stop_words caller phases ∷ []

-- the words of the turns line: 'turns' and the callers that take turns
abbrev pub turns_words : List ℕ → List (List ℕ)
turns_words turns = codes "turns" ∷ map decimal turns

-- The lines of a script: the head, one line for each call by caller and then by number, one line
-- for each stop by caller, the turns, and the end.
abbrev pub script_lines : Version → Plan → List (List (List ℕ))
script_lines version plan =
    head_lines version (codes "script") plan.kind (sizes plan.operations)
    ++ (by_number (caller_lines plan.kind) 0 plan.operations
    ++ (by_number stop_line 0 plan.stops ++ turns_words plan.turns ∷ end_words ∷ []))

-- The bytes are what is written of this plan.
pub record IsWrittenText (version : Version) (bytes : List ℕ) (plan : Plan) : Type 0 where
  pub writable : IsPlan version plan
  pub text : bytes ≡ text_of (script_lines version plan)
