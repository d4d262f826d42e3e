-- What a program that reads one input writes, and how it ends.
use Rattle.std.specs.Prelude.{◌≡◌, ◌⊎◌, ℕ, ◌<◌, ◌≤◌, List, length, Option}
use Rattle.std.specs.Io.KnownBytes.{Keeps}
use Rattle.book_base.specs.declared.fault.TextFault.{TextFault}
use Rattle.book_base.specs.declared.fault.What.TheVariants.{Long}
use Rattle.text_fields.specs.Refusal.{refusal_text}
use Rattle.byte_streams.specs.declared.TheConstants.{INPUT_LIMIT}
use Rattle.byte_streams.specs.declared.program.ProgramAnswer.{ProgramAnswer}
use Rattle.byte_streams.specs.declared.program.ProgramAnswer.TheVariants as answers
use Rattle.byte_streams.specs.declared.status.Status.{Status}
use Rattle.byte_streams.specs.declared.status.Status.TheVariants.{Fine, Found, Refused, ReadFault, NoMemory}
use Rattle.byte_streams.specs.Told.{HasRead}
use Rattle.byte_streams.specs.Writing.{EndsWriting}

-- The text of an answer is as `IsFine` says where its status is `Fine`, and as `IsFound` says where
-- its status is `Found`.
abbrev pub IsAnswer : (List ℕ → Type 0) → (List ℕ → Type 0) → ProgramAnswer → Type 0
IsAnswer IsFine IsFound (answers.Fine text) = IsFine text.items
IsAnswer IsFine IsFound (answers.Found text) = IsFound text.items

-- An input is refused for this fault: it has too many bytes, or else the fault is one of the bytes
-- as `IsFault` says.
abbrev pub IsRefusedFor : (List ℕ → TextFault → Type 0) → List ℕ → TextFault → Type 0
IsRefusedFor IsFault bytes fault =
    ((INPUT_LIMIT < length bytes) × (fault ≡ record { line = 0; what = Long }))
    ⊎ ((length bytes ≤ INPUT_LIMIT) × IsFault bytes fault)

-- The output of an input has this status and this text: an answer with the status `Fine` or `Found`
-- to an input that isn't too long, or the fault for which the input is refused.
abbrev pub IsOutput : (List ℕ → List ℕ → Type 0) → (List ℕ → List ℕ → Type 0)
    → (List ℕ → TextFault → Type 0) → List ℕ
    → Status → List ℕ → Type 0
IsOutput IsFine IsFound IsFault bytes Fine text = (length bytes ≤ INPUT_LIMIT) × IsFine bytes text
IsOutput IsFine IsFound IsFault bytes Found text = (length bytes ≤ INPUT_LIMIT) × IsFound bytes text
IsOutput IsFine IsFound IsFault bytes Refused text =
    (fault : TextFault) × IsRefusedFor IsFault bytes fault × (text ≡ refusal_text fault)
IsOutput IsFine IsFound IsFault bytes status text = ⊥

-- A program with the outputs `IsOne` has ended with this status. Either the status is `ReadFault`
-- or `NoMemory`, and nothing is written; or the output of the bytes that were read is written with
-- its status, or a prefix of it where a write failed.
abbrev pub Ends : (List ℕ → Status → List ℕ → Type 0) → Status → Option (List ℕ) → Option (List ℕ)
    → Option (List ℕ)
    → Option (List ℕ) → Type 0
Ends IsOne status left left' taken taken' =
    (((status ≡ ReadFault) ⊎ (status ≡ NoMemory)) × Keeps taken taken')
    ⊎ ((bytes : List ℕ) × HasRead left left' bytes × EndsWriting (IsOne bytes) status taken taken')
