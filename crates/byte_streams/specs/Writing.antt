-- How a call ends that writes an output.
use Rattle.std.specs.Prelude.{ℕ, List, Option}
use Rattle.std.specs.Io.KnownBytes.{Appends, Keeps}
use Rattle.byte_streams.specs.declared.status.Status.{Status}
use Rattle.byte_streams.specs.declared.status.Status.TheVariants.{ReadFault, WriteFault, NoMemory}
use Rattle.byte_streams.specs.Told.{AppendsPart}

-- A call that writes one of the outputs `IsOne`, and reads nothing, has ended with this status.
-- With `NoMemory` the sink has taken nothing more. With `WriteFault` it has taken a prefix of an
-- output's text, and not all of it. With any other status it has taken the text of an output of
-- this status.
abbrev pub EndsWriting : (Status → List ℕ → Type 0) → Status → Option (List ℕ)
    → Option (List ℕ) → Type 0
EndsWriting IsOne ReadFault taken taken' = ⊥
EndsWriting IsOne NoMemory taken taken' = Keeps taken taken'
EndsWriting IsOne WriteFault taken taken' = (status : Status) × (text : List ℕ) × IsOne status text
    × AppendsPart taken taken' text
EndsWriting IsOne status taken taken' = (text : List ℕ) × IsOne status text
    × Appends taken taken' text
