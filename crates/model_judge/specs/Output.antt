-- What the program writes of the bytes that it reads, and the code that it ends with.
use Rattle.std.specs.Prelude.{◌≡◌, ◌⊎◌, ℕ, ◌≤◌, List, ◌++◌, length, codes, decimal, Option}
use Rattle.std.specs.Io.KnownBytes.{Appends, Keeps}
use Rattle.book_base.specs.declared.fault.TextFault.{TextFault}
use Rattle.text_fields.specs.Refusal.{refusal_text}
use Rattle.book_text.specs.Fields.{spaced}
use Rattle.byte_streams.specs.declared.TheConstants.{INPUT_LIMIT}
use Rattle.byte_streams.specs.declared.status.Status.TheVariants.{Fine, Found, Refused, ReadFault, WriteFault, NoMemory}
use Rattle.byte_streams.specs.Status.{code_of}
use Rattle.byte_streams.specs.Program.{IsRefusedFor}
use Rattle.byte_streams.specs.Told.{HasRead, AppendsPart}
use Rattle.model_text.specs.ModelWords.{model_words}
use Rattle.model_text.specs.ModelRules.{IsFirstModelFault}
use Rattle.model_judge.specs.declared.judging.ModelVerdict.{ModelVerdict}
use Rattle.model_judge.specs.declared.judging.ModelVerdict.TheVariants.{Legal, Illegal, Open}
use Rattle.model_judge.specs.Verdicts.{IsModelVerdict}

-- the line that is written of a verdict
abbrev pub verdict_text : ModelVerdict → List ℕ
verdict_text Legal = codes "legal\n"
verdict_text Illegal = codes "illegal\n"
verdict_text (Open state op) =
    codes "open " ++ decimal state ++ spaced (model_words op) ++ codes "\n"

-- the code of a verdict
abbrev pub verdict_code : ModelVerdict → ℕ
verdict_code Legal = code_of Fine
verdict_code Illegal = code_of Found
verdict_code (Open state op) = 8

-- The output of an input has this code and this text: that of a verdict which is right for the
-- model's text that the input is, or the fault for which the input is refused.
abbrev pub IsOutput : List ℕ → ℕ → List ℕ → Type 0
IsOutput bytes code text = ((verdict : ModelVerdict) × (length bytes ≤ INPUT_LIMIT)
    × IsModelVerdict bytes verdict × (code ≡ verdict_code verdict) × (text ≡ verdict_text verdict))
    ⊎ ((fault : TextFault) × IsRefusedFor IsFirstModelFault bytes fault × (code ≡ code_of Refused)
    × (text ≡ refusal_text fault))

-- The output of an input is written with its code, or a prefix of it where a write failed; or
-- memory was lacking, and nothing is written.
abbrev pub Writes : List ℕ → ℕ → Option (List ℕ) → Option (List ℕ) → Type 0
Writes bytes code taken taken' = ((text : List ℕ) × IsOutput bytes code text
    × Appends taken taken' text)
    ⊎ (((code ≡ code_of WriteFault) × (other : ℕ) × (text : List ℕ) × IsOutput bytes other text
    × AppendsPart taken taken' text)
    ⊎ ((code ≡ code_of NoMemory) × Keeps taken taken'))

-- The program has ended with this code: a read failed or memory was lacking, and nothing is
-- written; or what is due for the bytes that were read is written, or a prefix of it.
abbrev pub Ends : ℕ → Option (List ℕ) → Option (List ℕ) → Option (List ℕ) → Option (List ℕ)
    → Type 0
Ends code left left' taken taken' =
    (((code ≡ code_of ReadFault) ⊎ (code ≡ code_of NoMemory)) × Keeps taken taken')
    ⊎ ((bytes : List ℕ) × HasRead left left' bytes × Writes bytes code taken taken')
