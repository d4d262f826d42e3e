-- How a watch ends.
use Rattle.std.specs.Prelude.{◌≡◌, ◌≢◌, ◌⊎◌, ℕ, ◌+◌, ◌<◌, true, List, [], ◌∷◌, ◌++◌, length, Option, ⊤}
use Rattle.stream_text.specs.declared.fault.StreamFault.{StreamFault}
use Rattle.stream_text.specs.declared.fault.Wrong.{Wrong}
use Rattle.stream_text.specs.declared.fault.Wrong.TheVariants as wrong
use Rattle.stream_text.specs.declared.line_source.NextLine.{NextLine}
use Rattle.stream_text.specs.declared.line_source.NextLine.TheVariants as next
use Rattle.stream_text.specs.Refusal.{stream_refusal_text}
use Rattle.std.specs.Io.KnownBytes.{IsAtEnd}
use Rattle.stream_text.specs.Source.{Held, IsNextOf, IsLast, bytes_of}
use Rattle.stream_text.specs.Stream.{Said, Due, TitleDue, ObjectDue, EventDue, Ended, Fails, ReadsAs}
use Rattle.watch.specs.declared.ending.Ending.{Ending}
use Rattle.watch.specs.declared.ending.Ending.TheVariants as ending
use Rattle.watch.specs.Output.{OutputLine, Legal, output_text}
use Rattle.watch.specs.Lines.{Says, IsLegal}
use Rattle.watch.specs.Account.{Has, IsUnsureTold, HasNoUnsure, IsOutput}
use Rattle.watch.specs.Timely.{IsPunctual}
use Rattle.watch.specs.Watching.{AreSettled, SaysSoFar, EndsIllegal}
use Rattle.watch.specs.declared.settings.Settings.{Settings}

-- the code that the program ends with
abbrev pub ending_code : Ending → ℕ
ending_code ending.Legal = 0
ending_code ending.Unsure = 8
ending_code ending.Illegal = 1
ending_code ending.Refused = 3
ending_code ending.ReadFault = 4
ending_code ending.WriteFault = 5
ending_code ending.NoMemory = 6

-- What is wrong with what comes next of a source, where something is due: a line that fails; a text
-- that ends within a line or within the head; a line that is too long; or anything after `end`.
abbrev pub IsWrongNext : Due → NextLine → List ℕ → Wrong → Type 0
IsWrongNext due next.Line line what = Fails due line what
IsWrongNext TitleDue next.End line what = what ≡ wrong.Cut
IsWrongNext ObjectDue next.End line what = what ≡ wrong.Cut
IsWrongNext (EventDue said) next.End line what = ⊥
IsWrongNext (Ended said) next.End line what = ⊥
IsWrongNext (Ended said) next.Cut line what = what ≡ wrong.Rest
IsWrongNext (Ended said) next.Long line what = what ≡ wrong.Rest
IsWrongNext due next.Cut line what = what ≡ wrong.Cut
IsWrongNext due next.Long line what = what ≡ wrong.Long

-- The lines that were read where a watch ends so, at what comes next after some lines: what comes
-- next is one of them only where an object is illegal with it.
abbrev pub HasCome : List (List ℕ) → NextLine → List ℕ → Ending → List (List ℕ) → Type 0
HasCome lines coming line ending.Illegal read = (read ≡ lines)
    ⊎ ((coming ≡ next.Line) × (read ≡ lines ++ line ∷ []))
HasCome lines coming line ended read = read ≡ lines

-- the stream ends here, and its head is whole
abbrev pub IsWhole : List (List ℕ) → Said → Type 0
IsWhole lines said = (due : Due) × ReadsAs lines due × Says due said

-- What is so where a watch ends at what comes next after some lines, with this output, and what it
-- writes after that.
abbrev pub EndsAt : List (List ℕ) → NextLine → List ℕ → List OutputLine → List ℕ → Ending → Type 0
EndsAt lines coming line output rest ending.Legal = (coming ≡ next.End) × (rest ≡ [])
    × ((said : Said) × IsWhole lines said) × Has output (Legal (length lines))
    × HasNoUnsure output
EndsAt lines coming line output rest ending.Unsure = (coming ≡ next.End) × (rest ≡ [])
    × ((said : Said) × IsWhole lines said × AreSettled said output
    × ((object : ℕ) × IsUnsureTold said output object))
EndsAt lines coming line output rest ending.Illegal = (rest ≡ []) × EndsIllegal output
EndsAt lines coming line output rest ending.Refused = (due : Due) × (said : Said) × (what : Wrong)
    × ReadsAs lines due × SaysSoFar due said × AreSettled said output
    × IsWrongNext due coming line what
    × (rest ≡ stream_refusal_text (record { line = length lines + 1; wrong = what }))
EndsAt lines coming line output rest _ = ⊥

-- What comes next of bytes, after lines and an output, is the last that a watch reads: it ends so,
-- and this is to be written then: more of the output, all of which is right, and what the ending
-- says. It takes the bytes for the last ones only where the source has no other bytes left than
-- these.
abbrev pub IsEndOf : Settings → List (List ℕ) → List OutputLine → List ℕ → Option (List ℕ)
    → List ℕ → Ending → Type 0
IsEndOf asked lines output bytes left text ended = (coming : NextLine) × (held : Held)
    × (read : List (List ℕ)) × (more : List OutputLine) × (rest : List ℕ)
    × IsNextOf bytes coming held × (IsLast coming → IsAtEnd left)
    × HasCome lines coming held.line ended read × (text ≡ output_text more ++ rest)
    × IsOutput asked read (output ++ more)
    × EndsAt read coming held.line (output ++ more) rest ended

-- A line comes next of bytes, after lines and an output, with which a watch goes on, and this is to
-- be written then: more of the output, all of which is right.
abbrev pub GoesOnWith : Settings → List (List ℕ) → List OutputLine → List ℕ → List ℕ → Type 0
GoesOnWith asked lines output bytes text = (line : List ℕ) × (after : List ℕ)
    × (more : List OutputLine) × (bytes ≡ line ++ 10 ∷ after) × (text ≡ output_text more)
    × IsOutput asked (lines ++ line ∷ []) (output ++ more)

-- The last step of a watch, after lines and an output, reads the first ones of these bytes, where
-- the source has others left, and writes this: nothing where a read fails or memory is lacking, and
-- where a write fails, a prefix of what is to be written.
abbrev pub IsLastStep : Settings → List (List ℕ) → List OutputLine → List ℕ → Option (List ℕ)
    → List ℕ → Ending → Type 0
IsLastStep asked lines output bytes left written ending.ReadFault = written ≡ []
IsLastStep asked lines output bytes left written ending.NoMemory = written ≡ []
IsLastStep asked lines output bytes left written ending.WriteFault = (unwritten : List ℕ)
    × (GoesOnWith asked lines output bytes (written ++ unwritten)
    ⊎ ((ended : Ending) × IsEndOf asked lines output bytes left (written ++ unwritten) ended))
IsLastStep asked lines output bytes left written ended =
    IsEndOf asked lines output bytes left written ended

-- all that is to be told of these lines is told
abbrev pub IsInTime : Settings → List (List ℕ) → List OutputLine → Type 0
IsInTime asked lines output = (due : Due) × (said : Said) × ReadsAs lines due × SaysSoFar due said
    × IsPunctual asked said output

-- A watch read these bytes of a source that has others left, and wrote these: lines and an output
-- that is right for them and in time, and then the last step.
abbrev pub IsRun : Settings → List ℕ → Option (List ℕ) → List ℕ → Ending → Type 0
IsRun asked given left written ended = (lines : List (List ℕ)) × (output : List OutputLine)
    × (later : List ℕ) × (last : List ℕ) × (given ≡ bytes_of lines ++ later)
    × (written ≡ output_text output ++ last) × IsOutput asked lines output
    × IsInTime asked lines output
    × IsLastStep asked lines output later left last ended
