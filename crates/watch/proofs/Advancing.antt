-- One step of a watch: what comes next is read, and what is said then is written.
use Rattle.std.proofs.Common.{◌≡◌, ◌≢◌, ◌∙◌, ◌⊎◌, ℕ, ◌<◌, List, [], ◌∷◌, ◌++◌, length, take, drop, Option, Some, None, IfSome, refl, sym, ap, subst, inl, inr}
use Rattle.std.specs.Prelude.{IfNone}
use Rattle.std.specs.Io.KnownBytes.{Appends, Consumes, IsAtEnd}
use Rattle.std.proofs.lemmas.List.{take-append-drop}
use Rattle.byte_streams.specs.Told.{AppendsPart}
use Rattle.stream_text.specs.Source.{Held, IsNextOf, IsLast, IsWholeLine}
use Rattle.stream_text.specs.Stream.{Said, Due}
use Rattle.stream_text.specs.declared.line_source.NextLine.{NextLine}
use Rattle.stream_text.specs.declared.line_source.NextLine.TheVariants as next_lines
use Rattle.watch.specs.declared.ending.Ending.{Ending}
use Rattle.watch.specs.declared.ending.Ending.TheVariants as endings
use Rattle.watch.specs.declared.settings.Settings.{Settings}
use Rattle.watch.specs.declared.watching.Watching.{Watching}
use Rattle.watch.specs.Output.{OutputLine, output_text}
use Rattle.watch.specs.Account.{IsOutput}
use Rattle.watch.specs.Timely.{IsPunctual}
use Rattle.watch.specs.Ending.{EndsAt, HasCome, IsEndOf, GoesOnWith, IsLastStep}
use Rattle.watch.specs.Watching.{Holds}
use Rattle.watch.proofs.Reading.{holds_written}

-- a watch goes on after a line
abbrev pub StepsOn : Settings → Watching → Watching → NextLine → List ℕ → Type 0
StepsOn asked a b coming line = (lines : List (List ℕ)) (due : Due) (said : Said)
    (output : List OutputLine) → Holds asked a lines due said output
    → (coming ≡ next_lines.Line → IsWholeLine line) → (coming ≡ next_lines.Line)
    × ((due_after : Due) × (said_after : Said) × (more : List OutputLine)
    × (b.out.items ≡ a.out.items ++ output_text more)
    × Holds asked b (lines ++ line ∷ []) due_after said_after (output ++ more)
    × (IsPunctual asked said output → IsPunctual asked said_after (output ++ more)))

-- a watch ends so with what comes next
abbrev pub StepsTo : Settings → Watching → Watching → NextLine → List ℕ → Ending → Type 0
StepsTo asked a b coming line ended = (lines : List (List ℕ)) (due : Due) (said : Said)
    (output : List OutputLine) → Holds asked a lines due said output
    → (coming ≡ next_lines.Line → IsWholeLine line) → ended ≢ endings.NoMemory
    → (read : List (List ℕ)) × (more : List OutputLine) × (rest : List ℕ)
    × HasCome lines coming line ended read
    × (b.out.items ≡ a.out.items ++ (output_text more ++ rest))
    × IsOutput asked read (output ++ more)
    × EndsAt read coming line (output ++ more) rest ended

whole_next : (bytes : List ℕ) (coming : NextLine) (held : Held) → IsNextOf bytes coming held
    → coming ≡ next_lines.Line → IsWholeLine held.line
whole_next bytes coming held is same =
    (subst (λ (n : NextLine). IsNextOf bytes n held) same is).0

line_next : (bytes : List ℕ) (coming : NextLine) (held : Held) → IsNextOf bytes coming held
    → coming ≡ next_lines.Line → bytes ≡ held.line ++ 10 ∷ held.bytes
line_next bytes coming held is same =
    (subst (λ (n : NextLine). IsNextOf bytes n held) same is).1

-- what is written and how the watch goes on, where all is written
pub writes_on : (asked : Settings) (a b c : Watching) (coming : NextLine) (held : Held)
    (bytes : List ℕ) (taken taken' : Option (List ℕ)) → IsNextOf bytes coming held
    → StepsOn asked a b coming held.line → c ≡ record b { out = c.out } → c.out.items ≡ []
    → Appends taken taken' b.out.items
    → (before : List (List ℕ)) (due : Due) (said : Said) (output : List OutputLine)
    → Holds asked a before due said output → a.out.items ≡ []
    → (line : List ℕ) × (due_after : Due) × (said_after : Said) × (more : List OutputLine)
    × Appends taken taken' (output_text more) × (bytes ≡ line ++ 10 ∷ held.bytes)
    × (c.out.items ≡ []) × Holds asked c (before ++ line ∷ []) due_after said_after (output ++ more)
    × (IsPunctual asked said output → IsPunctual asked said_after (output ++ more))
writes_on asked a b c coming held bytes taken taken' is steps same none writes before due said output
    h empty =
    let s = steps before due said output h (whole_next bytes coming held is) in
    let text : b.out.items ≡ output_text s.1.2 =
    s.1.3 ∙ ap (λ (l : List ℕ). l ++ output_text s.1.2) empty in (
      held.line,
      s.1.0,
      s.1.1,
      s.1.2,
      subst (Appends taken taken') text writes,
      line_next bytes coming held is s.0,
      none,
      holds_written asked b c (before ++ held.line ∷ []) s.1.0 s.1.1 (output ++ s.1.2) same s.1.4,
      s.1.5,
    )

last_step : (asked : Settings) (lines : List (List ℕ)) (output : List OutputLine)
    (bytes : List ℕ) (left : Option (List ℕ)) (written : List ℕ) (ended : Ending)
    → IsEndOf asked lines output bytes left written ended
    → IsLastStep asked lines output bytes left written ended
last_step asked lines output bytes left written endings.Legal is = is
last_step asked lines output bytes left written endings.Unsure is = is
last_step asked lines output bytes left written endings.Illegal is = is
last_step asked lines output bytes left written endings.Refused is = is
last_step asked lines output bytes left written endings.ReadFault
    (coming, held, read, more, rest, next, end, come, text, right, ends) = absurd ends
last_step asked lines output bytes left written endings.WriteFault
    (coming, held, read, more, rest, next, end, come, text, right, ends) = absurd ends
last_step asked lines output bytes left written endings.NoMemory
    (coming, held, read, more, rest, next, end, come, text, right, ends) = absurd ends

-- what is to be written where a watch ends
end_of : (asked : Settings) (a b : Watching) (coming : NextLine) (held : Held) (bytes : List ℕ)
    (left : Option (List ℕ)) (ended : Ending) → IsNextOf bytes coming held
    → (IsLast coming → IsAtEnd left) → StepsTo asked a b coming held.line ended
    → ended ≢ endings.NoMemory → (before : List (List ℕ)) (due : Due) (said : Said)
    (output : List OutputLine) → Holds asked a before due said output → a.out.items ≡ []
    → IsEndOf asked before output bytes left b.out.items ended
end_of asked a b coming held bytes left ended is end steps ok before due said output h empty =
    let s = steps before due said output h (whole_next bytes coming held is) ok in (
      coming,
      held,
      s.0,
      s.1,
      s.2,
      is,
      end,
      s.3,
      s.4 ∙ ap (λ (l : List ℕ). l ++ (output_text s.1 ++ s.2)) empty,
      s.5,
      s.6,
    )

-- the last step of a watch, where all is written
pub writes_to : (asked : Settings) (a b : Watching) (coming : NextLine) (held : Held)
    (bytes : List ℕ) (left : Option (List ℕ)) (ended : Ending) → IsNextOf bytes coming held
    → (IsLast coming → IsAtEnd left) → StepsTo asked a b coming held.line ended → ended ≢ endings.NoMemory
    → (before : List (List ℕ)) (due : Due) (said : Said) (output : List OutputLine)
    → Holds asked a before due said output → a.out.items ≡ []
    → IsLastStep asked before output bytes left b.out.items ended
writes_to asked a b coming held bytes left ended is end steps ok before due said output h empty =
    last_step asked before output bytes left b.out.items ended
    (end_of asked a b coming held bytes left ended is end steps ok before due said output h empty)

-- the last step of a watch, where a part of what is to be written is written
pub writes_part : (asked : Settings) (a b : Watching) (coming : NextLine) (held : Held)
    (bytes : List ℕ) (left : Option (List ℕ)) (stepped : Option Ending) (count : ℕ)
    → IsNextOf bytes coming held → (IsLast coming → IsAtEnd left) → IfNone stepped (StepsOn asked a b coming held.line)
    → IfSome stepped (StepsTo asked a b coming held.line) → stepped ≢ Some endings.NoMemory
    → (before : List (List ℕ)) (due : Due) (said : Said) (output : List OutputLine)
    → Holds asked a before due said output → a.out.items ≡ []
    → IsLastStep asked before output bytes left (take count b.out.items) endings.WriteFault
writes_part asked a b coming held bytes left None count is end on to ok before due said output h empty =
    let s = on before due said output h (whole_next bytes coming held is) in (
      drop count b.out.items,
      inl (
        held.line,
        held.bytes,
        s.1.2,
        line_next bytes coming held is s.0,
        take-append-drop count b.out.items
            ∙ (s.1.3 ∙ ap (λ (l : List ℕ). l ++ output_text s.1.2) empty),
        s.1.4.output_is,
      ),
    )
writes_part asked a b coming held bytes left (Some ended) count is end on to ok before due said output h
    empty = (
      drop count b.out.items,
      inr (
        ended,
        subst (λ (text : List ℕ). IsEndOf asked before output bytes left text ended)
            (sym (take-append-drop count b.out.items))
            (end_of asked a b coming held bytes left ended is end to (λ e. ok (ap Some e)) before due said output
            h empty),
      ),
    )

-- All of what is to be written is written, and a watch goes on or ends as it is to; or a part of it
-- is written, and the watch ends with that.
abbrev pub WritesOut : Option Ending → Option Ending → List ℕ → List ℕ → Option (List ℕ)
    → Option (List ℕ) → Type 0
WritesOut given result out after taken taken' =
    ((result ≡ given) × (after ≡ []) × Appends taken taken' out)
    ⊎ ((result ≡ Some endings.WriteFault) × AppendsPart taken taken' out)

pub goes_where : (result : Option Ending) (out after : List ℕ) (taken taken' : Option (List ℕ))
    (Q : Type 0) → WritesOut None result out after taken taken'
    → (after ≡ [] → Appends taken taken' out → Q) → IfNone result Q
goes_where result out after taken taken' Q which goes =
    elim which [
      | inl (same, none, writes) ↦ subst (λ (r : Option Ending). IfNone r Q) (sym same)
          (goes none writes)
      | inr (is, part) ↦ subst (λ (r : Option Ending). IfNone r Q) (sym is) tt
    ]

some_each : (given : Option Ending) (Q : Ending → Type 0)
    → ((ended : Ending) → given ≡ Some ended → Q ended) → IfSome given Q
some_each None Q each = tt
some_each (Some ended) Q each = each ended refl

pub ends_where : (given result : Option Ending) (out after : List ℕ)
    (taken taken' : Option (List ℕ)) (Q : Ending → Type 0)
    → WritesOut given result out after taken taken'
    → ((ended : Ending) → given ≡ Some ended → Appends taken taken' out → Q ended)
    → (AppendsPart taken taken' out → Q endings.WriteFault) → IfSome result Q
ends_where given result out after taken taken' Q which ends fails =
    elim which [
      | inl (same, none, writes) ↦ subst (λ (r : Option Ending). IfSome r Q) (sym same)
          (some_each given Q (λ ended is. ends ended is writes))
      | inr (is, part) ↦ subst (λ (r : Option Ending). IfSome r Q) (sym is) (fails part)
    ]
