-- How a watch ends.
use Rattle.std.proofs.Common.{◌≡◌, ◌∙◌, ℕ, ◌+◌, true, false, List, [], ◌∷◌, ◌++◌, length, inl, refl, sym, ap, append_assoc, append-nil}
use Rattle.stream_text.specs.Refusal.{stream_refusal_text}
use Rattle.stream_text.specs.Stream.{Said, Due}
use Rattle.stream_text.specs.declared.fault.Wrong.{Wrong}
use Rattle.stream_text.specs.declared.line_source.NextLine.{NextLine}
use Rattle.stream_text.specs.declared.line_source.NextLine.TheVariants as next
use Rattle.watch.specs.Output.{OutputLine, Legal, output_text}
use Rattle.watch.specs.Lines.{Says}
use Rattle.watch.specs.Account.{Has, IsOutput}
use Rattle.watch.specs.Ending.{EndsAt, IsWrongNext, HasCome}
use Rattle.watch.specs.Watching.{AreSettled, Tells, Closes}
use Rattle.watch.specs.declared.ending.Ending.{Ending}
use Rattle.watch.specs.declared.ending.Ending.TheVariants as ending
use Rattle.watch.specs.declared.watching.Watching.{Watching}
use Rattle.watch.specs.declared.settings.Settings.{Settings}

-- more of an output, and what is written after it: the watch ends so
abbrev pub EndsSo : Settings → Watching → Watching → List (List ℕ) → List OutputLine → NextLine
    → List ℕ → Ending → Type 0
EndsSo asked a b lines output coming line result = (more : List OutputLine) × (rest : List ℕ)
    × (b.out.items ≡ a.out.items ++ (output_text more ++ rest)) × IsOutput asked lines (output ++ more)
    × EndsAt lines coming line (output ++ more) rest result

-- a watch may end without a line more
pub come_same : (lines : List (List ℕ)) (coming : NextLine) (line : List ℕ) (ended : Ending)
    → HasCome lines coming line ended lines
come_same lines coming line ending.Legal = refl
come_same lines coming line ending.Unsure = refl
come_same lines coming line ending.Illegal = inl refl
come_same lines coming line ending.Refused = refl
come_same lines coming line ending.ReadFault = refl
come_same lines coming line ending.WriteFault = refl
come_same lines coming line ending.NoMemory = refl

-- a watch ends with an object that is illegal
pub ends_illegal : (asked : Settings) (a b : Watching) (lines : List (List ℕ)) (output : List OutputLine)
    (coming : NextLine) (line : List ℕ) → Closes asked a b lines output
    → EndsSo asked a b lines output coming line ending.Illegal
ends_illegal asked a b lines output coming line (more, text, is, illegal) = (
  more,
  [],
  text ∙ ap (λ (l : List ℕ). a.out.items ++ l) (sym (append-nil (output_text more))),
  is,
  (refl, illegal),
)

-- a watch ends with what is wrong
pub ends_refused : (asked : Settings) (a b c : Watching) (lines : List (List ℕ)) (due : Due) (said : Said)
    (output : List OutputLine) (coming : NextLine) (line : List ℕ) (what : Wrong)
    → Tells asked a b lines due said output (AreSettled said)
    → c.out.items ≡ b.out.items ++ stream_refusal_text (record { line = b.number + 1; wrong = what })
    → IsWrongNext due coming line what
    → EndsSo asked a c lines output coming line ending.Refused
ends_refused asked a b c lines due said output coming line what (more, text, h, settled) put wrong =
    let rest = stream_refusal_text (record { line = b.number + 1; wrong = what }) in (
      more,
      rest,
      put ∙ (ap (λ (l : List ℕ). l ++ rest) text
          ∙ append_assoc a.out.items (output_text more) rest),
      h.output_is,
      (
        due,
        said,
        what,
        h.reads,
        h.says,
        settled,
        wrong,
        ap (λ (n : ℕ). stream_refusal_text (record { line = n + 1; wrong = what })) h.number,
      ),
    )

-- a watch ends at the end of the stream, where all are legal
pub ends_legal : (asked : Settings) (a b : Watching) (lines : List (List ℕ)) (due : Due) (said : Said)
    (output : List OutputLine) (line : List ℕ) → Says due said → b.is_unsure ≡ false
    → Tells asked a b lines due said output (λ after. AreSettled said after
    × (b.is_unsure ≡ false → Has after (Legal (length lines))))
    → (more : List OutputLine) × (b.out.items ≡ a.out.items ++ output_text more)
    × IsOutput asked lines (output ++ more)
    × EndsAt lines next.End line (output ++ more) [] ending.Legal
ends_legal asked a b lines due said output line says sure (more, text, h, (settled, has)) = (
  more,
  text,
  h.output_is,
  (refl, refl, (said, (due, h.reads, says)), has sure, h.sure sure),
)

-- a watch ends at the end of the stream, where some are unsure
pub ends_unsure : (asked : Settings) (a b : Watching) (lines : List (List ℕ)) (due : Due) (said : Said)
    (output : List OutputLine) (line : List ℕ) → Says due said → b.is_unsure ≡ true
    → Tells asked a b lines due said output (λ after. AreSettled said after
    × (b.is_unsure ≡ false → Has after (Legal (length lines))))
    → (more : List OutputLine) × (b.out.items ≡ a.out.items ++ output_text more)
    × IsOutput asked lines (output ++ more)
    × EndsAt lines next.End line (output ++ more) [] ending.Unsure
ends_unsure asked a b lines due said output line says unsure (more, text, h, (settled, has)) = (
  more,
  text,
  h.output_is,
  (refl, refl, (said, (due, h.reads, says), settled, h.unsure unsure)),
)
