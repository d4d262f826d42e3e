-- What is told in time.
use Rattle.std.proofs.Common.{◌≡◌, ◌∙◌, ℕ, ◌+◌, ◌-◌, ◌<◌, ◌≤◌, max, Bool, true, false, List, ◌++◌, length, take, drop, None, refl, sym, ap, subst, inl, inr, arith}
use Rattle.std.proofs.lemmas.Bool.{cases_eq, cases_lt}
use Rattle.std.proofs.lemmas.List.{take-append-drop}
use Rattle.std.proofs.lemmas.Option.{slice_get_within}
use Rattle.list_laws.proofs.Prefixes.{slice_get-append_within}
use Rattle.seq_objects.specs.declared.kind.Kind.{Kind}
use Rattle.seq_objects.specs.Objects.{kind_spec}
use Rattle.streams.specs.Stream.{StreamEvent}
use Rattle.streams.specs.StreamOrder.{HasLegalStreamOrder}
use Rattle.residue_laws.proofs.Settling.{prefixes_have_one}
use Rattle.stream_text.specs.Stream.{Said, Due, events_of}
use Rattle.watch.specs.declared.settings.Settings.{Settings}
use Rattle.watch.specs.declared.watching.Watching.{Watching}
use Rattle.watch.specs.Output.{OutputLine, Legal}
use Rattle.watch.specs.Lines.{head_lines}
use Rattle.watch.specs.Account.{Has, IsUnsureTold}
use Rattle.watch.specs.Timely.{IsTimely, IsDue, IsReported, IsPunctual, IsPunctualBut}
use Rattle.watch.specs.Watching.{Holds, Tells, AreSettled, IsSettled}
use Rattle.watch.proofs.OnLines.{first_of_first}
use Rattle.watch.proofs.Outputs.{unsure_more}

-- where the first events of a stream have a legal order, fewer of them have one
pub legal_fewer : (kind : Kind) (n m : ℕ) (stream : List StreamEvent) → n ≤ m
    → HasLegalStreamOrder (kind_spec kind) (take m stream)
    → HasLegalStreamOrder (kind_spec kind) (take n stream)
legal_fewer kind n m stream less legal =
    prefixes_have_one (kind_spec kind) (take n stream) (drop n (take m stream))
    (subst (HasLegalStreamOrder (kind_spec kind)) (first_of_first n m stream less) legal)

-- what is settled is told in time
pub settled_timely : (asked : Settings) (said : Said) (output : List OutputLine) (object : ℕ)
    → IsSettled said output None object → IsTimely asked said output object
settled_timely asked said output object settled =
    let events = events_of object said.events in
    let first = length events - max 1 asked.window in
    elim settled [
      | inl legal ↦ inl (prefixes_have_one (kind_spec said.kind) (take first events)
          (drop first events) (subst (HasLegalStreamOrder (kind_spec said.kind))
          (sym (take-append-drop first events)) legal))
      | inr unsure ↦ inr unsure
    ]

-- an output has what another one has, and may have more
abbrev pub IsMoreOf : List OutputLine → List OutputLine → Type 0
IsMoreOf output after = (more : List OutputLine) × (after ≡ output ++ more)

-- what is told in time still is after more lines of the output
pub timely_more : (asked : Settings) (said : Said) (output after : List OutputLine) (object : ℕ)
    → IsMoreOf output after → IsTimely asked said output object → IsTimely asked said after object
timely_more asked said output after object (more, is) timely =
    elim timely [
      | inl legal ↦ inl legal
      | inr unsure ↦ inr (subst (λ (o : List OutputLine). IsUnsureTold said o object) (sym is)
          (unsure_more said output more object unsure))
    ]

reported_more : (said : Said) (output after : List OutputLine) (line : ℕ) → IsMoreOf output after
    → IsReported said output line → IsReported said after line
reported_more said output after line (more, is) reported =
    elim reported [
      | inl (k, at) ↦ inl (subst (λ (o : List OutputLine). Has o (Legal line)) (sym is)
          (k, slice_get-append_within output more k (slice_get_within output k (Legal line) at) ∙ at))
      | inr (object, unsure) ↦ inr (
        object,
        subst (λ (o : List OutputLine). IsUnsureTold said o object)
            (sym is) (unsure_more said output more object unsure),
      )
    ]

-- all is told in time where the object of the last event is, and what is due then
pub punctual_all : (asked : Settings) (said : Said) (output after : List OutputLine) (last : ℕ)
    → IsMoreOf output after → IsPunctualBut asked said output last
    → (last < length said.names → IsTimely asked said after last)
    → (IsDue asked (length said.events + head_lines)
    → IsReported said after (length said.events + head_lines))
    → IsPunctual asked said after
punctual_all asked said output after last more but here due = record {
  timely = λ object low. elim (cases_eq object last) [
    | inl same ↦ subst (IsTimely asked said after) (sym same)
        (here (subst (λ (n : ℕ). n < length said.names) same low))
    | inr other ↦ timely_more asked said output after object more (but.timely object low other)
  ];
  reported = λ line within is_due. elim (cases_lt line (length said.events + head_lines)) [
    | inl before ↦ reported_more said output after line more (but.reported line before is_due)
    | inr past ↦
        let same : line ≡ length said.events + head_lines = omega (arith, within, past) in
        subst (IsReported said after) (sym same) (due (subst (IsDue asked) same is_due))
  ];
}

-- what is told has what was told before
pub tells_grown : (asked : Settings) (a b : Watching) (lines : List (List ℕ)) (due : Due)
    (said : Said) (output : List OutputLine) (P : List OutputLine → Type 0)
    → Tells asked a b lines due said output P
    → Tells asked a b lines due said output (λ after. P after × IsMoreOf output after)
tells_grown asked a b lines due said output P (more, text, holds, is) =
    (more, text, holds, (is, (more, refl)))

-- what follows from what is told
pub tells_map : (asked : Settings) (a b : Watching) (lines : List (List ℕ)) (due : Due)
    (said : Said) (output : List OutputLine) (P Q : List OutputLine → Type 0)
    → Tells asked a b lines due said output P
    → ((more : List OutputLine) → Holds asked b lines due said (output ++ more) → P (output ++ more)
    → Q (output ++ more))
    → Tells asked a b lines due said output Q
tells_map asked a b lines due said output P Q (more, text, holds, is) then =
    (more, text, holds, then more holds is)

reported_by : (flag : Bool) (said : Said) (output : List OutputLine) (line : ℕ)
    → (flag ≡ false → Has output (Legal line))
    → (flag ≡ true → (object : ℕ) × IsUnsureTold said output object) → IsReported said output line
reported_by true said output line legal unsure = inr (unsure refl)
reported_by false said output line legal unsure = inl (legal refl)

-- where all are settled and told to be legal unless some are unsure, all lines are reported
pub tells_reported : (asked : Settings) (a b : Watching) (lines : List (List ℕ)) (due : Due)
    (said : Said) (output : List OutputLine)
    → Tells asked a b lines due said output (λ after. AreSettled said after
    × (b.is_unsure ≡ false → Has after (Legal (length lines))))
    → Tells asked a b lines due said output (λ after. IsReported said after (length lines))
tells_reported asked a b lines due said output (more, text, holds, (settled, has)) = (
  more,
  text,
  holds,
  reported_by b.is_unsure said (output ++ more) (length lines) has holds.unsure,
)
