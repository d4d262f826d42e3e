-- What is found, and the lines of the output that say it.
use Rattle.std.proofs.Common.{◌≡◌, ◌≢◌, ◌∙◌, ◌⊎◌, ℕ, suc, ◌+◌, ◌-◌, ◌<◌, ◌≤◌, true, false, List, [], ◌∷◌, ◌++◌, length, take, get_or, min, Option, Some, None, slice_get, refl, sym, ap, subst, inl, inr, arith, append_assoc, append-nil, length-append}
use Rattle.std.proofs.lemmas.Option.{slice_get-get_or}
use Rattle.std.proofs.Math.Seq.{take-append_seam}
use Rattle.book_base.specs.SeqSpec.{SeqSpec}
use Rattle.seq_objects.specs.Objects.{kind_spec}
use Rattle.streams.specs.Stream.{StreamEvent}
use Rattle.streams.specs.StreamOrder.{HasLegalStreamOrder}
use Rattle.stream_text.specs.Stream.{Said, Due, TitleDue, ObjectDue, EventDue, Ended, events_of}
use Rattle.watch_core.specs.Verdict.{IsIllegalFrom, IsUnsureAt}
use Rattle.windowed_watch.specs.Ahead.{IsExact}
use Rattle.watch.specs.Output.{OutputLine, Legal, Illegal, Unsure}
use Rattle.watch.specs.Lines.{Says, head_lines, lines_of, events_on, IsLegal, IsLegalOn, IsNamed, IsLimitMetAt, IsOnLine}
use Rattle.watch.specs.Account.{HasNoUnsure, IsUnsureTold, IsLimitMet, IsWritten}
use Rattle.watch.specs.Watching.{IsLineOf, StandsAs, AreEven, Holds, IsFinding, IsSettled, AreSettled}
use Rattle.watch.specs.declared.objects.Standing.TheVariants as standing
use Rattle.watch.specs.declared.watching.Finding.{Finding}
use Rattle.watch.specs.declared.watching.Watching.{Watching}
use Rattle.watch.proofs.OnLines.{on_line, line_within, legal_before, legal_on_fewer}
use Rattle.watch.proofs.Outputs.{says_named}
use Rattle.watch.specs.declared.settings.Settings.{Settings}

-- an object of a number below that of the names has a name
pub name_of : (said : Said) (object : ℕ) → object < length said.names
    → IsNamed said object (get_or said.names object [])
name_of said object low = slice_get-get_or said.names object [] low

-- the event of a number is on its line
pub is_on_line : (said : Said) (object number line : ℕ)
    → IsLineOf (lines_of object said.events) number line → IsOnLine said object number line
is_on_line said object number line (some, at) =
    let same : suc (number - 1) ≡ number = omega (arith, some) in
    subst (λ (n : ℕ). IsOnLine said object n line) same
    (on_line said object (number - 1) line at)

-- at the event of a line that is told to be unsure the limit was met
pub written_unsure : (asked : Settings) (w : Watching) (lines : List (List ℕ)) (due : Due) (said : Said)
    (output : List OutputLine) (object line : ℕ) → Holds asked w lines due said output
    → object < length said.names
    → StandsAs said.kind asked (events_of object said.events) (lines_of object said.events)
    (standing.Unsure line)
    → (IsUnsureTold said output object → ⊥)
    → IsWritten asked lines output (Unsure line (get_or said.names object []))
written_unsure asked w lines due said output object line h low (number, unsure, at) new = record {
  first = lines;
  rest = [];
  split = sym (append-nil lines);
  due = due;
  said = said;
  reads = h.reads;
  says = says_named due said object h.says low;
  goes_on = h.goes_on;
  right = (
    object,
    number,
    name_of said object low,
    (events_of object said.events, [], sym (append-nil (events_of object said.events)), unsure),
    is_on_line said object number line at,
    new,
  );
}

-- the lines of the events that were said were read
events_read : (due : Due) (said : Said) (lines : ℕ) → Says due said → AreEven due lines
    → length said.events + head_lines ≤ lines
events_read TitleDue said lines says even = absurd says
events_read ObjectDue said lines says even = absurd says
events_read (EventDue so_far) said lines says even =
    omega (arith, even, ap (λ (s : Said). length s.events) says)
events_read (Ended so_far) said lines says even =
    omega (arith, even, ap (λ (s : Said). length s.events) says)

-- the first line that is found
pub written_illegal : (asked : Settings) (w : Watching) (lines : List (List ℕ)) (due : Due) (said : Said)
    (output : List OutputLine) (found : Finding) → Holds asked w lines due said output
    → found.object < length said.names → (f : IsFinding asked said found)
    → ((other : ℕ) → other < length said.names → IsSettled said output (Some found) other)
    → IsWritten asked lines output (Illegal found.first found.last f.object_name)
written_illegal asked w lines due said output found h low f all = record {
  first = lines;
  rest = [];
  split = sym (append-nil lines);
  due = due;
  said = said;
  reads = h.reads;
  says = says_named due said found.object h.says low;
  goes_on = h.goes_on;
  right = (
    found.object,
    f.named,
    omega (
      arith,
      f.read,
      events_read due said (length lines)
          (says_named due said found.object h.says low) h.even,
    ),
    f.before,
    f.none,
    all,
    f.exact,
  );
}

-- all is legal
pub written_legal : (asked : Settings) (w : Watching) (lines : List (List ℕ)) (due : Due) (said : Said)
    (output : List OutputLine) → Says due said → Holds asked w lines due said output
    → AreSettled said output → HasNoUnsure output → w.said < w.number
    → IsWritten asked lines output (Legal w.number)
written_legal asked w lines due said output says h settled none less = record {
  first = lines;
  rest = [];
  split = sym (append-nil lines);
  due = due;
  said = said;
  reads = h.reads;
  says = says;
  goes_on = h.goes_on;
  right = (
    h.number,
    λ object low. elim (settled object low) [
      | inl legal ↦ legal
      | inr (line, name, named, has) ↦ absurd (none line name has)
    ],
    none,
    λ other has. omega (arith, h.told other has, less),
  );
}

seam : (before near far : List StreamEvent) (event : StreamEvent) (stream : List StreamEvent)
    (from : ℕ) → stream ≡ (before ++ event ∷ near) ++ far → from ≡ length before + 1
    → take (from - 1) stream ≡ before
seam before near far event stream from whole is =
    let n : from - 1 ≡ length before = omega (arith, is) in
    ap (λ (k : ℕ). take k stream) n
    ∙ (ap (take (length before)) (whole ∙ append_assoc before (event ∷ near) far)
    ∙ take-append_seam before ((event ∷ near) ++ far))

-- an object that is illegal is so up to the last line, and legal before the first one
pub found_of : (asked : Settings) (said : Said) (object first last : ℕ) → object < length said.names
    → StandsAs said.kind asked (events_of object said.events) (lines_of object said.events)
    (standing.Illegal first last)
    → IsFinding asked said (record { object = object; first = first; last = last })
    × IsLegalOn said object (first - 1)
found_of asked said object first last low
    (from, to, (before, event, near, far, whole, is, end, legal, none), exact, at_first, at_last) =
    let stream = events_of object said.events in
    let spec = kind_spec said.kind in
    let on_first = is_on_line said object from first at_first in
    let on_last = is_on_line said object to last at_last in
    let before_first : IsLegalOn said object (first - 1) = subst (HasLegalStreamOrder spec)
    (sym (on_first.0 ∙ seam before near far event stream from whole is)) legal in (
      record {
        object_name = get_or said.names object [];
        named = name_of said object low;
        read = line_within said object (to - 1) last at_last.1;
        before = before_first;
        none = λ has. none (subst (HasLegalStreamOrder spec)
            (on_last.1 ∙ (ap (λ (k : ℕ). take k stream) end
            ∙ (ap (take (length (before ++ event ∷ near))) whole
            ∙ take-append_seam (before ++ event ∷ near) far))) has);
        exact = elim exact [
          | inl same ↦
              let one = subst (λ (n : ℕ). IsLineOf (lines_of object said.events) n last) (sym same)
              at_last in
              let both : Some first ≡ Some last = sym at_first.1 ∙ one.1 in
              inl cc
          | inr (front, rest, number, split, unsure) ↦
              inr (object, number, (front, rest, split, unsure))
        ];
      },
      before_first,
    )

-- what is settled before a line is settled before an earlier one
pub settled_before : (said : Said) (output : List OutputLine) (one other : Finding) (object : ℕ)
    → other.first ≤ one.first → IsSettled said output (Some one) object
    → IsSettled said output (Some other) object
settled_before said output one other object less settled =
    elim settled [
      | inl legal ↦ inl (legal_on_fewer said object (other.first - 1) (one.first - 1)
          (omega (arith, less)) legal)
      | inr told ↦ inr told
    ]

-- what is settled where nothing is found is settled before every line
pub settled_first : (said : Said) (output : List OutputLine) (one : Finding) (object : ℕ)
    → IsSettled said output None object → IsSettled said output (Some one) object
settled_first said output one object settled =
    elim settled [
      | inl legal ↦ inl (legal_before said object (one.first - 1) legal)
      | inr told ↦ inr told
    ]
