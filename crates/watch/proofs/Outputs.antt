-- Outputs that grow, and what a watching holds then.
use Rattle.std.proofs.Common.{◌≡◌, ◌≢◌, ◌∙◌, ◌⊎◌, ℕ, ◌+◌, ◌-◌, ◌<◌, ◌≤◌, true, false, List, [], ◌∷◌, ◌++◌, length, take, Option, Some, None, slice_get, nat_eq, refl, sym, ap, subst, inl, inr, arith, append_assoc, append-nil, length-append}
use Rattle.std.specs.Prelude.{flat_map, ⊤}
use Rattle.std.proofs.lemmas.Grind.{flat_map-append}
use Rattle.std.proofs.lemmas.List.{take-append-le}
use Rattle.std.proofs.lemmas.Option.{slice_get_within}
use Rattle.std.proofs.Math.Seq.{take-append_seam}
use Rattle.indexmap.specs.IndexSet.{contains}
use Rattle.list_laws.proofs.Prefixes.{slice_get-append_within}
use Rattle.list_laws.proofs.Places.{slice_get-push_old, slice_get-push_last, slice_get-push_cases}
use Rattle.stream_text.specs.Reader.{HasTables, HasRead}
use Rattle.stream_text.specs.declared.reader.StreamReader.{StreamReader}
use Rattle.stream_text.specs.Stream.{Said, Due, TitleDue, ObjectDue, EventDue, Ended, ReadsAs, nothing_of}
use Rattle.watch.specs.Output.{OutputLine, Legal, Illegal, Unsure, text_of, output_text}
use Rattle.watch.specs.Lines.{Says, IsNamed, IsLegal}
use Rattle.watch.specs.Account.{Has, IsUnsureTold, HasNoUnsure, GoesOn, AreBelow, IsRight, IsWritten, IsOutput}
use Rattle.watch.specs.Watching.{SaysSoFar, Holds, Tells, AreSettled, IsSettled, EndsIllegal, Closes}
use Rattle.watch.specs.declared.watching.Finding.{Finding}
use Rattle.watch.specs.declared.watching.Watching.{Watching}
use Rattle.watch.specs.declared.settings.Settings.{Settings}

-- a line of the output after one more
pub has_old : (output : List OutputLine) (one other : OutputLine) → Has output one
    → Has (output ++ other ∷ []) one
has_old output one other (k, at) = (k, slice_get-push_old output other k one at)

pub has_new : (output : List OutputLine) (one : OutputLine) → Has (output ++ one ∷ []) one
has_new output one = (length output, slice_get-push_last output one)

pub has_cases : (output : List OutputLine) (one other : OutputLine)
    → Has (output ++ other ∷ []) one → Has output one ⊎ (one ≡ other)
has_cases output one other (k, at) =
    elim (slice_get-push_cases output other k one at) [
      | inl old ↦ inl (k, old)
      | inr new ↦ inr new.1
    ]

-- the text of an output with one line more
pub text_push : (output : List OutputLine) (one : OutputLine)
    → output_text (output ++ one ∷ []) ≡ output_text output ++ text_of one
text_push output one = flat_map-append text_of output (one ∷ [])
    ∙ ap (λ (l : List ℕ). output_text output ++ l) (append-nil (text_of one))

pub text_one : (one : OutputLine) → output_text (one ∷ []) ≡ text_of one
text_one one = append-nil (text_of one)

pub text_more : (xs ys : List OutputLine) → output_text (xs ++ ys) ≡ output_text xs ++ output_text ys
text_more xs ys = flat_map-append text_of xs ys

-- an output that is right still is when more lines are read
pub output_longer : (asked : Settings) (lines more : List (List ℕ)) (output : List OutputLine)
    → IsOutput asked lines output → IsOutput asked (lines ++ more) output
output_longer asked lines more output right k one at =
    let w = right k one at in record {
      first = w.first;
      rest = w.rest ++ more;
      split = ap (λ (l : List (List ℕ)). l ++ more) w.split ∙ append_assoc w.first w.rest more;
      due = w.due;
      said = w.said;
      reads = w.reads;
      says = w.says;
      goes_on = w.goes_on;
      right = w.right;
    }

-- an output with one right line more is right
pub output_more : (asked : Settings) (lines : List (List ℕ)) (output : List OutputLine) (one : OutputLine)
    → IsOutput asked lines output → IsWritten asked lines output one
    → IsOutput asked lines (output ++ one ∷ [])
output_more asked lines output one right now k other at =
    elim (slice_get-push_cases output one k other at) [
      | inl old ↦
          let low = slice_get_within output k other old in
          let within : k ≤ length output = omega (arith, low) in
          subst (λ (before : List OutputLine). IsWritten asked lines before other)
          (sym (take-append-le k output (one ∷ []) within)) (right k other old)
      | inr new ↦
          let all : output ≡ take k (output ++ one ∷ []) =
          sym (take-append_seam output (one ∷ []))
          ∙ ap (λ (n : ℕ). take n (output ++ one ∷ [])) (sym new.0) in
          subst (λ (before : List OutputLine). IsWritten asked lines before other) all
          (subst (λ (o : OutputLine). IsWritten asked lines output o) (sym new.1) now)
    ]

-- what has a name is said after a whole head
pub says_named : (due : Due) (said : Said) (object : ℕ) → SaysSoFar due said
    → object < length said.names → Says due said
says_named TitleDue said object says low = absurd (omega (arith, low, ap length says.0))
says_named ObjectDue said object says low = absurd (omega (arith, low, ap length says.0))
says_named (EventDue so_far) said object says low = says
says_named (Ended so_far) said object says low = says

-- a reader has the tables of what was said after a whole head
pub tables_of : (due : Due) (said : Said) (reader : StreamReader) → Says due said → HasRead reader due
    → HasTables reader said
tables_of TitleDue said reader says has = absurd says
tables_of ObjectDue said reader says has = absurd says
tables_of (EventDue so_far) said reader says has =
    subst (HasTables reader) (sym says) has.1
tables_of (Ended so_far) said reader says has =
    subst (HasTables reader) (sym says) has.1

-- an object that was told to be unsure still was after more lines
pub unsure_more : (said : Said) (output more : List OutputLine) (object : ℕ)
    → IsUnsureTold said output object → IsUnsureTold said (output ++ more) object
unsure_more said output more object (line, name, named, (k, at)) = (
  line,
  name,
  named,
  (k, slice_get-append_within output more k (slice_get_within output k (Unsure line name) at) ∙ at),
)

-- what was said of each object so far is so after more lines
pub settled_more : (said : Said) (output more : List OutputLine) (found : Option Finding)
    (object : ℕ) → IsSettled said output found object
    → IsSettled said (output ++ more) found object
settled_more said output more None object settled =
    elim settled [
      | inl legal ↦ inl legal
      | inr told ↦ inr (unsure_more said output more object told)
    ]
settled_more said output more (Some found) object settled =
    elim settled [
      | inl legal ↦ inl legal
      | inr told ↦ inr (unsure_more said output more object told)
    ]

-- nothing more is told
pub tells_none : (asked : Settings) (w : Watching) (lines : List (List ℕ)) (due : Due) (said : Said)
    (output : List OutputLine) (IsOne : List OutputLine → Type 0) → Holds asked w lines due said output
    → IsOne output → Tells asked w w lines due said output IsOne
tells_none asked w lines due said output IsOne holds one = (
  [],
  sym (append-nil w.out.items),
  subst (λ (o : List OutputLine). Holds asked w lines due said o) (sym (append-nil output)) holds,
  subst IsOne (sym (append-nil output)) one,
)

-- more is told, and then still more
pub tells_then : (asked : Settings) (a b c : Watching) (lines : List (List ℕ)) (due : Due) (said : Said)
    (output : List OutputLine) (P Q R : List OutputLine → Type 0)
    → Tells asked a b lines due said output P
    → ((after : List OutputLine) → Holds asked b lines due said after
    → Tells asked b c lines due said after Q)
    → ((after more : List OutputLine) → P after → Q (after ++ more) → R (after ++ more))
    → Tells asked a c lines due said output R
tells_then asked a b c lines due said output P Q R (xs, text, holds, is) next joined =
    let more = next (output ++ xs) holds in
    let all : (output ++ xs) ++ more.0 ≡ output ++ (xs ++ more.0) = append_assoc output xs more.0 in (
      xs ++ more.0,
      more.1 ∙ (ap (λ (l : List ℕ). l ++ output_text more.0) text
          ∙ (append_assoc a.out.items (output_text xs) (output_text more.0)
          ∙ ap (λ (l : List ℕ). a.out.items ++ l) (sym (text_more xs more.0)))),
      subst (λ (o : List OutputLine). Holds asked c lines due said o) all more.2,
      subst R all (joined (output ++ xs) more.0 is more.3),
    )

-- more is told, and then the output closes
pub tells_closes : (asked : Settings) (a b c : Watching) (lines : List (List ℕ)) (due : Due) (said : Said)
    (output : List OutputLine) (P : List OutputLine → Type 0)
    → Tells asked a b lines due said output P
    → ((after : List OutputLine) → P after → Holds asked b lines due said after
    → Closes asked b c lines after)
    → Closes asked a c lines output
tells_closes asked a b c lines due said output P (xs, text, holds, is) next =
    let more = next (output ++ xs) is holds in
    let all : (output ++ xs) ++ more.0 ≡ output ++ (xs ++ more.0) = append_assoc output xs more.0 in (
      xs ++ more.0,
      more.1 ∙ (ap (λ (l : List ℕ). l ++ output_text more.0) text
          ∙ (append_assoc a.out.items (output_text xs) (output_text more.0)
          ∙ ap (λ (l : List ℕ). a.out.items ++ l) (sym (text_more xs more.0)))),
      subst (λ (o : List OutputLine). IsOutput asked lines o) all more.2,
      subst EndsIllegal all more.3,
    )
