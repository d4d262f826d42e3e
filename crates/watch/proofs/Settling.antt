-- Objects that are settled one after another.
use Rattle.std.proofs.Common.{◌≡◌, ◌∙◌, ◌⊎◌, ℕ, ◌+◌, ◌-◌, ◌<◌, ◌≤◌, List, ◌∷◌, ◌++◌, [], length, min, get_or, Option, Some, None, IfSome, slice_get, refl, sym, ap, subst, inl, inr, arith, append_assoc}
use Rattle.std.specs.Prelude.{⊤}
use Rattle.std.proofs.lemmas.Bool.{cases_lt}
use Rattle.std.proofs.lemmas.Option.{slice_get_within}
use Rattle.stream_text.specs.Stream.{Said, Due}
use Rattle.watch.specs.Output.{OutputLine, Legal, Illegal, text_of, output_text}
use Rattle.watch.specs.Account.{IsOutput, IsLimitMet}
use Rattle.watch.specs.Watching.{Holds, Tells, Closes, IsFinding, IsSettled, AreSettled, IsBefore}
use Rattle.watch.specs.declared.watching.Finding.{Finding}
use Rattle.watch.specs.declared.watching.Watching.{Watching}
use Rattle.watch.proofs.OnLines.{legal_on_fewer}
use Rattle.watch.proofs.Outputs.{settled_more, tells_then, output_more, text_push}
use Rattle.watch.proofs.Findings.{settled_before, settled_first, written_illegal}
use Rattle.watch.specs.declared.settings.Settings.{Settings}

-- the objects before a number are settled
abbrev pub AreSettledBelow : Settings → Said → Option Finding → ℕ → List OutputLine → Type 0
AreSettledBelow asked said found number output = IfSome found (IsFinding asked said)
    × ((k : ℕ) → k < number → k < length said.names → IsSettled said output found k)

-- what is answered of one object
abbrev pub IsJudged : Settings → Said → Option Finding → ℕ → List OutputLine → Type 0
IsJudged asked said found object output = IfSome found (IsFinding asked said)
    × (object < length said.names → IsSettled said output found object)

-- what is settled before something that is found is settled before something else that isn't later
pub settled_earlier : (said : Said) (output : List OutputLine) (found earlier : Option Finding)
    (k : ℕ) → IsBefore earlier found → IsSettled said output found k
    → IsSettled said output earlier k
settled_earlier said output None None k before settled = settled
settled_earlier said output None (Some one) k before settled =
    settled_first said output one k settled
settled_earlier said output (Some one) None k before settled = absurd before
settled_earlier said output (Some one) (Some other) k before settled =
    settled_before said output one other k before settled

-- one object more is settled
pub step_settled : (asked : Settings) (a b c : Watching) (lines : List (List ℕ)) (due : Due) (said : Said)
    (output : List OutputLine) (found one both : Option Finding) (i : ℕ)
    → (IfSome found (IsFinding asked said) → IfSome one (IsFinding asked said)
    → IfSome both (IsFinding asked said)) → IsBefore both found → IsBefore both one
    → Tells asked a b lines due said output (AreSettledBelow asked said found i)
    → ((after : List OutputLine) → Holds asked b lines due said after
    → Tells asked b c lines due said after (IsJudged asked said one i))
    → Tells asked a c lines due said output (AreSettledBelow asked said both (i + 1))
step_settled asked a b c lines due said output found one both i finding old new so_far judged =
    tells_then asked a b c lines due said output (AreSettledBelow asked said found i)
    (IsJudged asked said one i) (AreSettledBelow asked said both (i + 1)) so_far judged
    (λ after more below here. (
      finding below.0 here.0,
      λ k less low. elim (cases_lt k i) [
        | inl before ↦ settled_earlier said (after ++ more) found both k old
            (settled_more said after more found k (below.1 k before low))
        | inr past ↦
            let same : i ≡ k = omega (arith, less, past) in
            settled_earlier said (after ++ more) one both k new
            (subst (λ (n : ℕ). n < length said.names → IsSettled said (after ++ more) one n)
            same here.1 low)
      ],
    ))

join_exact : (asked : Settings) (said : Said) (f g l m first : ℕ) → (f ≡ l) ⊎ IsLimitMet asked said
    → (g ≡ m) ⊎ IsLimitMet asked said → l ≤ m → first ≡ min f g
    → (first ≡ l) ⊎ IsLimitMet asked said
join_exact asked said f g l m first (inl same) (inl other) less is =
    inl (omega (arith, same, other, less, is))
join_exact asked said f g l m first (inl same) (inr met) less is = inr met
join_exact asked said f g l m first (inr met) other less is = inr met

-- what two findings say together, where the first one's last line isn't later
pub join_findings : (asked : Settings) (said : Said) (one other : Finding) (first : ℕ)
    → IsFinding asked said one → IsFinding asked said other → one.last ≤ other.last
    → first ≡ min one.first other.first
    → IsFinding asked said (record { object = one.object; first = first; last = one.last })
join_findings asked said one other first f g less is = record {
  object_name = f.object_name;
  named = f.named;
  read = f.read;
  before = legal_on_fewer said one.object (first - 1) (one.first - 1)
      (omega (arith, is)) f.before;
  none = f.none;
  exact = join_exact asked said one.first other.first one.last other.last first f.exact g.exact
      less is;
}

-- where all are settled and one is found, the output closes
pub closes_found : (asked : Settings) (a b c : Watching) (lines : List (List ℕ)) (due : Due) (said : Said)
    (output : List OutputLine) (found : Finding) (number : ℕ) → length said.names ≤ number
    → Tells asked a b lines due said output (AreSettledBelow asked said (Some found) number)
    → ((name : List ℕ) → slice_get said.names found.object ≡ Some name
    → c.out.items ≡ b.out.items ++ text_of (Illegal found.first found.last name))
    → Closes asked a c lines output
closes_found asked a b c lines due said output found number all
    (xs, text, holds, (finding, below)) told =
    let name = finding.object_name in
    let low = slice_get_within said.names found.object name finding.named in
    let one : OutputLine = Illegal found.first found.last name in
    let assoc : (output ++ xs) ++ one ∷ [] ≡ output ++ (xs ++ one ∷ []) =
    append_assoc output xs (one ∷ []) in (
      xs ++ one ∷ [],
      told name finding.named ∙ (ap (λ (l : List ℕ). l ++ text_of one) text
          ∙ (append_assoc a.out.items (output_text xs) (text_of one)
          ∙ ap (λ (l : List ℕ). a.out.items ++ l) (sym (text_push xs one)))),
      subst (λ (o : List OutputLine). IsOutput asked lines o) assoc
          (output_more asked lines (output ++ xs) one holds.output_is
          (written_illegal asked b lines due said (output ++ xs) found holds low finding
          (λ other within. below other (omega (arith, within, all)) within))),
      (output ++ xs, found.first, found.last, name, sym assoc),
    )

-- where all are settled and none is found, each is legal or unsure
pub all_settled : (asked : Settings) (a b : Watching) (lines : List (List ℕ)) (due : Due) (said : Said)
    (output : List OutputLine) (number : ℕ) → length said.names ≤ number
    → Tells asked a b lines due said output (AreSettledBelow asked said None number)
    → Tells asked a b lines due said output (AreSettled said)
all_settled asked a b lines due said output number all (xs, text, holds, (finding, below)) = (
  xs,
  text,
  holds,
  λ object low. below object (omega (arith, low, all)) low,
)
