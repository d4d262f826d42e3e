-- What a judging client leaves is what a worker leaves.
use Rattle.std.proofs.Common.{◌≡◌, ap, ap₂, refl, ℕ, List, [], ◌∷◌, map}
use Rattle.std.specs.List.{All}
use Rattle.std.proofs.lemmas.List.Elements.{All-nil, All-cons}
use Rattle.book_base.specs.SeqSpec.{SeqSpec}
use Rattle.world_core.specs.Local.{Local}
use Rattle.world_core.specs.Calls.{Reached, Is_announced, Has_record, Has_seen, Made, calls_in}
use Rattle.report_lines.specs.declared.line.LineEnd.{LineEnd}
use Rattle.report_lines.specs.declared.line.LineEnd.TheVariants.{Pending, Unchecked, Delivered, Error}
use Rattle.report_lines.specs.declared.line.Line.{Line}
use Rattle.report_lines.specs.Lines.{made_of, reached_of}
use Rattle.report_lines.specs.Workers.{IsJudgedBy}
use Rattle.client_calls.specs.Ends.{SaysJudged, EndsAs, AreLinesOfCalls}
use Rattle.client_calls.specs.Working.{JudgingClientsHaveWorked}

module _ (object : SeqSpec) (n : ℕ) (l : Local) where
  abbrev Judged : LineEnd → Type 0
  Judged end = IsJudgedBy object n l end

  reached_is : (reached : Reached) (end : LineEnd) → EndsAs (SaysJudged object n l) reached end
      → reached_of end ≡ reached
  reached_is Is_announced end h = ap reached_of h
  reached_is (Has_record r) end h = ap reached_of h
  reached_is (Has_seen r cut) Pending h = absurd h
  reached_is (Has_seen r cut) (Unchecked r') h = absurd h
  reached_is (Has_seen r cut) (Delivered r' cut') h = ap₂ Has_seen h.0 h.1
  reached_is (Has_seen r cut) (Error r' cut') h = ap₂ Has_seen h.0 h.1

  judged_is : (reached : Reached) (end : LineEnd) → EndsAs (SaysJudged object n l) reached end
      → Judged end
  judged_is reached Pending h = tt
  judged_is reached (Unchecked r') h = tt
  judged_is Is_announced (Delivered r' cut') h = absurd (cc)
  judged_is Is_announced (Error r' cut') h = absurd (cc)
  judged_is (Has_record r) (Delivered r' cut') h = absurd (cc)
  judged_is (Has_record r) (Error r' cut') h = absurd (cc)
  judged_is (Has_seen r cut) (Delivered r' cut') h = h.2
  judged_is (Has_seen r cut) (Error r' cut') h = h.2

  made_are : (calls : List Made) (own : List Line)
      → AreLinesOfCalls (SaysJudged object n l) calls own → map made_of own ≡ calls
  made_are [] [] h = refl
  made_are [] (line ∷ own) h = absurd h
  made_are (call ∷ calls) [] h = absurd h
  made_are (call ∷ calls) (line ∷ own) h =
      let one : made_of line ≡ call =
      ap₂ (λ (o : ℕ) (x : Reached). record { operation = o; reached = x }) h.0.operation
      (reached_is call.reached line.end h.0.end) in
      ap₂ (λ (c : Made) (cs : List Made). c ∷ cs) one (made_are calls own h.1)

  all_judged : (calls : List Made) (own : List Line)
      → AreLinesOfCalls (SaysJudged object n l) calls own
      → All (λ (line : Line). Judged line.end) own
  all_judged [] [] h = All-nil _
  all_judged [] (line ∷ own) h = absurd h
  all_judged (call ∷ calls) [] h = absurd h
  all_judged (call ∷ calls) (line ∷ own) h =
      All-cons (λ (x : Line). Judged x.end) line own (judged_is call.reached line.end h.0.end)
      (all_judged calls own h.1)

pub judging_clients_have_worked : JudgingClientsHaveWorked
judging_clients_have_worked object n operations allotment l own h =
    record {
      calls = made_are object n l (calls_in l) own h.lines;
      made = h.made;
      keeps = h.keeps;
      judged = all_judged object n l (calls_in l) own h.lines;
    }
