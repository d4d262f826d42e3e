-- The lines of calls, as a call changes, and as more calls are made.
use Rattle.std.proofs.Common.{◌≡◌, ap, ℕ, Bool, true, false, ◌||◌, List, [], ◌∷◌, ◌++◌}
use Rattle.book_base.specs.declared.call.Record.{Record}
use Rattle.world_core.specs.Calls.{Reached, Is_announced, Has_record, Has_seen, Made}
use Rattle.report_lines.specs.declared.line.LineEnd.{LineEnd}
use Rattle.report_lines.specs.declared.line.Line.{Line}
use Rattle.report_lines.specs.Lines.{is_error, any_error}
use Rattle.client_calls.specs.Ends.{EndsAs, IsLineOf, AreLinesOfCalls}

-- what the second of two meanings of lines says follows from what the first says
abbrev Implies : (Record → List ℕ → LineEnd → Type 0)
    → (Record → List ℕ → LineEnd → Type 0) → Type 0
Implies says says' = (r : Record) (cut : List ℕ) (end : LineEnd) → says r cut end → says' r cut end

end_stays : (says says' : Record → List ℕ → LineEnd → Type 0) → Implies says says'
    → (reached : Reached) (end : LineEnd) → EndsAs says reached end → EndsAs says' reached end
end_stays says says' more Is_announced end h = h
end_stays says says' more (Has_record r) end h = h
end_stays says says' more (Has_seen r cut) end h = more r cut end h

pub lines_stay : (says says' : Record → List ℕ → LineEnd → Type 0)
    → ((r : Record) (cut : List ℕ) (end : LineEnd) → says r cut end → says' r cut end)
    → (calls : List Made) (own : List Line) → AreLinesOfCalls says calls own
    → AreLinesOfCalls says' calls own
lines_stay says says' more [] [] h = h
lines_stay says says' more [] (line ∷ own) h = absurd h
lines_stay says says' more (call ∷ calls) [] h = absurd h
lines_stay says says' more (call ∷ calls) (line ∷ own) h = (
  record {
    operation = h.0.operation;
    end = end_stays says says' more call.reached line.end h.0.end;
  },
  lines_stay says says' more calls own h.1,
)

-- the lines of calls and then the line of one more call are the lines of the calls with this one
pub one_more_line : (says : Record → List ℕ → LineEnd → Type 0) (calls : List Made)
    (own : List Line) (call : Made) (line : Line)
    → AreLinesOfCalls says calls own → IsLineOf says call line
    → AreLinesOfCalls says (calls ++ call ∷ []) (own ++ line ∷ [])
one_more_line says [] [] call line h one = (one, tt)
one_more_line says [] (first ∷ own) call line h one = absurd h
one_more_line says (c ∷ calls) [] call line h one = absurd h
one_more_line says (c ∷ calls) (first ∷ own) call line h one =
    (h.0, one_more_line says calls own call line h.1 one)

-- where neither of two tests holds, and a third fails where the second does, neither the first nor
-- the third holds
any_with : (a b c : Bool) → (a || b) ≡ false → (b ≡ false → c ≡ false) → (a || c) ≡ false
any_with true b c none more = none
any_with false b c none more = more none

pub no_more_errors : (own : List Line) (line : Line) → any_error own ≡ false → is_error line ≡ false
    → any_error (own ++ line ∷ []) ≡ false
no_more_errors [] line none one = ap (λ (b : Bool). b || false) one
no_more_errors (first ∷ own) line none one =
    any_with (is_error first) (any_error own) (any_error (own ++ line ∷ [])) none
    (λ h. no_more_errors own line h one)
