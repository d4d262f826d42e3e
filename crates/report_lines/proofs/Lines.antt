-- What a line determines: its call among all calls, its cut, its verdict.
use Rattle.std.proofs.Common.{◌≡◌, ℕ, zero, suc, ◌<◌, List, [], ◌∷◌, length, map, Option, Some, slice_get, slice_index_or, refl, ap, ◌∙◌, arith}
use Rattle.std.specs.Option.{option_and_then, option_map}
use Rattle.std.specs.List.{filter_map}
use Rattle.std.proofs.lemmas.Option.{none-some, same_Some, slice_get-map, slice_get-get_or, get_or_from_slice_get}
use Rattle.list_laws.proofs.Options.{and_then_some}
use Rattle.book_base.specs.declared.call.Call.{Call}
use Rattle.book_base.specs.declared.call.Record.{Record}
use Rattle.world_core.specs.Calls.{Has_seen, Made}
use Rattle.world_laws.specs.Verdicts.{HasSeenCut}
use Rattle.report_lines.specs.declared.line.LineEnd.{LineEnd}
use Rattle.report_lines.specs.declared.line.LineEnd.TheVariants.{Pending, Unchecked, Delivered, Error}
use Rattle.report_lines.specs.declared.line.Line.{Line}
use Rattle.report_lines.specs.Lines.{reached_of, made_of, calls_of, lines_at, line_at, seen_in, delivered_in, error_in, seen_at, delivered_at, error_at}
use Rattle.report_lines.specs.Lawful.{delivered_cuts}
use Rattle.report_lines.proofs.Pieces.{from_flat_map, in_flat_map, from_filter_map, in_filter_map}

-- the calls of a caller among those of all lines
calls_at : (lines : List (List Line)) (i : ℕ)
    → slice_index_or (calls_of lines) i [] ≡ map made_of (lines_at lines i)
calls_at [] i = refl
calls_at (own ∷ lines) zero = refl
calls_at (own ∷ lines) (suc i) = calls_at lines i

-- a line at the place of a call is of the call there
pub call_of_line : (lines : List (List Line)) (call : Call) (line : Line)
    → line_at lines call ≡ Some line
    → slice_get (slice_index_or (calls_of lines) call.caller []) call.number ≡ Some (made_of line)
call_of_line lines call line e =
    ap (λ (calls : List Made). slice_get calls call.number) (calls_at lines call.caller)
    ∙ slice_get-map made_of (lines_at lines call.caller) call.number
    ∙ ap (λ (o : Option Line). option_map made_of o) e

-- the record of an end that has a seen cut
answer_of : (end : LineEnd) (cut : List ℕ) → seen_in end ≡ Some cut → (r : Record)
    × (reached_of end ≡ Has_seen r cut)
answer_of Pending cut e = absurd (none-some cut e)
answer_of (Unchecked r) cut e = absurd (none-some cut e)
answer_of (Delivered r own) cut e = (r, ap (λ (c : List ℕ). Has_seen r c) (same_Some own cut e))
answer_of (Error r own) cut e = (r, ap (λ (c : List ℕ). Has_seen r c) (same_Some own cut e))

-- the seen cut of a line is one that its call has seen
pub has_seen_cut : (lines : List (List Line)) (call : Call) (cut : List ℕ)
    → seen_at lines call ≡ Some cut → HasSeenCut (calls_of lines) call cut
has_seen_cut lines call cut e =
    let found = and_then_some (line_at lines call) (λ (line : Line). seen_in line.end) cut e in
    let said = answer_of found.0.end cut found.2 in
    record {
      operation = found.0.op;
      answer = said.0;
      made = call_of_line lines call found.0 found.1
          ∙ ap (λ v. Some (record { operation = found.0.op; reached = v })) said.1;
    }

-- The line of a delivered call, or of an error, with its record and its cut.
pub record IsVerdict (of : Record → List ℕ → LineEnd) (lines : List (List Line)) (call : Call)
    (cut : List ℕ) : Type 0 where
  pub line : Line
  pub answer : Record
  pub there : line_at lines call ≡ Some line
  pub end : line.end ≡ of answer cut

delivered_end : (end : LineEnd) (cut : List ℕ) → delivered_in end ≡ Some cut → (r : Record)
    × (end ≡ Delivered r cut)
delivered_end Pending cut e = absurd (none-some cut e)
delivered_end (Unchecked r) cut e = absurd (none-some cut e)
delivered_end (Delivered r own) cut e =
    (r, ap (λ (c : List ℕ). Delivered r c) (same_Some own cut e))
delivered_end (Error r own) cut e = absurd (none-some cut e)

error_end : (end : LineEnd) (cut : List ℕ) → error_in end ≡ Some cut → (r : Record)
    × (end ≡ Error r cut)
error_end Pending cut e = absurd (none-some cut e)
error_end (Unchecked r) cut e = absurd (none-some cut e)
error_end (Delivered r own) cut e = absurd (none-some cut e)
error_end (Error r own) cut e = (r, ap (λ (c : List ℕ). Error r c) (same_Some own cut e))

pub delivered_line : (lines : List (List Line)) (call : Call) (cut : List ℕ)
    → delivered_at lines call ≡ Some cut → IsVerdict (λ r c. Delivered r c) lines call cut
delivered_line lines call cut e =
    let found = and_then_some (line_at lines call) (λ (line : Line). delivered_in line.end) cut e in
    let said = delivered_end found.0.end cut found.2 in
    record { line = found.0; answer = said.0; there = found.1; end = said.1 }

pub error_line : (lines : List (List Line)) (call : Call) (cut : List ℕ)
    → error_at lines call ≡ Some cut → IsVerdict (λ r c. Error r c) lines call cut
error_line lines call cut e =
    let found = and_then_some (line_at lines call) (λ (line : Line). error_in line.end) cut e in
    let said = error_end found.0.end cut found.2 in
    record { line = found.0; answer = said.0; there = found.1; end = said.1 }

-- a delivered line and an error line have a seen cut
seen_from : (lines : List (List Line)) (call : Call) (cut : List ℕ) (line : Line)
    → line_at lines call ≡ Some line → seen_in line.end ≡ Some cut
    → seen_at lines call ≡ Some cut
seen_from lines call cut line there e =
    ap (λ (o : Option Line). option_and_then (λ (l : Line). seen_in l.end) o) there ∙ e

pub seen_from_delivered : (lines : List (List Line)) (call : Call) (cut : List ℕ)
    → delivered_at lines call ≡ Some cut → seen_at lines call ≡ Some cut
seen_from_delivered lines call cut e =
    let v = delivered_line lines call cut e in
    seen_from lines call cut v.line v.there (ap seen_in v.end)

pub seen_from_error : (lines : List (List Line)) (call : Call) (cut : List ℕ)
    → error_at lines call ≡ Some cut → seen_at lines call ≡ Some cut
seen_from_error lines call cut e =
    let v = error_line lines call cut e in
    seen_from lines call cut v.line v.there (ap seen_in v.end)

-- the caller of a line is one of those with lines
pub caller_within : (lines : List (List Line)) (call : Call) (line : Line)
    → line_at lines call ≡ Some line → call.caller < length lines
caller_within lines call line e = within lines call.caller e
  where
    within : (lines : List (List Line)) (i : ℕ)
        → slice_get (lines_at lines i) call.number ≡ Some line → i < length lines
    within [] i e = absurd (none-some line e)
    within (own ∷ lines) zero e = omega arith
    within (own ∷ lines) (suc i) e = let low = within lines i e in omega (arith, low)

-- the list at place i of all lines is the lines of caller i
place_of_lines : (lines : List (List Line)) (i : ℕ) → i < length lines
    → slice_get lines i ≡ Some (lines_at lines i)
place_of_lines lines i low = slice_get-get_or lines i [] low

-- the cuts of the delivered lines are those that delivered calls have seen
pub from_delivered_cuts : (lines : List (List Line)) (k : ℕ) (cut : List ℕ)
    → slice_get (delivered_cuts lines) k ≡ Some cut
    → (call : Call) × (delivered_at lines call ≡ Some cut)
from_delivered_cuts lines k cut e =
    let cuts_in : List Line → List (List ℕ) =
    λ own. filter_map (λ (line : Line). delivered_in line.end) own in
    let found = from_flat_map cuts_in lines k cut e in
    let inner =
    from_filter_map (λ (line : Line). delivered_in line.end) found.2 found.1 cut found.4 in
    let own : lines_at lines found.0 ≡ found.2 =
    get_or_from_slice_get lines found.0 found.2 [] found.3 in
    let there : slice_get (lines_at lines found.0) inner.0 ≡ Some inner.1 =
    ap (λ (ls : List Line). slice_get ls inner.0) own ∙ inner.2 in (
      record { caller = found.0; number = inner.0 },
      ap (λ (o : Option Line). option_and_then (λ (l : Line). delivered_in l.end) o) there
          ∙ inner.3,
    )

pub in_delivered_cuts : (lines : List (List Line)) (call : Call) (cut : List ℕ)
    → delivered_at lines call ≡ Some cut
    → (k : ℕ) × (slice_get (delivered_cuts lines) k ≡ Some cut)
in_delivered_cuts lines call cut e =
    let cuts_in : List Line → List (List ℕ) =
    λ own. filter_map (λ (line : Line). delivered_in line.end) own in
    let found = and_then_some (line_at lines call) (λ (line : Line). delivered_in line.end) cut e in
    let low : call.caller < length lines = caller_within lines call found.0 found.1 in
    let inner = in_filter_map (λ (line : Line). delivered_in line.end)
    (lines_at lines call.caller) call.number found.0 cut found.1 found.2 in
    in_flat_map cuts_in lines call.caller inner.0 (lines_at lines call.caller) cut
    (place_of_lines lines call.caller low) inner.1
