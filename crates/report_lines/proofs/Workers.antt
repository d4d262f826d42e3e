-- What the workers of all callers leave are the lines of the locals that they leave.
use Rattle.std.proofs.Common.{◌≡◌, ℕ, zero, suc, ◌+◌, ◌<◌, List, [], ◌∷◌, length, map, take, Bool, true, false, cond, ◌*◌, ◌++◌, ◌||◌, inl, inr, Some, slice_get, slice_index, slice_index_or, refl, sym, ap, ◌∙◌, subst, arith}
use Rattle.std.proofs.lemmas.Bool.{false≢true}
use Rattle.std.proofs.lemmas.List.{length-map, length_push}
use Rattle.std.proofs.lemmas.Option.{none-some, same_Some, slice_get_within, get_or_from_slice_get}
use Rattle.list_laws.proofs.Places.{slice_get-push_last, slice_get-push_cases}
use Rattle.book_base.specs.SeqSpec.{SeqSpec}
use Rattle.book_base.specs.Book.{Page}
use Rattle.book_base.specs.Order.{HasLegalOrder}
use Rattle.world_core.specs.Shape.{Shape}
use Rattle.world_core.specs.Local.{Local}
use Rattle.world_core.specs.Calls.{Made, AreTogether, calls_in, book_of, book_in, local_at}
use Rattle.world_laws.proofs.Locals.{locals_have_phases}
use Rattle.world_laws.proofs.Gathered.{gathered_is_the_book_at, gathered_stays}
use Rattle.report_lines.specs.declared.line.LineEnd.{LineEnd}
use Rattle.report_lines.specs.declared.line.LineEnd.TheVariants.{Pending, Unchecked, Delivered, Error}
use Rattle.report_lines.specs.declared.line.Line.{Line}
use Rattle.report_lines.specs.Lines.{made_of, calls_of, lines_at, is_error, any_error, IsJudged}
use Rattle.report_lines.specs.Phases.{CallMark, begun, mark_of, marks_after, operations_of, marks_of, HasMade}
use Rattle.report_lines.specs.Allotments.{phases_of}
use Rattle.report_lines.specs.Workers.{IsJudgedBy}
use Rattle.report_lines.specs.Working.{VerdictsStay, WorkersGoThrough, WorkersHalt, WorkersKeepToTheirAllotments, WorkersLeaveTheLines, WorkersAreLawful}
use Rattle.report_lines.proofs.Stepping.{length-marks_after}
use Rattle.report_lines.proofs.Lines.{caller_within}
use Rattle.report_lines.proofs.Worlds.{worlds_are_lawful}

pub verdicts_stay : VerdictsStay
verdicts_stay spec n l m Pending more h = tt
verdicts_stay spec n l m (Unchecked r) more h = tt
verdicts_stay spec n l m (Delivered r cut) more h =
    (h.0, gathered_stays n l m cut h.0 more h.1, h.2)
verdicts_stay spec n l m (Error r cut) more h =
    (h.0, gathered_stays n l m cut h.0 more h.1, h.2)

-- an error line among some lines is an error of them
any_at : (own : List Line) (k : ℕ) (line : Line) → slice_get own k ≡ Some line
    → is_error line ≡ true → any_error own ≡ true
any_at [] k line there error = absurd (none-some line there)
any_at (first ∷ own) zero line there error =
    ap (λ (b : Bool). b || any_error own) (ap is_error (same_Some first line there) ∙ error)
any_at (first ∷ own) (suc k) line there error =
    suffix (is_error first) (any_error own) (any_at own k line there error)
  where
    suffix : (a b : Bool) → b ≡ true → (a || b) ≡ true
    suffix true b e = refl
    suffix false b e = e

-- calls that are the same place by place are the same
same_calls : (lines : List (List Line)) (locals : List Local) → length lines ≡ length locals
    → ((i : ℕ) → i < length lines → map made_of (lines_at lines i) ≡ calls_in (local_at locals i))
    → calls_of lines ≡ map calls_in locals
same_calls [] [] long each = refl
same_calls [] (l ∷ locals) long each = absurd (omega (arith, long))
same_calls (own ∷ lines) [] long each = absurd (omega (arith, long))
same_calls (own ∷ lines) (l ∷ locals) long each =
    let first : map made_of own ≡ calls_in l = each 0 (omega arith) in
    let others =
    same_calls lines locals (omega (arith, long)) (λ i low. each (suc i) (omega (arith, low))) in
    cc

-- a verdict by a book that a caller gathered is one by the book of all locals
judged_from_gathered : (spec : SeqSpec) (s : Shape) (locals : List Local) (t : AreTogether s locals)
    (i : ℕ) → i < s.callers → (end : LineEnd) → IsJudgedBy spec s.callers (local_at locals i) end
    → IsJudged spec (book_in locals) end
judged_from_gathered spec s locals t i low Pending h = tt
judged_from_gathered spec s locals t i low (Unchecked r) h = tt
judged_from_gathered spec s locals t i low (Delivered r cut) h =
    subst (HasLegalOrder spec) (gathered_is_the_book_at s locals i cut h.0 t low h.1) h.2
judged_from_gathered spec s locals t i low (Error r cut) h =
    subst (λ (book : List Page). ¬ HasLegalOrder spec book)
    (gathered_is_the_book_at s locals i cut h.0 t low h.1) h.2

pub workers_leave_the_lines : WorkersLeaveTheLines
workers_leave_the_lines spec s operations allotments locals lines t have =
    let same : calls_of lines ≡ map calls_in locals =
    same_calls lines locals (have.callers ∙ sym (locals_have_phases s locals t).0)
    (λ i low. (have.worked i (omega (arith, low, have.callers))).calls) in
    record {
      calls = same;
      judged = λ call line there.
          let low : call.caller < s.callers =
          omega (arith, caller_within lines call line there, have.callers) in
          let own : List Line = lines_at lines call.caller in
          let each = (have.worked call.caller low).judged call.number line
          (slice_get_within own call.number line there) in
          let by : IsJudgedBy spec s.callers (local_at locals call.caller) line.end =
          subst (λ (l : Line). IsJudgedBy spec s.callers (local_at locals call.caller) l.end)
          (get_or_from_slice_get own call.number line line there) each in
          subst (λ (book : List Page). IsJudged spec book line.end) (sym (ap book_of same))
          (judged_from_gathered spec s locals t call.caller low line.end by);
    }

pub workers_keep_to_their_allotments : WorkersKeepToTheirAllotments
workers_keep_to_their_allotments spec n operations allotment l own h =
    let p : ℕ = phases_of allotment own in
    let marks : marks_of (map made_of own) ≡ marks_after p = ap marks_of h.calls ∙ h.made.marks in
    let long : begun p ≡ length own =
    omega (
      arith,
      ap (λ (ms : List CallMark). length ms) marks,
      length-marks_after p,
      length-map (map made_of own) (λ (c : Made). mark_of c.reached),
      length-map own made_of,
    ) in
    record {
      in_order =
          ap operations_of h.calls ∙ h.made.in_order ∙ ap (λ (n : ℕ). take n operations) long;
      marks = marks;
      keeps = h.keeps;
    }

-- lines without an error keep to every allotment
pub workers_go_through : WorkersGoThrough
workers_go_through spec n operations allotment l own calls none made judged =
    let phases : phases_of allotment own ≡ allotment =
    ap (λ (b : Bool). cond b (5 * length own) allotment) none in
    record {
      calls = calls;
      made = subst (λ (p : ℕ). HasMade operations p l) (sym phases) made;
      keeps = record {
        within = omega (arith, phases);
        last = λ k line there error. absurd (false≢true (sym none ∙ any_at own k line there error));
      };
      judged = judged;
    }

pub workers_halt : WorkersHalt
workers_halt spec n operations allotment l own line calls none error made few judged =
    let all : List Line = own ++ line ∷ [] in
    let some : any_error all ≡ true =
    any_at all (length own) line (slice_get-push_last own line) error in
    let long : length all ≡ length own + 1 = length_push own line in
    let phases : phases_of allotment all ≡ 5 * (length own + 1) =
    ap (λ (b : Bool). cond b (5 * length all) allotment) some ∙ omega (arith, long) in
    record {
      calls = calls;
      made = subst (λ (p : ℕ). HasMade operations p l) (sym phases) made;
      keeps = record {
        within = omega (arith, phases, few);
        last = λ k other there e. elim (slice_get-push_cases own line k other there) [
          | inl before ↦ absurd (false≢true (sym none ∙ any_at own k other before e))
          | inr at ↦ omega (arith, at.0, long)
        ];
      };
      judged = judged;
    }

pub workers_are_lawful : WorkersAreLawful
workers_are_lawful spec s operations allotments locals lines t have =
    worlds_are_lawful spec s operations allotments locals lines t
    (workers_leave_the_lines spec s operations allotments locals lines t have) (record {
      allotted = λ i low.
          workers_keep_to_their_allotments spec s.callers (slice_index_or operations i [])
          (slice_index allotments i) (local_at locals i) (lines_at lines i) (have.worked i low);
      made = λ i low. (have.worked i low).made;
    })
