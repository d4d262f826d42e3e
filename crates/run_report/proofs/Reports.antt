-- The lines of a lawful report can be those of a text.
use Rattle.std.proofs.Common.{◌≡◌, sym, subst, ap, refl, inl, inr, ℕ, zero, suc, ◌+◌, ◌<◌, ◌≤◌, ◌^◌, List, [], ◌∷◌, Some, length, map, take, slice_index, arith}
use Rattle.std.specs.Prelude.{IsSome}
use Rattle.std.specs.List.{All, AllByRecursion}
use Rattle.std.proofs.lemmas.List.Elements.{All-head, All-tail, recursion_from_All}
use Rattle.book_base.specs.SeqSpec.{SeqSpec}
use Rattle.reports.specs.declared.report.Own.{Own}
use Rattle.reports.specs.ReportLayout.{lines_in}
use Rattle.std.proofs.lemmas.Bool.{cases_lt}
use Rattle.std.proofs.lemmas.List.{length-map, length-take, get_or_past}
use Rattle.std.proofs.lemmas.Option.{none-some, same_Some}
use Rattle.book_base.specs.declared.call.Call.{Call}
use Rattle.book_base.specs.declared.call.Record.{Record}
use Rattle.book_base.specs.OperationWord.{IsOperationWord}
use Rattle.book_base.specs.Book.{record_of}
use Rattle.book_base.specs.Cut.{Holds}
use Rattle.world_core.specs.Shape.{Shape}
use Rattle.world_core.specs.Local.{Local}
use Rattle.world_core.specs.Calls.{AreTogether}
use Rattle.text_fields.specs.declared.version.Version.TheVariants.{Second}
use Rattle.text_fields.specs.Counts.{AreAtMost}
use Rattle.report_lines.specs.declared.line.Line.{Line}
use Rattle.report_lines.specs.declared.line.LineEnd.{LineEnd}
use Rattle.report_lines.specs.declared.line.LineEnd.TheVariants.{Pending, Unchecked, Delivered, Error}
use Rattle.report_lines.specs.Lines.{made_of, lines_at, line_at, book_of_lines, delivered_in, AreLinesOf}
use Rattle.report_lines.specs.Phases.{operations_of}
use Rattle.report_lines.specs.Allotments.{operations_at}
use Rattle.report_lines.specs.Lawful.{IsLawful}
use Rattle.report_lines.proofs.Fitting.{seen_cuts_are_in_the_book, lines_before_the_last_are_delivered}
use Rattle.run_report.proofs.Starts.{operations_within}
use Rattle.client_scripts.specs.Plans.{Plan, IsPlan}
use Rattle.reports.specs.Findings.{IsReport, sizes}
use Rattle.run_report.specs.Replies.{HasWord}

-- what holds of the lines of each caller holds of all
all_callers : (Holds : List Line → Type 0) (lines : List (List Line))
    → ((i : ℕ) → i < length lines → Holds (lines_at lines i)) → AllByRecursion Holds lines
all_callers Holds [] each = tt
all_callers Holds (own ∷ lines) each =
    (each 0 (omega arith), all_callers Holds lines (λ i low. each (suc i) (omega (arith, low))))

-- no caller has more lines than there may be
pub at_most : (most : ℕ) (lines : List (List Line))
    → ((i : ℕ) → i < length lines → length (lines_at lines i) ≤ most) → AreAtMost most (sizes lines)
at_most most [] each = tt
at_most most (own ∷ lines) each =
    (each 0 (omega arith), at_most most lines (λ i low. each (suc i) (omega (arith, low))))

words_at : (Is : ℕ → Type 0) (operations : List (List ℕ)) (i : ℕ)
    → AllByRecursion (AllByRecursion Is) operations → AllByRecursion Is (operations_at operations i)
words_at Is [] i h = tt
words_at Is (ops ∷ operations) zero h = h.0
words_at Is (ops ∷ operations) (suc i) h = words_at Is operations i h.1

all_taken : (Is : ℕ → Type 0) (n : ℕ) (xs : List ℕ) → AllByRecursion Is xs
    → AllByRecursion Is (take n xs)
all_taken Is zero xs h = tt
all_taken Is (suc n) [] h = tt
all_taken Is (suc n) (x ∷ xs) h = (h.0, all_taken Is n xs h.1)

all_lines : (Is : ℕ → Type 0) (own : List Line)
    → AllByRecursion Is (operations_of (map made_of own))
    → AllByRecursion (λ (line : Line). Is line.op) own
all_lines Is [] h = tt
all_lines Is (line ∷ own) h = (h.0, all_lines Is own h.1)

-- the replies of records are words where a line's own reply is one and those of the lines after it
-- are
reply_of : (line : Line) (own : List Line) (end : LineEnd) (k : ℕ) (r : Record) → HasWord end
    → ((m : ℕ) → record_of (book_of_lines (own ∷ [])) (record { caller = 0; number = m }) ≡ Some r
    → r.reply < 2 ^ 64)
    → record_of (book_of_lines ((record { op = line.op; end = end } ∷ own) ∷ []))
    (record { caller = 0; number = k }) ≡ Some r → r.reply < 2 ^ 64
reply_of line own Pending k r word suffix there = suffix k there
reply_of line own (Unchecked s) zero r word suffix there =
    subst (λ (q : Record). q.reply < 2 ^ 64) (same_Some s r there) word
reply_of line own (Unchecked s) (suc k) r word suffix there = suffix k there
reply_of line own (Delivered s cut) zero r word suffix there =
    subst (λ (q : Record). q.reply < 2 ^ 64) (same_Some s r there) word
reply_of line own (Delivered s cut) (suc k) r word suffix there = suffix k there
reply_of line own (Error s cut) zero r word suffix there =
    subst (λ (q : Record). q.reply < 2 ^ 64) (same_Some s r there) word
reply_of line own (Error s cut) (suc k) r word suffix there = suffix k there

-- a record of some lines has the reply of one of them
reply_among : (own : List Line) (k : ℕ) (r : Record)
    → AllByRecursion (λ (line : Line). HasWord line.end) own
    → record_of (book_of_lines (own ∷ [])) (record { caller = 0; number = k }) ≡ Some r
    → r.reply < 2 ^ 64
reply_among [] k r h there = absurd (none-some r there)
reply_among (line ∷ own) k r h there =
    reply_of line own line.end k r h.0 (λ m at. reply_among own m r h.1 at) there

replies_fit : (lines : List (List Line)) (caller number : ℕ) (r : Record)
    → AllByRecursion (AllByRecursion (λ (line : Line). HasWord line.end)) lines
    → record_of (book_of_lines lines) (record { caller = caller; number = number }) ≡ Some r
    → r.reply < 2 ^ 64
replies_fit [] caller number r h there = absurd (none-some r there)
replies_fit (own ∷ lines) zero number r h there = reply_among own number r h.0 there
replies_fit (own ∷ lines) (suc caller) number r h there =
    replies_fit lines caller number r h.1 there

pub words_of_all : (lines : List Own)
    → All (λ (own : Own). All (λ (line : Line). HasWord line.end) own.lines.items) lines
    → AllByRecursion (AllByRecursion (λ (line : Line). HasWord line.end)) (lines_in lines)
words_of_all [] h = tt
words_of_all (own ∷ lines) h =
    let each = λ (own : Own). All (λ (line : Line). HasWord line.end) own.lines.items in (
      recursion_from_All (λ (line : Line). HasWord line.end) own.lines.items
          (All-head each own lines h),
      words_of_all lines (All-tail each own lines h),
    )

-- after the last caller there are no lines
pub none_after : (lines : List (List Line)) (i : ℕ) → length lines ≤ i → lines_at lines i ≡ []
none_after lines i high = get_or_past lines i [] high

module _ (spec : SeqSpec) (s : Shape) (locals : List Local) (plan : Plan) (allotments : List ℕ)
    (lines : List (List Line)) (valid : IsPlan Second plan)
    (callers : s.callers ≡ length plan.operations) (together : AreTogether s locals)
    (of : AreLinesOf spec locals lines) (lawful : IsLawful spec s plan.operations allotments lines)
    (replies : AllByRecursion (AllByRecursion (λ (line : Line). HasWord line.end)) lines) where
  few : (i : ℕ) → i < length lines
      → length (lines_at lines i) ≤ length (operations_at plan.operations i)
  few i low =
      let own = lines_at lines i in
      let ops = operations_at plan.operations i in
      let in_order = (lawful.allotted i (omega (arith, low, lawful.callers))).in_order in
      omega (
        arith,
        sym (length-map (map made_of own) (λ c. c.operation)),
        length-map own made_of,
        ap (λ (l : List ℕ). length l) in_order,
        length-take (length own) ops,
      )

  words : (i : ℕ) → i < length lines
      → AllByRecursion (λ (line : Line). IsOperationWord line.op) (lines_at lines i)
  words i low =
      let own = lines_at lines i in
      let in_order = (lawful.allotted i (omega (arith, low, lawful.callers))).in_order in
      all_lines IsOperationWord own
      (subst (λ (l : List ℕ). AllByRecursion IsOperationWord l) (sym in_order)
      (all_taken IsOperationWord (length own) (operations_at plan.operations i)
      (words_at IsOperationWord plan.operations i valid.operations)))

  delivered : (call : Call) (line : Line) → line_at lines call ≡ Some line
      → call.number + 1 < length (lines_at lines call.caller) → IsSome (delivered_in line.end)
  delivered call line there low =
      elim (cases_lt call.caller (length lines)) [
        | inl within ↦
            let full =
            lines_before_the_last_are_delivered (operations_at plan.operations call.caller)
            (slice_index allotments call.caller) (lines_at lines call.caller) call.number line
            (lawful.allotted call.caller (omega (arith, within, lawful.callers))) there low in
            subst (λ (e : LineEnd). IsSome (delivered_in e)) (sym full.2) refl
        | inr suffix ↦ absurd (omega
            (arith, low, ap (λ (l : List Line). length l) (none_after lines call.caller suffix)))
      ]

  pub is_report : IsReport (record { kind = plan.kind; lines = lines })
  is_report = record {
    some = omega (arith, valid.some, callers, lawful.callers);
    callers = omega (arith, valid.callers, callers, lawful.callers);
    calls = at_most _ lines
        (λ i low. omega (arith, few i low, operations_within _ plan.operations i valid.calls));
    operations =
        all_callers (AllByRecursion (λ (line : Line). IsOperationWord line.op)) lines words;
    replies = λ call r there. replies_fit lines call.caller call.number r replies there;
    valid = lawful.valid;
    seen = record {
      wide = lawful.seen.wide;
      within = λ call cut there.
          seen_cuts_are_in_the_book spec s locals lines call cut together of there;
      own = λ call cut there. omega (arith, lawful.seen.own call cut there);
    };
    delivered = delivered;
  }
