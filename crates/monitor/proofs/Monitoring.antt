-- What the callers of a plan leave whose calls nobody judged, and what the two monitors leave.
use Rattle.std.proofs.Common.{◌≡◌, ◌∙◌, refl, sym, ap, ap₂, subst, inl, inr, ℕ, zero, suc, ◌+◌, ◌<◌, ◌≤◌, ◌⊎◌, ◌%◌, ◌/◌, Bool, true, false, List, [], ◌∷◌, ◌++◌, length, map, take, drop, replicate, slice_get, slice_index, sum_by, ◌*◌, Some, arith}
use Rattle.std.specs.Prelude.{Option, IfSome, IsSome}
use Rattle.std.specs.List.{range_with_len}
use Rattle.std.proofs.lemmas.List.FromFn.{length-range_with_len}
use Rattle.std.proofs.lemmas.Bool.{cases_lt, false≢true}
use Rattle.std.proofs.lemmas.List.{length-map, length-take, length-append, get_or-map}
use Rattle.std.proofs.lemmas.List.Sums.{sum_by-cons, sum_by-take-le}
use Rattle.std.proofs.lemmas.Option.{none-some, same_Some, slice_get_within}
use Rattle.book_base.specs.declared.TheConstants.{MAX_CALLS}
use Rattle.book_base.specs.SeqSpec.{SeqSpec}
use Rattle.book_base.specs.Cut.{IsWithin}
use Rattle.book_base.specs.Book.{Page, IsValid, answered}
use Rattle.book_base.specs.Order.{HasLegalOrder}
use Rattle.world_core.specs.Shape.{Meaning}
use Rattle.world_core.specs.Local.{Local, fresh}
use Rattle.world_core.specs.Calls.{Reached, Is_announced, Has_record, Has_seen, Made, AreTogether, page_with, calls_in, book_in, local_at}
use Rattle.world_laws.proofs.Validity.{books_are_valid}
use Rattle.report_lines.specs.declared.line.LineEnd.{LineEnd}
use Rattle.report_lines.specs.declared.line.Line.{Line}
use Rattle.report_lines.specs.Lines.{any_error, book_of_lines, lines_at}
use Rattle.report_lines.specs.Phases.{CallMark, Seen, Progress, HasMade, mark_of, mark_under_way, marks_of, marks_after, published_by, progress_of}
use Rattle.report_lines.specs.Allotments.{operations_at, stop_at, phases_for}
use Rattle.report_lines.proofs.Stepping.{length-marks_after}
use Rattle.row_table.specs.declared.rows.Rows.{Rows}
use Rattle.row_table.specs.declared.bench.Bench.{Bench}
use Rattle.row_table.specs.declared.stance.Stance.{Stance}
use Rattle.row_table.specs.Callers.{shape_of, locals_on, on_bench, IsBenchOf, Holds}
use Rattle.row_table.proofs.Parting.{whole_is_together}
use Rattle.client_scripts.specs.Plans.{Plan, IsPlan, sizes}
use Rattle.text_fields.specs.Counts.{AreAtMost}
use Rattle.text_fields.specs.declared.version.Version.TheVariants.{Second}
use Rattle.reports.specs.declared.report.Own.{Own}
use Rattle.reports.specs.ReportLayout.{lines_in}
use Rattle.reports.specs.Filling.{answer_in, AreOfABook}
use Rattle.reports.proofs.Filling.{length-book}
use Rattle.client_calls.specs.Asking.{Fits, PassCount}
use Rattle.client_calls.specs.Ends.{silent, SaysDeferred, EndsAs, AreLinesOfCalls}
use Rattle.run_report.specs.Places.{AreInOrder}
use Rattle.run_report.specs.Starts.{run_allotments, course_of, IsUnused, MayBegin}
use Rattle.run_report.specs.Returns.{IsCountOf, AreBack, IsBackOn, HaveReturned}
use Rattle.std.proofs.lemmas.Slice.Zip.{AllZip-long}
use Rattle.run_report.proofs.Workers.{the_local, lines_here}
use Rattle.run_report.proofs.Reports.{at_most, none_after}
use Rattle.monitor.specs.declared.witness.Witness.{Witness}
use Rattle.monitor.specs.declared.beside.Left.{Left}
use Rattle.monitor.specs.Rounds.{HasMadeRounds, HasRounds}
use Rattle.monitor.specs.Worlds.{published_of, published_book}
use Rattle.monitor.proofs.Judged.{rounds_are_judged, short_rounds_are_rounds, own_is_a_witness}
use Rattle.monitor.specs.Deferred.{HavePage, HasDeferred, HavePages}
use Rattle.monitor.specs.Published.{IsJudgedAt, IsExactAnswer}
use Rattle.monitor.specs.Monitoring.{published_for, with_monitors, most_rounds, IsMonitor, HaveMadeAll, AreFreeAgain, IsCountedAll, HasMonitored, HasMadeSome, HaveMonitored, HasWatched}
use Rattle.monitor.proofs.Deferred.{no_errors, deferring_clients_make_all, lines_are_the_book}
use Rattle.monitor.proofs.Returning.{each_monitor, begins_unused}
use Rattle.monitor.proofs.AllPublished.{published_records_are_in_the_book, answers_are_exact}

-- a caller without lines at the end of a list changes no caller's lines
none_more : (lines : List (List Line)) (i : ℕ) → lines_at (lines ++ [] ∷ []) i ≡ lines_at lines i
none_more [] zero = refl
none_more [] (suc i) = refl
none_more (own ∷ lines) zero = refl
none_more (own ∷ lines) (suc i) = none_more lines i

two_more : (lines : List (List Line)) (i : ℕ) → lines_at (with_monitors lines) i ≡ lines_at lines i
two_more lines i = none_more (lines ++ [] ∷ []) i ∙ none_more lines i

-- the line of a call with a seen cut has its record
recorded : (object : SeqSpec) (n : ℕ) (l : Local) (reached : Reached) (end : LineEnd)
    → EndsAs (SaysDeferred object n l) reached end → mark_of reached ≡ Seen → IsSome (answer_in end)
recorded object n l Is_announced end h e = absurd cc
recorded object n l (Has_record r) end h e = absurd cc
recorded object n l (Has_seen r cut) end h e =
    subst (λ (x : LineEnd). IsSome (answer_in x)) (sym h) refl

-- the lines of the first calls have their records
answered_to : (object : SeqSpec) (n : ℕ) (l : Local) (calls : List Made) (own : List Line) (m : ℕ)
    (rest : List CallMark) → AreLinesOfCalls (SaysDeferred object n l) calls own
    → marks_of calls ≡ replicate m Seen ++ rest → (k : ℕ) (line : Line)
    → slice_get own k ≡ Some line → k < m → IsSome (answer_in line.end)
answered_to object n l calls [] m rest h e k line there low = absurd (none-some line there)
answered_to object n l [] (x ∷ own) m rest h e k line there low = absurd h
answered_to object n l (c ∷ calls) (x ∷ own) zero rest h e k line there low =
    absurd (omega (arith, low))
answered_to object n l (c ∷ calls) (x ∷ own) (suc m) rest h e zero line there low =
    subst (λ (y : Line). IsSome (answer_in y.end)) (same_Some x line there)
    (recorded object n l c.reached x.end h.0.end
    (same_Some (mark_of c.reached) Seen (ap (λ (ms : List CallMark). slice_get ms 0) e)))
answered_to object n l (c ∷ calls) (x ∷ own) (suc m) rest h e (suc k) line there low =
    answered_to object n l calls own m rest h.1
    (ap (λ (ms : List CallMark). drop 1 ms) e) k line there
    (omega (arith, low))

-- each line but the last has its record
all_but_last : (object : SeqSpec) (n : ℕ) (operations : List ℕ) (p : ℕ) (l : Local)
    (own : List Line) → AreLinesOfCalls (SaysDeferred object n l) (calls_in l) own
    → HasMade operations p l → (k : ℕ) (line : Line) → slice_get own k ≡ Some line
    → k + 1 < length own → IsSome (answer_in line.end)
all_but_last object n operations p l own lines made k line there low =
    let long : length own ≡ length (marks_after p) =
    AllZip-long _ (calls_in l) own lines
    ∙ sym (length-map (calls_in l) (λ (c : Made). mark_of c.reached))
    ∙ ap (λ (ms : List CallMark). length ms) made.marks in
    answered_to object n l (calls_in l) own (p / 5) (mark_under_way (p % 5)) lines made.marks k line
    there (omega (arith, low, long, length-marks_after p))

-- there are no more lines than operations
no_more_lines : (object : SeqSpec) (n : ℕ) (operations : List ℕ) (p : ℕ) (l : Local)
    (own : List Line) → AreLinesOfCalls (SaysDeferred object n l) (calls_in l) own
    → HasMade operations p l → length own ≤ length operations
no_more_lines object n operations p l own lines made =
    omega (
      arith,
      AllZip-long _ (calls_in l) own lines,
      sym (length-map (calls_in l) (λ (c : Made). c.operation)),
      ap (λ (os : List ℕ). length os) made.in_order,
      length-take ((p + 4) / 5) operations,
    )

-- counts for callers with these allotments, and none for two more
same_counts : (counts allotments : List ℕ) → length counts ≡ length allotments + 2
    → ((i : ℕ) → i < length allotments
    → slice_index counts i ≡ published_by (slice_index allotments i))
    → ((i : ℕ) → length allotments ≤ i → i < length allotments + 2 → slice_index counts i ≡ 0)
    → counts ≡ map published_by allotments ++ 0 ∷ 0 ∷ []
same_counts [] allotments long made none = absurd (omega (arith, long))
same_counts (x ∷ []) [] long made none = absurd (omega (arith, long))
same_counts (x ∷ y ∷ []) [] long made none = ap₂ (λ (a b : ℕ). a ∷ b ∷ [])
    (none 0 (omega arith) (omega arith)) (none 1 (omega arith) (omega arith))
same_counts (x ∷ y ∷ z ∷ counts) [] long made none = absurd (omega (arith, long))
same_counts (x ∷ counts) (a ∷ allotments) long made none =
    ap₂ (λ (n : ℕ) (ns : List ℕ). n ∷ ns) (made 0 (omega arith))
    (same_counts counts allotments (omega (arith, long))
    (λ i low. made (suc i) (omega (arith, low)))
    (λ i high low. none (suc i) (omega (arith, high)) (omega (arith, low))))

-- there is an allotment for each caller of a plan
pub allotments_long : (plan : Plan) → length (run_allotments plan) ≡ length plan.operations
allotments_long plan =
    length-map (range_with_len 0 (length plan.operations))
    (λ i. phases_for (stop_at plan.stops i) (length (operations_at plan.operations i)))
    ∙ length-range_with_len 0 (length plan.operations)

pub published_long : (plan : Plan) → length (published_for plan) ≡ length plan.operations + 2
published_long plan = omega (
  arith,
  length-append (map published_by (run_allotments plan)) (0 ∷ 0 ∷ []),
  length-map (run_allotments plan) published_by,
  allotments_long plan,
)

-- the book of all callers' lines has two pages more
pub book_with_monitors : (lines : List (List Line))
    → length (book_of_lines (with_monitors lines)) ≡ length lines + 2
book_with_monitors lines = omega (
  arith,
  length-book (with_monitors lines),
  length-append (lines ++ [] ∷ []) ([] ∷ []),
  length-append lines ([] ∷ []),
)

-- counts that were set for each caller of a plan
pub counts_are : (plan : Plan) (counts : List ℕ) → length counts ≡ length plan.operations + 2
    → ((i : ℕ) → i < length plan.operations
    → slice_index counts i ≡ published_by (slice_index (run_allotments plan) i))
    → ((i : ℕ) → length plan.operations ≤ i → slice_index counts i ≡ 0)
    → counts ≡ published_for plan
counts_are plan counts long made none =
    same_counts counts (run_allotments plan) (omega (arith, long, allotments_long plan))
    (λ i low. made i (omega (arith, low, allotments_long plan)))
    (λ i high low. none i (omega (arith, high, allotments_long plan)))

-- no plan has more calls than there may be
few_calls : (operations : List (List ℕ)) → AreAtMost 256 (sizes operations)
    → sum_by length operations ≤ 256 * length operations
few_calls [] h = omega arith
few_calls (ops ∷ operations) h =
    omega (arith, sum_by-cons length ops operations, h.0, few_calls operations h.1)

pub calls_fit : (plan : Plan) (i calls : ℕ) → IsPlan Second plan
    → calls ≡ sum_by length (take i plan.operations) → calls ≤ 4096
calls_fit plan i calls valid so_far = omega (
  arith,
  so_far,
  sum_by-take-le length plan.operations i,
  few_calls plan.operations valid.calls,
  valid.callers,
)

-- a monitor that lacked no memory has made its rounds, and so has one with an own witness
all_rounds : (spec : SeqSpec) (n : ℕ) (wanted : Bool) (most : ℕ) (l m : Local)
    (own : Option Witness) → wanted ≡ false → HasRounds spec n wanted most l m own
    → HasMadeRounds spec n most l m own
all_rounds spec n false most l m own none h = h
all_rounds spec n true most l m own none h = absurd (false≢true (sym none))

found_rounds : (spec : SeqSpec) (n : ℕ) (wanted : Bool) (most : ℕ) (l m : Local) (w : Witness)
    → HasRounds spec n wanted most l m (Some w) → HasMadeRounds spec n most l m (Some w)
found_rounds spec n false most l m w h = h
found_rounds spec n true most l m w h = absurd (none-some w (sym h.1))

-- a run with monitors has returned once the plan's callers are back and no monitor has made a call
pub returned_beside : {P T : Type 0} (meaning : P → ℕ → ℕ → Meaning) (r : Rows P) (fit : Fits T)
    (count : T → Option PassCount) (plan : Plan) (first b : Bench P) (passes : List T)
    → MayBegin meaning plan 2 r first → IsBenchOf meaning r b
    → length passes ≡ length plan.operations → ((i : ℕ) → i < length plan.operations
    → IsBackOn meaning r fit count plan.operations (run_allotments plan) b passes i)
    → ((i : ℕ) → IsMonitor plan i → IsUnused b i)
    → HaveReturned meaning r fit count plan (run_allotments plan) b passes
returned_beside meaning r fit count plan first b passes begins bench all back unused = record {
  bench = (
    bench,
    λ i low. elim (cases_lt i (length plan.operations)) [
      | inl within ↦ let h = back i within in (h.local, h.here)
      | inr after ↦ let h = unused i
          (record { after = after; before = omega (arith, low, bench.callers, begins.callers) }) in
          (h.local, h.here)
    ],
  );
  all_passes = all;
  back = back;
}

module _ {P T : Type 0} (meaning : P → ℕ → ℕ → Meaning) (r : Rows P) (first b : Bench P)
    (plan : Plan) (fit : Fits T) (count : T → Option PassCount) (passes : List T) (items : List Own)
    (begins : MayBegin meaning plan 2 r first) (bench : IsBenchOf meaning r b)
    (back : AreBack meaning r SaysDeferred fit count (length plan.operations)
    (length plan.operations) (course_of plan (run_allotments plan) silent) b passes
    (lines_in items) false)
    (all_lines : length items ≡ length plan.operations)
    (unused : (i : ℕ) → IsMonitor plan i → IsUnused b i) where
  abbrev lines : List (List Line)
  lines = lines_in items

  long : length lines ≡ length plan.operations
  long = omega (arith, all_lines, length-map items (λ (o : Own). o.lines.items))

  abbrev n : ℕ
  n = length plan.operations

  abbrev locals : List Local
  locals = locals_on b

  holds : (i : ℕ) → i < r.callers → Holds b i
  holds i low =
      elim (cases_lt i n) [
        | inl within ↦ let h = back.back i within in (h.on.local, h.on.here)
        | inr after ↦ let h =
            unused i (record { after = after; before = omega (arith, low, begins.callers) }) in
            (h.local, h.here)
      ]

  together : AreTogether (shape_of meaning r) locals
  together = whole_is_together (shape_of meaning r) b.seat.me.0 bench.wide holds bench.together

  as_many : length locals ≡ n + 2
  as_many = length-map b.seat.me.0 _ ∙ bench.wide ∙ begins.callers

  local_is : (i : ℕ) (l : Local) → on_bench b i ≡ Some l → local_at locals i ≡ l
  local_is i l here = the_local b.seat.me.0 i l here

  own_is : (i : ℕ) (low : i < n) → lines_at lines i ≡ (back.back i low).own
  own_is i low = lines_here lines i (back.back i low).own (back.back i low).lines_here

  -- what a caller of the plan has left: all phases of its allotment, and its page
  deferred : (i : ℕ) (low : i < n)
      → HasDeferred (operations_at plan.operations i) (slice_index (run_allotments plan) i)
      (back.back i low).on.phases (back.back i low).on.local (back.back i low).own
  deferred i low =
      let h = back.back i low in
      deferring_clients_make_all silent r.callers (operations_at plan.operations i)
      (slice_index (run_allotments plan) i) h.on.phases h.on.local h.own (h.left refl)

  pub made_all : HaveMadeAll plan locals
  made_all = record {
    callers = as_many;
    made = λ i low.
        let h = back.back i low in
        subst (λ (l : Local).
        HasMade (operations_at plan.operations i) (slice_index (run_allotments plan) i) l)
        (sym (local_is i h.on.local h.on.here)) (deferred i low).made;
    none = λ i one. let h = unused i one in ap progress_of (local_is i h.local h.here) ∙ h.none;
  }

  pub free_again : AreFreeAgain plan b
  free_again i low between =
      let h = back.back i low in
      let fine : any_error h.own ≡ false =
      no_errors silent r.callers h.on.local (calls_in h.on.local) h.own (h.left refl).left.lines in
      let whole : h.on.phases % 5 ≡ 0 = ap (λ (p : ℕ). p % 5) (deferred i low).all ∙ between in
      h.on.stands.here ∙ ap (λ (s : Stance). Some s) (h.free refl fine whole)

  pub counted_all : length passes ≡ n → AreInOrder (IsCountedAll count plan locals) passes
  counted_all all i pass there =
      let low : i < n = omega (arith, all, slice_get_within passes i pass there) in
      let h = back.back i low in
      let mine : h.on.pass ≡ pass = same_Some h.on.pass pass (sym h.on.pass_here ∙ there) in
      subst (λ (l : Local). IfSome (count pass) (IsCountOf (slice_index (run_allotments plan) i) l))
      (sym (local_is i h.on.local h.on.here))
      (subst (λ (p : ℕ). IfSome (count pass) (IsCountOf p h.on.local)) (deferred i low).all
      (subst (λ (x : T). IfSome (count x) (IsCountOf h.on.phases h.on.local)) mine
      h.on.back.counts))

  pages : HavePages locals (with_monitors lines)
  pages = record {
    as_many = omega (
      arith,
      length-append (lines ++ [] ∷ []) ([] ∷ []),
      length-append lines ([] ∷ []),
      long,
      as_many,
    );
    pages = λ i within.
        subst (λ (own : List Line). HavePage own (local_at locals i)) (sym (two_more lines i))
        (elim (cases_lt i n) [
          | inl low ↦
              let h = back.back i low in
              subst (λ (own : List Line). HavePage own (local_at locals i)) (sym (own_is i low))
              (subst (λ (l : Local). HavePage h.own l) (sym (local_is i h.on.local h.on.here))
              (deferred i low).page)
          | inr after ↦
              let before : i < n + 2 = omega (
                arith,
                within,
                length-append (lines ++ [] ∷ []) ([] ∷ []),
                length-append lines ([] ∷ []),
                long,
              ) in
              let h = unused i (record { after = after; before = before }) in
              let none : calls_in (local_at locals i) ≡ [] = ap (λ (l : Local). calls_in l)
              (local_is i h.local h.here) ∙ ap (λ (p : Progress). p.calls) h.none in
              subst (λ (own : List Line). HavePage own (local_at locals i))
              (sym (none_after lines i (omega (arith, after, long)))) (ap page_with (sym none))
        ]);
  }

  is_the_book : book_of_lines (with_monitors lines) ≡ book_in locals
  is_the_book = lines_are_the_book locals (with_monitors lines) pages

  few_lines : (i : ℕ) → i < length (with_monitors lines)
      → length (lines_at (with_monitors lines) i) ≤ MAX_CALLS
  few_lines i within =
      elim (cases_lt i n) [
        | inl low ↦
            let h = back.back i low in
            let no_more = no_more_lines silent r.callers (operations_at plan.operations i)
            (slice_index (run_allotments plan) i) h.on.local h.own (h.left refl).left.lines
            (deferred i low).made in
            omega (
              arith,
              ap (λ (own : List Line). length own) (two_more lines i ∙ own_is i low),
              no_more,
              begins.starts.rows_for.cap i,
              r.few.3,
            )
        | inr after ↦ omega (
          arith,
          ap (λ (own : List Line). length own)
              (two_more lines i ∙ none_after lines i (omega (arith, after, long))),
        )
      ]

  pub of_a_book : AreOfABook (with_monitors lines)
  of_a_book = record {
    some = omega (arith, pages.as_many, as_many);
    callers = omega (arith, pages.as_many, as_many, begins.callers, r.few.1);
    calls = at_most MAX_CALLS (with_monitors lines) few_lines;
    answered = λ call line there low.
        let own_there : slice_get (lines_at lines call.caller) call.number ≡ Some line =
        ap (λ (own : List Line). slice_get own call.number) (sym (two_more lines call.caller))
        ∙ there in
        let own_low : call.number + 1 < length (lines_at lines call.caller) =
        omega (arith, low, ap (λ (own : List Line). length own) (two_more lines call.caller)) in
        elim (cases_lt call.caller n) [
          | inl within ↦
              let h = back.back call.caller within in
              all_but_last silent r.callers (operations_at plan.operations call.caller)
              (slice_index (run_allotments plan) call.caller) h.on.local h.own
              (h.left refl).left.lines (deferred call.caller within).made
              call.number line (ap (λ (own : List Line). slice_get own call.number)
              (sym (own_is call.caller within)) ∙ own_there)
              (omega
              (arith, own_low, ap (λ (own : List Line). length own) (own_is call.caller within)))
          | inr after ↦ absurd (omega (
            arith,
            own_low,
            ap (λ (own : List Line). length own)
                (none_after lines call.caller (omega (arith, after, long))),
          ))
        ];
    valid = subst IsValid (sym is_the_book) (books_are_valid (shape_of meaning r) locals together);
  }

  all_published : published_of locals ≡ published_for plan
  all_published =
      let counts : List ℕ = published_of locals in
      let long : length counts ≡ length plan.operations + 2 =
      length-map locals (λ (l : Local). l.published) ∙ as_many in
      let count_is : (i : ℕ) → i < length locals
      → slice_index counts i ≡ (local_at locals i).published =
      λ i low. get_or-map (λ (l : Local). l.published) locals i fresh 0 low in
      same_counts counts (run_allotments plan) (omega (arith, long, allotments_long plan))
      (λ i low. count_is i (omega (arith, low, as_many, allotments_long plan))
      ∙ (made_all.made i (omega (arith, low, allotments_long plan))).published)
      (λ i high low.
      count_is i (omega (arith, low, as_many, allotments_long plan))
      ∙ ap (λ (p : Progress). p.published) (made_all.none i (record {
        after = omega (arith, high, allotments_long plan);
        before = omega (arith, low, allotments_long plan);
      })))

  pub within_the_book : IsWithin (published_for plan)
      (answered (book_of_lines (with_monitors lines)))
  within_the_book =
      subst (λ (book : List Page). IsWithin (published_for plan) (answered book)) (sym is_the_book)
      (subst (λ (cut : List ℕ). IsWithin cut (answered (book_in locals))) all_published
      (published_records_are_in_the_book (shape_of meaning r) locals together).1)

  module _ (spec : SeqSpec) where
    pub judged : (answer : Option Witness)
        → IsJudgedAt spec (book_of_lines (with_monitors lines)) (published_for plan) answer
        → IsExactAnswer spec locals answer
    judged answer h =
        (answers_are_exact spec (shape_of meaning r) locals answer together).1
        (subst (λ (cut : List ℕ). IsJudgedAt spec (book_in locals) cut answer)
        (sym all_published)
        (subst (λ (book : List Page). IsJudgedAt spec book (published_for plan) answer)
        is_the_book h))

    rounds_on : (i most : ℕ) (before : Local) (left : Left)
        → HasWatched spec r.callers b i before most left
        → HasRounds spec r.callers left.wants_memory most before (local_at locals i) left.own
    rounds_on i most before left h =
        subst (λ (l : Local). HasRounds spec r.callers left.wants_memory most before l left.own)
        (sym (local_is i h.local h.here)) h.rounds

    monitored : (i : ℕ) (before : Local) (own : Option Witness) → IsMonitor plan i
        → HasMadeRounds spec r.callers (most_rounds plan) before (local_at locals i) own
        → HasMonitored spec plan locals i before
    monitored i before own one h =
        rounds_are_judged spec (shape_of meaning r) locals i
        (most_rounds plan) before own together (omega (arith, one.before, begins.callers)) h

    made_some : (i : ℕ) (before : Local) (wanted : Bool) (own : Option Witness) → IsMonitor plan i
        → HasRounds spec r.callers wanted (most_rounds plan) before (local_at locals i) own
        → HasMadeSome spec plan locals i before
    made_some i before false own one h =
        let (rounds, cuts, judged) = monitored i before own one h in (rounds, cuts, judged.over)
    made_some i before true own one h =
        short_rounds_are_rounds spec (shape_of meaning r) locals i
        (most_rounds plan) before together (omega (arith, one.before, begins.callers)) h.0

    found : (i most : ℕ) (before : Local) (w : Witness) → IsMonitor plan i
        → HasMadeRounds spec r.callers most before (local_at locals i) (Some w)
        → IsExactAnswer spec locals (Some w)
    found i most before w one h =
        (answers_are_exact spec (shape_of meaning r) locals (Some w) together).0
        (own_is_a_witness spec (shape_of meaning r) locals i most before w together
        (omega (arith, one.before, begins.callers)) h)

    first_monitor : IsMonitor plan n
    first_monitor = record { after = omega arith; before = omega arith }

    second_monitor : IsMonitor plan (n + 1)
    second_monitor = record { after = omega arith; before = omega arith }

    -- What the two monitors leave, which were on the first bench and then watched.
    module _ (most : ℕ) (same : most ≡ most_rounds plan) (one other : Left)
        (back_one : (l : Local) → on_bench first n ≡ Some l
        → HasWatched spec r.callers b n l most one)
        (back_other : (l : Local) → on_bench first (n + 1) ≡ Some l
        → HasWatched spec r.callers b (n + 1) l most other) where
      watched : (l : Local) → on_bench first n ≡ Some l
          → HasWatched spec r.callers b n l (most_rounds plan) one
      watched l here =
          subst (λ (m : ℕ). HasWatched spec r.callers b n l m one) same (back_one l here)

      watched_too : (l : Local) → on_bench first (n + 1) ≡ Some l
          → HasWatched spec r.callers b (n + 1) l (most_rounds plan) other
      watched_too l here =
          subst (λ (m : ℕ). HasWatched spec r.callers b (n + 1) l m other) same (back_other l here)

      each_made : (i : ℕ) (l : Local) → IsMonitor plan i → on_bench first i ≡ Some l
          → HasMadeSome spec plan locals i l
      each_made i before monitor there =
          each_monitor (λ k. (l : Local) → on_bench first k ≡ Some l
          → HasMadeSome spec plan locals k l) plan
          (λ l here. made_some n l one.wants_memory one.own first_monitor
          (rounds_on n (most_rounds plan) l one (watched l here)))
          (λ l here. made_some (n + 1) l other.wants_memory other.own second_monitor
          (rounds_on (n + 1) (most_rounds plan) l other (watched_too l here)))
          i monitor before there

      -- neither monitor lacked memory
      pub all_monitored : one.wants_memory ≡ false → other.wants_memory ≡ false
          → HaveMonitored spec plan first locals
      all_monitored none none_too =
          let ends : (l : Local) → on_bench first n ≡ Some l → HasMonitored spec plan locals n l =
          λ l here. monitored n l one.own first_monitor
          (all_rounds spec r.callers one.wants_memory (most_rounds plan) l (local_at locals n)
          one.own none (rounds_on n (most_rounds plan) l one (watched l here))) in
          record {
            each = each_made;
            ended = n;
            one = first_monitor;
            ends = ends;
            legal = λ legal i before monitor there.
                each_monitor (λ k. (l : Local) → on_bench first k ≡ Some l
                → HasMonitored spec plan locals k l) plan ends
                (λ l here. monitored (n + 1) l other.own second_monitor
                (all_rounds spec r.callers other.wants_memory (most_rounds plan) l
                (local_at locals (n + 1)) other.own none_too
                (rounds_on (n + 1) (most_rounds plan) l other (watched_too l here))))
                i monitor before there;
          }

      -- the rounds of the first monitor, and of the second, where it found this witness
      found_first : (w : Witness) → one.own ≡ Some w → (l : Local) → on_bench first n ≡ Some l
          → HasMadeRounds spec r.callers (most_rounds plan) l (local_at locals n) (Some w)
      found_first w is l here =
          found_rounds spec r.callers one.wants_memory (most_rounds plan) l (local_at locals n) w
          (subst (λ (own : Option Witness). HasRounds spec r.callers one.wants_memory
          (most_rounds plan) l (local_at locals n) own) is
          (rounds_on n (most_rounds plan) l one (watched l here)))

      found_second : (w : Witness) → other.own ≡ Some w → (l : Local)
          → on_bench first (n + 1) ≡ Some l
          → HasMadeRounds spec r.callers (most_rounds plan) l (local_at locals (n + 1)) (Some w)
      found_second w is l here =
          found_rounds spec r.callers other.wants_memory (most_rounds plan) l
          (local_at locals (n + 1)) w
          (subst (λ (own : Option Witness). HasRounds spec r.callers other.wants_memory
          (most_rounds plan) l (local_at locals (n + 1)) own) is
          (rounds_on (n + 1) (most_rounds plan) l other (watched_too l here)))

      pub found_by : (w : Witness) → (one.own ≡ Some w) ⊎ (other.own ≡ Some w)
          → IsExactAnswer spec locals (Some w)
      found_by w by =
          elim by [
            | inl is ↦
                let was = begins_unused meaning plan r first begins n first_monitor in
                found n (most_rounds plan) was.local w first_monitor
                (found_first w is was.local was.here)
            | inr is ↦
                let was = begins_unused meaning plan r first begins (n + 1) second_monitor in
                found (n + 1) (most_rounds plan) was.local w second_monitor
                (found_second w is was.local was.here)
          ]

      -- a monitor has a witness, and the other one may have lacked memory
      pub found_monitored : (w : Witness) → (one.own ≡ Some w) ⊎ (other.own ≡ Some w)
          → HaveMonitored spec plan first locals
      found_monitored w by =
          let never : HasLegalOrder spec (published_book locals) → ⊥ =
          λ legal. none-some w (sym ((found_by w by).exact.1 legal)) in
          elim by [
            | inl is ↦ record {
              each = each_made;
              ended = n;
              one = first_monitor;
              ends = λ l here. monitored n l (Some w) first_monitor (found_first w is l here);
              legal = λ legal. absurd (never legal);
            }
            | inr is ↦ record {
              each = each_made;
              ended = n + 1;
              one = second_monitor;
              ends = λ l here.
                  monitored (n + 1) l (Some w) second_monitor (found_second w is l here);
              legal = λ legal. absurd (never legal);
            }
          ]
