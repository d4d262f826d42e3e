-- What is written of a report is read as that report.
use Rattle.std.proofs.Common.{◌≡◌, ℕ, zero, suc, ◌+◌, ◌<◌, ◌≤◌, List, [], ◌∷◌, ◌++◌, length, get_or, slice_get, take, Option, Some, None, refl, sym, ap, subst, ◌∙◌, append_assoc, arith, inl, inr}
use Rattle.std.specs.Prelude.{IsSome, sum}
use Rattle.std.specs.List.{AllByRecursion, flat_map}
use Rattle.std.proofs.lemmas.Bool.{cases_lt}
use Rattle.std.proofs.lemmas.Option.{same_Some, slice_get_within}
use Rattle.std.proofs.lemmas.List.{append-nil, length-append, length-map, length-set, map-append, take_at}
use Rattle.std.proofs.lemmas.List.Concat.{flat_map-cons, flat_map-append}
use Rattle.book_base.specs.declared.call.Call.{Call}
use Rattle.book_base.specs.declared.call.Record.{Record}
use Rattle.book_base.specs.OperationWord.{IsOperationWord}
use Rattle.book_base.specs.Book.{Page, page_of, calls_of, answers_of, record_of, with_answer}
use Rattle.book_base.specs.Refusal.{MayAnswer}
use Rattle.book_base.proofs.GrowthLemmas.{below_calls, within_announced, records-with_operation, record_of-with_answer_new}
use Rattle.book_base.proofs.ViewLemmas.{answered_at}
use Rattle.seq_objects.specs.declared.kind.Kind.{Kind}
use Rattle.text_fields.specs.declared.TheConstants.{TEXT_CALLS}
use Rattle.text_fields.specs.Lines.{text_of, by_number}
use Rattle.text_fields.specs.Counts.{AreAtMost}
use Rattle.text_fields.specs.Head.{TitleDue, ObjectDue, CallersDue, CountsDue, HeadRead}
use Rattle.text_fields.specs.Faults.{AllPass}
use Rattle.text_fields.proofs.Sharp.{AllPass-append}
use Rattle.book_text.specs.CallLines.{calls_from, all_calls, with_line}
use Rattle.book_text.specs.Grammar.{end_words}
use Rattle.book_text.proofs.WrittenTexts.{numbers_from_places}
use Rattle.client_scripts.specs.ScriptRules.{grouped}
use Rattle.report_lines.specs.declared.line.LineEnd.{LineEnd}
use Rattle.report_lines.specs.declared.line.LineEnd.TheVariants.{Pending, Unchecked, Delivered, Error}
use Rattle.report_lines.specs.declared.line.Line.{Line}
use Rattle.report_lines.specs.Lines.{book_of_lines, lines_at, line_at, reached_of, seen_in, seen_at, delivered_in}
use Rattle.world_core.specs.Calls.{records_of}
use Rattle.reports.specs.Findings.{Findings, sizes, IsReport}
use Rattle.reports.specs.Grammar.{line_words, call_line, caller_lines, report_lines, IsWrittenText}
use Rattle.report_text.specs.ReportRules.{book_so_far, IsCut, IsAnswer, IsFormed, SaysLine, IsPendingAt, IsWrongCut, FitsEarlier, InHead, InLines, AtEnd, ReportPasses, report_rules, IsReportText}
use Rattle.report_text.specs.Drafts.{StandBefore}
use Rattle.report_text.specs.Parts.{answer_in, chained}
use Rattle.report_text.proofs.Groups.{before, length-own}
use Rattle.report_text.proofs.Pushing.{records_in, calls_of-so_far, length-book_so_far, inside, book-push, line-here}
use Rattle.report_text.proofs.Growing.{line-longer, seen-longer, records-so_far, record-longer}
use Rattle.report_text.proofs.OwnSteps.{length-chained}
use Rattle.report_text.proofs.Soundness.{grouped-chained, whole_book}
use Rattle.report_text.proofs.ReadTexts.{get_middle, size_at, answers_at}

-- lines that are all delivered have a record each
pub all_delivered : (own : List Line)
    → ((m : ℕ) (l : Line) → slice_get own m ≡ Some l → IsSome (delivered_in l.end))
    → length (flat_map records_in own) ≡ length own
all_delivered [] h = refl
all_delivered (l ∷ own) h =
    let one : length (records_in l) ≡ 1 = one_record l.end (h 0 l refl) in
    omega (
      arith,
      ap (λ (rs : List Record). length rs) (flat_map-cons records_in l own),
      length-append (records_in l) (flat_map records_in own),
      all_delivered own (λ m x e. h (suc m) x e),
    ) where
      one_record : (end : LineEnd) → IsSome (delivered_in end)
          → length (records_of (reached_of end)) ≡ 1
      one_record Pending h = absurd cc
      one_record (Unchecked r) h = absurd cc
      one_record (Delivered r cut) h = refl
      one_record (Error r cut) h = absurd cc

few_records : (l : Line) → length (records_in l) ≤ 1
few_records l = of_end l.end where
  of_end : (end : LineEnd) → length (records_of (reached_of end)) ≤ 1
  of_end Pending = omega arith
  of_end (Unchecked r) = omega arith
  of_end (Delivered r cut) = omega arith
  of_end (Error r cut) = omega arith

-- a caller whose last line is pending has at most as many records as lines before it
before_pending : (own : List Line) (m : ℕ) (l : Line) → slice_get own m ≡ Some l → l.end ≡ Pending
    → length own ≤ m + 1 → length (flat_map records_in own) ≤ m
before_pending [] m l e p le = omega arith
before_pending (x ∷ []) zero l e p le =
    let same : x ≡ l = cc in
    let none : length (records_in x) ≡ 0 = ap (λ (y : Line). length (records_in y)) same
    ∙ ap (λ (end : LineEnd). length (records_of (reached_of end))) p in
    omega (
      arith,
      ap (λ (rs : List Record). length rs) (flat_map-cons records_in x []),
      length-append (records_in x) (flat_map records_in []),
    )
before_pending (x ∷ y ∷ own) zero l e p le = absurd (omega arith)
before_pending (x ∷ own) (suc m) l e p le =
    omega (
      arith,
      ap (λ (rs : List Record). length rs) (flat_map-cons records_in x own),
      length-append (records_in x) (flat_map records_in own),
      few_records x,
      before_pending own m l e p (omega arith),
    )

pub at_most : (most : ℕ) (counts : List ℕ) (i : ℕ) → AreAtMost most counts
    → get_or counts i 0 ≤ most
at_most most [] i h = omega arith
at_most most (c ∷ counts) zero h = h.0
at_most most (c ∷ counts) (suc i) h = at_most most counts i h.1

operation_at : (own : List Line) (m : ℕ) (l : Line)
    → AllByRecursion (λ line. IsOperationWord line.op) own → slice_get own m ≡ Some l
    → IsOperationWord l.op
operation_at [] m l h e = absurd cc
operation_at (x ∷ own) zero l h e = let same : x ≡ l = cc in
    subst (λ (y : Line). IsOperationWord y.op) same h.0
operation_at (x ∷ own) (suc m) l h e = operation_at own m l h.1 e

operation_in : (lines : List (List Line)) (i m : ℕ) (l : Line)
    → AllByRecursion (AllByRecursion (λ line. IsOperationWord line.op)) lines
    → slice_get (get_or lines i []) m ≡ Some l → IsOperationWord l.op
operation_in [] i m l h e = absurd cc
operation_in (own ∷ lines) zero m l h e = operation_at own m l h.0 e
operation_in (own ∷ lines) (suc i) m l h e = operation_in lines i m l h.1 e

-- ---- the place of a line

chained-middle : (done : List (List Line)) (own : List Line) (later : List (List Line))
    → chained (done ++ own ∷ later) ≡ chained done ++ (own ++ chained later)
chained-middle done own later =
    flat_map-append (λ (x : List Line). x) done (own ∷ later)
    ∙ ap (λ (ls : List Line). chained done ++ ls) (flat_map-cons (λ (x : List Line). x) own later)

joined_parts : (done : List (List Line)) (own : List Line) (later : List (List Line))
    (prefix : List Line) (line : Line) (rest : List Line) (lines : List (List Line))
    → lines ≡ done ++ own ∷ later → own ≡ prefix ++ line ∷ rest
    → chained lines ≡ (chained done ++ prefix) ++ line ∷ (rest ++ chained later)
joined_parts done own later prefix line rest lines split is =
    ap chained split ∙ chained-middle done own later
    ∙ ap (λ (ls : List Line). chained done ++ (ls ++ chained later)) is
    ∙ ap (λ (ls : List Line). chained done ++ ls) (append_assoc prefix (line ∷ rest)
    (chained later))
    ∙ sym (append_assoc (chained done) prefix (line ∷ (rest ++ chained later)))

sizes-middle : (done : List (List Line)) (own : List Line) (later : List (List Line))
    → sizes (done ++ own ∷ later) ≡ sizes done ++ length own ∷ sizes later
sizes-middle done own later = map-append (λ (x : List Line). length x) done (own ∷ later)

size_of : (done : List (List Line)) (own : List Line) (later lines : List (List Line))
    → lines ≡ done ++ own ∷ later → get_or (sizes lines) (length done) 0 ≡ length own
size_of done own later lines split =
    ap (λ (ls : List (List Line)). get_or (sizes ls) (length done) 0) split
    ∙ ap (λ (ns : List ℕ). get_or ns (length done) 0) (sizes-middle done own later)
    ∙ ap (λ (j : ℕ). get_or (sizes done ++ length own ∷ sizes later) j 0)
    (sym (length-map done (λ (x : List Line). length x)))
    ∙ get_middle (sizes done) (length own) (sizes later)

stand_of : (done : List (List Line)) (own : List Line) (later : List (List Line))
    (prefix : List Line) (lines : List (List Line)) → lines ≡ done ++ own ∷ later
    → StandBefore (sizes lines) (chained done ++ prefix) (length done) (length prefix)
stand_of done own later prefix lines split =
    let size : length (sizes done) ≡ length done = length-map done (λ (x : List Line). length x) in
    let first : take (length done) (sizes lines) ≡ sizes done
    = ap (λ (ls : List (List Line)). take (length done) (sizes ls)) split
    ∙ ap (take (length done)) (sizes-middle done own later)
    ∙ take_at (sizes done) (length own ∷ sizes later) (length done) size in
    let total : length (chained done) ≡ before (sizes lines) (length done) =
    length-chained done ∙ ap sum (sym first) in
    omega (arith, length-append (chained done) prefix, total)

module _ (findings : Findings) (w : IsReport findings) where
  abbrev lines : List (List Line)
  lines = findings.lines

  abbrev counts : List ℕ
  counts = sizes lines

  abbrev kind : Kind
  kind = findings.kind

  counts_size : length counts ≡ length lines
  counts_size = length-map lines (λ (own : List Line). length own)

  groups : grouped counts (chained lines) ≡ lines
  groups = grouped-chained lines

  book : book_so_far counts (chained lines) ≡ book_of_lines lines
  book = whole_book lines

  calls_at : (j : ℕ) → calls_of (book_of_lines lines) j ≡ get_or counts j 0
  calls_at j =
      ap (λ (b : List Page). calls_of b j) (sym book) ∙ calls_of-so_far counts (chained lines) j

  -- a count of a seen cut is one of the caller's records, and so below its calls
  seen_below : (call : Call) (cut : List ℕ) (j : ℕ) → seen_at lines call ≡ Some cut
      → get_or cut j 0 ≤ answers_of (book_of_lines lines) j
  seen_below call cut j e =
      omega (arith, w.seen.within call cut e j, answered_at (book_of_lines lines) j)

  -- where a call is pending, its caller has no record from there on
  pending_last : (call : Call) → IsPendingAt lines call
      → answers_of (book_of_lines lines) call.caller ≤ call.number
  pending_last call (line, at, pending) =
      let last : length (lines_at lines call.caller) ≤ call.number + 1 =
      elim (cases_lt (call.number + 1) (length (lines_at lines call.caller))) [
        | inl more ↦ absurd (not_delivered line.end pending (w.delivered call line at more))
        | inr le ↦ le
      ] in
      omega (
        arith,
        answers_at lines call.caller,
        before_pending (lines_at lines call.caller) call.number line at pending last,
      ) where
        not_delivered : (end : LineEnd) → end ≡ Pending → IsSome (delivered_in end) → ⊥
        not_delivered end e h = let none : delivered_in end ≡ None = ap delivered_in e in
            absurd (cc (none, h))

  module _ (told : List Line) (line : Line) (more : List Line) (call : Call)
      (all : chained lines ≡ told ++ line ∷ more)
      (stand : StandBefore counts told call.caller call.number)
      (lt : call.number < get_or counts call.caller 0) where
    abbrev i : ℕ
    i = call.caller

    abbrev k : ℕ
    k = call.number

    abbrev so_far : List Page
    so_far = book_so_far counts told

    -- the lines so far are lines of the report
    line_kept : (other : Call) (l : Line) → line_at (grouped counts told) other ≡ Some l
        → line_at lines other ≡ Some l
    line_kept other l e = ap (λ (ls : List (List Line)). line_at ls other) (sym groups)
        ∙ ap (λ (ls : List Line). line_at (grouped counts ls) other) all
        ∙ line-longer counts told (line ∷ more) other l e

    seen_kept : (other : Call) (cut : List ℕ) → seen_at (grouped counts told) other ≡ Some cut
        → seen_at lines other ≡ Some cut
    seen_kept other cut e = ap (λ (ls : List (List Line)). seen_at ls other) (sym groups)
        ∙ ap (λ (ls : List Line). seen_at (grouped counts ls) other) all
        ∙ seen-longer counts told (line ∷ more) other cut e

    record_kept : (other : Call) (r : Record) → record_of so_far other ≡ Some r
        → record_of (book_of_lines lines) other ≡ Some r
    record_kept other r e = ap (λ (b : List Page). record_of b other) (sym book)
        ∙ ap (λ (ls : List Line). record_of (book_so_far counts ls) other) all
        ∙ record-longer counts told (line ∷ more) other r e

    with_this : (told ++ line ∷ []) ++ more ≡ chained lines
    with_this = append_assoc told (line ∷ []) more ∙ sym all

    here : line_at lines call ≡ Some line
    here = ap (λ (ls : List (List Line)). line_at ls call) (sym groups)
        ∙ ap (λ (ls : List Line). line_at (grouped counts ls) call) (sym with_this)
        ∙ line-longer counts (told ++ line ∷ []) more call line
        (line-here counts told line call stand lt)

    -- the lines of the caller so far are delivered
    own_size : length (get_or (grouped counts told) i []) ≡ k
    own_size = length-own counts told i k stand (omega arith)

    answers : answers_of so_far i ≡ k
    answers =
        ap (λ (rs : List Record). length rs) (records-so_far counts told i)
        ∙ all_delivered (get_or (grouped counts told) i []) (λ m l e.
        let m_lt : m < k =
        omega (arith, own_size, slice_get_within (get_or (grouped counts told) i []) m l e) in
        w.delivered (record { caller = i; number = m }) l
        (line_kept (record { caller = i; number = m }) l e) (omega (arith, lt, size_at lines i)))
        ∙ own_size

    within_book : i < length so_far
    within_book =
        omega (arith, inside counts told line call stand lt, length-book_so_far counts told)

    -- the record of the line is the call's
    record_new : (op : ℕ) (answer : Option Record) (r : Record) → answer ≡ Some r
        → record_of (with_line so_far call op answer) call ≡ Some r
    record_new op None r e = absurd cc
    record_new op (Some s) r e =
        let same : s ≡ r = same_Some s r e in
        let place : record { caller = i; number = answers_of so_far i } ≡ call = let made : ℕ
        → Call = λ m. record { caller = i; number = m } in ap made answers in
        let new = record_of-with_answer_new so_far i s within_book in
        ap (λ (rs : List Record). slice_get rs k) (records-with_operation (with_answer so_far i s)
        call op i (omega (arith, length-with_answer so_far i s, within_book)))
        ∙ ap (λ (c : Call). record_of (with_answer so_far i s) c) (sym place) ∙ new
        ∙ ap Some same where
          length-with_answer : (b : List Page) (j : ℕ) (x : Record)
              → length (with_answer b j x) ≡ length b
          length-with_answer b j x =
              length-set b j (record (page_of b j) { records = (page_of b j).records ++ x ∷ [] })

    record_here : (r : Record) → answer_in line.end ≡ Some r
        → record_of (book_of_lines lines) call ≡ Some r
    record_here r e =
        ap (λ (b : List Page). record_of b call) (sym book)
        ∙ ap (λ (ls : List Line). record_of (book_so_far counts ls) call) (sym with_this)
        ∙ record-longer counts (told ++ line ∷ []) more call r
        (ap (λ (b : List Page). record_of b call) (book-push counts told line call stand lt)
        ∙ record_new line.op (answer_in line.end) r e)

    -- ---- the line is right

    small_call : get_or counts i 0 ≤ TEXT_CALLS
    small_call = at_most TEXT_CALLS counts i w.calls

    answer_formed : (r : Record) → answer_in line.end ≡ Some r → IsAnswer (length counts) r
    answer_formed r e =
        let at = record_here r e in (
          w.replies call r at,
          (
            w.valid.wide call r at ∙ sym (ap (length {A = Page}) book)
                ∙ length-book_so_far counts (chained lines),
            numbers_from_places r.view (λ j. omega (
              arith,
              below_calls (book_of_lines lines) r.view (w.valid.within call r at) j,
              calls_at j,
              at_most TEXT_CALLS counts j w.calls,
            )),
          ),
        )

    cut_formed : (cut : List ℕ) → seen_in line.end ≡ Some cut → IsCut (length counts) cut
    cut_formed cut e =
        let at : seen_at lines call ≡ Some cut = let there = here in rw there e in (
          w.seen.wide call cut at ∙ sym counts_size,
          numbers_from_places cut (λ j. omega (
            arith,
            seen_below call cut j at,
            w.valid.answers j,
            calls_at j,
            at_most TEXT_CALLS counts j w.calls,
          )),
        )

    formed : (end : LineEnd) → ((r : Record) → answer_in end ≡ Some r → IsAnswer (length counts) r)
        → ((cut : List ℕ) → seen_in end ≡ Some cut → IsCut (length counts) cut)
        → IsFormed (length counts) end
    formed Pending a c = tt
    formed (Unchecked r) a c = a r refl
    formed (Delivered r cut) a c = (a r refl, c cut refl)
    formed (Error r cut) a c = (a r refl, c cut refl)

    pub line_says : SaysLine kind (length counts) call (line_words kind call line) line
    line_says = record {
      named = (
        omega (arith, inside counts told line call stand lt, counts_size, w.callers),
        (omega (arith, lt, small_call), tt),
      );
      few = omega (arith, counts_size, w.callers);
      has = operation_in lines i k line w.operations here;
      formed = formed line.end answer_formed cut_formed;
      text = refl;
    }

    answer_of : (end : LineEnd) (r : Record)
        → records_of (reached_of end) ≡ r ∷ [] → answer_in end ≡ Some r
    answer_of Pending r e = absurd cc
    answer_of (Unchecked s) r e = let same : s ≡ r = cc in ap Some same
    answer_of (Delivered s cut) r e = let same : s ≡ r = cc in ap Some same
    answer_of (Error s cut) r e = let same : s ≡ r = cc in ap Some same

    may : (r : Record) → answer_in line.end ≡ Some r → MayAnswer so_far i r.view
    may r e =
        let at = record_here r e in
        record {
          unanswered = omega (arith, answers, lt, calls_of-so_far counts told i);
          within = within_announced so_far r.view (λ j. omega (
            arith,
            below_calls (book_of_lines lines) r.view (w.valid.within call r at) j,
            calls_at j,
            calls_of-so_far counts told j,
          ));
          own = w.valid.own call r at ∙ ap (λ (n : ℕ). n + 1) (sym answers);
          comparable = λ other s h. w.valid.comparable call other r s at (record_kept other s h);
        }

    right_cut : (cut : List ℕ) → seen_at lines call ≡ Some cut
        → IsWrongCut counts (grouped counts told) call cut → ⊥
    right_cut cut at (inl above) = omega
        (arith, above.1, seen_below call cut above.0 at, w.valid.answers above.0, calls_at above.0)
    right_cut cut at (inr (inl over)) =
        omega (
          arith,
          over.2,
          seen_below call cut over.0.caller at,
          pending_last over.0 (over.1.0, line_kept over.0 over.1.0 over.1.1, over.1.2),
        )
    right_cut cut at (inr (inr low)) = omega (arith, w.seen.own call cut at, low)

    pub line_fits : FitsEarlier counts told call line
    line_fits = record {
      view = λ r e. may r (answer_of line.end r e);
      seen = λ cut e wrong. let at : seen_at lines call ≡ Some cut = let there = here in
          rw there e in right_cut cut at wrong;
      pending = λ e seen. omega (
        arith,
        seen.3,
        seen_below seen.0 seen.1 i (seen_kept seen.0 seen.1 seen.2),
        pending_last call (line, here, e),
      );
      last = λ early.
          let some = w.delivered call line here (omega (arith, early.1, size_at lines i)) in
          absurd (cc (some, early.0));
    }

  -- ---- all lines are right

  caller_passes : (done : List (List Line)) (own : List Line) (later : List (List Line))
      (prefix rest : List Line) (due : List Call) → lines ≡ done ++ own ∷ later
      → own ≡ prefix ++ rest
      → AllPass ReportPasses (InLines kind counts (chained done ++ prefix)
      (calls_from (length done) (length prefix) (length rest) ++ due))
      (by_number (call_line kind (length done)) (length prefix) rest)
      (InLines kind counts (chained done ++ own) due)
  caller_passes done own later prefix [] due split is =
      ap (λ (ls : List Line). InLines kind counts (chained done ++ ls) due)
      (sym (is ∙ append-nil prefix))
  caller_passes done own later prefix (line ∷ rest) due split is =
      let call : Call = record { caller = length done; number = length prefix } in
      let told : List Line = chained done ++ prefix in
      let next : List Line = prefix ++ line ∷ [] in
      let all : chained lines ≡ told ++ line ∷ (rest ++ chained later) =
      joined_parts done own later prefix line rest lines split is in
      let count : get_or counts (length done) 0 ≡ length own = size_of done own later lines split in
      let stand : StandBefore counts told (length done) (length prefix) =
      stand_of done own later prefix lines split in
      let room : length prefix < get_or counts (length done) 0 =
      omega (arith, count, ap (length {A = Line}) is, length-append prefix (line ∷ rest)) in
      let said : told ++ line ∷ [] ≡ chained done ++ next =
      append_assoc (chained done) prefix (line ∷ []) in
      let size : length next ≡ length prefix + 1 = length-append prefix (line ∷ []) in
      let rest_is : own ≡ next ++ rest = is ∙ sym (append_assoc prefix (line ∷ []) rest) in
      let step = caller_passes done own later next rest due split rest_is in
      let moved = subst (λ (m : ℕ). AllPass ReportPasses (InLines kind counts (chained done ++ next)
      (calls_from (length done) m (length rest) ++ due)) (by_number (call_line kind (length done)) m
      rest) (InLines kind counts (chained done ++ own) due)) size step in (
        InLines kind counts (chained done ++ next)
            (calls_from (length done) (length prefix + 1) (length rest) ++ due),
        (
          line,
          line_says told line (rest ++ chained later) call all stand room,
          line_fits told line (rest ++ chained later) call all stand room,
          ap (λ (ls : List Line). InLines kind counts ls
              (calls_from (length done) (length prefix + 1) (length rest) ++ due)) (sym said),
        ),
        moved,
      )

  -- the lines of all callers from one on are right
  callers_pass : (done later : List (List Line)) → lines ≡ done ++ later
      → AllPass ReportPasses
      (InLines kind counts (chained done) (all_calls (length done) (sizes later)))
      (by_number (caller_lines kind) (length done) later) (InLines kind counts (chained lines) [])
  callers_pass done [] split =
      ap (λ (ls : List Line). InLines kind counts ls []) (sym (ap chained (split
      ∙ append-nil done)))
  callers_pass done (own ∷ later) split =
      let i = length done in
      let due : List Call = all_calls (i + 1) (sizes later) in
      let mine = caller_lines kind i own in
      let next : List (List Line) = done ++ own ∷ [] in
      let first = subst (λ (ls : List Line). AllPass ReportPasses (InLines kind counts ls
      (calls_from i 0 (length own) ++ due)) mine (InLines kind counts (chained done ++ own) due))
      (append-nil (chained done)) (caller_passes done own later [] own due split refl) in
      let size : length next ≡ i + 1 = length-append done (own ∷ []) in
      let said : chained next ≡ chained done ++ own =
      chained-middle done own [] ∙ ap (λ (ls : List Line). chained done ++ ls) (append-nil own) in
      let rest = callers_pass next later (split ∙ sym (append_assoc done (own ∷ []) later)) in
      let moved : AllPass ReportPasses (InLines kind counts (chained done ++ own) due)
      (by_number (caller_lines kind) (i + 1) later) (InLines kind counts (chained lines) [])
      = subst (λ (j : ℕ). AllPass ReportPasses
      (InLines kind counts (chained done ++ own) (all_calls j (sizes later)))
      (by_number (caller_lines kind) j later) (InLines kind counts (chained lines) [])) size
      (subst (λ (ls : List Line). AllPass ReportPasses (InLines kind counts ls
      (all_calls (length next) (sizes later))) (by_number (caller_lines kind)
      (length next) later) (InLines kind counts (chained lines) [])) said rest) in
      AllPass-append report_rules
      (InLines kind counts (chained done) (calls_from i 0 (length own) ++ due))
      (InLines kind counts (chained done ++ own) due) (InLines kind counts (chained lines) [])
      mine (by_number (caller_lines kind) (i + 1) later) first moved

  -- the lines of a report are right from the title to the end
  lines_pass : AllPass ReportPasses (InHead TitleDue) (report_lines findings) (AtEnd findings)
  lines_pass =
      let said : Findings = record { kind = kind; lines = grouped counts (chained lines) } in
      let same : said ≡ findings =
      ap (λ (ls : List (List Line)). record { kind = kind; lines = ls }) groups in
      let last : AllPass ReportPasses (InLines kind counts (chained lines) []) (end_words ∷ [])
      (AtEnd findings) = (AtEnd said, (refl, refl), ap AtEnd same) in (
        InHead ObjectDue,
        (ObjectDue, (refl, refl), refl),
        (
          InHead (CallersDue kind),
          (CallersDue kind, (kind, refl, refl, refl), refl),
          (
            InHead (CountsDue kind (length counts)),
            (
              CountsDue kind (length counts),
              (
                length counts,
                record {
                  some = omega (arith, counts_size, w.some);
                  few = omega (arith, counts_size, w.callers);
                },
                refl,
                refl,
              ),
              refl,
            ),
            (
              InLines kind counts [] (all_calls 0 counts),
              (
                HeadRead kind counts,
                (counts, record { count = refl; few = w.calls }, refl, refl),
                refl,
              ),
              AllPass-append report_rules (InLines kind counts [] (all_calls 0 counts))
                  (InLines kind counts (chained lines) []) (AtEnd findings)
                  (by_number (caller_lines kind) 0 lines) (end_words ∷ [])
                  (callers_pass [] lines refl) last,
            ),
          ),
        ),
      )

-- what is written of a report is read as that report
pub written_is_read : (bytes : List ℕ) (findings : Findings) → IsWrittenText bytes findings
    → IsReportText bytes findings
written_is_read bytes findings h =
    let lines = report_lines findings in (
      record { bytes = []; number = 1 + length lines },
      record {
        goes = record {
          lines = lines;
          right = lines_pass findings h.writable;
          bytes = h.text ∙ sym (append-nil (text_of lines));
          number = refl;
        };
        through = refl;
      },
    )
