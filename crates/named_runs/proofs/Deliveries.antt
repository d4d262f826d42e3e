-- The greatest counts of the cuts of delivered lines.
use Rattle.std.proofs.Common.{◌≡◌, ℕ, ◌+◌, ◌<◌, ◌≤◌, max, List, [], ◌∷◌, ◌++◌, length, take, get_or, slice_get, Some, Option, refl, ap, ◌∙◌, arith, inl, inr, append-nil}
use Rattle.std.specs.Option.{option_and_then}
use Rattle.std.proofs.lemmas.Bool.{cases_lt}
use Rattle.std.proofs.lemmas.List.{take_more, take_all, get_or_past}
use Rattle.std.proofs.lemmas.List.Concat.{flat_map-append, flat_map-cons}
use Rattle.std.proofs.lemmas.List.Elements.{filter_map-append}
use Rattle.std.proofs.lemmas.List.FromFn.{fill_by_all, get_or-map-range_with_len, length-map-range_with_len}
use Rattle.std.proofs.lemmas.Option.{slice_get_within, get_or_from_slice_get}
use Rattle.book_base.specs.declared.call.Call.{Call}
use Rattle.book_base.specs.declared.call.Record.{Record}
use Rattle.book_base.specs.Book.{answered}
use Rattle.book_base.specs.BookAt.{greatest_count}
use Rattle.legal_orders.proofs.GreatestCounts.{greatest_count-append, greatest_count-reached}
use Rattle.report_lines.specs.declared.line.LineEnd.{LineEnd}
use Rattle.report_lines.specs.declared.line.LineEnd.TheVariants.{Pending, Unchecked, Delivered, Error}
use Rattle.report_lines.specs.declared.line.Line.{Line}
use Rattle.report_lines.specs.Lines.{book_of_lines, lines_at, line_at, seen_in, delivered_in, seen_at}
use Rattle.report_lines.specs.Lawful.{delivered_cuts}
use Rattle.report_lines.proofs.Lines.{from_delivered_cuts, seen_from_delivered}
use Rattle.reports.specs.Findings.{Findings, IsInBook, IsReport}
use Rattle.named_runs.specs.Certificates.{delivered_cuts_in, delivered_cut_of}

-- the count of a caller in the seen cut of a line with this end, which is 0 where the line isn't
-- delivered
abbrev pub count_of : LineEnd → ℕ → ℕ
count_of Pending i = 0
count_of (Unchecked r) i = 0
count_of (Delivered r cut) i = get_or cut i 0
count_of (Error r cut) i = 0

count_of_one : (op : ℕ) (end : LineEnd) (i : ℕ)
    → greatest_count (delivered_cuts_in (record { op = op; end = end } ∷ [])) i ≡ count_of end i
count_of_one op Pending i = refl
count_of_one op (Unchecked r) i = refl
count_of_one op (Delivered r cut) i = omega arith
count_of_one op (Error r cut) i = refl

-- an end that isn't that of a delivered line has no count
pub count_of_undelivered : (end : LineEnd)
    → ((r : Record) (cut : List ℕ) → end ≡ Delivered r cut → ⊥) → (i : ℕ) → count_of end i ≡ 0
count_of_undelivered Pending none i = refl
count_of_undelivered (Unchecked r) none i = refl
count_of_undelivered (Delivered r cut) none i = absurd (none r cut refl)
count_of_undelivered (Error r cut) none i = refl

-- the greatest counts with one line more are the greater of those before and the line's counts
pub counts-more_lines : (own : List Line) (k : ℕ) (line : Line) (i : ℕ)
    → slice_get own k ≡ Some line
    → greatest_count (delivered_cuts_in (take (k + 1) own)) i
    ≡ max (greatest_count (delivered_cuts_in (take k own)) i) (count_of line.end i)
counts-more_lines own k line i there =
    let more : take (k + 1) own ≡ take k own ++ line ∷ [] =
    take_more own k line (slice_get_within own k line there)
    ∙ ap (λ (l : Line). take k own ++ l ∷ []) (get_or_from_slice_get own k line line there) in
    ap (λ (ls : List Line). greatest_count (delivered_cuts_in ls) i) more
    ∙ ap (λ (cuts : List (List ℕ)). greatest_count cuts i)
    (filter_map-append (λ (l : Line). delivered_in l.end) (take k own) (line ∷ []))
    ∙ greatest_count-append (delivered_cuts_in (take k own)) (delivered_cuts_in (line ∷ [])) i
    ∙ ap (λ (n : ℕ). max (greatest_count (delivered_cuts_in (take k own)) i) n)
    (count_of_one line.op line.end i)

-- the greatest counts with the lines of one caller more are the greater of those before and those
-- of these lines
pub counts-more_callers : (lines : List (List Line)) (n i : ℕ) → n < length lines
    → greatest_count (delivered_cuts (take (n + 1) lines)) i
    ≡ max (greatest_count (delivered_cuts (take n lines)) i)
    (greatest_count (delivered_cuts_in (lines_at lines n)) i)
counts-more_callers lines n i low =
    let own : List Line = lines_at lines n in
    ap (λ (ls : List (List Line)). greatest_count (delivered_cuts ls) i) (take_more lines n [] low)
    ∙ ap (λ (cuts : List (List ℕ)). greatest_count cuts i)
    (flat_map-append delivered_cuts_in (take n lines) (own ∷ [])
    ∙ ap (λ (cuts : List (List ℕ)). delivered_cuts (take n lines) ++ cuts)
    (flat_map-cons delivered_cuts_in own [] ∙ append-nil (delivered_cuts_in own)))
    ∙ greatest_count-append (delivered_cuts (take n lines)) (delivered_cuts_in own) i

-- the cut of a delivered line is its seen cut
pub seen_by_delivered : (lines : List (List Line)) (call : Call) (line : Line) (r : Record)
    (cut : List ℕ) → line_at lines call ≡ Some line → line.end ≡ Delivered r cut
    → seen_at lines call ≡ Some cut
seen_by_delivered lines call line r cut there delivered =
    ap (λ (o : Option Line). option_and_then (λ (l : Line). seen_in l.end) o) there
    ∙ ap seen_in delivered

-- a cut with the greatest counts of all callers' lines is the greatest cut
pub whole_cut : (lines : List (List Line)) (n : ℕ) (cut : List ℕ) → length lines ≤ n
    → length cut ≡ length lines
    → ((i : ℕ) → get_or cut i 0 ≡ greatest_count (delivered_cuts (take n lines)) i)
    → cut ≡ delivered_cut_of lines
whole_cut lines n cut all wide counts =
    fill_by_all (greatest_count (delivered_cuts lines)) cut (length lines) 0 wide
    (λ (k : ℕ) (low : k < length lines). counts k
    ∙ ap (λ (ls : List (List Line)). greatest_count (delivered_cuts ls) k) (take_all n lines all))

-- the greatest cut has a count for each caller, none above the caller's records
pub delivered_cut_is_in_the_book : (report : Findings) → IsReport report
    → IsInBook report.lines (delivered_cut_of report.lines)
delivered_cut_is_in_the_book report is =
    let lines : List (List Line) = report.lines in (
      length-map-range_with_len (greatest_count (delivered_cuts lines)) 0 (length lines),
      λ (i : ℕ). few report is i,
    )
  where
    few : (report : Findings) → IsReport report → (i : ℕ) → get_or
        (delivered_cut_of report.lines) i 0 ≤ get_or (answered (book_of_lines report.lines)) i 0
    few report is i =
        let lines : List (List Line) = report.lines in
        let cuts : List (List ℕ) = delivered_cuts lines in
        elim (cases_lt i (length lines)) [
          | inl low ↦
              let here : get_or (delivered_cut_of lines) i 0 ≡ greatest_count cuts i =
              get_or-map-range_with_len (greatest_count cuts) 0 (length lines) i i 0 low
              (omega arith) in
              elim (cases_lt (get_or (answered (book_of_lines lines)) i 0)
              (greatest_count cuts i)) [
                | inl above ↦
                    let found = greatest_count-reached cuts
                    (get_or (answered (book_of_lines lines)) i 0) i above in
                    let saw = from_delivered_cuts lines found.0 found.1 found.2 in
                    let most = is.seen.within saw.0 found.1
                    (seen_from_delivered lines saw.0 found.1 saw.1) i in
                    absurd (omega (arith, most, found.3))
                | inr within ↦ omega (arith, here, within)
              ]
          | inr past ↦ omega (
            arith,
            get_or_past (delivered_cut_of lines) i 0 (omega
                (arith, past, length-map-range_with_len (greatest_count cuts) 0 (length lines))),
          )
        ]
