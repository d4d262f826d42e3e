-- Books into which lines are put one by one.
use Rattle.std.proofs.Common.{◌≡◌, ℕ, zero, suc, ◌+◌, ◌<◌, ◌≤◌, List, [], ◌∷◌, ◌++◌, length, map, take, drop, slice_get, Option, Some, IsSome, refl, sym, ap, ◌∙◌, subst, arith, append-nil, append_assoc}
use Rattle.std.specs.Option.{option_map}
use Rattle.std.proofs.lemmas.List.{length-map, length-replicate, length-take-le, take-append-drop, drop_more, take_more, take_all, drop_all}
use Rattle.std.proofs.lemmas.Option.{none-some, same_Some, slice_get-map, slice_get_within}
use Rattle.list_laws.proofs.Places.{slice_get-take}
use Rattle.book_base.specs.declared.call.Call.{Call}
use Rattle.book_base.specs.declared.call.Record.{Record}
use Rattle.book_base.specs.Book.{Page, page_of, calls_of, answers_of, record_of, IsValid, unanswered_page, unanswered_book}
use Rattle.book_base.proofs.GrowthLemmas.{within_announced, below_calls}
use Rattle.book_text.specs.CallLines.{with_line}
use Rattle.book_text.proofs.Pages.{page_to, page_of-middle, with_line-middle, length-operations_to, page_to-more, page_to-all}
use Rattle.world_core.specs.Calls.{Made, records_of, page_with as page_of_calls}
use Rattle.report_lines.specs.declared.line.LineEnd.{LineEnd}
use Rattle.report_lines.specs.declared.line.LineEnd.TheVariants.{Pending, Unchecked, Delivered, Error}
use Rattle.report_lines.specs.declared.line.Line.{Line}
use Rattle.report_lines.specs.Lines.{reached_of, made_of, book_of_lines, lines_at, delivered_in}
use Rattle.reports.specs.Findings.{sizes, Findings, IsReport}
use Rattle.reports.specs.Filling.{answer_in, with_line_of, HaveRecords, AreOfABook, MayTake, filled_to}

-- The page that a caller's lines make.
abbrev own_page : List Line → Page
own_page own = page_of_calls (map made_of own)

pub page_of-lines : (lines : List (List Line)) (i : ℕ)
    → page_of (book_of_lines lines) i ≡ own_page (lines_at lines i)
page_of-lines [] i = refl
page_of-lines (own ∷ lines) zero = refl
page_of-lines (own ∷ lines) (suc i) = page_of-lines lines i

-- ---- the record of a line has the line's number

-- each line but the last has its record
abbrev IsLed : List Line → Type 0
IsLed own = (k : ℕ) (line : Line) → slice_get own k ≡ Some line → k + 1 < length own
    → IsSome (answer_in line.end)

led_lines : (lines : List (List Line)) (i : ℕ) → HaveRecords lines → IsLed (lines_at lines i)
led_lines lines i answered = λ k line e low. answered (record { caller = i; number = k }) line e low

-- a delivered line has its record
delivered_answer : (end : LineEnd) → IsSome (delivered_in end) → IsSome (answer_in end)
delivered_answer Pending some = absurd cc
delivered_answer (Unchecked r) some = absurd cc
delivered_answer (Delivered r cut) some = refl
delivered_answer (Error r cut) some = absurd cc

pub delivered_led : (own : List Line) → ((k : ℕ) (line : Line) → slice_get own k ≡ Some line
    → k + 1 < length own → IsSome (delivered_in line.end)) → IsLed own
delivered_led own led k line e low = delivered_answer line.end (led k line e low)

-- the lines of a report are those of a book
pub report_of_a_book : (findings : Findings) → IsReport findings → AreOfABook findings.lines
report_of_a_book findings h = record {
  some = h.some;
  callers = h.callers;
  calls = h.calls;
  answered = λ call line e low. delivered_answer line.end (h.delivered call line e low);
  valid = h.valid;
}

one_record : (end : LineEnd) → IsSome (answer_in end) → (r : Record)
    × (records_of (reached_of end) ≡ r ∷ [])
one_record Pending some = absurd cc
one_record (Unchecked r) some = (r, refl)
one_record (Delivered r cut) some = (r, refl)
one_record (Error r cut) some = (r, refl)

record_after : (first : Line) (tail : List Record) (k : ℕ) → IsSome (answer_in first.end)
    → slice_get (records_of (reached_of first.end) ++ tail) (suc k) ≡ slice_get tail k
record_after first tail k some = let one = one_record first.end some in
    ap (λ (rs : List Record). slice_get (rs ++ tail) (suc k)) one.1

record_first : (first : Line) (tail : List Record) → IsSome (answer_in first.end)
    → slice_get (records_of (reached_of first.end) ++ tail) 0 ≡ answer_in first.end
record_first first tail some = let one = one_record first.end some in
    ap (λ (rs : List Record). slice_get (rs ++ tail) 0) one.1
    ∙ sym (ap (λ (rs : List Record). slice_get rs 0) one.1)

pub record_at : (own : List Line) → IsLed own → (k : ℕ) (line : Line) → slice_get own k ≡ Some line
    → slice_get (own_page own).records k ≡ answer_in line.end
record_at [] led k line e = absurd (none-some line e)
record_at (first ∷ []) led zero line e =
    ap (λ (rs : List Record). slice_get rs 0) (append-nil (records_of (reached_of first.end)))
    ∙ ap (λ (x : Line). answer_in x.end) (same_Some first line e)
record_at (first ∷ []) led (suc k) line e = absurd (none-some line e)
record_at (first ∷ second ∷ own) led zero line e =
    record_first first (own_page (second ∷ own)).records (led 0 first refl (omega arith))
    ∙ ap (λ (x : Line). answer_in x.end) (same_Some first line e)
record_at (first ∷ second ∷ own) led (suc k) line e =
    record_after first (own_page (second ∷ own)).records k (led 0 first refl (omega arith))
    ∙ record_at (second ∷ own) (λ j l there low. led (suc j) l there (omega (arith, low))) k line e

-- the operation of a line is at the line's place in the page
operation_at : (own : List Line) (k : ℕ) (line : Line) → slice_get own k ≡ Some line
    → slice_get (own_page own).operations k ≡ Some line.op
operation_at own k line e =
    slice_get-map (λ (c : Made). c.operation) (map made_of own) k
    ∙ ap (λ (o : Option Made). option_map (λ (c : Made). c.operation) o)
    (slice_get-map made_of own k ∙ ap (λ (o : Option Line). option_map made_of o) e)

pub length-own_page : (own : List Line) → length (own_page own).operations ≡ length own
length-own_page own =
    length-map (map made_of own) (λ (c : Made). c.operation) ∙ length-map own made_of

-- ---- the book while the lines of a caller are put in

-- the book with the lines of the first n callers put in, and the first k lines of caller n
abbrev pub filling : List (List Line) → ℕ → ℕ → List Page
filling lines n k = book_of_lines (take n lines) ++ page_to k (own_page (lines_at lines n))
    ∷ unanswered_book (sizes (drop (n + 1) lines))

book-append : (xs ys : List (List Line))
    → book_of_lines (xs ++ ys) ≡ book_of_lines xs ++ book_of_lines ys
book-append [] ys = refl
book-append (own ∷ xs) ys = ap (λ (pages : List Page). own_page own ∷ pages) (book-append xs ys)

pub length-book : (lines : List (List Line)) → length (book_of_lines lines) ≡ length lines
length-book [] = refl
length-book (own ∷ lines) = ap suc (length-book lines)

length-prefix : (lines : List (List Line)) (n : ℕ) → n < length lines
    → length (book_of_lines (take n lines)) ≡ n
length-prefix lines n low = length-book (take n lines) ∙ length-take-le n lines (omega (arith, low))

whole_split : (lines : List (List Line)) (n : ℕ) → n < length lines
    → book_of_lines lines ≡ book_of_lines (take n lines) ++ own_page (lines_at lines n)
    ∷ book_of_lines (drop (n + 1) lines)
whole_split lines n low =
    ap book_of_lines (sym (take-append-drop n lines)
    ∙ ap (λ (rest : List (List Line)). take n lines ++ rest) (drop_more lines n [] low))
    ∙ book-append (take n lines) (lines_at lines n ∷ drop (n + 1) lines)

pub filling_begins : (lines : List (List Line)) (n : ℕ) → n < length lines
    → filled_to n lines ≡ filling lines n 0
filling_begins lines n low =
    let done : List Page = book_of_lines (take n lines) in
    let later : List Page = unanswered_book (sizes (drop (n + 1) lines)) in
    ap (λ (rest : List (List Line)). done ++ unanswered_book (sizes rest))
    (drop_more lines n [] low)
    ∙ ap (λ (m : ℕ). done ++ unanswered_page m ∷ later) (sym (length-own_page (lines_at lines n)))

pub filling_ends : (lines : List (List Line)) (n k : ℕ) → n < length lines
    → k ≡ length (lines_at lines n) → IsValid (book_of_lines lines)
    → filling lines n k ≡ filled_to (n + 1) lines
filling_ends lines n k low all valid =
    let done : List Page = book_of_lines (take n lines) in
    let own : List Line = lines_at lines n in
    let later : List Page = unanswered_book (sizes (drop (n + 1) lines)) in
    let few : length (own_page own).records ≤ length (own_page own).operations =
    subst (λ (p : Page). length p.records ≤ length p.operations) (page_of-lines lines n)
    (valid.answers n) in
    let whole : page_to k (own_page own) ≡ own_page own = ap (λ (m : ℕ). page_to m (own_page own))
    (all ∙ sym (length-own_page own)) ∙ page_to-all (own_page own) few in
    let more : book_of_lines (take (n + 1) lines) ≡ done ++ own_page own ∷ [] =
    ap book_of_lines (take_more lines n [] low) ∙ book-append (take n lines) (own ∷ []) in
    ap (λ (p : Page). done ++ p ∷ later) whole ∙ (sym (append_assoc done (own_page own ∷ []) later)
    ∙ ap (λ (pages : List Page). pages ++ later) (sym more))

pub filling_more : (lines : List (List Line)) (n k : ℕ) (line : Line) → n < length lines
    → HaveRecords lines → slice_get (lines_at lines n) k ≡ Some line
    → with_line_of (filling lines n k) (record { caller = n; number = k }) line
    ≡ filling lines n (k + 1)
filling_more lines n k line low answered e =
    let done : List Page = book_of_lines (take n lines) in
    let own : List Line = lines_at lines n in
    let later : List Page = unanswered_book (sizes (drop (n + 1) lines)) in
    ap (λ (m : ℕ). with_line (filling lines n k) (record { caller = m; number = k }) line.op
    (answer_in line.end)) (sym (length-prefix lines n low))
    ∙ with_line-middle done (page_to k (own_page own)) later k line.op (answer_in line.end)
    ∙ ap (λ (p : Page). done ++ p ∷ later)
    (page_to-more (own_page own) k line.op (answer_in line.end) (operation_at own k line e)
    (record_at own (led_lines lines n answered) k line e))

pub filled_none : (lines : List (List Line)) → unanswered_book (sizes lines) ≡ filled_to 0 lines
filled_none lines = refl

pub filled_all : (lines : List (List Line)) (n : ℕ) → length lines ≤ n
    → filled_to n lines ≡ book_of_lines lines
filled_all lines n all =
    ap (λ (rest : List (List Line)). book_of_lines (take n lines) ++ unanswered_book (sizes rest))
    (drop_all n lines all)
    ∙ append-nil (book_of_lines (take n lines))
    ∙ ap book_of_lines (take_all n lines all)

-- ---- the book being filled is a prefix of the whole one, so it takes the next record

-- A page has as many calls as another, and the first ones of its records.
record IsPrefixPage (part whole : Page) : Type 0 where
  calls : length part.operations ≡ length whole.operations
  records : (k : ℕ) (r : Record) → slice_get part.records k ≡ Some r
      → slice_get whole.records k ≡ Some r

abbrev ArePrefixes : List Page → List Page → Type 0
ArePrefixes [] [] = Unit {0}
ArePrefixes [] (q ∷ qs) = ⊥
ArePrefixes (p ∷ ps) [] = ⊥
ArePrefixes (p ∷ ps) (q ∷ qs) = IsPrefixPage p q × ArePrefixes ps qs

same_prefix : (p : Page) → IsPrefixPage p p
same_prefix p = record { calls = refl; records = λ k r e. e }

prefixes_same : (ps : List Page) → ArePrefixes ps ps
prefixes_same [] = tt
prefixes_same (p ∷ ps) = (same_prefix p, prefixes_same ps)

prefixes_after : (done ps qs : List Page) → ArePrefixes ps qs
    → ArePrefixes (done ++ ps) (done ++ qs)
prefixes_after [] ps qs h = h
prefixes_after (p ∷ done) ps qs h = (same_prefix p, prefixes_after done ps qs h)

prefix_to : (k : ℕ) (own : List Line) → IsPrefixPage (page_to k (own_page own)) (own_page own)
prefix_to k own = record {
  calls = length-operations_to k (own_page own).operations;
  records = λ j r e. slice_get-take k (own_page own).records j r e;
}

prefix_unanswered : (own : List Line) → IsPrefixPage (unanswered_page (length own)) (own_page own)
prefix_unanswered own = record {
  calls = length-replicate (length own) 0 ∙ sym (length-own_page own);
  records = λ k r e. absurd (none-some r e);
}

prefixes_unanswered : (lines : List (List Line))
    → ArePrefixes (unanswered_book (sizes lines)) (book_of_lines lines)
prefixes_unanswered [] = tt
prefixes_unanswered (own ∷ lines) = (prefix_unanswered own, prefixes_unanswered lines)

filling_is_prefix : (lines : List (List Line)) (n k : ℕ) → n < length lines
    → ArePrefixes (filling lines n k) (book_of_lines lines)
filling_is_prefix lines n k low =
    subst (ArePrefixes (filling lines n k)) (sym (whole_split lines n low))
    (prefixes_after (book_of_lines (take n lines)) _ _
    (prefix_to k (lines_at lines n), prefixes_unanswered (drop (n + 1) lines)))

prefix_length : (ps qs : List Page) → ArePrefixes ps qs → length ps ≡ length qs
prefix_length [] [] h = refl
prefix_length [] (q ∷ qs) h = absurd h
prefix_length (p ∷ ps) [] h = absurd h
prefix_length (p ∷ ps) (q ∷ qs) h = ap suc (prefix_length ps qs h.1)

prefix_at : (ps qs : List Page) → ArePrefixes ps qs → (i : ℕ)
    → IsPrefixPage (page_of ps i) (page_of qs i)
prefix_at [] [] h i = same_prefix (page_of [] i)
prefix_at [] (q ∷ qs) h i = absurd h
prefix_at (p ∷ ps) [] h i = absurd h
prefix_at (p ∷ ps) (q ∷ qs) h zero = h.0
prefix_at (p ∷ ps) (q ∷ qs) h (suc i) = prefix_at ps qs h.1 i

-- the page of the caller that is being filled has the caller's first k calls
page_of-filling : (lines : List (List Line)) (n k : ℕ) → n < length lines
    → page_of (filling lines n k) n ≡ page_to k (own_page (lines_at lines n))
page_of-filling lines n k low =
    ap (λ (m : ℕ). page_of (filling lines n k) m) (sym (length-prefix lines n low))
    ∙ page_of-middle (book_of_lines (take n lines)) (page_to k (own_page (lines_at lines n)))
    (unanswered_book (sizes (drop (n + 1) lines)))

pub length-filling : (lines : List (List Line)) (n k : ℕ) → n < length lines
    → length (filling lines n k) ≡ length lines
length-filling lines n k low = prefix_length (filling lines n k) (book_of_lines lines)
    (filling_is_prefix lines n k low) ∙ length-book lines

pub calls_of-filling : (lines : List (List Line)) (n k : ℕ) → n < length lines
    → calls_of (filling lines n k) n ≡ length (lines_at lines n)
calls_of-filling lines n k low =
    ap (λ (p : Page). length p.operations) (page_of-filling lines n k low)
    ∙ (length-operations_to k (own_page (lines_at lines n)).operations
    ∙ length-own_page (lines_at lines n))

pub may_take : (lines : List (List Line)) (n k : ℕ) (line : Line) → n < length lines
    → IsValid (book_of_lines lines) → HaveRecords lines → slice_get (lines_at lines n) k ≡ Some line
    → MayTake (filling lines n k) (record { caller = n; number = k }) line
may_take lines n k line low valid answered e =
    let now : List Page = filling lines n k in
    let whole : List Page = book_of_lines lines in
    let call : Call = record { caller = n; number = k } in
    let page : Page = own_page (lines_at lines n) in
    let prefixes = filling_is_prefix lines n k low in
    let in_page : (r : Record) → answer_in line.end ≡ Some r → slice_get page.records k ≡ Some r
    = λ r is. record_at (lines_at lines n) (led_lines lines n answered) k line e ∙ is in
    let there : (r : Record) → answer_in line.end ≡ Some r → record_of whole call ≡ Some r
    = λ r is. ap (λ (p : Page). slice_get p.records k) (page_of-lines lines n) ∙ in_page r is in
    record {
      wide = λ r is. valid.wide call r (there r is) ∙ sym (prefix_length now whole prefixes);
      may = λ r is.
          let within : k < length page.records = slice_get_within page.records k r (in_page r is) in
          let made : answers_of now n ≡ k = ap (λ (p : Page). length p.records)
          (page_of-filling lines n k low) ∙ length-take-le k page.records (omega (arith, within)) in
          let calls : (i : ℕ) → calls_of now i ≡ calls_of whole i =
          λ i. (prefix_at now whole prefixes i).calls in
          let all : answers_of whole n ≡ length page.records =
          ap (λ (p : Page). length p.records) (page_of-lines lines n) in
          record {
            unanswered = omega (arith, within, made, calls n, all, valid.answers n);
            within = within_announced now r.view (λ i. omega
                (arith, below_calls whole r.view (valid.within call r (there r is)) i, calls i));
            own = valid.own call r (there r is) ∙ omega (arith, made);
            comparable = λ other s has. valid.comparable call other r s (there r is)
                ((prefix_at now whole prefixes other.caller).records other.number s has);
          };
    }
