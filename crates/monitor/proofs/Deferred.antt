-- What clients that judge no call leave, and the book of all their lines.
use Rattle.std.proofs.Common.{◌≡◌, ◌∙◌, refl, ap, ap₂, subst, ℕ, suc, ◌*◌, ◌<◌, false, Bool, List, [], ◌∷◌, ◌++◌, map, arith}
use Rattle.std.specs.Prelude.{◌||◌, if◌then◌else◌, length}
use Rattle.std.specs.List.{flat_map}
use Rattle.book_base.specs.SeqSpec.{SeqSpec}
use Rattle.book_base.specs.Book.{Page}
use Rattle.book_base.specs.declared.call.Record.{Record}
use Rattle.world_core.specs.Local.{Local}
use Rattle.world_core.specs.Calls.{Reached, Is_announced, Has_record, Has_seen, Made, records_of, page_with, calls_in, book_in, local_at}
use Rattle.report_lines.specs.declared.line.LineEnd.{LineEnd}
use Rattle.report_lines.specs.declared.line.Line.{Line}
use Rattle.report_lines.specs.Lines.{made_of, reached_of, is_error, any_error, book_of_lines, lines_at}
use Rattle.report_lines.specs.Phases.{HasMade}
use Rattle.report_lines.specs.Allotments.{phases_of}
use Rattle.client_calls.specs.Ends.{SaysDeferred, EndsAs, AreLinesOfCalls}
use Rattle.monitor.specs.Deferred.{HavePage, DeferringClientsMakeAll, LinesAreTheBook}

module _ (object : SeqSpec) (n : ℕ) (l : Local) where
  -- a line that isn't judged has the record of its call, and is no error
  same_records : (reached : Reached) (end : LineEnd) → EndsAs (SaysDeferred object n l) reached end
      → records_of (reached_of end) ≡ records_of reached
  same_records Is_announced end h = ap (λ e. records_of (reached_of e)) h
  same_records (Has_record r) end h = ap (λ e. records_of (reached_of e)) h
  same_records (Has_seen r cut) end h = ap (λ e. records_of (reached_of e)) h

  no_error : (reached : Reached) (line : Line) → EndsAs (SaysDeferred object n l) reached line.end
      → is_error line ≡ false
  no_error Is_announced line h = ap (λ e. is_error (record { op = line.op; end = e })) h
  no_error (Has_record r) line h = ap (λ e. is_error (record { op = line.op; end = e })) h
  no_error (Has_seen r cut) line h = ap (λ e. is_error (record { op = line.op; end = e })) h

  same_operations : (calls : List Made) (own : List Line)
      → AreLinesOfCalls (SaysDeferred object n l) calls own
      → map (λ (c : Made). c.operation) (map made_of own) ≡ map (λ (c : Made). c.operation) calls
  same_operations [] [] h = refl
  same_operations [] (line ∷ own) h = absurd h
  same_operations (call ∷ calls) [] h = absurd h
  same_operations (call ∷ calls) (line ∷ own) h =
      ap₂ (λ (o : ℕ) (os : List ℕ). o ∷ os) h.0.operation (same_operations calls own h.1)

  all_records : (calls : List Made) (own : List Line)
      → AreLinesOfCalls (SaysDeferred object n l) calls own
      → flat_map (λ (c : Made). records_of c.reached) (map made_of own)
      ≡ flat_map (λ (c : Made). records_of c.reached) calls
  all_records [] [] h = refl
  all_records [] (line ∷ own) h = absurd h
  all_records (call ∷ calls) [] h = absurd h
  all_records (call ∷ calls) (line ∷ own) h =
      ap₂ (λ (r : List Record) (rs : List Record). r ++ rs)
      (same_records call.reached line.end h.0.end) (all_records calls own h.1)

  pub no_errors : (calls : List Made) (own : List Line)
      → AreLinesOfCalls (SaysDeferred object n l) calls own → any_error own ≡ false
  no_errors [] [] h = refl
  no_errors [] (line ∷ own) h = absurd h
  no_errors (call ∷ calls) [] h = absurd h
  no_errors (call ∷ calls) (line ∷ own) h =
      ap₂ (λ (a b : Bool). a || b) (no_error call.reached line h.0.end) (no_errors calls own h.1)

  same_page : (calls : List Made) (own : List Line)
      → AreLinesOfCalls (SaysDeferred object n l) calls own
      → page_with (map made_of own) ≡ page_with calls
  same_page calls own h =
      ap₂ (λ (os : List ℕ) (rs : List Record). record { operations = os; records = rs })
      (same_operations calls own h) (all_records calls own h)

pub deferring_clients_make_all : DeferringClientsMakeAll
deferring_clients_make_all object n operations allotment p l own h =
    let all : phases_of allotment own ≡ allotment =
    ap (λ (b : Bool). if b then 5 * length own else allotment)
    (no_errors object n l (calls_in l) own h.left.lines) in
    record {
      page = same_page object n l (calls_in l) own h.left.lines;
      all = h.is ∙ all;
      made = subst (λ (k : ℕ). HasMade operations k l) all h.left.made;
    }

-- the books are equal page by page
same_book : (locals : List Local) (lines : List (List Line)) → length lines ≡ length locals
    → ((i : ℕ) → i < length lines → HavePage (lines_at lines i) (local_at locals i))
    → book_of_lines lines ≡ book_in locals
same_book [] [] long pages = refl
same_book [] (own ∷ lines) long pages = absurd (omega (arith, long))
same_book (l ∷ locals) [] long pages = absurd (omega (arith, long))
same_book (l ∷ locals) (own ∷ lines) long pages =
    ap₂ (λ (page : Page) (book : List Page). page ∷ book) (pages 0 (omega arith))
    (same_book locals lines (omega (arith, long)) (λ i low. pages (suc i) (omega (arith, low))))

pub lines_are_the_book : LinesAreTheBook
lines_are_the_book locals lines h = same_book locals lines h.as_many h.pages
