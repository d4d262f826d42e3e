-- The counted rows are the book of the locals, but for the records that aren't published.
use Rattle.std.proofs.Common.{◌≡◌, ℕ, ◌+◌, ◌<◌, ◌≤◌, List, [], length, map, take, get_or, Some, slice_get, slice_index, slice_index_or, refl, sym, ap, ◌∙◌, arith, inl, inr, length-take}
use Rattle.std.specs.List.{range_with_len}
use Rattle.std.proofs.lemmas.Bool.{cases_lt}
use Rattle.std.proofs.lemmas.List.{ext_get_or, take_all, take-take, get_or_past, length-take-le}
use Rattle.std.proofs.lemmas.List.FromFn.{length-map-range_with_len, get_or-map-range_with_len, take-map-range_with_len}
use Rattle.std.proofs.lemmas.Option.{slice_get_past, slice_get-get_or}
use Rattle.list_laws.proofs.Prefixes.{same_from_places, slice_get-take_within}
use Rattle.list_laws.proofs.Places.{slice_get-take}
use Rattle.book_base.specs.declared.call.Call.{Call}
use Rattle.book_base.specs.declared.call.Record.{Record}
use Rattle.book_base.specs.OperationWord.{low_of, high_of, joined}
use Rattle.book_base.specs.Cut.{Holds, IsWithin}
use Rattle.book_base.specs.Book.{Page, page_of, calls_of, answers_of, answered, operation_of, record_of, IsCall, IsValid}
use Rattle.book_base.specs.BookAt.{IsHeldBySomeView, IsBookAt, book_at}
use Rattle.book_base.proofs.PageLemmas.{empty, page_past}
use Rattle.book_base.proofs.GrowthLemmas.{within_announced, below_calls}
use Rattle.book_base.proofs.ViewLemmas.{answered_at}
use Rattle.legal_orders.proofs.BookAtLaws.{is_the_book_at, is_the_only_one, stays_valid, record_counts_are_the_cut}
use Rattle.world_core.specs.declared.region.Region.TheVariants.{N, M}
use Rattle.world_core.specs.Shape.{Shape}
use Rattle.world_core.specs.Local.{Local, word_of}
use Rattle.world_core.specs.World.{World, Step, local_of, count_of, row_word, IsRun, end_of}
use Rattle.world_core.specs.Agreement.{Agrees}
use Rattle.world_core.specs.Calls.{AreTogether, IsPublished, record_in, book_in}
use Rattle.world_laws.proofs.Running.{locals_agree}
use Rattle.world_laws.proofs.Locals.{locals_have_phases, given_cuts_are_published}
use Rattle.world_laws.proofs.OwnEntries.{views_count_their_call}
use Rattle.world_laws.specs.Rows.{operation_in_row, record_in_row, page_in_rows, book_in_rows, IsInTheRows, RowsAreAValidBook, BooksAtCutsAreInTheRows, BooksAtGivenCutsAreInTheRows}
use Rattle.world_laws.proofs.Pages.{slice_get-made, operation_in_book, calls_in_book, records_in_book}
use Rattle.world_laws.proofs.Validity.{all_lengths, book_long, books_are_valid}
use Rattle.world_laws.proofs.Gathered.{view_place, same_record}

-- an operation is the one that its two words make
words_make : (op : ℕ) → joined (low_of op) (high_of op) ≡ op
words_make op = omega arith

-- what is made of the numbers below another, by functions that are equal there
made_same : {X : Type 0} (f g : ℕ → X) (n : ℕ) → ((k : ℕ) → k < n → f k ≡ g k)
    → map f (range_with_len 0 n) ≡ map g (range_with_len 0 n)
made_same f g n h = same_from_places (map f (range_with_len 0 n)) (map g (range_with_len 0 n))
    (λ k. elim (cases_lt k n) [
      | inl low ↦ slice_get-made f n k low ∙ ap Some (h k low) ∙ sym (slice_get-made g n k low)
      | inr past ↦
          slice_get_past (map f (range_with_len 0 n)) k
          (omega (arith, past, length-map-range_with_len f 0 n))
          ∙ sym (slice_get_past (map g (range_with_len 0 n)) k
          (omega (arith, past, length-map-range_with_len g 0 n)))
    ])

module _ (s : Shape) (steps : List Step) (run : IsRun s steps) where
  abbrev last : World
  last = end_of s steps

  abbrev rows : List Page
  rows = book_in_rows s last

  abbrev book : List Page
  book = book_in last.locals

  are : AreTogether s last.locals
  are = (last, (steps, run, refl), refl)

  long : length last.locals ≡ s.callers
  long = (locals_have_phases s last.locals are).0

  rows_long : length rows ≡ s.callers
  rows_long = length-map-range_with_len (λ i. page_in_rows s last i) 0 s.callers

  page_is : (i : ℕ) → i < s.callers → page_of rows i ≡ page_in_rows s last i
  page_is i low =
      get_or-map-range_with_len (λ j. page_in_rows s last j) 0 s.callers i i empty low (omega arith)

  module _ (i : ℕ) (low : i < s.callers) where
    abbrev mine : Local
    mine = local_of last i

    agrees : Agrees s last.words i mine
    agrees = locals_agree s steps i run low

    operation_is : (k : ℕ) → k < mine.announced
        → operation_in_row s last i k ≡ slice_index mine.operations k
    operation_is k below =
        ap (λ (x : ℕ). joined x (row_word s last N i k 1)) (agrees.rows N k 0 below (omega arith))
        ∙ ap (λ (y : ℕ). joined (low_of (slice_index mine.operations k)) y)
        (agrees.rows N k 1 below (omega arith))
        ∙ words_make (slice_index mine.operations k)

    operations_are : (page_of rows i).operations ≡ mine.operations
    operations_are =
        ap (λ (p : Page). p.operations) (page_is i low)
        ∙ same_from_places
        (map (λ k. operation_in_row s last i k) (range_with_len 0 (count_of s last N i)))
        mine.operations (λ k.
        elim (cases_lt k (count_of s last N i)) [
          | inl below ↦
              let announced : k < mine.announced = omega (arith, below, agrees.counts N) in
              slice_get-made (λ j. operation_in_row s last i j) (count_of s last N i) k below
              ∙ ap Some (operation_is k announced)
              ∙ sym (slice_get-get_or mine.operations k 0
              (omega (arith, announced, agrees.phase.operations)))
          | inr past ↦
              slice_get_past
              (map (λ j. operation_in_row s last i j) (range_with_len 0 (count_of s last N i))) k
              (omega (
                arith,
                past,
                length-map-range_with_len (λ j. operation_in_row s last i j) 0
                    (count_of s last N i),
              ))
              ∙ sym (slice_get_past mine.operations k
              (omega (arith, past, agrees.counts N, agrees.phase.operations)))
        ])

    record_is : (k : ℕ) → k < mine.published → record_in_row s last i k ≡ record_in mine k
    record_is k below =
        let viewed : k < length mine.views =
        omega (arith, below, (all_lengths s last.locals are i).published) in
        let wide = (views_count_their_call s last.locals i k are low viewed).wide in
        let made : ℕ → ℕ = λ j. row_word s last M i k (1 + j) in
        let size : length (map made (range_with_len 0 s.callers)) ≡ s.callers =
        length-map-range_with_len made 0 s.callers in
        same_record (record_in_row s last i k) (record_in mine k)
        (agrees.rows M k 0 below (omega arith))
        (ext_get_or 0 (map made (range_with_len 0 s.callers)) (slice_index_or mine.views k [])
        (size ∙ sym (wide ∙ long)) (λ j inside.
        let there : j < s.callers = omega (arith, inside, size) in
        get_or-map-range_with_len made 0 s.callers j j 0 there (omega arith)
        ∙ agrees.rows M k (1 + j) below (omega (arith, there))
        ∙ ap (word_of mine k) (view_place s.callers j there)))

    own_records : (page_of rows i).records ≡ take mine.published (page_of book i).records
    own_records =
        let few : mine.published ≤ length mine.views =
        (all_lengths s last.locals are i).published in
        ap (λ (p : Page). p.records) (page_is i low)
        ∙ ap (λ n. map (λ k. record_in_row s last i k) (range_with_len 0 n)) (agrees.counts M)
        ∙ made_same (λ k. record_in_row s last i k) (λ k. record_in mine k) mine.published record_is
        ∙ sym
        (take-map-range_with_len (λ k. record_in mine k) 0 (length mine.views) mine.published few)
        ∙ ap (take mine.published)
        (sym (records_in_book last.locals (all_lengths s last.locals are) i))

  records_are : (i : ℕ)
      → (page_of rows i).records ≡ take (local_of last i).published (page_of book i).records
  records_are i =
      elim (cases_lt i s.callers) [
        | inl low ↦ own_records i low
        | inr past ↦
            ap (λ (p : Page). p.records) (page_past rows i (omega (arith, past, rows_long)))
            ∙ (sym (take_all (local_of last i).published [] (omega arith))
            ∙ ap (λ (p : Page). take (local_of last i).published p.records)
            (sym (page_past book i (omega (arith, past, long, book_long last.locals)))))
      ]

  same_operations : (call : Call) → operation_of rows call ≡ operation_of book call
  same_operations call =
      elim (cases_lt call.caller s.callers) [
        | inl low ↦
            ap (λ (ops : List ℕ). slice_get ops call.number) (operations_are call.caller low)
            ∙ sym (operation_in_book last.locals (all_lengths s last.locals are) call)
        | inr past ↦
            ap (λ (p : Page). slice_get p.operations call.number)
            (page_past rows call.caller (omega (arith, past, rows_long)))
            ∙ ap (λ (p : Page). slice_get p.operations call.number)
            (sym (page_past book call.caller (omega (arith, past, long, book_long last.locals))))
      ]

  same_calls : (i : ℕ) → calls_of rows i ≡ calls_of book i
  same_calls i =
      elim (cases_lt i s.callers) [
        | inl low ↦ ap length (operations_are i low)
            ∙ sym (calls_in_book last.locals (all_lengths s last.locals are) i)
        | inr past ↦
            ap (λ (p : Page). length p.operations)
            (page_past rows i (omega (arith, past, rows_long)))
            ∙ ap (λ (p : Page). length p.operations)
            (sym (page_past book i (omega (arith, past, long, book_long last.locals))))
      ]

  known : (call : Call) (r : Record) → record_of rows call ≡ Some r → record_of book call ≡ Some r
  known call r e =
      slice_get-take (local_of last call.caller).published
      (page_of book call.caller).records call.number r
      (ap (λ (rs : List Record). slice_get rs call.number) (sym (records_are call.caller)) ∙ e)

  good : IsValid book
  good = books_are_valid s last.locals are

  valid : IsValid rows
  valid =
      record {
        answers = λ i. omega (
          arith,
          ap (λ (rs : List Record). length rs) (records_are i),
          length-take (local_of last i).published (page_of book i).records,
          good.answers i,
          same_calls i,
        );
        wide = λ call r e. good.wide call r (known call r e) ∙ (book_long last.locals ∙ long)
            ∙ sym rows_long;
        within = λ call r e. within_announced rows r.view (λ i. omega
            (arith, below_calls book r.view (good.within call r (known call r e)) i, same_calls i));
        own = λ call r e. good.own call r (known call r e);
        comparable = λ a b r q x y. good.comparable a b r q (known a r x) (known b q y);
      }

  module _ (cut : List ℕ) (p : IsPublished last.locals cut) where
    low_cut : (i : ℕ) → get_or cut i 0 ≤ (local_of last i).published
    low_cut i = elim (cases_lt i (length last.locals)) [
      | inl low ↦ p.within i low
      | inr past ↦ omega (arith, get_or_past cut i 0 (omega (arith, past, p.wide)))
    ]

    same_record_of : (call : Call) → Holds cut call → record_of rows call ≡ record_of book call
    same_record_of call held =
        ap (λ (rs : List Record). slice_get rs call.number) (records_are call.caller)
        ∙ slice_get-take_within (local_of last call.caller).published
        (page_of book call.caller).records call.number (omega (arith, held, low_cut call.caller))

    part_of_rows : IsBookAt rows cut (book_at cut rows)
    part_of_rows = is_the_book_at rows cut valid

    part_of_book : IsBookAt book cut (book_at cut rows)
    part_of_book =
        let at = part_of_rows in
        record {
          callers = at.callers ∙ rows_long ∙ sym (book_long last.locals ∙ long);
          records = λ i.
              at.records i ∙ ap (take (get_or cut i 0)) (records_are i)
              ∙ take-take (get_or cut i 0) (local_of last i).published (page_of book i).records
              (low_cut i);
          calls = λ call. (
            λ (h : IsCall (book_at cut rows) call). let held = (at.calls call).0 h in
                (held.0, held.1, held.2, known held.0 held.1 held.3, held.4),
            λ (h : IsHeldBySomeView book cut call).
                (at.calls call).1 (h.0, h.1, h.2, same_record_of h.0 h.2 ∙ h.3, h.4),
          );
          operations = λ call h. at.operations call h ∙ same_operations call;
        }

    within_rows : IsWithin cut (answered rows)
    within_rows i =
        let size : answers_of rows i
        ≡ length (take (local_of last i).published (page_of book i).records) =
        ap (λ (rs : List Record). length rs) (records_are i) in
        let all : length (take (local_of last i).published (page_of book i).records)
        ≡ (local_of last i).published =
        length-take-le (local_of last i).published (page_of book i).records (published_few i) in
        omega (arith, low_cut i, size, all, answered_at rows i)
      where
        published_few : (j : ℕ) → (local_of last j).published ≤ answers_of book j
        published_few j =
            let h = all_lengths s last.locals are j in
            omega (
              arith,
              h.published,
              ap (λ (rs : List Record). length rs)
                  (records_in_book last.locals (all_lengths s last.locals are) j),
              length-map-range_with_len (λ k. record_in (local_of last j) k) 0
                  (length (local_of last j).views),
            )

    in_the_rows : IsInTheRows s last cut
    in_the_rows = (
      record {
        valid = stays_valid rows cut valid;
        at = part_of_rows;
        counts = record_counts_are_the_cut rows cut (p.wide ∙ long ∙ sym rows_long) within_rows;
      },
      is_the_only_one book cut (book_at cut rows) good part_of_book,
    )

pub rows_are_a_valid_book : RowsAreAValidBook
rows_are_a_valid_book s steps run = record {
  valid = valid s steps run;
  operations = same_operations s steps run;
  records = records_are s steps run;
}

pub books_at_cuts_are_in_the_rows : BooksAtCutsAreInTheRows
books_at_cuts_are_in_the_rows s steps cut run p = in_the_rows s steps run cut p

pub books_at_given_cuts_are_in_the_rows : BooksAtGivenCutsAreInTheRows
books_at_given_cuts_are_in_the_rows s steps i q given run low e region =
    in_the_rows s steps run given.cut
    (given_cuts_are_published s (end_of s steps).locals i q given (are s steps run) low e region)
