-- The bytes that are written of a book are read as this book.
use Rattle.std.proofs.Common.{◌≡◌, ℕ, zero, suc, ◌+◌, ◌<◌, ◌≤◌, ◌^◌, IsTrue, List, [], ◌∷◌, ◌++◌, length, map, get_or, Option, Some, None, refl, sym, ap, subst, ◌∙◌, append_assoc, arith, slice_get}
use Rattle.std.specs.Prelude.{unwrap_or}
use Rattle.std.proofs.lemmas.Bool.{le-ltb}
use Rattle.std.proofs.lemmas.Option.{slice_get_within}
use Rattle.std.proofs.lemmas.List.{append-nil, map-append, length-append, length-map, length-take-le}
use Rattle.list_laws.proofs.Places.{slice_get-take}
use Rattle.book_base.specs.declared.call.Call.{Call}
use Rattle.book_base.specs.declared.call.Record.{Record}
use Rattle.book_base.specs.declared.TheConstants.{MAX_CALLERS}
use Rattle.book_base.specs.Cut.{IsWithin}
use Rattle.book_base.specs.Book.{Page, page_of, calls_of, answers_of, announced, operation_of, record_of, unanswered_page, unanswered_book}
use Rattle.book_base.proofs.GrowthLemmas.{announced_at, below_calls}
use Rattle.seq_objects.specs.declared.kind.Kind.{Kind}
use Rattle.text_fields.specs.declared.version.Version.{Version}
use Rattle.text_fields.specs.declared.version.Version.TheVariants.{First, Second}
use Rattle.text_fields.specs.Version.{most_callers, most_calls}
use Rattle.text_fields.specs.Lines.{text_of}
use Rattle.text_fields.specs.Counts.{AreAtMost, AreNumbers}
use Rattle.text_fields.specs.Operations.{Operations, kind_operations}
use Rattle.text_fields.specs.Head.{TitleDue, ObjectDue, CallersDue, CountsDue, HeadRead}
use Rattle.text_fields.specs.Faults.{AllPass}
use Rattle.text_fields.proofs.Sharp.{AllPass-append}
use Rattle.book_text.specs.CallLines.{BookSoFar, MayStand, IsCallLine, calls_from, all_calls}
use Rattle.book_text.specs.Grammar.{line_of, call_lines, end_words, book_lines, IsWritable, IsWrittenText}
use Rattle.book_text.specs.BookRules.{BookDue, InHead, InCalls, AtEnd, BookPasses, book_rules, IsBookText}
use Rattle.book_text.proofs.Pages.{page_of-middle, with_line-middle, page_to, length-operations_to, page_to-more, page_to-all}

few_callers : (version : Version) → most_callers version ≤ MAX_CALLERS
few_callers First = omega arith
few_callers Second = omega arith

few_calls : (version : Version) → most_calls version < 2 ^ 64
few_calls First = omega arith
few_calls Second = omega arith

-- there is an item at each place below a list's length
there : {X : Type 0} (xs : List X) (k : ℕ) → k < length xs → (x : X) × (slice_get xs k ≡ Some x)
there [] k lt = absurd (omega arith)
there (x ∷ xs) zero lt = (x, refl)
there (x ∷ xs) (suc k) lt = there xs k (omega arith)

pub numbers_from_places : (xs : List ℕ) → ((k : ℕ) → get_or xs k 0 < 2 ^ 64) → AreNumbers xs
numbers_from_places [] h = tt
numbers_from_places (x ∷ xs) h = (h 0, numbers_from_places xs (λ k. h (suc k)))

pub at_most_from_places : (most : ℕ) (xs : List ℕ) → ((k : ℕ) → get_or xs k 0 ≤ most)
    → AreAtMost most xs
at_most_from_places most [] h = tt
at_most_from_places most (x ∷ xs) h = (h 0, at_most_from_places most xs (λ k. h (suc k)))

-- the pages of callers none of whose lines is read
abbrev unread : List Page → List Page
unread later = unanswered_book (announced later)

unread-records : (later : List Page) (i k : ℕ) (z : Record)
    → slice_get (page_of (unread later) i).records k ≡ Some z
    → slice_get (page_of later i).records k ≡ Some z
unread-records [] i k z e = e
unread-records (p ∷ later) zero k z e = absurd cc
unread-records (p ∷ later) (suc i) k z e = unread-records later i k z e

-- the records so far are the book's
records_so_far : (done : List Page) (page : Page) (later : List Page) (n i k : ℕ) (z : Record)
    → slice_get (page_of (done ++ page_to n page ∷ unread later) i).records k ≡ Some z
    → slice_get (page_of (done ++ page ∷ later) i).records k ≡ Some z
records_so_far [] page later n zero k z e = slice_get-take n page.records k z e
records_so_far [] page later n (suc i) k z e = unread-records later i k z e
records_so_far (p ∷ done) page later n zero k z e = e
records_so_far (p ∷ done) page later n (suc i) k z e = records_so_far done page later n i k z e

-- the numbers of calls so far are the book's
unread-announced : (later : List Page) → announced (unread later) ≡ announced later
unread-announced [] = refl
unread-announced (p ∷ later) =
    ap (λ (xs : List ℕ). length (unanswered_page (length p.operations)).operations ∷ xs)
    (unread-announced later)
    ∙ ap (λ (n : ℕ). n ∷ announced later) (length-operations_to 0 p.operations)

announced_so_far : (done : List Page) (page : Page) (later : List Page) (n : ℕ)
    → announced (done ++ page_to n page ∷ unread later) ≡ announced (done ++ page ∷ later)
announced_so_far [] page later n =
    ap (λ (xs : List ℕ). length (page_to n page).operations ∷ xs) (unread-announced later)
    ∙ ap (λ (m : ℕ). m ∷ announced later) (length-operations_to n page.operations)
announced_so_far (p ∷ done) page later n =
    ap (λ (xs : List ℕ). length p.operations ∷ xs) (announced_so_far done page later n)

module _ (version : Version) (kind : Kind) (book : List Page)
    (w : IsWritable version kind book) where
  abbrev operations : Operations
  operations = kind_operations version kind

  abbrev line : Call → List (List ℕ)
  line = line_of version operations book

  module _ (done : List Page) (page : Page) (later : List Page)
      (e : book ≡ done ++ page ∷ later) where
    abbrev so_far : ℕ → List Page
    so_far k = done ++ page_to k page ∷ unread later

    abbrev call_at : ℕ → Call
    call_at k = record { caller = length done; number = k }

    this_page : page_of book (length done) ≡ page
    this_page = ap (λ (b : List Page). page_of b (length done)) e ∙ page_of-middle done page later

    same_announced : (k : ℕ) → announced (so_far k) ≡ announced book
    same_announced k = announced_so_far done page later k ∙ ap announced (sym e)

    same_length : (k : ℕ) → length (so_far k) ≡ length book
    same_length k =
        let size : Page → ℕ = λ p. length p.operations in
        omega (
          arith,
          ap (length {A = ℕ}) (same_announced k),
          length-map (so_far k) size,
          length-map book size,
        )

    same_calls : (k i : ℕ) → calls_of (so_far k) i ≡ calls_of book i
    same_calls k i = sym (announced_at (so_far k) i)
        ∙ ap (λ (xs : List ℕ). get_or xs i 0) (same_announced k) ∙ announced_at book i

    known : (k : ℕ) (call : Call) (s : Record) → record_of (so_far k) call ≡ Some s
        → record_of book call ≡ Some s
    known k call s h =
        ap (λ (b : List Page). slice_get (page_of b call.caller).records call.number) e
        ∙ records_so_far done page later k call.caller call.number s h

    answers_so_far : (k : ℕ) → k ≤ length page.records → answers_of (so_far k) (length done) ≡ k
    answers_so_far k le = ap (λ (p : Page). length p.records)
        (page_of-middle done (page_to k page) (unread later)) ∙ length-take-le k page.records le

    stands : (k : ℕ) (answer : Option Record) → k < length page.operations
        → record_of book (call_at k) ≡ answer → MayStand (so_far k) (call_at k) answer
    stands k None lt at = tt
    stands k (Some r) lt at =
        let here : slice_get page.records k ≡ Some r =
        ap (λ (p : Page). slice_get p.records k) (sym this_page) ∙ at in
        let inside = slice_get_within page.records k r here in
        let count = answers_so_far k (omega arith) in
        let size : calls_of book (length done) ≡ length page.operations =
        ap (λ (p : Page). length p.operations) this_page in (
          le-ltb (answers_of (so_far k) (length done)) k (omega arith),
          w.replies (call_at k) r at,
          w.valid.wide (call_at k) r at ∙ sym (same_length k),
          numbers_from_places r.view (λ i. omega (
            arith,
            below_calls book r.view (w.valid.within (call_at k) r at) i,
            w.calls i,
            few_calls version,
          )),
          record {
            unanswered = omega (arith, same_calls k (length done));
            within =
                subst (IsWithin r.view) (sym (same_announced k)) (w.valid.within (call_at k) r at);
            own = w.valid.own (call_at k) r at ∙ ap (λ (n : ℕ). n + 1) (sym count);
            comparable = λ call s h. w.valid.comparable (call_at k) call r s at (known k call s h);
          },
        )

    -- the next line of this caller is right
    line_passes : (k : ℕ) → k < length page.operations
        → IsCallLine version operations (so_far k) (call_at k) (line (call_at k)) (so_far (k + 1))
    line_passes k lt =
        let op = there page.operations k lt in
        let spelled : operation_of book (call_at k) ≡ Some op.0 =
        ap (λ (p : Page). slice_get p.operations k) this_page ∙ op.1 in
        let is : unwrap_or (operation_of book (call_at k)) 0 ≡ op.0 =
        ap (λ (o : Option ℕ). unwrap_or o 0) spelled in
        let answer : slice_get page.records k ≡ record_of book (call_at k) =
        ap (λ (p : Page). slice_get p.records k) (sym this_page) in
        let size : calls_of book (length done) ≡ length page.operations =
        ap (λ (p : Page). length p.operations) this_page in
        record {
          named = record {
            caller = omega (arith, length-append done (page_to k page ∷ unread later));
            callers = omega (arith, same_length k, w.callers, few_callers version);
            number = omega (arith, w.calls (length done), few_calls version);
          };
          op = unwrap_or (operation_of book (call_at k)) 0;
          answer = record_of book (call_at k);
          has = subst (λ (o : ℕ). IsTrue (operations.has o)) (sym is)
              (w.operations (call_at k) op.0 spelled);
          stands = stands k (record_of book (call_at k)) lt refl;
          text = refl;
          book_is = sym (with_line-middle done (page_to k page) (unread later) k
              (unwrap_or (operation_of book (call_at k)) 0) (record_of book (call_at k))
              ∙ ap (λ (p : Page). done ++ p ∷ unread later)
              (page_to-more page k (unwrap_or (operation_of book (call_at k)) 0)
              (record_of book (call_at k)) (op.1 ∙ ap Some (sym is)) answer));
        }

    -- all remaining lines of this caller are right
    caller_passes : (k more : ℕ) (due : List Call) → k + more ≡ length page.operations
        → AllPass (BookPasses version)
        (InCalls kind (so_far k) (calls_from (length done) k more ++ due))
        (map line (calls_from (length done) k more)) (InCalls kind (so_far (k + more)) due)
    caller_passes k zero due size = let same : k ≡ k + 0 = omega arith in
        ap (λ (n : ℕ). InCalls kind (so_far n) due) same
    caller_passes k (suc more) due size =
        let same : k + 1 + more ≡ k + suc more = omega arith in
        let next : BookSoFar =
        record { book = so_far (k + 1); due = calls_from (length done) (k + 1) more ++ due } in (
          InCalls kind next.book next.due,
          (next, (line_passes k (omega arith), refl), refl),
          subst (λ (n : ℕ). AllPass (BookPasses version) (InCalls kind next.book next.due)
              (map line (calls_from (length done) (k + 1) more)) (InCalls kind (so_far n) due)) same
              (caller_passes (k + 1) more due (omega arith)),
        )

    whole_page : so_far (length page.operations) ≡ done ++ page ∷ unread later
    whole_page =
        let le : length page.records ≤ length page.operations
        = omega (
          arith,
          w.valid.answers (length done),
          ap (λ (p : Page). length p.records) this_page,
          ap (λ (p : Page). length p.operations) this_page,
        ) in
        ap (λ (p : Page). done ++ p ∷ unread later) (page_to-all page le)

  -- the lines of all callers from one on are right
  callers_pass : (done later : List Page) → book ≡ done ++ later
      → AllPass (BookPasses version)
      (InCalls kind (done ++ unread later) (all_calls (length done) (announced later)))
      (map line (all_calls (length done) (announced later))) (InCalls kind book [])
  callers_pass done [] e = ap (λ (b : List Page). InCalls kind b []) (sym e)
  callers_pass done (page ∷ later) e =
      let mine = calls_from (length done) 0 (length page.operations) in
      let others = all_calls (length done + 1) (announced later) in
      let first = caller_passes done page later e 0 (length page.operations) others (omega arith) in
      let size : length (done ++ page ∷ []) ≡ length done + 1 = length-append done (page ∷ []) in
      let joined : (later : List Page) → (done ++ page ∷ []) ++ later ≡ done ++ page ∷ later =
      λ ps. append_assoc done (page ∷ []) ps in
      let rest = callers_pass (done ++ page ∷ []) later (e ∙ sym (joined later)) in
      let moved : AllPass (BookPasses version) (InCalls kind (done ++ page ∷ unread later) others)
      (map line others) (InCalls kind book [])
      = subst (λ (b : List Page). AllPass (BookPasses version) (InCalls kind b others)
      (map line others) (InCalls kind book [])) (joined (unread later))
      (subst (λ (i : ℕ). AllPass (BookPasses version)
      (InCalls kind ((done ++ page ∷ []) ++ unread later) (all_calls i (announced later)))
      (map line (all_calls i (announced later))) (InCalls kind book [])) size rest) in
      let none : 0 + length page.operations ≡ length page.operations = omega arith in
      let reached : InCalls kind (so_far done page later e (0 + length page.operations)) others
      ≡ InCalls kind (done ++ page ∷ unread later) others
      = ap (λ (b : List Page). InCalls kind b others)
      (ap (so_far done page later e) none ∙ whole_page done page later e) in
      subst (λ (lines : List (List (List ℕ))). AllPass (BookPasses version) (InCalls kind
      (done ++ unread (page ∷ later)) (mine ++ others)) lines (InCalls kind book []))
      (sym (map-append line mine others))
      (AllPass-append (book_rules version)
      (InCalls kind (done ++ unread (page ∷ later)) (mine ++ others))
      (InCalls kind (done ++ page ∷ unread later) others) (InCalls kind book []) (map line mine)
      (map line others)
      (subst (λ (due : BookDue). AllPass (BookPasses version) (InCalls kind
      (done ++ unread (page ∷ later)) (mine ++ others)) (map line mine) due) reached first)
      moved)

  -- the lines of a book are right from the title to the end
  lines_pass : AllPass (BookPasses version) (InHead TitleDue) (book_lines version kind book)
      (AtEnd kind book)
  lines_pass =
      let counts = announced book in
      let size : length counts ≡ length book =
      length-map book (λ (p : Page). length p.operations) in
      let calls = callers_pass [] book refl in
      let last : AllPass (BookPasses version) (InCalls kind book []) (end_words ∷ [])
      (AtEnd kind book) = (AtEnd kind book, (refl, refl), refl) in (
        InHead ObjectDue,
        (ObjectDue, (refl, refl), refl),
        (
          InHead (CallersDue kind),
          (CallersDue kind, (kind, w.kind_known, refl, refl), refl),
          (
            InHead (CountsDue kind (length counts)),
            (
              CountsDue kind (length counts),
              (
                length counts,
                record { some = omega (arith, w.some); few = omega (arith, w.callers) },
                refl,
                refl,
              ),
              refl,
            ),
            (
              InCalls kind (unanswered_book counts) (all_calls 0 counts),
              (
                HeadRead kind counts,
                (
                  counts,
                  record {
                    count = refl;
                    few = at_most_from_places (most_calls version) counts
                        (λ i. omega (arith, announced_at book i, w.calls i));
                  },
                  refl,
                  refl,
                ),
                refl,
              ),
              AllPass-append (book_rules version)
                  (InCalls kind (unanswered_book counts) (all_calls 0 counts))
                  (InCalls kind book []) (AtEnd kind book) (call_lines version operations book)
                  (end_words ∷ []) calls last,
            ),
          ),
        ),
      )

  pub writable_is_read : IsBookText version (text_of (book_lines version kind book)) kind book
  writable_is_read =
      let lines = book_lines version kind book in (
        record { bytes = []; number = 1 + length lines },
        record {
          goes = record {
            lines = lines;
            right = lines_pass;
            bytes = sym (append-nil (text_of lines));
            number = refl;
          };
          through = refl;
        },
      )

-- the bytes that are written of a book are read as this book
pub written_is_read : (version : Version) (bytes : List ℕ) (kind : Kind) (book : List Page)
    → IsWrittenText version bytes kind book → IsBookText version bytes kind book
written_is_read version bytes kind book h = subst (λ (b : List ℕ). IsBookText version b kind book)
    (sym h.text) (writable_is_read version kind book h.writable)
