-- A part of a book, put together: its calls, their operations, and then their answers.
use Rattle.std.proofs.Common.{◌≡◌, ◌≢◌, ℕ, zero, suc, ◌+◌, ◌<◌, ◌≤◌, ◌∙◌, List, [], ◌∷◌, ◌++◌, length, map, get_or, set, Some, zero-add, refl, sym, ap, subst, inl, inr, slice_get, arith}
use Rattle.std.specs.Option.{IsSomeAnd}
use Rattle.std.proofs.lemmas.Bool.{cases_eq}
use Rattle.std.proofs.lemmas.List.{length-set, length_push, length-map, length-replicate, get_or-map}
use Rattle.std.specs.List.{range_with_len}
use Rattle.std.proofs.lemmas.List.{map-append, map-id}
use Rattle.std.proofs.lemmas.List.FromFn.{map-range_with_len_more}
use Rattle.std.specs.Prelude.{Vec, Result, Ok, Err, OnOk}
use Rattle.std.proofs.lemmas.Option.{slice_get_within}
use Rattle.book_base.specs.declared.call.Call.{Call}
use Rattle.book_base.specs.declared.call.Record.{Record}
use Rattle.book_base.specs.Cut.{IsWithin}
use Rattle.book_base.specs.Book.{Page, page_of, calls_of, answers_of, IsCall, operation_of, record_of, IsValid, with_answer, with_operation, first_unanswered, unanswered_page, unanswered_book}
use Rattle.book_base.specs.Refusal.{MayAnswer}
use Rattle.book_base.proofs.GrowthLemmas.{page_of-unanswered_book, page_of-set_same, page_of-set_other, within_announced, calls_of-with_answer, calls_of-with_operation, records-with_operation, record_of-with_answer_cases}
use Rattle.legal_orders.proofs.LegalOrder.{same_call}
use Rattle.smaller_book.specs.Part.{numbers_of, AreRising, count_below, original, IsRenumbered, IsPart}
use Rattle.smaller_book.specs.Numbers.{numbers_in}
use Rattle.smaller_book.proofs.Counts.{count_below-within, count_below-past, count_below-monotone}
use Rattle.smaller_book.proofs.Following.{record_was}

-- A book with one more answer has the operations that it had before.
operations-with_answer : (book : List Page) (i : ℕ) (r : Record) (j : ℕ) → i < length book
    → (page_of (with_answer book i r) j).operations ≡ (page_of book j).operations
operations-with_answer book i r j inside =
    let p : Page = record (page_of book i) { records = (page_of book i).records ++ r ∷ [] } in
    elim (cases_eq j i) [
      | inl e ↦
          subst (λ (k : ℕ). (page_of (set book i p) k).operations ≡ (page_of book k).operations)
          (sym e) (ap (λ (q : Page). q.operations) (page_of-set_same book i p inside))
      | inr other ↦ ap (λ (q : Page). q.operations) (page_of-set_other book i j p other)
    ]

-- A caller whose call is answered has one answer more than before.
pub answers_of-with_answer : (book : List Page) (i : ℕ) (r : Record) → i < length book
    → answers_of (with_answer book i r) i ≡ answers_of book i + 1
answers_of-with_answer book i r inside =
    let p : Page = record (page_of book i) { records = (page_of book i).records ++ r ∷ [] } in
    ap (λ (q : Page). length q.records) (page_of-set_same book i p inside)
    ∙ length_push (page_of book i).records r

-- A caller other than the one whose call is answered has as many answers as before.
pub answers_of-with_answer_other : (book : List Page) (i : ℕ) (r : Record) (j : ℕ) → j ≢ i
    → answers_of (with_answer book i r) j ≡ answers_of book j
answers_of-with_answer_other book i r j other =
    let p : Page = record (page_of book i) { records = (page_of book i).records ++ r ∷ [] } in
    ap (λ (q : Page). length q.records) (page_of-set_other book i j p other)

-- Where the part's first unanswered call of a caller was the book's call with this number, a record
-- of that call in the book is the record of the call that the part's call was.
pub due : (book : List Page) (names : List (List ℕ)) (part : List Page) (i number : ℕ)
    (whole : Record) → get_or (numbers_of names i) (answers_of part i) 0 ≡ number
    → record_of book (record { caller = i; number = number }) ≡ Some whole
    → record_of book (original names (first_unanswered part i)) ≡ Some whole
due book names part i number whole here known =
    ap (λ (n : ℕ). record_of book (record { caller = i; number = n })) here ∙ known

-- A part stays a part of the book where its first unanswered call of a caller gets the book's
-- record, with its view renumbered.
pub part-with_answer : (book : List Page) (names : List (List ℕ)) (part : List Page) (i : ℕ)
    (whole answer : Record) → IsPart book names part → i < length part
    → answers_of part i < calls_of part i
    → record_of book (original names (first_unanswered part i)) ≡ Some whole
    → IsRenumbered names whole answer
    → IsPart book names (with_answer part i answer)
part-with_answer book names part i whole answer is inside room known kept = record {
  callers = length-set part i
      (record (page_of part i) { records = (page_of part i).records ++ answer ∷ [] }) ∙ is.callers;
  calls = λ j. calls_of-with_answer part i answer j inside ∙ is.calls j;
  rising = is.rising;
  operations = λ call there.
      ap (λ (ops : List ℕ). slice_get ops call.number)
      (operations-with_answer part i answer call.caller inside)
      ∙ is.operations call
      (omega (arith, there, calls_of-with_answer part i answer call.caller inside));
  answers = λ j. elim (cases_eq j i) [
    | inl e ↦ omega (
      arith,
      e,
      ap (answers_of (with_answer part i answer)) e,
      ap (calls_of (with_answer part i answer)) e,
      answers_of-with_answer part i answer inside,
      calls_of-with_answer part i answer i inside,
      room,
    )
    | inr other ↦ omega (
      arith,
      answers_of-with_answer_other part i answer j other,
      calls_of-with_answer part i answer j inside,
      is.answers j,
    )
  ];
  records =
      λ call small there. elim (record_of-with_answer_cases part i answer call small inside there) [
        | inl old ↦ is.records call small old
        | inr new ↦
            let here : call ≡ first_unanswered part i =
            same_call call (first_unanswered part i) new.0 new.1 in
            let found : record_of book (original names call) ≡ Some whole =
            ap (λ (c : Call). record_of book (original names c)) here ∙ known in
            subst (λ o. IsSomeAnd o (λ (w : Record). IsRenumbered names w small)) (sym found)
            (subst (IsRenumbered names whole) (sym new.2) kept)
      ];
}

-- A part may take, as the answer to its first unanswered call of a caller, the book's record of the
-- call that this call was, with its view renumbered.
pub may_answer : (book : List Page) (names : List (List ℕ)) (part : List Page) (i : ℕ)
    (whole answer : Record) → IsValid book → IsPart book names part
    → answers_of part i < length (numbers_of names i)
    → record_of book (original names (first_unanswered part i)) ≡ Some whole
    → IsRenumbered names whole answer
    → MayAnswer part i answer.view
may_answer book names part i whole answer valid is room known kept = record {
  unanswered = omega (arith, room, is.calls i);
  within = within_announced part answer.view (λ (j : ℕ). omega (
    arith,
    kept.view j,
    count_below-within (numbers_of names j) (get_or whole.view j 0),
    is.calls j,
  ));
  own =
      let xs : List ℕ = numbers_of names i in
      kept.view i
      ∙ (ap (count_below xs) (valid.own (original names (first_unanswered part i)) whole known)
      ∙ count_below-past xs (answers_of part i) (is.rising i) room);
  comparable = λ (call : Call) (r : Record) (there : record_of part call ≡ Some r).
      let was = record_was book names part is call r there in
      let more : (a b : Record) (small large : Record) → IsRenumbered names a small
      → IsRenumbered names b large → IsWithin a.view b.view → IsWithin small.view large.view
      = λ a b small large first second within j. omega (
        arith,
        first.view j,
        second.view j,
        count_below-monotone (numbers_of names j) (get_or a.view j 0) (get_or b.view j 0)
            (is.rising j) (within j),
      ) in
      elim (valid.comparable (original names (first_unanswered part i))
      (original names call) whole was.0 known was.1) [
        | inl within ↦ inl (more whole was.0 answer r kept was.2 within)
        | inr within ↦ inr (more was.0 whole r answer was.2 kept within)
      ];
}

-- A book with the callers, the calls and the operations of a part and no answers is a part.
pub part_without_answers : (book : List Page) (names : List (List ℕ)) (part : List Page)
    → length part ≡ length book → ((i : ℕ) → calls_of part i ≡ length (numbers_of names i))
    → ((i : ℕ) → AreRising (numbers_of names i)) → ((i : ℕ) → answers_of part i ≡ 0)
    → ((call : Call) → IsCall part call
    → operation_of part call ≡ operation_of book (original names call)) → IsPart book names part
part_without_answers book names part callers calls rising none operations = record {
  callers = callers;
  calls = calls;
  rising = rising;
  operations = operations;
  answers = λ i. omega (arith, none i);
  records = λ call small there.
      absurd (omega (arith, none call.caller, slice_get_within _ call.number small there));
}

-- A list in which an item is put at a place has this item there.
slice_get-set_same : {X : Type 0} (xs : List X) (i : ℕ) (x : X) → i < length xs
    → slice_get (set xs i x) i ≡ Some x
slice_get-set_same [] i x inside = absurd (omega arith)
slice_get-set_same (y ∷ xs) zero x inside = refl
slice_get-set_same (y ∷ xs) (suc i) x inside = slice_get-set_same xs i x (omega arith)

slice_get-set_other : {X : Type 0} (xs : List X) (i j : ℕ) (x : X) → j ≢ i
    → slice_get (set xs i x) j ≡ slice_get xs j
slice_get-set_other [] i j x other = refl
slice_get-set_other (y ∷ xs) zero zero x other = absurd (other refl)
slice_get-set_other (y ∷ xs) zero (suc j) x other = refl
slice_get-set_other (y ∷ xs) (suc i) zero x other = refl
slice_get-set_other (y ∷ xs) (suc i) (suc j) x other =
    slice_get-set_other xs i j x (λ e. other (ap suc e))

operation_of-with_operation : (book : List Page) (call : Call) (op : ℕ) → call.caller < length book
    → IsCall book call → operation_of (with_operation book call op) call ≡ Some op
operation_of-with_operation book call op here inside =
    let p : Page = record (page_of book call.caller)
    { operations = set (page_of book call.caller).operations call.number op } in
    ap (λ (q : Page). slice_get q.operations call.number) (page_of-set_same book call.caller p here)
    ∙ slice_get-set_same (page_of book call.caller).operations call.number op inside

operation_of-with_operation_later : (book : List Page) (call : Call) (op number : ℕ)
    → call.caller < length book → number ≢ call.number
    → operation_of (with_operation book call op) (record { caller = call.caller; number = number })
    ≡ operation_of book (record { caller = call.caller; number = number })
operation_of-with_operation_later book call op number here other =
    let p : Page = record (page_of book call.caller)
    { operations = set (page_of book call.caller).operations call.number op } in
    ap (λ (q : Page). slice_get q.operations number) (page_of-set_same book call.caller p here)
    ∙ slice_get-set_other (page_of book call.caller).operations call.number number op other

operation_of-with_operation_other : (book : List Page) (call other : Call) (op : ℕ)
    → other.caller ≢ call.caller
    → operation_of (with_operation book call op) other ≡ operation_of book other
operation_of-with_operation_other book call other op apart =
    let p : Page = record (page_of book call.caller)
    { operations = set (page_of book call.caller).operations call.number op } in
    ap (λ (q : Page). slice_get q.operations other.number)
    (page_of-set_other book call.caller other.caller p apart)

-- In the new book the first n calls of a caller have the operations of the book's calls with these
-- numbers. The callers, the counts of calls, the records, and the operations of all other callers
-- are those of the old book.
pub record PutsTo (book : List Page) (numbers : List ℕ) (caller : ℕ) (n : ℕ)
    (old new : List Page) : Type 0 where
  pub callers : length new ≡ length old
  pub calls : (i : ℕ) → calls_of new i ≡ calls_of old i
  pub records : (i : ℕ) → (page_of new i).records ≡ (page_of old i).records
  pub put : (k : ℕ) → k < n → operation_of new (record { caller = caller; number = k })
      ≡ operation_of book (record { caller = caller; number = get_or numbers k 0 })
  pub others : (call : Call) → call.caller ≢ caller → operation_of new call ≡ operation_of old call

pub puts_none : (book : List Page) (numbers : List ℕ) (caller : ℕ) (old : List Page)
    → PutsTo book numbers caller 0 old old
puts_none book numbers caller old = record {
  callers = refl;
  calls = λ i. refl;
  records = λ i. refl;
  put = λ k less. absurd (omega arith);
  others = λ call apart. refl;
}

-- Where the first n calls of a caller have their operations and call n is given its own, the first
-- n + 1 have theirs.
pub puts_more : (book : List Page) (numbers : List ℕ) (caller n op : ℕ) (old new : List Page)
    → PutsTo book numbers caller n old new → caller < length new → n < calls_of new caller
    → operation_of book (record { caller = caller; number = get_or numbers n 0 }) ≡ Some op
    → PutsTo book numbers caller (n + 1) old
    (with_operation new (record { caller = caller; number = n }) op)
puts_more book numbers caller n op old new is here inside known =
    let call : Call = record { caller = caller; number = n } in
    record {
      callers = length-set new caller
          (record (page_of new caller) { operations = set (page_of new caller).operations n op })
          ∙ is.callers;
      calls = λ i. calls_of-with_operation new call op i here ∙ is.calls i;
      records = λ i. records-with_operation new call op i here ∙ is.records i;
      put = λ k less. elim (cases_eq k n) [
        | inl e ↦
            subst (λ (m : ℕ).
            operation_of (with_operation new call op) (record { caller = caller; number = m })
            ≡ operation_of book (record { caller = caller; number = get_or numbers m 0 })) (sym e)
            (operation_of-with_operation new call op here inside ∙ sym known)
        | inr other ↦
            operation_of-with_operation_later new call op k here other ∙ is.put k (omega arith)
      ];
      others = λ other apart. operation_of-with_operation_other new call other op apart
          ∙ is.others other apart;
    }

-- The numbers of a caller in a list of vectors are the items of the caller's vector.
pub numbers_in-at : {A : Type 0} (rows : List (Vec ℕ A)) (i : ℕ) (r : Vec ℕ A) → i < length rows
    → r ≡ get_or rows i r → numbers_of (numbers_in rows) i ≡ r.items
numbers_in-at {A} rows i r inside is =
    let items : Vec ℕ A → List ℕ = λ row. row.items in
    get_or-map items rows i r [] inside ∙ ap items (sym is)

-- In a rising list each number is at least its place.
place-within : (xs : List ℕ) (k : ℕ) → AreRising xs → k < length xs → k ≤ get_or xs k 0
place-within xs zero rising inside = omega arith
place-within xs (suc k) rising inside =
    let before : k ≤ get_or xs k 0 = place-within xs k rising (omega arith) in
    omega (arith, rising k (suc k) (omega arith) inside)

-- A rising list of numbers below n has at most n numbers.
pub length-rising : (xs : List ℕ) (n : ℕ) → AreRising xs
    → ((k : ℕ) → k < length xs → get_or xs k 0 < n) → length xs ≤ n
length-rising [] n rising below = omega arith
length-rising (x ∷ xs) n rising below =
    omega
    (arith, place-within (x ∷ xs) (length xs) rising (omega arith), below (length xs) (omega arith))

-- The book in which each caller made this many calls, none answered, has these callers, these
-- counts of calls, and no answers.
pub blank : (part : List Page) (calls : List ℕ) → part ≡ unanswered_book calls
    → (length part ≡ length calls) × ((i : ℕ) → calls_of part i ≡ get_or calls i 0)
    × ((i : ℕ) → answers_of part i ≡ 0)
blank part calls e = (
  ap length e ∙ length-map calls unanswered_page,
  λ (i : ℕ). ap (λ (b : List Page). calls_of b i) e ∙ (ap (λ (p : Page). length p.operations)
      (page_of-unanswered_book calls i) ∙ length-replicate {A = ℕ} (get_or calls i 0) 0),
  λ (i : ℕ). ap (λ (b : List Page). answers_of b i) e
      ∙ ap (λ (p : Page). length p.records) (page_of-unanswered_book calls i),
)

-- Where a claim holds if a result is `Ok`, what follows from the claim holds if it is.
pub OnOk_then : {T E P Q : Type 0} (r : Result T E) → OnOk r P → (P → Q) → OnOk r Q
OnOk_then (Ok x) h f = f h
OnOk_then (Err e) h f = h

-- A range with one number more is the range with that number at its end.
pub range_with_len-more : (a n j : ℕ) → a + n ≡ j
    → range_with_len a (n + 1) ≡ range_with_len a n ++ j ∷ []
range_with_len-more a n j e =
    sym (map-id (range_with_len a (n + 1))) ∙ (map-range_with_len_more (λ (x : ℕ). x) a n j e
    ∙ ap (λ (xs : List ℕ). xs ++ j ∷ []) (map-id (range_with_len a n)))

-- Where vectors hold the lists of the callers below i, these vectors and one that holds the list of
-- caller i hold the lists of the callers below i + 1.
pub numbers_in-more : {A : Type 0} (f : ℕ → List ℕ) (rows new : List (Vec ℕ A)) (row : Vec ℕ A)
    (i : ℕ) → numbers_in rows ≡ map f (range_with_len 0 i) → new ≡ rows ++ row ∷ []
    → row.items ≡ f i → numbers_in new ≡ map f (range_with_len 0 (i + 1))
numbers_in-more {A} f rows new row i before is same =
    let items : Vec ℕ A → List ℕ = λ r. r.items in
    ap numbers_in is
    ∙ (map-append items rows (row ∷ [])
    ∙ (ap (λ (xs : List (List ℕ)). xs ++ row.items ∷ []) before
    ∙ (ap (λ (x : List ℕ). map f (range_with_len 0 i) ++ x ∷ []) same
    ∙ sym (map-range_with_len_more f 0 i i (zero-add i)))))
