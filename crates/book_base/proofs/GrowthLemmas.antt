-- A book with one more call, or with one more answer, stays valid.
use Rattle.std.proofs.Common.{◌≡◌, ◌≢◌, ℕ, zero, suc, ◌+◌, ◌<◌, ◌≤◌, ◌∙◌, ◌⊎◌, List, [], ◌∷◌, ◌++◌, length, map, take, get_or, Some, refl, sym, ap, subst, inl, inr, arith, slice_get, set}
use Rattle.std.proofs.lemmas.Bool.{cases_lt, cases_eq}
use Rattle.std.proofs.lemmas.List.{get_or_past, get_or-map, length-map, length-set, length-append, length-replicate, get_or-set_same, get_or-set_other}
use Rattle.std.proofs.lemmas.Option.{none-some}
use Rattle.std.proofs.Math.Seq.{map-set_same}
use Rattle.list_laws.proofs.Maps.{map-take_more}
use Rattle.list_laws.proofs.Places.{slice_get-push_old, slice_get-push_last, slice_get-push_cases}
use Rattle.book_base.specs.declared.call.Call.{Call}
use Rattle.book_base.specs.declared.call.Record.{Record}
use Rattle.book_base.specs.declared.TheConstants.{MAX_CALLERS, MAX_CALLS}
use Rattle.book_base.specs.Cut.{IsWithin, AreComparable}
use Rattle.book_base.specs.Book.{AnswersAreRecorded, first_unanswered, Page, page_of, calls_of, answers_of, announced, record_of, IsValid, IsSmall, unanswered_page, unanswered_book, with_call, with_operation, with_answer}
use Rattle.book_base.specs.Refusal.{MayAnswer}
use Rattle.book_base.proofs.PageLemmas.{empty, page_past}

-- the announced count of a caller is the number of its calls
pub announced_at : (book : List Page) (i : ℕ) → get_or (announced book) i 0 ≡ calls_of book i
announced_at book i =
    let size : Page → ℕ = λ p. length p.operations in
    elim (cases_lt i (length book)) [
      | inl lt ↦ get_or-map size book i empty 0 lt
      | inr le ↦ get_or_past (map size book) i 0 (omega (arith, length-map book size))
          ∙ sym (ap size (page_past book i le))
    ]

-- a view is within the announced counts where no count of it is above a caller's calls
pub within_announced : (book : List Page) (view : List ℕ)
    → ((i : ℕ) → get_or view i 0 ≤ calls_of book i) → IsWithin view (announced book)
within_announced book view h i = omega (arith, h i, announced_at book i)

pub below_calls : (book : List Page) (view : List ℕ) → IsWithin view (announced book) → (i : ℕ)
    → get_or view i 0 ≤ calls_of book i
below_calls book view h i = omega (arith, h i, announced_at book i)

-- the page of the caller whose page was set is the new one, and the other callers' pages are the
-- old ones
pub page_of-set_same : (book : List Page) (i : ℕ) (p : Page) → i < length book
    → page_of (set book i p) i ≡ p
page_of-set_same book i p h = get_or-set_same book i p empty h

pub page_of-set_other : (book : List Page) (i j : ℕ) (p : Page) → j ≢ i
    → page_of (set book i p) j ≡ page_of book j
page_of-set_other book i j p h = get_or-set_other book i j p empty h

-- a book with the same callers and records as a valid one, and with no fewer calls, is valid
pub IsValid-more_calls : (book new : List Page) → length new ≡ length book
    → ((i : ℕ) → (page_of new i).records ≡ (page_of book i).records)
    → ((i : ℕ) → calls_of book i ≤ calls_of new i) → IsValid book → IsValid new
IsValid-more_calls book new wide records calls valid =
    let known : (call : Call) (r : Record) → record_of new call ≡ Some r
    → record_of book call ≡ Some r
    = λ call r e.
    sym (ap (λ (rs : List Record). slice_get rs call.number) (records call.caller)) ∙ e in
    record {
      answers = λ j. omega (arith, valid.answers j, calls j, ap (length {A = Record}) (records j));
      wide = λ call r e. valid.wide call r (known call r e) ∙ sym wide;
      within = λ call r e. within_announced new r.view (λ j.
          omega (arith, below_calls book r.view (valid.within call r (known call r e)) j, calls j));
      own = λ call r e. valid.own call r (known call r e);
      comparable = λ a b r s e f. valid.comparable a b r s (known a r e) (known b s f);
    }

-- ---- calls without answers

pub page_of-unanswered_book : (calls : List ℕ) (i : ℕ)
    → page_of (unanswered_book calls) i ≡ unanswered_page (get_or calls i 0)
page_of-unanswered_book [] i = refl
page_of-unanswered_book (n ∷ calls) zero = refl
page_of-unanswered_book (n ∷ calls) (suc i) = page_of-unanswered_book calls i

pub IsValid-unanswered_book : (calls : List ℕ) → IsValid (unanswered_book calls)
IsValid-unanswered_book calls =
    let none : (call : Call) (r : Record) → record_of (unanswered_book calls) call ≡ Some r → ⊥
    = λ call r e. none-some r (sym (ap (λ (p : Page). slice_get p.records call.number)
    (page_of-unanswered_book calls call.caller)) ∙ e) in
    record {
      answers =
          λ i. omega (arith, ap (λ (p : Page). length p.records) (page_of-unanswered_book calls i));
      wide = λ call r e. absurd (none call r e);
      within = λ call r e. absurd (none call r e);
      own = λ call r e. absurd (none call r e);
      comparable = λ a b r s e f. absurd (none a r e);
    }

pub IsSmall-unanswered_book : (calls : List ℕ) → 1 ≤ length calls → length calls ≤ MAX_CALLERS
    → ((i : ℕ) → get_or calls i 0 ≤ MAX_CALLS) → IsSmall (unanswered_book calls)
IsSmall-unanswered_book calls some few small = record {
  some = omega (arith, length-map calls unanswered_page);
  callers = omega (arith, length-map calls unanswered_page);
  calls = λ i. omega (
    arith,
    small i,
    ap (λ (p : Page). length p.operations) (page_of-unanswered_book calls i),
    length-replicate {A = ℕ} (get_or calls i 0) 0,
  );
}

-- the unanswered calls of the first callers, with the page of the next caller, are those of one
-- caller more
pub unanswered_book-more : (book : List Page) (calls : List ℕ) (i : ℕ) (p : Page) → i < length calls
    → book ≡ unanswered_book (take i calls) → p ≡ unanswered_page (get_or calls i 0)
    → book ++ p ∷ [] ≡ unanswered_book (take (i + 1) calls)
unanswered_book-more book calls i p h e is =
    ap (λ (b : List Page). b ++ p ∷ []) e
    ∙ (ap (λ (q : Page). unanswered_book (take i calls) ++ q ∷ []) is
    ∙ map-take_more unanswered_page calls i 0 h)

-- ---- another operation

pub calls_of-with_operation : (book : List Page) (call : Call) (op j : ℕ)
    → call.caller < length book → calls_of (with_operation book call op) j ≡ calls_of book j
calls_of-with_operation book call op j h =
    let p : Page = record (page_of book call.caller)
    { operations = set (page_of book call.caller).operations call.number op } in
    elim (cases_eq j call.caller) [
      | inl same ↦ subst (λ (k : ℕ). calls_of (set book call.caller p) k ≡ calls_of book k)
          (sym same) (omega (
            arith,
            ap (λ (q : Page). length q.operations) (page_of-set_same book call.caller p h),
            length-set (page_of book call.caller).operations call.number op,
          ))
      | inr other ↦
          ap (λ (q : Page). length q.operations) (page_of-set_other book call.caller j p other)
    ]

pub records-with_operation : (book : List Page) (call : Call) (op j : ℕ) → call.caller < length book
    → (page_of (with_operation book call op) j).records ≡ (page_of book j).records
records-with_operation book call op j h =
    let p : Page = record (page_of book call.caller)
    { operations = set (page_of book call.caller).operations call.number op } in
    elim (cases_eq j call.caller) [
      | inl same ↦
          subst (λ (k : ℕ). (page_of (set book call.caller p) k).records ≡ (page_of book k).records)
          (sym same) (ap (λ (q : Page). q.records) (page_of-set_same book call.caller p h))
      | inr other ↦ ap (λ (q : Page). q.records) (page_of-set_other book call.caller j p other)
    ]

pub IsValid-with_operation : (book : List Page) (call : Call) (op : ℕ) → call.caller < length book
    → IsValid book → IsValid (with_operation book call op)
IsValid-with_operation book call op h valid =
    IsValid-more_calls book (with_operation book call op)
    (length-set book call.caller (record (page_of book call.caller)
    { operations = set (page_of book call.caller).operations call.number op }))
    (λ j. records-with_operation book call op j h)
    (λ j. omega (arith, calls_of-with_operation book call op j h)) valid

pub IsSmall-with_operation : (book : List Page) (call : Call) (op : ℕ) → call.caller < length book
    → IsSmall book → IsSmall (with_operation book call op)
IsSmall-with_operation book call op h small =
    let p : Page = record (page_of book call.caller)
    { operations = set (page_of book call.caller).operations call.number op } in
    record {
      some = omega (arith, length-set book call.caller p, small.some);
      callers = omega (arith, length-set book call.caller p, small.callers);
      calls = λ j. omega (arith, calls_of-with_operation book call op j h, small.calls j);
    }

-- ---- one more call

-- with one more call no caller has fewer calls
pub calls_of-with_call : (book : List Page) (i op j : ℕ) → i < length book
    → calls_of book j ≤ calls_of (with_call book i op) j
calls_of-with_call book i op j h =
    let p : Page =
    record (page_of book i) { operations = (page_of book i).operations ++ op ∷ [] } in
    elim (cases_eq j i) [
      | inl same ↦
          subst (λ (k : ℕ). calls_of book k ≤ calls_of (set book i p) k) (sym same) (omega (
            arith,
            ap (λ (q : Page). length q.operations) (page_of-set_same book i p h),
            length-append (page_of book i).operations (op ∷ []),
          ))
      | inr other ↦
          omega (arith, ap (λ (q : Page). length q.operations) (page_of-set_other book i j p other))
    ]

-- one more call changes no record
pub records-with_call : (book : List Page) (i op j : ℕ) → i < length book
    → (page_of (with_call book i op) j).records ≡ (page_of book j).records
records-with_call book i op j h =
    let p : Page =
    record (page_of book i) { operations = (page_of book i).operations ++ op ∷ [] } in
    elim (cases_eq j i) [
      | inl same ↦ subst (λ (k : ℕ). (page_of (set book i p) k).records ≡ (page_of book k).records)
          (sym same) (ap (λ (q : Page). q.records) (page_of-set_same book i p h))
      | inr other ↦ ap (λ (q : Page). q.records) (page_of-set_other book i j p other)
    ]

pub IsValid-with_call : (book : List Page) (i op : ℕ) → i < length book → IsValid book
    → IsValid (with_call book i op)
IsValid-with_call book i op h valid =
    IsValid-more_calls book (with_call book i op) (length-set book i
    (record (page_of book i) { operations = (page_of book i).operations ++ op ∷ [] }))
    (λ j. records-with_call book i op j h) (λ j. calls_of-with_call book i op j h) valid

pub IsSmall-with_call : (book : List Page) (i op : ℕ) → i < length book
    → calls_of book i < MAX_CALLS → IsSmall book → IsSmall (with_call book i op)
IsSmall-with_call book i op h room small =
    let p : Page =
    record (page_of book i) { operations = (page_of book i).operations ++ op ∷ [] } in
    record {
      some = omega (arith, length-set book i p, small.some);
      callers = omega (arith, length-set book i p, small.callers);
      calls = λ j. elim (cases_eq j i) [
        | inl same ↦ subst (λ (k : ℕ). calls_of (set book i p) k ≤ MAX_CALLS) (sym same) (omega (
          arith,
          ap (λ (q : Page). length q.operations) (page_of-set_same book i p h),
          length-append (page_of book i).operations (op ∷ []),
          room,
        ))
        | inr other ↦ omega (
          arith,
          ap (λ (q : Page). length q.operations) (page_of-set_other book i j p other),
          small.calls j,
        )
      ];
    }

-- ---- one more answer

-- one more answer changes no caller's number of calls
pub calls_of-with_answer : (book : List Page) (i : ℕ) (r : Record) (j : ℕ) → i < length book
    → calls_of (with_answer book i r) j ≡ calls_of book j
calls_of-with_answer book i r j h =
    let p : Page = record (page_of book i) { records = (page_of book i).records ++ r ∷ [] } in
    elim (cases_eq j i) [
      | inl same ↦ subst (λ (k : ℕ). calls_of (set book i p) k ≡ calls_of book k) (sym same)
          (ap (λ (q : Page). length q.operations) (page_of-set_same book i p h))
      | inr other ↦ ap (λ (q : Page). length q.operations) (page_of-set_other book i j p other)
    ]

pub announced-with_answer : (book : List Page) (i : ℕ) (r : Record)
    → announced (with_answer book i r) ≡ announced book
announced-with_answer book i r = map-set_same (λ (p : Page). length p.operations) book i
    (record (page_of book i) { records = (page_of book i).records ++ r ∷ [] }) empty refl

-- a record that the book had before one more answer is there afterwards
pub record_of-with_answer_old : (book : List Page) (i : ℕ) (r : Record) (call : Call) (s : Record)
    → i < length book → record_of book call ≡ Some s
    → record_of (with_answer book i r) call ≡ Some s
record_of-with_answer_old book i r call s h e =
    let p : Page = record (page_of book i) { records = (page_of book i).records ++ r ∷ [] } in
    elim (cases_eq call.caller i) [
      | inl same ↦
          ap (λ (k : ℕ). slice_get (page_of (set book i p) k).records call.number) same
          ∙ (ap (λ (q : Page). slice_get q.records call.number) (page_of-set_same book i p h)
          ∙ slice_get-push_old (page_of book i).records r call.number s
          (ap (λ (k : ℕ). slice_get (page_of book k).records call.number) (sym same) ∙ e))
      | inr other ↦ ap (λ (q : Page). slice_get q.records call.number)
          (page_of-set_other book i call.caller p other) ∙ e
    ]

-- a record of the book with one more answer was there before, or is the new answer
pub record_of-with_answer_cases : (book : List Page) (i : ℕ) (r : Record) (call : Call) (s : Record)
    → i < length book → record_of (with_answer book i r) call ≡ Some s
    → (record_of book call ≡ Some s)
    ⊎ ((call.caller ≡ i) × (call.number ≡ answers_of book i) × (s ≡ r))
record_of-with_answer_cases book i r call s h e =
    let p : Page = record (page_of book i) { records = (page_of book i).records ++ r ∷ [] } in
    elim (cases_eq call.caller i) [
      | inl same ↦
          let here : slice_get ((page_of book i).records ++ r ∷ []) call.number ≡ Some s
          = sym (ap (λ (k : ℕ). slice_get (page_of (set book i p) k).records call.number) same ∙ ap
          (λ (q : Page). slice_get q.records call.number) (page_of-set_same book i p h)) ∙ e in
          elim (slice_get-push_cases (page_of book i).records r call.number s here) [
            | inl old ↦
                inl (ap (λ (k : ℕ). slice_get (page_of book k).records call.number) same ∙ old)
            | inr new ↦ inr (same, new.0, new.1)
          ]
      | inr other ↦ inl (sym (ap (λ (q : Page). slice_get q.records call.number)
          (page_of-set_other book i call.caller p other)) ∙ e)
    ]

answers_of-with_answer : (book : List Page) (i : ℕ) (r : Record) (j : ℕ) → i < length book
    → answers_of book i < calls_of book i → answers_of book j ≤ calls_of book j
    → answers_of (with_answer book i r) j ≤ calls_of book j
answers_of-with_answer book i r j h room le =
    let p : Page = record (page_of book i) { records = (page_of book i).records ++ r ∷ [] } in
    elim (cases_eq j i) [
      | inl same ↦
          subst (λ (k : ℕ). answers_of (set book i p) k ≤ calls_of book k) (sym same) (omega (
            arith,
            room,
            ap (λ (q : Page). length q.records) (page_of-set_same book i p h),
            length-append (page_of book i).records (r ∷ []),
          ))
      | inr other ↦ omega
          (arith, le, ap (λ (q : Page). length q.records) (page_of-set_other book i j p other))
    ]

-- comparable cuts are comparable in either order
swapped : (a b : List ℕ) → AreComparable a b → AreComparable b a
swapped a b (inl h) = inr h
swapped a b (inr h) = inl h

-- any two views of the book with the new answer are comparable
both_comparable : (book : List Page) (i : ℕ) (r : Record) → IsValid book → MayAnswer book i r.view
    → (a b : Call) (s t : Record)
    → (record_of book a ≡ Some s) ⊎ ((a.caller ≡ i) × (a.number ≡ answers_of book i) × (s ≡ r))
    → (record_of book b ≡ Some t) ⊎ ((b.caller ≡ i) × (b.number ≡ answers_of book i) × (t ≡ r))
    → AreComparable s.view t.view
both_comparable book i r valid may a b s t (inl e) (inl f) = valid.comparable a b s t e f
both_comparable book i r valid may a b s t (inl e) (inr f) =
    subst (λ (x : Record). AreComparable s.view x.view) (sym f.2)
    (swapped r.view s.view (may.comparable a s e))
both_comparable book i r valid may a b s t (inr e) (inl f) =
    subst (λ (x : Record). AreComparable x.view t.view) (sym e.2) (may.comparable b t f)
both_comparable book i r valid may a b s t (inr e) (inr f) =
    subst (λ (x : Record). AreComparable s.view x.view) (e.2 ∙ sym f.2) (inl (λ i. omega arith))

pub IsValid-with_answer : (book : List Page) (i : ℕ) (r : Record) → i < length book → length r.view
    ≡ length book → MayAnswer book i r.view → IsValid book → IsValid (with_answer book i r)
IsValid-with_answer book i r h wide may valid =
    let p : Page = record (page_of book i) { records = (page_of book i).records ++ r ∷ [] } in
    record {
      answers = λ j. rw (calls_of-with_answer book i r j h)
          (answers_of-with_answer book i r j h may.unanswered (valid.answers j));
      wide = λ call s e. elim (record_of-with_answer_cases book i r call s h e) [
        | inl old ↦ valid.wide call s old ∙ sym (length-set book i p)
        | inr new ↦ ap (λ (x : Record). length x.view) new.2 ∙ (wide ∙ sym (length-set book i p))
      ];
      within = λ call s e. subst (IsWithin s.view) (sym (announced-with_answer book i r))
          (elim (record_of-with_answer_cases book i r call s h e) [
            | inl old ↦ valid.within call s old
            | inr new ↦
                subst (λ (x : Record). IsWithin x.view (announced book)) (sym new.2) may.within
          ]);
      own = λ call s e. elim (record_of-with_answer_cases book i r call s h e) [
        | inl old ↦ valid.own call s old
        | inr new ↦ ap (λ (x : Record). get_or x.view call.caller 0) new.2
            ∙ (ap (λ (k : ℕ). get_or r.view k 0) new.0
            ∙ (may.own ∙ ap (λ (k : ℕ). k + 1) (sym new.1)))
      ];
      comparable = λ a b s t e f.
          both_comparable book i r valid may a b s t (record_of-with_answer_cases book i r a s h e)
          (record_of-with_answer_cases book i r b t h f);
    }

pub IsSmall-with_answer : (book : List Page) (i : ℕ) (r : Record) → i < length book → IsSmall book
    → IsSmall (with_answer book i r)
IsSmall-with_answer book i r h small =
    let p : Page = record (page_of book i) { records = (page_of book i).records ++ r ∷ [] } in
    record {
      some = omega (arith, length-set book i p, small.some);
      callers = omega (arith, length-set book i p, small.callers);
      calls = λ j. omega (arith, calls_of-with_answer book i r j h, small.calls j);
    }

-- the new answer is recorded
pub record_of-with_answer_new : (book : List Page) (i : ℕ) (r : Record) → i < length book
    → record_of (with_answer book i r) (first_unanswered book i) ≡ Some r
record_of-with_answer_new book i r h =
    let p : Page = record (page_of book i) { records = (page_of book i).records ++ r ∷ [] } in
    ap (λ (q : Page). slice_get q.records (answers_of book i)) (page_of-set_same book i p h)
    ∙ slice_get-push_last (page_of book i).records r

-- one more answer is recorded, and changes nothing else
pub answers_are_recorded : AnswersAreRecorded
answers_are_recorded =
    record {
      new = record_of-with_answer_new;
      old = record_of-with_answer_old;
      only = λ book i r call s h e. elim (record_of-with_answer_cases book i r call s h e) [
        | inl was ↦ inl was
        | inr is ↦ inr ((λ k. record { caller = is.0 k; number = is.1 k }), is.2)
      ];
    }

-- an answer with which the book is valid is one that may be given
pub MayAnswer-from_valid : (book : List Page) (i : ℕ) (r : Record) → i < length book
    → IsValid (with_answer book i r) → MayAnswer book i r.view
MayAnswer-from_valid book i r h valid =
    let p : Page = record (page_of book i) { records = (page_of book i).records ++ r ∷ [] } in
    let new = record_of-with_answer_new book i r h in
    record {
      unanswered = omega (
        arith,
        valid.answers i,
        calls_of-with_answer book i r i h,
        ap (λ (q : Page). length q.records) (page_of-set_same book i p h),
        length-append (page_of book i).records (r ∷ []),
      );
      within = subst (IsWithin r.view) (announced-with_answer book i r)
          (valid.within (first_unanswered book i) r new);
      own = valid.own (first_unanswered book i) r new;
      comparable = λ call s e. valid.comparable (first_unanswered book i) call r s new
          (record_of-with_answer_old book i r call s h e);
    }
