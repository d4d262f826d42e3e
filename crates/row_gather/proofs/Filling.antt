-- Books with a prefix of another's records, and books that are filled with further records.
use Rattle.std.proofs.Common.{◌≡◌, ℕ, ◌+◌, ◌<◌, ◌≤◌, List, [], ◌∷◌, ◌++◌, length, take, set, get_or, slice_get, Some, refl, sym, ap, ◌∙◌, subst, arith, inl, inr, append_assoc}
use Rattle.std.proofs.lemmas.Bool.{cases_lt, cases_eq}
use Rattle.std.proofs.lemmas.List.{set-set, set-get_or, length-set, take_more, take_all, get_or_past, get_or-take, length-take, append-nil}
use Rattle.std.proofs.lemmas.List.FromFn.{length-map-range_with_len, get_or-map-range_with_len}
use Rattle.std.proofs.lemmas.Option.{slice_get_within, slice_get_read, none-some}
use Rattle.list_laws.proofs.Places.{slice_get-take}
use Rattle.book_base.specs.declared.call.Call.{Call}
use Rattle.book_base.specs.declared.call.Record.{Record}
use Rattle.book_base.specs.Book.{Page, page_of, calls_of, answers_of, record_of, IsValid, with_answer}
use Rattle.book_base.specs.Refusal.{MayAnswer}
use Rattle.book_base.proofs.PageLemmas.{empty, page_past}
use Rattle.book_base.proofs.GrowthLemmas.{within_announced, below_calls, page_of-set_same, page_of-set_other, MayAnswer-from_valid}
use Rattle.book_base.proofs.ViewLemmas.{answer_stands}
use Rattle.row_gather.specs.Words.{records_at}
use Rattle.row_gather.specs.Filling.{with_records, filled, IsFilled}
use Rattle.row_gather.proofs.After.{slice_get-append_right, slice_get-append_along}

-- The book `part` has the callers and the operations of the book `whole`, and each record that
-- `part` has of a call is the one that `whole` has of it.
pub record IsPrefixOf (part whole : List Page) : Type 0 where
  pub callers : length part ≡ length whole
  pub operations : (i : ℕ) → (page_of part i).operations ≡ (page_of whole i).operations
  pub records : (call : Call) (r : Record) → record_of part call ≡ Some r
      → record_of whole call ≡ Some r

-- A book with the callers and the operations of a valid book, and of each caller a prefix of its
-- records, is valid.
pub prefix_is_valid : (part whole : List Page) → IsPrefixOf part whole → IsValid whole
    → IsValid part
prefix_is_valid part whole prefix valid =
    let calls : (i : ℕ) → calls_of part i ≡ calls_of whole i =
    λ i. ap (length {A = ℕ}) (prefix.operations i) in
    record {
      answers = λ i. elim (cases_lt (calls_of part i) (answers_of part i)) [
        | inl more ↦
            let it : Call = record { caller = i; number = calls_of part i } in
            let there = answer_stands part it more in
            let was = prefix.records it there.0 there.1 in
            absurd (omega (
              arith,
              slice_get_within (page_of whole i).records (calls_of part i) there.0 was,
              valid.answers i,
              calls i,
            ))
        | inr fits ↦ fits
      ];
      wide = λ call r e. valid.wide call r (prefix.records call r e) ∙ sym prefix.callers;
      within = λ call r e. within_announced part r.view (λ i. omega (
        arith,
        below_calls whole r.view (valid.within call r (prefix.records call r e)) i,
        calls i,
      ));
      own = λ call r e. valid.own call r (prefix.records call r e);
      comparable =
          λ a b r s x y. valid.comparable a b r s (prefix.records a r x) (prefix.records b s y);
    }

-- ---- the further records of one caller

abbrev page_with : List Page → ℕ → List Record → Page
page_with book j rs = record (page_of book j) { records = (page_of book j).records ++ rs }

-- A book with the first 0 of some further records of a caller is the book itself.
pub with_records_none : (book : List Page) (j : ℕ) (rs : List Record)
    → book ≡ with_records book j (take 0 rs)
with_records_none book j rs =
    sym (set-get_or book j empty)
    ∙ ap (λ (x : List Record). set book j (record (page_of book j) { records = x }))
    (sym (append-nil (page_of book j).records))

-- A book with the first k further records of caller j, and then with record k, is the book with the
-- first k + 1 further records.
pub with_records_more : (book : List Page) (j k : ℕ) (rs : List Record) (r : Record)
    → j < length book → k < length rs → r ≡ get_or rs k r
    → with_answer (with_records book j (take k rs)) j r ≡ with_records book j (take (k + 1) rs)
with_records_more book j k rs r low inside is =
    let had : List Record = (page_of book j).records in
    let more : (had ++ take k rs) ++ r ∷ [] ≡ had ++ take (k + 1) rs
    = append_assoc had (take k rs) (r ∷ []) ∙ ap (λ (x : List Record). had ++ x)
    (ap (λ (y : Record). take k rs ++ y ∷ []) is ∙ sym (take_more rs k r inside)) in
    ap (λ (q : Page).
    set (with_records book j (take k rs)) j (record q { records = q.records ++ r ∷ [] }))
    (page_of-set_same book j (page_with book j (take k rs)) low)
    ∙ set-set book j (page_with book j (take k rs))
    (record (page_of book j) { records = (had ++ take k rs) ++ r ∷ [] })
    ∙ ap (λ (x : List Record). set book j (record (page_of book j) { records = x })) more

-- A book with the first k further records of a caller has a prefix of the records of the book with
-- all of them.
with_records_prefix : (book : List Page) (j k : ℕ) (rs : List Record) → j < length book
    → IsPrefixOf (with_records book j (take k rs)) (with_records book j rs)
with_records_prefix book j k rs low =
    let few : Page = page_with book j (take k rs) in
    let all : Page = page_with book j rs in
    record {
      callers = length-set book j few ∙ sym (length-set book j all);
      operations = λ i. elim (cases_eq i j) [
        | inl same ↦
            subst (λ (x : ℕ). (page_of (set book j few) x).operations
            ≡ (page_of (set book j all) x).operations) (sym same)
            (ap (λ (q : Page). q.operations) (page_of-set_same book j few low)
            ∙ sym (ap (λ (q : Page). q.operations) (page_of-set_same book j all low)))
        | inr other ↦ ap (λ (q : Page). q.operations)
            (page_of-set_other book j i few other ∙ sym (page_of-set_other book j i all other))
      ];
      records = λ call r e. elim (cases_eq call.caller j) [
        | inl same ↦
            let here : slice_get ((page_of book j).records ++ take k rs) call.number ≡ Some r
            = sym (ap (λ (x : ℕ). slice_get (page_of (set book j few) x).records call.number) same
            ∙ ap (λ (q : Page). slice_get q.records call.number)
            (page_of-set_same book j few low)) ∙ e in
            ap (λ (x : ℕ). slice_get (page_of (set book j all) x).records call.number) same
            ∙ (ap (λ (q : Page). slice_get q.records call.number) (page_of-set_same book j all low)
            ∙ slice_get-append_along (page_of book j).records (take k rs) rs call.number r
            (λ m there. slice_get-take k rs m r there) here)
        | inr other ↦
            ap (λ (q : Page). slice_get q.records call.number) (page_of-set_other book j call.caller
            all other ∙ sym (page_of-set_other book j call.caller few other)) ∙ e
      ];
    }

-- To a book with the first k further records of caller j, record k may be added as the next answer
-- of j, where the book with all these records is valid.
pub may_next : (book now : List Page) (j k : ℕ) (rs : List Record) (r : Record)
    → now ≡ with_records book j (take k rs) → j < length book → k < length rs → r ≡ get_or rs k r
    → IsValid (with_records book j rs) → MayAnswer now j r.view
may_next book now j k rs r at low inside is valid =
    let few : Page = page_with book j (take k rs) in
    let next : IsValid (with_answer (with_records book j (take k rs)) j r)
    = subst IsValid (sym (with_records_more book j k rs r low inside is))
    (prefix_is_valid (with_records book j (take (k + 1) rs)) (with_records book j rs)
    (with_records_prefix book j (k + 1) rs low) valid) in
    subst (λ (b : List Page). MayAnswer b j r.view) (sym at) (MayAnswer-from_valid
    (with_records book j (take k rs)) j r (omega (arith, low, length-set book j few)) next)

-- Where the book with all further records of caller j is valid, the view of record k has one count
-- for each caller of the book with the first k records.
pub wide_next : (book now : List Page) (j k : ℕ) (rs : List Record) (r : Record)
    → now ≡ with_records book j (take k rs) → j < length book → k < length rs → r ≡ get_or rs k r
    → IsValid (with_records book j rs) → length r.view ≡ length now
wide_next book now j k rs r at low inside is valid =
    let all : Page = page_with book j rs in
    let at_place : ℕ = answers_of book j + k in
    let there : record_of (with_records book j rs)
    (record { caller = j; number = at_place }) ≡ Some r
    = ap (λ (q : Page). slice_get q.records at_place) (page_of-set_same book j all low)
    ∙ slice_get-append_right (page_of book j).records rs at_place k r refl
    (slice_get_read rs (length rs) k r refl inside is) in
    valid.wide (record { caller = j; number = at_place }) r there
    ∙ (length-set book j all
    ∙ sym (ap (length {A = Page}) at ∙ length-set book j (page_with book j (take k rs))))

-- ---- the further records of all callers

-- The book `filled book lists` is `book` with these further records, where `lists` has one list for
-- each caller.
pub filled_is : (book : List Page) (lists : List (List Record)) → length lists ≡ length book
    → IsFilled book lists (filled book lists)
filled_is book lists long =
    let made : ℕ → Page = λ i. record {
      operations = (page_of book i).operations;
      records = (page_of book i).records ++ records_at lists i;
    } in
    let wide : length (filled book lists) ≡ length book =
    length-map-range_with_len made 0 (length book) in
    let inside : (i : ℕ) → i < length book → page_of (filled book lists) i ≡ made i =
    λ i low. get_or-map-range_with_len made 0 (length book) i i empty low (omega arith) in
    record {
      callers = wide;
      operations = λ i. elim (cases_lt i (length book)) [
        | inl low ↦ ap (λ (q : Page). q.operations) (inside i low)
        | inr past ↦ ap (λ (q : Page). q.operations) (page_past (filled book lists) i
            (omega (arith, past, wide)) ∙ sym (page_past book i past))
      ];
      records = λ i. elim (cases_lt i (length book)) [
        | inl low ↦ ap (λ (q : Page). q.records) (inside i low)
        | inr past ↦
            ap (λ (q : Page). q.records)
            (page_past (filled book lists) i (omega (arith, past, wide)))
            ∙ sym (ap (λ (rs : List Record). (page_of book i).records ++ rs)
            (get_or_past lists i [] (omega (arith, past, long)))
            ∙ ap (λ (q : Page). q.records ++ []) (page_past book i past))
      ];
    }

-- The first j lists have no records of a caller whose number is j or greater.
none_past : (lists : List (List Record)) (j i : ℕ) → j ≤ i → records_at (take j lists) i ≡ []
none_past lists j i past =
    get_or_past (take j lists) i [] (omega (arith, past, length-take j lists))

-- A list of records with no further ones is that list.
with_none : (had rs : List Record) → rs ≡ [] → had ++ rs ≡ had
with_none had rs none = ap (λ (x : List Record). had ++ x) none ∙ append-nil had

pub filled_none : (book : List Page) (lists : List (List Record))
    → IsFilled book (take 0 lists) book
filled_none book lists =
    record {
      callers = refl;
      operations = λ i. refl;
      records = λ i. sym (with_none (page_of book i).records (records_at (take 0 lists) i)
          (none_past lists 0 i (omega arith)));
    }

pub filled_all : (book now : List Page) (lists : List (List Record)) (n : ℕ) → length lists ≤ n
    → IsFilled book (take n lists) now → IsFilled book lists now
filled_all book now lists n all h =
    subst (λ (ls : List (List Record)). IsFilled book ls now) (take_all n lists all) h

-- The records of a caller below n in the first n lists are those in all lists.
records_at-take : (lists : List (List Record)) (n i : ℕ) → i < n
    → records_at (take n lists) i ≡ records_at lists i
records_at-take lists n i low = get_or-take n lists i [] low

-- A record that the first j lists have of a caller at a place is the one that all lists have of it
-- at that place.
records_of_first : (lists : List (List Record)) (j i k : ℕ) (r : Record)
    → slice_get (records_at (take j lists) i) k ≡ Some r → slice_get (records_at lists i) k ≡ Some r
records_of_first lists j i k r e =
    elim (cases_lt i j) [
      | inl below ↦
          ap (λ (rs : List Record). slice_get rs k) (sym (records_at-take lists j i below)) ∙ e
      | inr past ↦ absurd (none-some r
          (sym (ap (λ (rs : List Record). slice_get rs k) (none_past lists j i past)) ∙ e))
    ]

-- A book with the further records of the first j callers has, of caller j, the records of the
-- original book.
records_next : (book now : List Page) (lists : List (List Record)) (j : ℕ)
    → IsFilled book (take j lists) now → (page_of now j).records ≡ (page_of book j).records
records_next book now lists j h = h.records j ∙ with_none (page_of book j).records
    (records_at (take j lists) j) (none_past lists j j (omega arith))

-- A book with the further records of the first j callers, and then with those of caller j, is valid
-- where the book with all further records is valid.
pub valid_next : (book now : List Page) (lists : List (List Record)) (j : ℕ) (rs : List Record)
    → IsFilled book (take j lists) now → length lists ≡ length book → j < length book
    → records_at lists j ≡ rs → IsValid (filled book lists) → IsValid (with_records now j rs)
valid_next book now lists j rs h long low at valid =
    let whole = filled_is book lists long in
    let p : Page = page_with now j rs in
    let inside : j < length now = omega (arith, low, h.callers) in
    prefix_is_valid (with_records now j rs) (filled book lists)
    (record {
      callers = length-set now j p ∙ (h.callers ∙ sym whole.callers);
      operations = λ i. elim (cases_eq i j) [
        | inl same ↦
            subst (λ (x : ℕ). (page_of (set now j p) x).operations
            ≡ (page_of (filled book lists) x).operations) (sym same)
            (ap (λ (q : Page). q.operations) (page_of-set_same now j p inside)
            ∙ (h.operations j ∙ sym (whole.operations j)))
        | inr other ↦ ap (λ (q : Page). q.operations) (page_of-set_other now j i p other)
            ∙ (h.operations i ∙ sym (whole.operations i))
      ];
      records = λ call r e. elim (cases_eq call.caller j) [
        | inl same ↦
            let here : slice_get ((page_of now j).records ++ rs) call.number ≡ Some r
            = sym (ap (λ (x : ℕ). slice_get (page_of (set now j p) x).records call.number) same ∙ ap
            (λ (q : Page). slice_get q.records call.number) (page_of-set_same now j p inside))
            ∙ e in
            ap (λ (x : ℕ). slice_get (page_of (filled book lists) x).records call.number) same
            ∙ (ap (λ (x : List Record). slice_get x call.number)
            (whole.records j ∙ (ap (λ (x : List Record). (page_of book j).records ++ x) at
            ∙ ap (λ (x : List Record). x ++ rs) (sym (records_next book now lists j h)))) ∙ here)
        | inr other ↦
            let here : slice_get
            ((page_of book call.caller).records ++ records_at (take j lists) call.caller)
            call.number ≡ Some r
            = sym (ap (λ (q : Page). slice_get q.records call.number)
            (page_of-set_other now j call.caller p other)
            ∙ ap (λ (x : List Record). slice_get x call.number) (h.records call.caller)) ∙ e in
            ap (λ (x : List Record). slice_get x call.number) (whole.records call.caller)
            ∙ slice_get-append_along (page_of book call.caller).records
            (records_at (take j lists) call.caller) (records_at lists call.caller) call.number r
            (λ m there. records_of_first lists j call.caller m r there) here
      ];
    })
    valid

-- A book with the further records of the first j callers, and then with those of caller j, is the
-- original book with the further records of the first j + 1 callers.
pub filled_more : (book now new : List Page) (lists : List (List Record)) (j : ℕ) (rs : List Record)
    → IsFilled book (take j lists) now → length lists ≡ length book → j < length book
    → records_at lists j ≡ rs → new ≡ with_records now j rs → IsFilled book (take (j + 1) lists) new
filled_more book now new lists j rs h long low at is =
    let p : Page = page_with now j rs in
    let inside : j < length now = omega (arith, low, h.callers) in
    let made : IsFilled book (take (j + 1) lists) (set now j p)
    = record {
      callers = length-set now j p ∙ h.callers;
      operations = λ i. elim (cases_eq i j) [
        | inl same ↦
            subst (λ (x : ℕ). (page_of (set now j p) x).operations ≡ (page_of book x).operations)
            (sym same)
            (ap (λ (q : Page). q.operations) (page_of-set_same now j p inside) ∙ h.operations j)
        | inr other ↦
            ap (λ (q : Page). q.operations) (page_of-set_other now j i p other) ∙ h.operations i
      ];
      records = λ i. elim (cases_eq i j) [
        | inl same ↦
            subst (λ (x : ℕ). (page_of (set now j p) x).records
            ≡ (page_of book x).records ++ records_at (take (j + 1) lists) x) (sym same)
            (ap (λ (q : Page). q.records) (page_of-set_same now j p inside)
            ∙ (ap (λ (x : List Record). x ++ rs) (records_next book now lists j h)
            ∙ ap (λ (x : List Record). (page_of book j).records ++ x)
            (sym at ∙ sym (records_at-take lists (j + 1) j (omega arith)))))
        | inr other ↦
            ap (λ (q : Page). q.records) (page_of-set_other now j i p other)
            ∙ (h.records i
            ∙ ap (λ (x : List Record). (page_of book i).records ++ x) (elim (cases_lt i j) as
            (λ _. records_at (take j lists) i ≡ records_at (take (j + 1) lists) i) [
              | inl below ↦ records_at-take lists j i below
                  ∙ sym (records_at-take lists (j + 1) i (omega arith))
              | inr past ↦ none_past lists j i past
                  ∙ sym (none_past lists (j + 1) i (omega (arith, past, other)))
            ]))
      ];
    } in
    subst (IsFilled book (take (j + 1) lists)) (sym is) made
