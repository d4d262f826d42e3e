-- How many calls of each caller have begun and ended after some events.
use Rattle.std.proofs.Common.{◌≡◌, ◌≢◌, ℕ, ◌+◌, ◌<◌, ◌≤◌, Bool, false, if◌then◌else◌, nat_eq, List, [], ◌∷◌, ◌++◌, length, set, inl, inr, sym, ap, subst, arith}
use Rattle.std.proofs.lemmas.Bool.{cases_Bool, eqb-true, eqb-false}
use Rattle.std.proofs.lemmas.List.{length_push}
use Rattle.book_base.specs.declared.call.Record.{Record}
use Rattle.book_base.specs.Book.{Page, page_of, calls_of, answers_of, announced, with_call, with_answer}
use Rattle.book_base.proofs.GrowthLemmas.{page_of-set_same, page_of-set_other, records-with_call, calls_of-with_answer}
use Rattle.seq_objects.specs.Replies.{reply_value}
use Rattle.model_checks.specs.Words.{operation_word}
use Rattle.model_checks.specs.History.{Event, Begins, Ends, MayHappen, book_with, book_after, MayAllHappen, begun_in, ended_in}

-- one where a test is true
abbrev pub bit : Bool → ℕ
bit b = if b then 1 else 0

apart : (i j : ℕ) → nat_eq i j ≡ false → j ≢ i
apart i j not same = eqb-false i j not (sym same)

calls-begun : (book : List Page) (i op j : ℕ) → i < length book
    → calls_of (with_call book i op) j ≡ bit (nat_eq i j) + calls_of book j
calls-begun book i op j low =
    let p : Page =
    record (page_of book i) { operations = (page_of book i).operations ++ op ∷ [] } in
    elim (cases_Bool (nat_eq i j)) [
      | inl is ↦ let one : bit (nat_eq i j) ≡ 1 = ap bit is in
          subst (λ (k : ℕ). calls_of (set book i p) k ≡ bit (nat_eq i j) + calls_of book k)
          (eqb-true i j is) (omega (
            arith,
            one,
            ap (λ (q : Page). length q.operations) (page_of-set_same book i p low),
            length_push (page_of book i).operations op,
          ))
      | inr not ↦ let none : bit (nat_eq i j) ≡ 0 = ap bit not in omega (
        arith,
        none,
        ap (λ (q : Page). length q.operations) (page_of-set_other book i j p (apart i j not)),
      )
    ]

answers-ended : (book : List Page) (i : ℕ) (r : Record) (j : ℕ) → i < length book
    → answers_of (with_answer book i r) j ≡ bit (nat_eq i j) + answers_of book j
answers-ended book i r j low =
    let p : Page = record (page_of book i) { records = (page_of book i).records ++ r ∷ [] } in
    elim (cases_Bool (nat_eq i j)) [
      | inl is ↦ let one : bit (nat_eq i j) ≡ 1 = ap bit is in
          subst (λ (k : ℕ). answers_of (set book i p) k ≡ bit (nat_eq i j) + answers_of book k)
          (eqb-true i j is) (omega (
            arith,
            one,
            ap (λ (q : Page). length q.records) (page_of-set_same book i p low),
            length_push (page_of book i).records r,
          ))
      | inr not ↦ let none : bit (nat_eq i j) ≡ 0 = ap bit not in omega (
        arith,
        none,
        ap (λ (q : Page). length q.records) (page_of-set_other book i j p (apart i j not)),
      )
    ]

calls-with : (book : List Page) (event : Event) (i : ℕ) → MayHappen book event
    → calls_of (book_with book event) i ≡ begun_in (event ∷ []) i + calls_of book i
calls-with book (Begins caller op) i may = omega (
  arith,
  calls-begun book caller (operation_word op) i may.is_caller,
)
calls-with book (Ends caller reply) i may = omega (
  arith,
  calls_of-with_answer book caller
      (record { reply = reply_value reply; view = announced book }) i may.is_caller,
)

answers-with : (book : List Page) (event : Event) (i : ℕ) → MayHappen book event
    → answers_of (book_with book event) i ≡ ended_in (event ∷ []) i + answers_of book i
answers-with book (Begins caller op) i may = omega (
  arith,
  ap (length {A = Record}) (records-with_call book caller (operation_word op) i may.is_caller),
)
answers-with book (Ends caller reply) i may = omega (
  arith,
  answers-ended book caller (record { reply = reply_value reply; view = announced book }) i
      may.is_caller,
)

begun_in-first : (event : Event) (events : List Event) (i : ℕ)
    → begun_in (event ∷ events) i ≡ begun_in (event ∷ []) i + begun_in events i
begun_in-first (Begins caller op) events i = omega arith
begun_in-first (Ends caller reply) events i = omega arith

ended_in-first : (event : Event) (events : List Event) (i : ℕ)
    → ended_in (event ∷ events) i ≡ ended_in (event ∷ []) i + ended_in events i
ended_in-first (Begins caller op) events i = omega arith
ended_in-first (Ends caller reply) events i = omega arith

-- After some events a caller has made as many calls as before and as have begun in them.
pub calls-after : (book : List Page) (events : List Event) (i : ℕ) → MayAllHappen book events
    → calls_of (book_after book events) i ≡ begun_in events i + calls_of book i
calls-after book [] i may = omega arith
calls-after book (event ∷ events) i may = omega (
  arith,
  calls-after (book_with book event) events i may.1,
  calls-with book event i may.0,
  begun_in-first event events i,
)

-- And as many of them are answered as before and as have ended in them.
pub answers-after : (book : List Page) (events : List Event) (i : ℕ) → MayAllHappen book events
    → answers_of (book_after book events) i ≡ ended_in events i + answers_of book i
answers-after book [] i may = omega arith
answers-after book (event ∷ events) i may = omega (
  arith,
  answers-after (book_with book event) events i may.1,
  answers-with book event i may.0,
  ended_in-first event events i,
)

-- Where each caller has at most one call that hasn't ended, it has at most one after some events.
pub one_each-with : (book : List Page) (event : Event) → MayHappen book event
    → ((i : ℕ) → calls_of book i ≤ answers_of book i + 1) → (i : ℕ)
    → calls_of (book_with book event) i ≤ answers_of (book_with book event) i + 1
one_each-with book (Begins caller op) may one i = elim (cases_Bool (nat_eq caller i)) [
  | inl is ↦ omega (
    arith,
    ap bit is,
    calls-with book (Begins caller op) i may,
    answers-with book (Begins caller op) i may,
    subst (λ (k : ℕ). answers_of book k ≡ calls_of book k) (eqb-true caller i is) may.ended,
  )
  | inr not ↦ omega (
    arith,
    ap bit not,
    calls-with book (Begins caller op) i may,
    answers-with book (Begins caller op) i may,
    one i,
  )
]
one_each-with book (Ends caller reply) may one i = omega (
  arith,
  calls-with book (Ends caller reply) i may,
  answers-with book (Ends caller reply) i may,
  one i,
)

pub one_each-after : (book : List Page) (events : List Event) → MayAllHappen book events
    → ((i : ℕ) → calls_of book i ≤ answers_of book i + 1) → (i : ℕ)
    → calls_of (book_after book events) i ≤ answers_of (book_after book events) i + 1
one_each-after book [] may one = one
one_each-after book (event ∷ events) may one =
    one_each-after (book_with book event) events may.1 (one_each-with book event may.0 one)
