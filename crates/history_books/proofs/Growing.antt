-- What one more call and one more answer change in a book, and one new item in a list.
use Rattle.std.proofs.Common.{◌≡◌, ◌≢◌, ℕ, zero, suc, ◌+◌, ◌<◌, ◌⊎◌, ◌∙◌, List, [], ◌∷◌, ◌++◌, length, set, Some, refl, sym, ap, subst, inl, inr, slice_get, arith, length-append}
use Rattle.std.proofs.lemmas.Bool.{cases_eq, cases_lt}
use Rattle.list_laws.proofs.Places.{slice_get-push_old, slice_get-push_last}
use Rattle.book_base.specs.declared.call.Call.{Call}
use Rattle.book_base.specs.declared.call.Record.{Record}
use Rattle.book_base.specs.Book.{Page, page_of, calls_of, answers_of, IsCall, operation_of, record_of, with_call, with_answer}
use Rattle.book_base.proofs.GrowthLemmas.{page_of-set_same, page_of-set_other, records-with_call}
use Rattle.book_base.proofs.ViewLemmas.{same_call}

-- the item that is put into a list is at its place
pub slice_get-set_here : {X : Type 0} (xs : List X) (k : ℕ) (x : X) → k < length xs
    → slice_get (set xs k x) k ≡ Some x
slice_get-set_here [] k x lt = absurd (omega arith)
slice_get-set_here (y ∷ xs) zero x lt = refl
slice_get-set_here (y ∷ xs) (suc k) x lt = slice_get-set_here xs k x (omega arith)

-- the items at other places stay
pub slice_get-set_other : {X : Type 0} (xs : List X) (k m : ℕ) (x : X) → m ≢ k
    → slice_get (set xs k x) m ≡ slice_get xs m
slice_get-set_other [] k m x ne = refl
slice_get-set_other (y ∷ xs) zero zero x ne = absurd (ne refl)
slice_get-set_other (y ∷ xs) zero (suc m) x ne = refl
slice_get-set_other (y ∷ xs) (suc k) zero x ne = refl
slice_get-set_other (y ∷ xs) (suc k) (suc m) x ne =
    slice_get-set_other xs k m x (λ e. ne (ap suc e))

-- the caller has one more call, and each other caller has as many as before
pub calls_of-with_call_same : (book : List Page) (i op : ℕ) → i < length book
    → calls_of (with_call book i op) i ≡ calls_of book i + 1
calls_of-with_call_same book i op h =
    let p : Page =
    record (page_of book i) { operations = (page_of book i).operations ++ op ∷ [] } in
    omega (
      arith,
      ap (λ (q : Page). length q.operations) (page_of-set_same book i p h),
      length-append (page_of book i).operations (op ∷ []),
    )

pub calls_of-with_call_other : (book : List Page) (i op j : ℕ) → j ≢ i
    → calls_of (with_call book i op) j ≡ calls_of book j
calls_of-with_call_other book i op j other =
    let p : Page =
    record (page_of book i) { operations = (page_of book i).operations ++ op ∷ [] } in
    ap (λ (q : Page). length q.operations) (page_of-set_other book i j p other)

-- one more call changes no caller's number of answers, and no record
pub answers_of-with_call : (book : List Page) (i op j : ℕ) → i < length book
    → answers_of (with_call book i op) j ≡ answers_of book j
answers_of-with_call book i op j h =
    ap (λ (rs : List Record). length rs) (records-with_call book i op j h)

pub record_of-with_call : (book : List Page) (i op : ℕ) (call : Call) → i < length book
    → record_of (with_call book i op) call ≡ record_of book call
record_of-with_call book i op call h =
    ap (λ (rs : List Record). slice_get rs call.number) (records-with_call book i op call.caller h)

-- a call has the operation word that it had before one more call was made
pub operation_of-with_call_old : (book : List Page) (i op : ℕ) (call : Call) (its : ℕ)
    → i < length book → operation_of book call ≡ Some its
    → operation_of (with_call book i op) call ≡ Some its
operation_of-with_call_old book i op call its h e =
    let p : Page =
    record (page_of book i) { operations = (page_of book i).operations ++ op ∷ [] } in
    elim (cases_eq call.caller i) [
      | inl same ↦
          ap (λ (k : ℕ). slice_get (page_of (set book i p) k).operations call.number) same
          ∙ (ap (λ (q : Page). slice_get q.operations call.number) (page_of-set_same book i p h)
          ∙ slice_get-push_old (page_of book i).operations op call.number its
          (ap (λ (k : ℕ). slice_get (page_of book k).operations call.number) (sym same) ∙ e))
      | inr other ↦ ap (λ (q : Page). slice_get q.operations call.number)
          (page_of-set_other book i call.caller p other) ∙ e
    ]

-- the new call has its operation word
pub operation_of-with_call_new : (book : List Page) (i op : ℕ) → i < length book
    → operation_of (with_call book i op) (record { caller = i; number = calls_of book i }) ≡ Some op
operation_of-with_call_new book i op h =
    let p : Page =
    record (page_of book i) { operations = (page_of book i).operations ++ op ∷ [] } in
    ap (λ (q : Page). slice_get q.operations (calls_of book i)) (page_of-set_same book i p h)
    ∙ slice_get-push_last (page_of book i).operations op

-- a call of the book with one more call was there before, or is the new one
pub is_call-with_call : (book : List Page) (i op : ℕ) (call : Call) → i < length book
    → IsCall (with_call book i op) call
    → IsCall book call ⊎ (call ≡ record { caller = i; number = calls_of book i })
is_call-with_call book i op call h is =
    elim (cases_eq call.caller i) [
      | inl same ↦
          let more : call.number < calls_of (with_call book i op) i =
          subst (λ (k : ℕ). call.number < calls_of (with_call book i op) k) same is in
          let count = calls_of-with_call_same book i op h in
          elim (cases_lt call.number (calls_of book i)) [
            | inl below ↦ inl (subst (λ (k : ℕ). call.number < calls_of book k) (sym same) below)
            | inr past ↦
                let last : call.number ≡ calls_of book i = omega arith in
                inr (same_call call (record { caller = i; number = calls_of book i }) same last)
          ]
      | inr other ↦
          let count = calls_of-with_call_other book i op call.caller other in
          inl (omega arith)
    ]

-- one more answer changes no operation word
pub operation_of-with_answer : (book : List Page) (i : ℕ) (r : Record) (call : Call)
    → i < length book → operation_of (with_answer book i r) call ≡ operation_of book call
operation_of-with_answer book i r call h =
    let p : Page = record (page_of book i) { records = (page_of book i).records ++ r ∷ [] } in
    elim (cases_eq call.caller i) [
      | inl same ↦ subst (λ (k : ℕ). slice_get (page_of (set book i p) k).operations call.number
          ≡ slice_get (page_of book k).operations call.number) (sym same)
          (ap (λ (q : Page). slice_get q.operations call.number) (page_of-set_same book i p h))
      | inr other ↦ ap (λ (q : Page). slice_get q.operations call.number)
          (page_of-set_other book i call.caller p other)
    ]

-- the caller has one more answer, and each other caller has as many as before
pub answers_of-with_answer_same : (book : List Page) (i : ℕ) (r : Record) → i < length book
    → answers_of (with_answer book i r) i ≡ answers_of book i + 1
answers_of-with_answer_same book i r h =
    let p : Page = record (page_of book i) { records = (page_of book i).records ++ r ∷ [] } in
    omega (
      arith,
      ap (λ (q : Page). length q.records) (page_of-set_same book i p h),
      length-append (page_of book i).records (r ∷ []),
    )

pub answers_of-with_answer_other : (book : List Page) (i : ℕ) (r : Record) (j : ℕ) → j ≢ i
    → answers_of (with_answer book i r) j ≡ answers_of book j
answers_of-with_answer_other book i r j other =
    let p : Page = record (page_of book i) { records = (page_of book i).records ++ r ∷ [] } in
    ap (λ (q : Page). length q.records) (page_of-set_other book i j p other)
