-- The pages of a book, and where they lie in memory.
use Rattle.std.proofs.Common.{◌≡◌, ℕ, ◌<◌, ◌≤◌, ◌∙◌, List, [], length, get_or, Some, refl, sym, ap, subst, arith, set, ◌++◌, ◌∷◌, inl, inr, slice_get}
use Rattle.std.proofs.lemmas.Bool.{cases_lt}
use Rattle.std.proofs.lemmas.List.{get_or_past, get_or-map, length-map, map-set}
use Rattle.std.proofs.Math.Seq.{map-set_same}
use Rattle.std.proofs.lemmas.Option.{slice_get_read}
use Rattle.book_base.specs.declared.call.Call.{Call}
use Rattle.book_base.specs.declared.call.Record.{Record}
use Rattle.book_base.specs.declared.book.CallerPage.{CallerPage}
use Rattle.book_base.specs.Book.{Page, page_of, calls_of, answers_of, operation_of, record_of, with_call, with_operation, with_answer}
use Rattle.book_base.specs.BookLayout.{page, pages}

abbrev pub empty : Page
empty = record { operations = []; records = [] }

-- the page of a caller that the book lacks is empty
pub page_past : (book : List Page) (i : ℕ) → length book ≤ i → page_of book i ≡ empty
page_past book i h = get_or_past book i empty h

-- a caller that made a call is in the book
pub caller_from_call : (book : List Page) (i k : ℕ) → k < calls_of book i → i < length book
caller_from_call book i k h =
    elim (cases_lt i (length book)) [
      | inl lt ↦ lt
      | inr le ↦
          absurd (omega (arith, ap (λ (p : Page). length p.operations) (page_past book i le)))
    ]

-- a caller that recorded an answer is in the book
pub caller_from_answer : (book : List Page) (i k : ℕ) → k < answers_of book i → i < length book
caller_from_answer book i k h =
    elim (cases_lt i (length book)) [
      | inl lt ↦ lt
      | inr le ↦ absurd (omega (arith, ap (λ (p : Page). length p.records) (page_past book i le)))
    ]

-- the page of a caller is the one that the caller's page in memory holds
pub page_of-pages : (rows : List CallerPage) (book : List Page) (i : ℕ) (r : CallerPage)
    → pages rows ≡ book
    → i < length book → r ≡ get_or rows i r → page_of book i ≡ page r
page_of-pages rows book i r e h is =
    let inside : i < length rows = omega (arith, length-map rows page, ap length e) in
    ap (λ (b : List Page). page_of b i) (sym e)
    ∙ (get_or-map page rows i r empty inside ∙ ap page (sym is))

-- the operation word in a caller's page in memory is the one of the call
pub operation_from_rows : (rows : List CallerPage) (book : List Page) (call : Call)
    (r : CallerPage) (op : ℕ)
    → pages rows ≡ book → call.number < calls_of book call.caller → r ≡ get_or rows call.caller r
    → op ≡ get_or r.operations.items call.number op → operation_of book call ≡ Some op
operation_from_rows rows book call r op e h is there =
    let known =
    page_of-pages rows book call.caller r e (caller_from_call book call.caller call.number h) is in
    let below : call.number < length r.operations.items =
    subst (λ (p : Page). call.number < length p.operations) known h in
    ap (λ (p : Page). slice_get p.operations call.number) known
    ∙ slice_get_read r.operations.items (length r.operations.items) call.number op refl below there

-- the record in a caller's page in memory is the one of the call
pub record_from_rows : (rows : List CallerPage) (book : List Page) (call : Call) (r : CallerPage)
    (found : Record) → pages rows ≡ book → call.number < answers_of book call.caller
    → r ≡ get_or rows call.caller r → found ≡ get_or r.records.items call.number found
    → record_of book call ≡ Some found
record_from_rows rows book call r found e h is there =
    let known = page_of-pages rows book call.caller r e
    (caller_from_answer book call.caller call.number h) is in
    let below : call.number < length r.records.items =
    subst (λ (p : Page). call.number < length p.records) known h in
    ap (λ (p : Page). slice_get p.records call.number) known
    ∙ slice_get_read r.records.items (length r.records.items) call.number found refl below there

-- a page in memory that is replaced by one with the same lists doesn't change the book
pub pages-set_same : (rows : List CallerPage) (book : List Page) (i : ℕ) (r s : CallerPage)
    → pages rows ≡ book
    → r ≡ get_or rows i r → page s ≡ page r → pages (set rows i s) ≡ book
pages-set_same rows book i r s e is same = map-set_same page rows i s r (same ∙ ap page is) ∙ e

-- pages in memory with one more operation hold the book with one more call
pub pages-with_call : (rows : List CallerPage) (book : List Page) (i op : ℕ) (r s : CallerPage)
    → pages rows ≡ book → i < length book → r ≡ get_or rows i r
    → s.operations.items ≡ r.operations.items ++ op ∷ [] → s.records.items ≡ r.records.items
    → pages (set rows i s) ≡ with_call book i op
pages-with_call rows book i op r s e h is pushed same =
    let known = page_of-pages rows book i r e h is in
    let made : List ℕ → List Record → Page = λ ops rs. record { operations = ops; records = rs } in
    let one : page s
    ≡ record (page_of book i) { operations = (page_of book i).operations ++ op ∷ [] }
    = ap (λ (ops : List ℕ). made ops s.records.items) pushed
    ∙ (ap (made (r.operations.items ++ op ∷ [])) same
    ∙ ap (λ (p : Page). made (p.operations ++ op ∷ []) p.records) (sym known)) in
    map-set page rows i s ∙ (ap (λ (b : List Page). set b i (page s)) e ∙ ap (set book i) one)

-- pages in memory with another operation hold the book with this operation
pub pages-with_operation : (rows : List CallerPage) (book : List Page) (call : Call) (op : ℕ)
    (r s : CallerPage)
    → pages rows ≡ book → call.caller < length book → r ≡ get_or rows call.caller r
    → s.operations.items ≡ set r.operations.items call.number op → s.records.items ≡ r.records.items
    → pages (set rows call.caller s) ≡ with_operation book call op
pages-with_operation rows book call op r s e h is put same =
    let known = page_of-pages rows book call.caller r e h is in
    let made : List ℕ → List Record → Page = λ ops rs. record { operations = ops; records = rs } in
    let one : page s ≡ record (page_of book call.caller)
    { operations = set (page_of book call.caller).operations call.number op }
    = ap (λ (ops : List ℕ). made ops s.records.items) put
    ∙ (ap (made (set r.operations.items call.number op)) same
    ∙ ap (λ (p : Page). made (set p.operations call.number op) p.records) (sym known)) in
    map-set page rows call.caller s
    ∙ (ap (λ (b : List Page). set b call.caller (page s)) e ∙ ap (set book call.caller) one)

-- pages in memory with one more record hold the book with one more answer
pub pages-with_answer : (rows : List CallerPage) (book : List Page) (i : ℕ) (a : Record)
    (r s : CallerPage)
    → pages rows ≡ book → i < length book → r ≡ get_or rows i r
    → s.operations.items ≡ r.operations.items
    → s.records.items ≡ r.records.items ++ a ∷ [] → pages (set rows i s) ≡ with_answer book i a
pages-with_answer rows book i a r s e h is same pushed =
    let known = page_of-pages rows book i r e h is in
    let made : List ℕ → List Record → Page = λ ops rs. record { operations = ops; records = rs } in
    let one : page s ≡ record (page_of book i) { records = (page_of book i).records ++ a ∷ [] }
    = ap (λ (ops : List ℕ). made ops s.records.items) same ∙ (ap (made r.operations.items) pushed
    ∙ ap (λ (p : Page). made p.operations (p.records ++ a ∷ [])) (sym known)) in
    map-set page rows i s ∙ (ap (λ (b : List Page). set b i (page s)) e ∙ ap (set book i) one)
