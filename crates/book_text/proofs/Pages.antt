-- What the line of a call changes: the page of its caller.
use Rattle.std.proofs.Common.{◌<◌, ◌≡◌, ℕ, zero, suc, ◌+◌, ◌≤◌, List, [], ◌∷◌, ◌++◌, length, take, set, replicate, Option, Some, None, refl, sym, ap, ◌∙◌, arith, slice_get, ◌⊎◌, inl, inr}
use Rattle.std.specs.Prelude.{IsSome}
use Rattle.std.proofs.lemmas.Option.{same_Some, slice_get_past}
use Rattle.std.proofs.lemmas.List.{length-append, length-set}
use Rattle.list_laws.proofs.Prefixes.{slice_get-append_within}
use Rattle.list_laws.proofs.Places.{slice_get-push_last}
use Rattle.book_base.specs.declared.call.Call.{Call}
use Rattle.book_base.specs.declared.call.Record.{Record}
use Rattle.book_base.specs.Book.{Page, page_of, with_operation, with_answer}
use Rattle.book_text.specs.CallLines.{with_line}

-- the page of a caller with what the line of its call with this number says
abbrev pub page_with : Page → ℕ → ℕ → Option Record → Page
page_with page k op None = record { operations = set page.operations k op; records = page.records }
page_with page k op (Some answer) =
    record { operations = set page.operations k op; records = page.records ++ answer ∷ [] }

-- the page of a caller in a list of pages is the one after those of the callers before
pub page_of-middle : (done : List Page) (page : Page) (later : List Page)
    → page_of (done ++ page ∷ later) (length done) ≡ page
page_of-middle [] page later = refl
page_of-middle (p ∷ done) page later = page_of-middle done page later

set-middle : (done : List Page) (page other : Page) (later : List Page)
    → set (done ++ page ∷ later) (length done) other ≡ done ++ other ∷ later
set-middle [] page other later = refl
set-middle (p ∷ done) page other later =
    ap (λ (ps : List Page). p ∷ ps) (set-middle done page other later)

with_operation-middle : (done : List Page) (page : Page) (later : List Page) (k op : ℕ)
    → with_operation (done ++ page ∷ later) (record { caller = length done; number = k }) op
    ≡ done ++ page_with page k op None ∷ later
with_operation-middle done page later k op =
    let made : Page → Page =
    λ p. record { operations = set p.operations k op; records = p.records } in
    ap (λ (p : Page). set (done ++ page ∷ later) (length done) (made p))
    (page_of-middle done page later) ∙ set-middle done page (made page) later

with_answer-middle : (done : List Page) (page : Page) (later : List Page) (r : Record)
    → with_answer (done ++ page ∷ later) (length done) r
    ≡ done ++ record { operations = page.operations; records = page.records ++ r ∷ [] } ∷ later
with_answer-middle done page later r =
    let made : Page → Page =
    λ p. record { operations = p.operations; records = p.records ++ r ∷ [] } in
    ap (λ (p : Page). set (done ++ page ∷ later) (length done) (made p))
    (page_of-middle done page later) ∙ set-middle done page (made page) later

-- the line of a call changes the page of its caller alone
pub with_line-middle : (done : List Page) (page : Page) (later : List Page) (k op : ℕ)
    (answer : Option Record)
    → with_line (done ++ page ∷ later) (record { caller = length done; number = k }) op answer
    ≡ done ++ page_with page k op answer ∷ later
with_line-middle done page later k op None = with_operation-middle done page later k op
with_line-middle done page later k op (Some r) =
    let call : Call = record { caller = length done; number = k } in
    let answered : Page =
    record { operations = page.operations; records = page.records ++ r ∷ [] } in
    ap (λ (b : List Page). with_operation b call op) (with_answer-middle done page later r)
    ∙ with_operation-middle done answered later k op

-- ---- a page of which the first calls are read, up to a number

-- the first operations, up to a number, and the word 0 for each other call
abbrev pub operations_to : ℕ → List ℕ → List ℕ
operations_to zero ops = replicate (length ops) 0
operations_to (suc k) [] = []
operations_to (suc k) (op ∷ ops) = op ∷ operations_to k ops

-- the page when the lines of the first calls are read, up to a number
abbrev pub page_to : ℕ → Page → Page
page_to k page =
    record { operations = operations_to k page.operations; records = take k page.records }

pub length-operations_to : (k : ℕ) (ops : List ℕ) → length (operations_to k ops) ≡ length ops
length-operations_to zero [] = refl
length-operations_to zero (op ∷ ops) = ap suc (length-operations_to zero ops)
length-operations_to (suc k) [] = refl
length-operations_to (suc k) (op ∷ ops) = ap suc (length-operations_to k ops)

operations_to-all : (k : ℕ) (ops : List ℕ) → length ops ≤ k → operations_to k ops ≡ ops
operations_to-all zero [] le = refl
operations_to-all zero (op ∷ ops) le = absurd (omega arith)
operations_to-all (suc k) [] le = refl
operations_to-all (suc k) (op ∷ ops) le =
    ap (λ (xs : List ℕ). op ∷ xs) (operations_to-all k ops (omega arith))

operations_to-more : (k : ℕ) (ops : List ℕ) (op : ℕ) → slice_get ops k ≡ Some op
    → set (operations_to k ops) k op ≡ operations_to (suc k) ops
operations_to-more zero [] op e = absurd cc
operations_to-more zero (o ∷ ops) op e = let same : o ≡ op = cc in
    ap (λ (x : ℕ). x ∷ replicate (length ops) 0) (sym same)
operations_to-more (suc k) [] op e = absurd cc
operations_to-more (suc k) (o ∷ ops) op e =
    ap (λ (xs : List ℕ). o ∷ xs) (operations_to-more k ops op e)

take-all : (k : ℕ) (rs : List Record) → length rs ≤ k → take k rs ≡ rs
take-all zero [] le = refl
take-all zero (r ∷ rs) le = absurd (omega arith)
take-all (suc k) [] le = refl
take-all (suc k) (r ∷ rs) le = ap (λ (xs : List Record). r ∷ xs) (take-all k rs (omega arith))

take-none : (k : ℕ) (rs : List Record) → slice_get rs k ≡ None → take k rs ≡ take (suc k) rs
take-none zero [] e = refl
take-none zero (r ∷ rs) e = absurd cc
take-none (suc k) [] e = refl
take-none (suc k) (r ∷ rs) e = ap (λ (xs : List Record). r ∷ xs) (take-none k rs e)

take-some : (k : ℕ) (rs : List Record) (a : Record) → slice_get rs k ≡ Some a
    → take k rs ++ a ∷ [] ≡ take (suc k) rs
take-some zero [] a e = absurd cc
take-some zero (r ∷ rs) a e = let same : r ≡ a = cc in ap (λ (x : Record). x ∷ []) (sym same)
take-some (suc k) [] a e = absurd cc
take-some (suc k) (r ∷ rs) a e = ap (λ (xs : List Record). r ∷ xs) (take-some k rs a e)

abbrev made_page : List ℕ → List Record → Page
made_page ops rs = record { operations = ops; records = rs }

same_page : (ops ops' : List ℕ) (rs rs' : List Record) → ops ≡ ops' → rs ≡ rs'
    → made_page ops rs ≡ made_page ops' rs'
same_page ops ops' rs rs' e f = ap (λ (os : List ℕ). made_page os rs) e ∙ ap (made_page ops') f

-- the line of the next call makes of the page up to this call the page up to the call after it
pub page_to-more : (page : Page) (k op : ℕ) (answer : Option Record)
    → slice_get page.operations k ≡ Some op → slice_get page.records k ≡ answer
    → page_with (page_to k page) k op answer ≡ page_to (k + 1) page
page_to-more page k op None e f =
    let next : suc k ≡ k + 1 = omega arith in
    same_page _ _ _ _ (operations_to-more k page.operations op e) (take-none k page.records f)
    ∙ ap (λ (n : ℕ). page_to n page) next
page_to-more page k op (Some r) e f =
    let next : suc k ≡ k + 1 = omega arith in
    same_page _ _ _ _ (operations_to-more k page.operations op e) (take-some k page.records r f)
    ∙ ap (λ (n : ℕ). page_to n page) next

-- once all lines are read, the page is the whole one
pub page_to-all : (page : Page) → length page.records ≤ length page.operations
    → page_to (length page.operations) page ≡ page
page_to-all page le =
    same_page _ _ _ _ (operations_to-all (length page.operations) page.operations (omega arith))
    (take-all (length page.operations) page.records le)

-- ---- what a line says of its call, and of the others

pub slice_get-set_here : (xs : List ℕ) (k x : ℕ) → k < length xs → slice_get (set xs k x) k ≡ Some x
slice_get-set_here [] k x lt = absurd (omega arith)
slice_get-set_here (y ∷ xs) zero x lt = refl
slice_get-set_here (y ∷ xs) (suc k) x lt = slice_get-set_here xs k x (omega arith)

pub slice_get-set_before : (xs : List ℕ) (k x m : ℕ) → m < k
    → slice_get (set xs k x) m ≡ slice_get xs m
slice_get-set_before [] k x m lt = refl
slice_get-set_before (y ∷ xs) zero x m lt = absurd (omega arith)
slice_get-set_before (y ∷ xs) (suc k) x zero lt = refl
slice_get-set_before (y ∷ xs) (suc k) x (suc m) lt = slice_get-set_before xs k x m (omega arith)

pub slice_get-set_cases : (xs : List ℕ) (k x m z : ℕ) → slice_get (set xs k x) m ≡ Some z
    → (slice_get xs m ≡ Some z) ⊎ (z ≡ x)
slice_get-set_cases [] k x m z e = inl e
slice_get-set_cases (y ∷ xs) zero x zero z e = inr (sym (same_Some x z e))
slice_get-set_cases (y ∷ xs) zero x (suc m) z e = inl e
slice_get-set_cases (y ∷ xs) (suc k) x zero z e = inl e
slice_get-set_cases (y ∷ xs) (suc k) x (suc m) z e = slice_get-set_cases xs k x m z e

-- Two pages have the same first calls, up to a number, and the same number of all calls.
pub record AreSameTo (k : ℕ) (a b : Page) : Type 0 where
  pub size : length b.operations ≡ length a.operations
  pub operations : (m : ℕ) → m < k → slice_get b.operations m ≡ slice_get a.operations m
  pub records : (m : ℕ) → m < k → slice_get b.records m ≡ slice_get a.records m

-- the line of a call doesn't change its caller's earlier calls
pub page_with-before : (page : Page) (k op : ℕ) (answer : Option Record)
    → (IsSome answer → k ≤ length page.records) → AreSameTo k page (page_with page k op answer)
page_with-before page k op None late = record {
  size = length-set page.operations k op;
  operations = λ m lt. slice_get-set_before page.operations k op m lt;
  records = λ m lt. refl;
}
page_with-before page k op (Some r) late =
    let le : k ≤ length page.records = late refl in
    record {
      size = length-set page.operations k op;
      operations = λ m lt. slice_get-set_before page.operations k op m lt;
      records = λ m lt. slice_get-append_within page.records (r ∷ []) m (omega arith);
    }

pub page_with-operation : (page : Page) (k op : ℕ) (answer : Option Record)
    → k < length page.operations → slice_get (page_with page k op answer).operations k ≡ Some op
page_with-operation page k op None lt = slice_get-set_here page.operations k op lt
page_with-operation page k op (Some r) lt = slice_get-set_here page.operations k op lt

pub page_with-record : (page : Page) (k op : ℕ) (answer : Option Record) → length page.records ≤ k
    → (IsSome answer → k ≤ length page.records)
    → slice_get (page_with page k op answer).records k ≡ answer
page_with-record page k op None few late = slice_get_past page.records k few
page_with-record page k op (Some r) few late =
    let le : k ≤ length page.records = late refl in
    let same : k ≡ length page.records = omega arith in
    ap (slice_get (page.records ++ r ∷ [])) same ∙ slice_get-push_last page.records r

pub page_with-few : (page : Page) (k op : ℕ) (answer : Option Record) → length page.records ≤ k
    → length (page_with page k op answer).records ≤ k + 1
page_with-few page k op None few = omega arith
page_with-few page k op (Some r) few = omega (arith, length-append page.records (r ∷ []))
