-- Bytes have one part that is read as a book's text, in one version.
use Rattle.std.proofs.Common.{ℕ, List, ◌++◌, ◌<◌, ◌≡◌, ◌⊎◌, inl, inr, drop, sym, ap, subst, ◌∙◌, get_or, arith}
use Rattle.std.specs.Prelude.{codes}
use Rattle.std.proofs.lemmas.Bool.{cases_order}
use Rattle.book_base.specs.declared.fault.TextFault.{TextFault}
use Rattle.book_base.specs.Book.{Page}
use Rattle.book_text.specs.BookRules.{IsBookText, IsFirstBookFault}
use Rattle.seq_objects.specs.declared.kind.Kind.{Kind}
use Rattle.text_fields.specs.declared.version.Version.{Version}
use Rattle.given_book.specs.Given.{BeginsAsReport, BeginsAsOldBook, IsAfterVerdict, IsAfterEnd, IsWitnessPart, IsBookPart, IsGiven, IsFirstGivenFault}

-- texts with different first bytes are different
first_bytes : {A : Type 0} (xs ys : List ℕ) → xs ≡ ys → (get_or xs 0 0 ≡ get_or ys 0 0 → ⊥) → A
first_bytes xs ys e differ = absurd (differ (ap (λ zs. get_or zs 0 0) e))

-- no bytes begin with two of the titles
report_or_old : {A : Type 0} (bytes : List ℕ) → BeginsAsReport bytes → BeginsAsOldBook bytes → A
report_or_old bytes report old =
    first_bytes (codes "report 2\n" ++ report.0) (codes "book 1\n" ++ old.0) (sym report.1 ∙ old.1)
    (λ (e : 114 ≡ 98). omega (arith, e))

report_or_verdict : {A : Type 0} (bytes rest : List ℕ) → BeginsAsReport bytes
    → IsAfterVerdict bytes rest → A
report_or_verdict bytes rest report (inl is) =
    first_bytes (codes "report 2\n" ++ report.0) (codes "legal\n" ++ rest) (sym report.1 ∙ is)
    (λ (e : 114 ≡ 108). omega (arith, e))
report_or_verdict bytes rest report (inr is) =
    first_bytes (codes "report 2\n" ++ report.0) (codes "illegal\n" ++ rest) (sym report.1 ∙ is)
    (λ (e : 114 ≡ 105). omega (arith, e))

old_or_verdict : {A : Type 0} (bytes rest : List ℕ) → BeginsAsOldBook bytes
    → IsAfterVerdict bytes rest → A
old_or_verdict bytes rest old (inl is) =
    first_bytes (codes "book 1\n" ++ old.0) (codes "legal\n" ++ rest) (sym old.1 ∙ is)
    (λ (e : 98 ≡ 108). omega (arith, e))
old_or_verdict bytes rest old (inr is) =
    first_bytes (codes "book 1\n" ++ old.0) (codes "illegal\n" ++ rest) (sym old.1 ∙ is)
    (λ (e : 98 ≡ 105). omega (arith, e))

-- at most one text comes after a verdict
one_after_verdict : (bytes p q : List ℕ) → IsAfterVerdict bytes p → IsAfterVerdict bytes q → p ≡ q
one_after_verdict bytes p q (inl is) (inl also) = ap (λ xs. drop 6 xs) (sym is ∙ also)
one_after_verdict bytes p q (inr is) (inr also) = ap (λ xs. drop 8 xs) (sym is ∙ also)
one_after_verdict bytes p q (inl is) (inr also) =
    first_bytes (codes "legal\n" ++ p) (codes "illegal\n" ++ q) (sym is ∙ also)
    (λ (e : 108 ≡ 105). omega (arith, e))
one_after_verdict bytes p q (inr is) (inl also) =
    first_bytes (codes "illegal\n" ++ p) (codes "legal\n" ++ q) (sym is ∙ also)
    (λ (e : 105 ≡ 108). omega (arith, e))

-- at most one text comes after the first line `end`
one_by_order : (bytes p q : List ℕ) (a : IsAfterEnd bytes p) (b : IsAfterEnd bytes q)
    → (a.at ≡ b.at) ⊎ ((a.at < b.at) ⊎ (b.at < a.at)) → p ≡ q
one_by_order bytes p q a b (inl is) =
    ap (λ xs. drop 5 xs) (sym a.has ∙ (ap (λ n. drop n bytes) is ∙ b.has))
one_by_order bytes p q a b (inr (inl lt)) = absurd (b.first a.at p lt a.has)
one_by_order bytes p q a b (inr (inr gt)) = absurd (a.first b.at q gt b.has)

one_witness : (bytes p q : List ℕ) → IsWitnessPart bytes p → IsWitnessPart bytes q → p ≡ q
one_witness bytes p q (inl a) (inl b) = one_by_order bytes p q a b (cases_order a.at b.at)
one_witness bytes p q (inl a) (inr none) = absurd (none.0 a.at p a.has)
one_witness bytes p q (inr none) (inl b) = absurd (none.0 b.at q b.has)
one_witness bytes p q (inr none) (inr also) = none.1 ∙ sym also.1

-- there is one part, and one version
pub one_part : (bytes : List ℕ) (v w : Version) (p q : List ℕ) → IsBookPart bytes v p
    → IsBookPart bytes w q → (v ≡ w) × (p ≡ q)
one_part bytes v w p q (inl a) (inl b) = (a.1 ∙ sym b.1, one_witness bytes p q a.2 b.2)
one_part bytes v w p q (inl a) (inr (inl b)) = report_or_verdict bytes q a.0 b.0
one_part bytes v w p q (inl a) (inr (inr (inl b))) = report_or_old bytes a.0 b.0
one_part bytes v w p q (inl a) (inr (inr (inr b))) = absurd (b.0.report a.0)
one_part bytes v w p q (inr (inl a)) (inl b) = report_or_verdict bytes p b.0 a.0
one_part bytes v w p q (inr (inl a)) (inr (inl b)) =
    (a.1 ∙ sym b.1, one_after_verdict bytes p q a.0 b.0)
one_part bytes v w p q (inr (inl a)) (inr (inr (inl b))) = old_or_verdict bytes p b.0 a.0
one_part bytes v w p q (inr (inl a)) (inr (inr (inr b))) = absurd (b.0.verdict (p, a.0))
one_part bytes v w p q (inr (inr (inl a))) (inl b) = report_or_old bytes b.0 a.0
one_part bytes v w p q (inr (inr (inl a))) (inr (inl b)) = old_or_verdict bytes q a.0 b.0
one_part bytes v w p q (inr (inr (inl a))) (inr (inr (inl b))) = (a.1 ∙ sym b.1, a.2 ∙ sym b.2)
one_part bytes v w p q (inr (inr (inl a))) (inr (inr (inr b))) = absurd (b.0.old a.0)
one_part bytes v w p q (inr (inr (inr a))) (inl b) = absurd (a.0.report b.0)
one_part bytes v w p q (inr (inr (inr a))) (inr (inl b)) = absurd (a.0.verdict (q, b.0))
one_part bytes v w p q (inr (inr (inr a))) (inr (inr (inl b))) = absurd (a.0.old b.0)
one_part bytes v w p q (inr (inr (inr a))) (inr (inr (inr b))) = (a.1 ∙ sym b.1, a.2 ∙ sym b.2)

-- what an input gives is what its one part is the text of
pub told_by : (bytes : List ℕ) (version : Version) (part : List ℕ) (kind : Kind) (book : List Page)
    → IsBookPart bytes version part → IsGiven bytes kind book → IsBookText version part kind book
told_by bytes version part kind book is given =
    let one = one_part bytes given.version version given.part part given.is is in
    subst (λ v. IsBookText v part kind book) one.0
    (subst (λ p. IsBookText given.version p kind book) one.1 given.told)

-- the first fault of an input is that of its one part
pub stopped_by : (bytes : List ℕ) (version : Version) (part : List ℕ) (fault : TextFault)
    → IsBookPart bytes version part → IsFirstGivenFault bytes fault
    → IsFirstBookFault version part fault
stopped_by bytes version part fault is first =
    let one = one_part bytes first.version version first.part part first.is is in
    subst (λ v. IsFirstBookFault v part fault) one.0
    (subst (λ p. IsFirstBookFault first.version p fault) one.1 first.stops)
