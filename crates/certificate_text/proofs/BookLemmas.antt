-- What bytes say of a book: a text is that of one book, legal or not, or has one first fault.
use Rattle.std.proofs.Common.{◌≡◌, ◌⊎◌, ℕ, List, Option, Some, None, Result, Ok, Err, Vec, Global, refl, subst}
use Rattle.std.specs.Prelude.{IfOk, IfErr, IfSome, IsSome, IsNone, MatchOption, MatchResult}
use Rattle.book_base.specs.declared.fault.TextFault.{TextFault}
use Rattle.book_base.specs.declared.fault.ReadFault.{ReadFault}
use Rattle.book_base.specs.declared.fault.ReadFault.TheVariants.{Text, NoMemory}
use Rattle.book_base.specs.Book.{Page}
use Rattle.book_base.specs.Order.{HasLegalOrder}
use Rattle.book_text.specs.BookRules.{IsFirstBookFault}
use Rattle.book_text.proofs.Readings.{one_book, no_first_fault, one_first_fault}
use Rattle.seq_objects.specs.declared.kind.Kind.{Kind}
use Rattle.seq_objects.specs.Objects.{kind_spec}
use Rattle.text_fields.specs.declared.version.Version.TheVariants.{Second}
use Rattle.certificate_text.specs.declared.book_verdict.BookVerdict.{BookVerdict}
use Rattle.certificate_text.specs.declared.book_verdict.BookVerdict.TheVariants.{Legal, Illegal}
use Rattle.certificate_text.specs.Books.{Tells, IsTextOfBook, IsLegalBook, IsIllegalBook, IsBookVerdict, Certifies}
use Rattle.text_fields.specs.Faults.{IsFaultOf}
use Rattle.certificate_text.proofs.Answers.{only_answer, first_answer}

pub IsTextOfBook-from_told : (bytes : List ℕ) (kind : Kind) (book : List Page)
    → Tells bytes kind book → IsTextOfBook bytes
unfolding IsTextOfBook
IsTextOfBook-from_told bytes kind book told = (kind, book, told)

pub IsTextOfBook-from_legal : (bytes : List ℕ) → IsLegalBook bytes → IsTextOfBook bytes
unfolding IsLegalBook IsTextOfBook
IsTextOfBook-from_legal bytes legal = (legal.0, legal.1, legal.2)

pub IsTextOfBook-from_illegal : (bytes : List ℕ) → IsIllegalBook bytes → IsTextOfBook bytes
unfolding IsIllegalBook IsTextOfBook
IsTextOfBook-from_illegal bytes illegal = (illegal.0, illegal.1, illegal.2)

-- a book with a certificate has a legal order
pub IsLegalBook-from_certified : (bytes text : List ℕ) → Certifies bytes text → IsLegalBook bytes
unfolding IsLegalBook Certifies
IsLegalBook-from_certified bytes text certified =
    (certified.0, certified.1, certified.3, (certified.2, certified.5))

-- no bytes are the text of a book with a legal order and of one without
pub legal_or_illegal : (bytes : List ℕ) → IsLegalBook bytes → IsIllegalBook bytes → ⊥
unfolding IsLegalBook IsIllegalBook
legal_or_illegal bytes legal illegal =
    let same = one_book Second bytes legal.0 illegal.0 legal.1 illegal.1 legal.2 illegal.2 in
    let by_kind = subst
    (λ (kind : Kind). HasLegalOrder (kind_spec kind) legal.1) same.0 legal.3 in
    illegal.3
    (subst (λ (book : List Page). HasLegalOrder (kind_spec illegal.0) book)
    same.1 by_kind)

-- a book's text has no first fault
pub book_or_fault : (bytes : List ℕ) (fault : TextFault) → IsTextOfBook bytes
    → IsFirstBookFault Second bytes fault → ⊥
unfolding IsTextOfBook
book_or_fault bytes fault book first = no_first_fault Second bytes book.0 book.1 fault book.2 first

-- ---- the answers of `verify`

-- a text has one verdict
one_verdict : (bytes : List ℕ) (a b : BookVerdict) → IsBookVerdict bytes a
    → IsBookVerdict bytes b → a ≡ b
one_verdict bytes Legal Legal h k = refl
one_verdict bytes Legal Illegal h k = absurd (legal_or_illegal bytes h k)
one_verdict bytes Illegal Legal h k = absurd (legal_or_illegal bytes k h)
one_verdict bytes Illegal Illegal h k = refl

verdict_or_fault : (bytes : List ℕ) (verdict : BookVerdict) (fault : TextFault)
    → IsBookVerdict bytes verdict → IsFirstBookFault Second bytes fault → ⊥
verdict_or_fault bytes Legal fault h first =
    book_or_fault bytes fault (IsTextOfBook-from_legal bytes h) first
verdict_or_fault bytes Illegal fault h first =
    book_or_fault bytes fault (IsTextOfBook-from_illegal bytes h) first

-- a verdict on the book, or that the bytes are the text of one
abbrev pub IsAnswerOn : List ℕ → Option BookVerdict → Type 0
IsAnswerOn bytes said = MatchOption said (IsTextOfBook bytes) (IsBookVerdict bytes)

one_answer : (bytes : List ℕ) (verdict : BookVerdict) → IsBookVerdict bytes verdict
    → (said : Option BookVerdict) → IsAnswerOn bytes said → IfSome said (λ v. v ≡ verdict)
one_answer bytes verdict h None told = tt
one_answer bytes verdict h (Some v) is = one_verdict bytes v verdict is h

answer_or_fault : (bytes : List ℕ) (said : Option BookVerdict) (fault : TextFault)
    → IsAnswerOn bytes said → IsFirstBookFault Second bytes fault → ⊥
answer_or_fault bytes None fault told first = book_or_fault bytes fault told first
answer_or_fault bytes (Some verdict) fault is first = verdict_or_fault bytes verdict fault is first

pub only_verdict : (bytes : List ℕ) (result : Result (Option BookVerdict) ReadFault)
    → IfOk result (IsAnswerOn bytes) → IfErr result (IsFaultOf (IsFirstBookFault Second bytes))
    → (verdict : BookVerdict) → IsBookVerdict bytes verdict
    → MatchResult result (λ said. IfSome said (λ v. v ≡ verdict)) (λ e. e ≡ NoMemory)
only_verdict bytes result found refused verdict h =
    only_answer (IsAnswerOn bytes) (λ said. IfSome said (λ v. v ≡ verdict))
    (IsFirstBookFault Second bytes) result found refused (one_answer bytes verdict h)
    (λ fault first. verdict_or_fault bytes verdict fault h first)

pub first_of_verdict : (bytes : List ℕ) (result : Result (Option BookVerdict) ReadFault)
    → IfOk result (IsAnswerOn bytes) → IfErr result (IsFaultOf (IsFirstBookFault Second bytes))
    → (fault : TextFault) → IsFirstBookFault Second bytes fault
    → MatchResult result (λ _. ⊥) (λ e. (e ≡ Text fault) ⊎ (e ≡ NoMemory))
first_of_verdict bytes result found refused =
    first_answer (IsAnswerOn bytes) (IsFirstBookFault Second bytes) result found refused
    (one_first_fault Second bytes) (answer_or_fault bytes)

-- ---- the answers of `certify`

-- a certificate, or none where the book has no legal order
abbrev pub IsCertification : List ℕ → Option (Vec ℕ Global) → Type 0
IsCertification bytes found =
    MatchOption found (IsIllegalBook bytes) (λ text. Certifies bytes text.items)

pub only_some : (bytes : List ℕ) (result : Result (Option (Vec ℕ Global)) ReadFault)
    → IfOk result (IsCertification bytes) → IfErr result (IsFaultOf (IsFirstBookFault Second bytes))
    → IsLegalBook bytes → MatchResult result IsSome (λ e. e ≡ NoMemory)
only_some bytes (Ok (Some text)) found refused legal = refl
only_some bytes (Ok None) found refused legal = absurd (legal_or_illegal bytes legal found)
only_some bytes (Err NoMemory) found refused legal = refl
only_some bytes (Err (Text fault)) found refused legal =
    absurd (book_or_fault bytes fault (IsTextOfBook-from_legal bytes legal) refused)

pub only_none : (bytes : List ℕ) (result : Result (Option (Vec ℕ Global)) ReadFault)
    → IfOk result (IsCertification bytes) → IfErr result (IsFaultOf (IsFirstBookFault Second bytes))
    → IsIllegalBook bytes → MatchResult result IsNone (λ e. e ≡ NoMemory)
only_none bytes (Ok (Some text)) found refused illegal =
    absurd (legal_or_illegal bytes (IsLegalBook-from_certified bytes text.items found) illegal)
only_none bytes (Ok None) found refused illegal = refl
only_none bytes (Err NoMemory) found refused illegal = refl
only_none bytes (Err (Text fault)) found refused illegal =
    absurd (book_or_fault bytes fault (IsTextOfBook-from_illegal bytes illegal) refused)

certification_or_fault : (bytes : List ℕ) (found : Option (Vec ℕ Global)) (fault : TextFault)
    → IsCertification bytes found → IsFirstBookFault Second bytes fault → ⊥
certification_or_fault bytes None fault h first =
    book_or_fault bytes fault (IsTextOfBook-from_illegal bytes h) first
certification_or_fault bytes (Some text) fault h first = book_or_fault bytes fault
    (IsTextOfBook-from_legal bytes (IsLegalBook-from_certified bytes text.items h)) first

pub first_of_certificate : (bytes : List ℕ) (result : Result (Option (Vec ℕ Global)) ReadFault)
    → IfOk result (IsCertification bytes) → IfErr result (IsFaultOf (IsFirstBookFault Second bytes))
    → (fault : TextFault) → IsFirstBookFault Second bytes fault
    → MatchResult result (λ _. ⊥) (λ e. (e ≡ Text fault) ⊎ (e ≡ NoMemory))
first_of_certificate bytes result found refused =
    first_answer (IsCertification bytes) (IsFirstBookFault Second bytes) result found refused
    (one_first_fault Second bytes) (certification_or_fault bytes)
