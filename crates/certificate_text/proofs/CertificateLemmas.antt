-- What bytes say of a certificate: its list is a legal order of its book, or the list has one first
-- fault, or the bytes have one.
use Rattle.std.proofs.Common.{◌≡◌, ◌⊎◌, ℕ, List, Result, refl, ap, subst}
use Rattle.std.specs.Prelude.{IfOk, IfErr, MatchResult}
use Rattle.book_base.specs.declared.call.Place.{Place}
use Rattle.book_base.specs.declared.fault.TextFault.{TextFault}
use Rattle.book_base.specs.declared.fault.ReadFault.{ReadFault}
use Rattle.book_base.specs.declared.fault.ReadFault.TheVariants.{Text, NoMemory}
use Rattle.book_base.specs.Book.{Page}
use Rattle.book_base.specs.Order.{IsLegalOrder}
use Rattle.seq_objects.specs.declared.kind.Kind.{Kind}
use Rattle.seq_objects.specs.Objects.{kind_spec}
use Rattle.order_check.specs.declared.fault.OrderFault.{OrderFault}
use Rattle.order_check.specs.Fault.{IsFirstFault}
use Rattle.order_check.proofs.Faults.{legal_orders_fail_no_test, first_faults_are_one}
use Rattle.certificate_text.specs.CertificateRules.{IsCertificateText, IsFirstCertificateFault}
use Rattle.certificate_text.proofs.Readings.{one_certificate, one_fault, no_fault}
use Rattle.certificate_text.specs.declared.order_verdict.OrderVerdict.{OrderVerdict}
use Rattle.certificate_text.specs.declared.order_verdict.OrderVerdict.TheVariants.{Legal, Faulty}
use Rattle.certificate_text.specs.Certificates.{IsTextOfCertificate, IsLegalCertificate, IsFaultyCertificate, IsOrderVerdict}
use Rattle.text_fields.specs.Faults.{IsFaultOf}
use Rattle.certificate_text.proofs.Answers.{only_answer, first_answer}

pub IsTextOfCertificate-from_legal : (bytes : List ℕ) → IsLegalCertificate bytes
    → IsTextOfCertificate bytes
unfolding IsLegalCertificate IsTextOfCertificate
IsTextOfCertificate-from_legal bytes h = (h.0, h.1, h.2, h.3)

pub IsTextOfCertificate-from_faulty : (bytes : List ℕ) (fault : OrderFault)
    → IsFaultyCertificate bytes fault → IsTextOfCertificate bytes
unfolding IsFaultyCertificate IsTextOfCertificate
IsTextOfCertificate-from_faulty bytes fault h = (h.0, h.1, h.2, h.3)

-- a certificate's text has no first fault
pub certificate_or_fault : (bytes : List ℕ) (fault : TextFault) → IsTextOfCertificate bytes
    → IsFirstCertificateFault bytes fault → ⊥
unfolding IsTextOfCertificate
certificate_or_fault bytes fault h first = no_fault bytes h.0 h.1 h.2 fault h.3 first

pub certificate_is_legal : (bytes : List ℕ) (kind : Kind) (book : List Page) (order : List Place)
    → IsCertificateText bytes kind book order → IsLegalOrder (kind_spec kind) book order
    → IsLegalCertificate bytes
unfolding IsLegalCertificate
certificate_is_legal bytes kind book order told legal = (kind, book, order, told, legal)

-- a list with a fault is no legal order
pub certificate_is_faulty : (bytes : List ℕ) (kind : Kind) (book : List Page) (order : List Place)
    (fault : OrderFault) → IsCertificateText bytes kind book order
    → IsFirstFault (kind_spec kind) book order fault → IsFaultyCertificate bytes fault
unfolding IsFaultyCertificate
certificate_is_faulty bytes kind book order fault told first = (
  kind,
  book,
  order,
  told,
  (λ legal. legal_orders_fail_no_test (kind_spec kind) book order legal fault first.fails),
  first,
)

-- no bytes are the text of a certificate with a legal order and of one without
pub legal_or_faulty : (bytes : List ℕ) (fault : OrderFault) → IsLegalCertificate bytes
    → IsFaultyCertificate bytes fault → ⊥
unfolding IsLegalCertificate IsFaultyCertificate
legal_or_faulty bytes fault h k =
    let one = one_certificate bytes h.0 k.0 h.1 k.1 h.2 k.2 h.3 k.3 in
    let by_kind =
    subst (λ (kind : Kind). IsLegalOrder (kind_spec kind) h.1 h.2) one.kinds h.4 in
    let by_book =
    subst (λ (book : List Page). IsLegalOrder (kind_spec k.0) book h.2)
    one.books by_kind in
    k.4 (subst (λ (order : List Place). IsLegalOrder (kind_spec k.0) k.1 order)
    one.orders by_book)

-- a certificate's order has one first fault
pub one_order_fault : (bytes : List ℕ) (e f : OrderFault) → IsFaultyCertificate bytes e
    → IsFaultyCertificate bytes f → e ≡ f
unfolding IsFaultyCertificate
one_order_fault bytes e f h k =
    let one = one_certificate bytes h.0 k.0 h.1 k.1 h.2 k.2 h.3 k.3 in
    let by_kind = subst
    (λ (kind : Kind). IsFirstFault (kind_spec kind) h.1 h.2 e) one.kinds h.5 in
    let by_book =
    subst (λ (book : List Page). IsFirstFault (kind_spec k.0) book h.2 e)
    one.books by_kind in
    let by_order =
    subst (λ (order : List Place). IsFirstFault (kind_spec k.0) k.1 order e)
    one.orders by_book in
    first_faults_are_one (kind_spec k.0) k.1 k.2 e f by_order k.5

-- ---- the answers of `order`

-- a text has one verdict
one_verdict : (bytes : List ℕ) (a b : OrderVerdict) → IsOrderVerdict bytes a
    → IsOrderVerdict bytes b → a ≡ b
one_verdict bytes Legal Legal h k = refl
one_verdict bytes Legal (Faulty f) h k = absurd (legal_or_faulty bytes f h k)
one_verdict bytes (Faulty e) Legal h k = absurd (legal_or_faulty bytes e k h)
one_verdict bytes (Faulty e) (Faulty f) h k = ap Faulty (one_order_fault bytes e f h k)

verdict_or_fault : (bytes : List ℕ) (verdict : OrderVerdict) (fault : TextFault)
    → IsOrderVerdict bytes verdict → IsFirstCertificateFault bytes fault → ⊥
verdict_or_fault bytes Legal fault h first =
    certificate_or_fault bytes fault (IsTextOfCertificate-from_legal bytes h) first
verdict_or_fault bytes (Faulty e) fault h first =
    certificate_or_fault bytes fault (IsTextOfCertificate-from_faulty bytes e h) first

pub only_verdict : (bytes : List ℕ) (result : Result OrderVerdict ReadFault)
    → IfOk result (IsOrderVerdict bytes) → IfErr result (IsFaultOf (IsFirstCertificateFault bytes))
    → (verdict : OrderVerdict) → IsOrderVerdict bytes verdict
    → MatchResult result (λ v. v ≡ verdict) (λ e. e ≡ NoMemory)
only_verdict bytes result found refused verdict h =
    only_answer (IsOrderVerdict bytes) (λ v. v ≡ verdict) (IsFirstCertificateFault bytes) result
    found refused (λ v is. one_verdict bytes v verdict is h)
    (λ fault first. verdict_or_fault bytes verdict fault h first)

pub first_of_verdict : (bytes : List ℕ) (result : Result OrderVerdict ReadFault)
    → IfOk result (IsOrderVerdict bytes) → IfErr result (IsFaultOf (IsFirstCertificateFault bytes))
    → (fault : TextFault) → IsFirstCertificateFault bytes fault
    → MatchResult result (λ _. ⊥) (λ e. (e ≡ Text fault) ⊎ (e ≡ NoMemory))
first_of_verdict bytes result found refused =
    first_answer (IsOrderVerdict bytes) (IsFirstCertificateFault bytes) result found refused
    (one_fault bytes) (verdict_or_fault bytes)
