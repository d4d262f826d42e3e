-- Evidence for the verdict on the book that bytes are the text of.
use Rattle.std.proofs.Common.{◌≡◌, ◌⊎◌, ℕ, List, Result, Ok, Err, Vec, Global, subst}
use Rattle.std.specs.Prelude.{IfOk, IfErr, MatchResult}
use Rattle.book_base.specs.declared.call.Call.{Call}
use Rattle.book_base.specs.declared.fault.TextFault.{TextFault}
use Rattle.book_base.specs.declared.fault.ReadFault.{ReadFault}
use Rattle.book_base.specs.declared.fault.ReadFault.TheVariants.{Text, NoMemory}
use Rattle.book_base.specs.Book.{Page}
use Rattle.book_base.specs.Order.{HasLegalOrder}
use Rattle.seq_objects.specs.declared.kind.Kind.{Kind}
use Rattle.seq_objects.specs.Objects.{kind_spec}
use Rattle.text_fields.specs.declared.version.Version.TheVariants.{Second}
use Rattle.text_fields.specs.Faults.{IsFaultOf}
use Rattle.book_text.specs.BookRules.{IsFirstBookFault}
use Rattle.book_text.proofs.Readings.{one_book, one_first_fault}
use Rattle.certificate_text.specs.Books.{Tells, IsTextOfBook, IsLegalBook, IsIllegalBook, Certifies}
use Rattle.certificate_text.proofs.Answers.{only_answer, first_answer}
use Rattle.certificate_text.proofs.BookLemmas.{IsTextOfBook-from_legal, IsTextOfBook-from_illegal, IsLegalBook-from_certified, legal_or_illegal, book_or_fault}
use Rattle.refutations.specs.Impossible.{IsImpossible}
use Rattle.refutations.proofs.Refuting.{impossible_replies_have_no_order}
use Rattle.refutation_text.proofs.OneVerdict.{refuted}
use Rattle.evidence_text.specs.declared.evidence.Evidence.{Evidence}
use Rattle.evidence_text.specs.declared.evidence.Evidence.TheVariants.{Certificate, Refutation, NotFound}
use Rattle.evidence_text.specs.declared.evidence.Limit.{Limit}
use Rattle.evidence_text.specs.declared.evidence.Limit.TheVariants.{Items, Bytes}
use Rattle.evidence_text.specs.declared.evidence.Limits.{Limits}
use Rattle.evidence_text.specs.Found.{IsRefutationOf, IsFinding, NamesFirst, IsFirstNamed}
use Rattle.evidence_text.specs.Evidence.{evidence_of, Refutes, IsEvidenceFor, IsCertificate, IsNoCertificate, HasImpossibleReply, NamesReply, IsNamedBy}

module _ (bytes : List ℕ) where
  -- a book that is illegal by its text has no legal order
  pub no_order : (kind : Kind) (book : List Page) → IsIllegalBook bytes → Tells bytes kind book
      → ¬ (HasLegalOrder (kind_spec kind) book)
  unfolding IsLegalBook
  no_order kind book illegal told legal =
      legal_or_illegal bytes (kind, book, told, legal) illegal

  -- a book that is refuted is illegal
  refuted_illegal : (text : List ℕ) → Refutes bytes text → IsIllegalBook bytes
  unfolding Refutes IsRefutationOf IsIllegalBook
  refuted_illegal text h =
      (h.0, h.1, h.2, λ legal. refuted h.0 h.1 h.3.0 h.3.1 h.3.3 legal)

  -- a book with an impossible reply is illegal
  reply_illegal : HasImpossibleReply bytes → IsIllegalBook bytes
  unfolding HasImpossibleReply IsIllegalBook
  reply_illegal h = (
    h.0,
    h.1,
    h.3,
    λ legal. impossible_replies_have_no_order (kind_spec h.0) h.1 h.2 h.4 legal,
  )

  -- a book with a certificate has no impossible reply
  pub certified_possible : (text : List ℕ) → Certifies bytes text → HasImpossibleReply bytes → ⊥
  certified_possible text certified reply = legal_or_illegal bytes
      (IsLegalBook-from_certified bytes text certified) (reply_illegal reply)

  module _ (kind : Kind) (book : List Page) (told : Tells bytes kind book) where
    refutes : (text : List ℕ) → IsRefutationOf kind book text → Refutes bytes text
    unfolding Refutes
    refutes text h = (kind, book, told, h)

    names : (text : List ℕ) → NamesFirst kind book text → NamesReply bytes text
    unfolding NamesReply
    names text h = (kind, book, told, h)

    -- what a search finds is evidence
    pub evidence_from : (limits : Limits) (found : Result (Vec ℕ Global) Limit)
        → IsIllegalBook bytes → IsFinding kind book limits found
        → IsEvidenceFor bytes limits (evidence_of found)
    evidence_from limits (Ok text) illegal h = (refutes text.items h.0, h.1)
    evidence_from limits (Err Items) illegal h = illegal
    evidence_from limits (Err Bytes) illegal h = (h.0, refutes h.0 h.1, h.2)

    named_if : (limits : Limits) (found : Result (Vec ℕ Global) Limit)
        → IsFirstNamed kind book limits found → IsNamedBy bytes limits (evidence_of found)
    named_if limits (Ok text) h = (names text.items h.0, h.1)
    named_if limits (Err Items) h = h
    named_if limits (Err Bytes) h = (h.0, names h.0 h.1, h.2)

    -- the first impossible reply is named
    pub named_from : (limits : Limits) (found : Result (Vec ℕ Global) Limit)
        → ((call : Call) → IsImpossible (kind_spec kind) book call
        → IsFirstNamed kind book limits found)
        → HasImpossibleReply bytes → IsNamedBy bytes limits (evidence_of found)
    unfolding HasImpossibleReply
    named_from limits found each h =
        let one = one_book Second bytes h.0 kind h.1 book h.3 told in
        let by_kind : IsImpossible (kind_spec kind) h.1 h.2 =
        subst (λ (k : Kind). IsImpossible (kind_spec k) h.1 h.2) one.0 h.4 in
        named_if limits found (each h.2
        (subst (λ (b : List Page). IsImpossible (kind_spec kind) b h.2) one.1 by_kind))

  module _ (limits : Limits) where
    of_legal : (e : Evidence) → IsLegalBook bytes → IsEvidenceFor bytes limits e → IsCertificate e
    of_legal (Certificate text) legal h = tt
    of_legal (Refutation text) legal h =
        absurd (legal_or_illegal bytes legal (refuted_illegal text.items h.0))
    of_legal (NotFound Items) legal h = absurd (legal_or_illegal bytes legal h)
    of_legal (NotFound Bytes) legal h =
        absurd (legal_or_illegal bytes legal (refuted_illegal h.0 h.1))

    of_illegal : (e : Evidence) → IsIllegalBook bytes → IsEvidenceFor bytes limits e
        → IsNoCertificate e
    of_illegal (Certificate text) illegal h = absurd (legal_or_illegal bytes
        (IsLegalBook-from_certified bytes text.items h) illegal)
    of_illegal (Refutation text) illegal h = tt
    of_illegal (NotFound limit) illegal h = tt

    of_book : (e : Evidence) → IsEvidenceFor bytes limits e → IsTextOfBook bytes
    of_book (Certificate text) h =
        IsTextOfBook-from_legal bytes (IsLegalBook-from_certified bytes text.items h)
    of_book (Refutation text) h =
        IsTextOfBook-from_illegal bytes (refuted_illegal text.items h.0)
    of_book (NotFound Items) h = IsTextOfBook-from_illegal bytes h
    of_book (NotFound Bytes) h = IsTextOfBook-from_illegal bytes (refuted_illegal h.0 h.1)

    module _ (result : Result Evidence ReadFault) (found : IfOk result (IsEvidenceFor bytes limits))
        (refused : IfErr result (IsFaultOf (IsFirstBookFault Second bytes))) where
      pub only_certificate : IsLegalBook bytes
          → MatchResult result IsCertificate (λ e. e ≡ NoMemory)
      only_certificate legal = only_answer (IsEvidenceFor bytes limits) IsCertificate
          (IsFirstBookFault Second bytes) result found refused (λ e h. of_legal e legal h)
          (λ fault first. book_or_fault bytes fault (IsTextOfBook-from_legal bytes legal) first)

      pub no_certificate : IsIllegalBook bytes
          → MatchResult result IsNoCertificate (λ e. e ≡ NoMemory)
      no_certificate illegal = only_answer (IsEvidenceFor bytes limits) IsNoCertificate
          (IsFirstBookFault Second bytes) result found refused (λ e h. of_illegal e illegal h)
          (λ fault first. book_or_fault bytes fault (IsTextOfBook-from_illegal bytes illegal) first)

      pub only_named : IfOk result (λ e. HasImpossibleReply bytes → IsNamedBy bytes limits e)
          → HasImpossibleReply bytes
          → MatchResult result (IsNamedBy bytes limits) (λ e. e ≡ NoMemory)
      only_named named reply =
          only_answer (λ e. HasImpossibleReply bytes → IsNamedBy bytes limits e)
          (IsNamedBy bytes limits) (IsFirstBookFault Second bytes) result named refused
          (λ e h. h reply) (λ fault first. book_or_fault bytes fault
          (IsTextOfBook-from_illegal bytes (reply_illegal reply)) first)

      pub first_of_evidence : (fault : TextFault) → IsFirstBookFault Second bytes fault
          → MatchResult result (λ _. ⊥) (λ e. (e ≡ Text fault) ⊎ (e ≡ NoMemory))
      first_of_evidence = first_answer (IsEvidenceFor bytes limits) (IsFirstBookFault Second bytes)
          result found refused (one_first_fault Second bytes)
          (λ e fault h first. book_or_fault bytes fault (of_book e h) first)
