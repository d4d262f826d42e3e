-- The head and the calls of a book within its lines, and these within the text of a certificate.
use Rattle.std.proofs.Common.{ℕ, List, [], ◌∷◌, refl}
use Rattle.std.specs.Prelude.{codes}
use Rattle.book_base.specs.declared.call.Call.{Call}
use Rattle.book_base.specs.declared.fault.What.{What}
use Rattle.book_base.specs.Book.{Page}
use Rattle.seq_objects.specs.declared.kind.Kind.{Kind}
use Rattle.text_fields.specs.declared.version.Version.TheVariants.{Second}
use Rattle.text_fields.specs.Faults.{ALine, IsWrong}
use Rattle.text_fields.specs.Head.{head_rules}
use Rattle.text_fields.specs.Operations.{kind_operations}
use Rattle.text_fields.proofs.Within.{AreWithin, wrong_alike, head_is_within}
use Rattle.book_text.specs.CallLines.{BookSoFar, CallPasses, call_wanted, call_rules}
use Rattle.book_text.specs.BookRules.{BookDue, InHead, InCalls, AtEnd, after_head, in_calls, BookPasses}
use Rattle.certificate_text.specs.CertificateRules.{after_book, CertificatePasses, certificate_wanted, certificate_rules}
use Rattle.certificate_text.specs.Reading.{part_wanted, book_part}

pub head_within : AreWithin (head_rules Second (codes "book")) book_part after_head
head_within = head_is_within Second (codes "book") book_part InHead after_head
    refl refl (λ kind. refl) (λ kind n. refl) (λ due. refl)
    (λ due after words h. (after, h, refl)) (λ due words what. (λ h. h, λ h. h))

module _ (kind : Kind) where
  calls_right : (due after : BookSoFar) (words : List (List ℕ))
      → (call_rules Second (kind_operations Second kind)).Passes due words after
      → BookPasses Second (in_calls kind due) words (in_calls kind after)
  calls_right due after words h = right_here due.book due.due h where
    right_here : (book : List Page) (calls : List Call)
        → CallPasses Second (kind_operations Second kind) book calls words after
        → BookPasses Second (InCalls kind book calls) words (in_calls kind after)
    right_here book [] h = absurd h
    right_here book (call ∷ calls) h = (after, h, refl)

  calls_wrong : (due : BookSoFar) (bytes : List ℕ) (what : What) → IsWrong
      (call_rules Second (kind_operations Second kind)) due (call_wanted due.due) bytes what
      → IsWrong book_part (in_calls kind due) (part_wanted (in_calls kind due)) bytes what
  calls_wrong due bytes what h = wrong_here due.book due.due h where
    wrong_here : (book : List Page) (calls : List Call)
        → IsWrong (call_rules Second (kind_operations Second kind))
        (record { book = book; due = calls }) (call_wanted calls) bytes what
        → IsWrong book_part (InCalls kind book calls) ALine bytes what
    wrong_here book [] = λ h. absurd h
    wrong_here book (call ∷ calls) =
        wrong_alike (call_rules Second (kind_operations Second kind)) book_part
        (record { book = book; due = call ∷ calls }) (InCalls kind book (call ∷ calls))
        (λ words what. (λ h. h, λ h. h)) bytes what

  pub calls_within :
      AreWithin (call_rules Second (kind_operations Second kind)) book_part (in_calls kind)
  calls_within = record { right = calls_right; wrong = calls_wrong }

-- ---- the lines of a book within the text of a certificate

book_right : (due after : BookDue) (words : List (List ℕ)) → BookPasses Second due words after
    → CertificatePasses (after_book due) words (after_book after)
book_right (InHead due) after words h = (after, h, refl)
book_right (InCalls kind book calls) after words h = (after, h, refl)
book_right (AtEnd kind book) after words h = absurd h

book_wrong : (due : BookDue) (bytes : List ℕ) (what : What)
    → IsWrong book_part due (part_wanted due) bytes what → IsWrong certificate_rules
    (after_book due) (certificate_wanted (after_book due)) bytes what
book_wrong (InHead due) bytes what h = wrong_alike book_part certificate_rules (InHead due)
    (after_book (InHead due)) (λ words what. (λ h. h, λ h. h)) bytes what h
book_wrong (InCalls kind book calls) bytes what h =
    wrong_alike book_part certificate_rules (InCalls kind book calls)
    (after_book (InCalls kind book calls)) (λ words what. (λ h. h, λ h. h)) bytes what h
book_wrong (AtEnd kind book) bytes what h = absurd h

pub book_within : AreWithin book_part certificate_rules after_book
book_within = record { right = book_right; wrong = book_wrong }
