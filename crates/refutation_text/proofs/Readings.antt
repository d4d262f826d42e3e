-- Bytes are read as at most one refutation, and have at most one first fault or one verdict.
use Rattle.std.proofs.Common.{◌≡◌, ◌⊎◌, ℕ, List, Result, Ok, Err, subst}
use Rattle.std.specs.Prelude.{IfOk, IfErr, MatchResult}
use Rattle.book_base.specs.declared.fault.TextFault.{TextFault}
use Rattle.book_base.specs.declared.fault.ReadFault.{ReadFault}
use Rattle.book_base.specs.declared.fault.ReadFault.TheVariants.{Text, NoMemory}
use Rattle.book_base.specs.Book.{Page}
use Rattle.seq_objects.specs.declared.kind.Kind.{Kind}
use Rattle.text_fields.specs.Faults.{IsFaultOf}
use Rattle.text_fields.proofs.Sharp as sharp
use Rattle.book_text.specs.BookRules.{whole_text}
use Rattle.certificate_text.proofs.Answers.{only_answer, first_answer}
use Rattle.refutation_text.specs.declared.verdict.RefutationVerdict.{RefutationVerdict}
use Rattle.refutation_text.specs.declared.verdict.RefutationVerdict.TheVariants.{Illegal}
use Rattle.refutation_text.specs.Said.{StepSaid, EndingSaid}
use Rattle.refutation_text.specs.RefutationRules.{BodyRead, InBody, nothing_read, refutation_rules, IsFirstRefutationFault, IsRefutationText}
use Rattle.refutation_text.specs.Verdicts.{IsVerdictOf, IsRefutationVerdict, IsOfIllegalBook}
use Rattle.refutation_text.specs.Laws.{OneFirstFault, NoFaultOfAText}
use Rattle.refutation_text.proofs.SharpRefutations.{refutation_sharp}
use Rattle.refutation_text.proofs.OneVerdict.{refuted, one_verdict}

-- two refutations are equal
record AreOne (k l : Kind) (a b : List Page) (s t : List StepSaid) (e f : EndingSaid) : Type 0 where
  kinds : k ≡ l
  books : a ≡ b
  steps : s ≡ t
  endings : e ≡ f

same_end : (k l : Kind) (a b : List Page) (s t : List StepSaid) (e f : EndingSaid)
    → InBody k a (BodyRead s e) ≡ InBody l b (BodyRead t f) → AreOne k l a b s t e f
same_end k l a b s t e f same = record { kinds = cc; books = cc; steps = cc; endings = cc }

one_refutation : (bytes : List ℕ) (k l : Kind) (a b : List Page) (s t : List StepSaid)
    (e f : EndingSaid) → IsRefutationText bytes k a s e → IsRefutationText bytes l b t f
    → AreOne k l a b s t e f
one_refutation bytes k l a b s t e f h j =
    same_end k l a b s t e f (sharp.one_reading refutation_rules refutation_sharp nothing_read
    (InBody k a (BodyRead s e)) (InBody l b (BodyRead t f)) (whole_text bytes) h.0 j.0 h.1 j.1).0

-- bytes have at most one first fault
pub one_fault : OneFirstFault
one_fault bytes a b h k =
    sharp.one_fault refutation_rules refutation_sharp nothing_read (whole_text bytes) a b h k

-- bytes that are read as a refutation have no fault
pub no_fault : NoFaultOfAText
no_fault bytes kind book steps ending fault h k = sharp.no_fault refutation_rules refutation_sharp
    nothing_read (InBody kind book (BodyRead steps ending)) (whole_text bytes) h.0 fault h.1 k

-- ---- verdicts

pub verdict_from_judged : (bytes : List ℕ) (kind : Kind) (book : List Page) (steps : List StepSaid)
    (ending : EndingSaid) (verdict : RefutationVerdict)
    → IsRefutationText bytes kind book steps ending → IsVerdictOf kind book steps ending verdict
    → IsRefutationVerdict bytes verdict
unfolding IsRefutationVerdict
verdict_from_judged bytes kind book steps ending verdict told is =
    (kind, book, steps, ending, told, is)

illegal_right : (bytes : List ℕ) → IsRefutationVerdict bytes Illegal → IsOfIllegalBook bytes
unfolding IsRefutationVerdict IsOfIllegalBook
illegal_right bytes h = (h.0, h.1, h.2, h.3, h.4, refuted h.0 h.1 h.2 h.3 h.5)

illegal_book : (bytes : List ℕ) (verdict : RefutationVerdict)
    → IsRefutationVerdict bytes verdict → verdict ≡ Illegal → IsOfIllegalBook bytes
illegal_book bytes verdict h is = illegal_right bytes (subst (IsRefutationVerdict bytes) is h)

pub illegal_answer : (bytes : List ℕ) (result : Result RefutationVerdict ReadFault)
    → IfOk result (IsRefutationVerdict bytes)
    → IfOk result (λ verdict. verdict ≡ Illegal → IsOfIllegalBook bytes)
illegal_answer bytes (Ok verdict) h = illegal_book bytes verdict h
illegal_answer bytes (Err e) h = tt

one_verdict_of : (bytes : List ℕ) (a b : RefutationVerdict) → IsRefutationVerdict bytes a
    → IsRefutationVerdict bytes b → a ≡ b
unfolding IsRefutationVerdict
one_verdict_of bytes a b h k =
    let one = one_refutation bytes h.0 k.0 h.1 k.1 h.2 k.2 h.3 k.3 h.4 k.4 in
    let by_kind = subst (λ (kind : Kind). IsVerdictOf kind h.1 h.2 h.3 a) one.kinds h.5 in
    let by_book = subst (λ (book : List Page). IsVerdictOf k.0 book h.2 h.3 a) one.books by_kind in
    let by_steps =
    subst (λ (steps : List StepSaid). IsVerdictOf k.0 k.1 steps h.3 a) one.steps by_book in
    one_verdict k.0 k.1 k.2 k.3 a b
    (subst (λ (ending : EndingSaid). IsVerdictOf k.0 k.1 k.2 ending a) one.endings by_steps) k.5

verdict_or_fault : (bytes : List ℕ) (verdict : RefutationVerdict) (fault : TextFault)
    → IsRefutationVerdict bytes verdict → IsFirstRefutationFault bytes fault → ⊥
unfolding IsRefutationVerdict
verdict_or_fault bytes verdict fault h first = no_fault bytes h.0 h.1 h.2 h.3 fault h.4 first

pub only_verdict : (bytes : List ℕ) (result : Result RefutationVerdict ReadFault)
    → IfOk result (IsRefutationVerdict bytes)
    → IfErr result (IsFaultOf (IsFirstRefutationFault bytes))
    → (verdict : RefutationVerdict) → IsRefutationVerdict bytes verdict
    → MatchResult result (λ v. v ≡ verdict) (λ e. e ≡ NoMemory)
only_verdict bytes result found refused verdict is =
    only_answer (IsRefutationVerdict bytes) (λ v. v ≡ verdict) (IsFirstRefutationFault bytes) result
    found refused (λ v h. one_verdict_of bytes v verdict h is)
    (λ fault first. verdict_or_fault bytes verdict fault is first)

pub first_of_verdict : (bytes : List ℕ) (result : Result RefutationVerdict ReadFault)
    → IfOk result (IsRefutationVerdict bytes)
    → IfErr result (IsFaultOf (IsFirstRefutationFault bytes))
    → (fault : TextFault) → IsFirstRefutationFault bytes fault
    → MatchResult result (λ _. ⊥) (λ e. (e ≡ Text fault) ⊎ (e ≡ NoMemory))
first_of_verdict bytes result found refused =
    first_answer (IsRefutationVerdict bytes) (IsFirstRefutationFault bytes) result found refused
    (one_fault bytes) (verdict_or_fault bytes)
