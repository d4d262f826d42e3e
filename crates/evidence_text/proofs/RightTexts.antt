-- What is found is a right refutation.
use Rattle.std.proofs.Common.{◌≡◌, ℕ, ◌<◌, ◌≤◌, List, [], length, Result, Ok, Err, Vec, Global, refl, sym, subst}
use Rattle.std.specs.Prelude.{IfOk, IfErr}
use Rattle.std.proofs.lemmas.Option.{slice_get_within}
use Rattle.book_base.specs.declared.call.Call.{Call}
use Rattle.book_base.specs.Book.{Page, page_of, IsCall, IsValid}
use Rattle.seq_objects.specs.declared.kind.Kind.{Kind}
use Rattle.seq_objects.specs.Objects.{kind_spec}
use Rattle.text_fields.proofs.Sharp as sharp
use Rattle.book_text.specs.BookRules.{whole_text}
use Rattle.smaller_book.specs.Earliest.{all_numbers}
use Rattle.smaller_book.proofs.LeastCuts.{original-all}
use Rattle.refutations.specs.Impossible.{IsImpossible}
use Rattle.refutation_text.specs.declared.verdict.RefutationVerdict.TheVariants.{Illegal}
use Rattle.refutation_text.specs.Said.{StepSaid, EndingSaid, Impossible}
use Rattle.refutation_text.specs.RefutationRules.{BodyRead, RefutationDue, InBody, refutation_rules, nothing_read, IsRefutationText}
use Rattle.refutation_text.specs.Verdicts.{IsRefutation, IsRefutationVerdict}
use Rattle.refutation_text.proofs.SharpRefutations.{refutation_sharp}
use Rattle.evidence_text.specs.declared.evidence.Limit.{Limit}
use Rattle.evidence_text.specs.declared.evidence.Limit.TheVariants.{Bytes}
use Rattle.evidence_text.specs.declared.evidence.Limits.{Limits}
use Rattle.evidence_text.specs.Found.{IsRefutationOf, IsWithin}

-- what has been read is a right refutation
abbrev IsRight : RefutationDue → Type 0
IsRight (InBody kind book (BodyRead steps ending)) = IsRefutation kind book steps ending
IsRight due = ⊥

-- a text that is judged to be right is one of a right refutation of the book that it is written of
pub right_from_verdict : (text : List ℕ) (kind : Kind) (book : List Page) (steps : List StepSaid)
    (ending : EndingSaid) → IsRefutationText text kind book steps ending
    → IsRefutationVerdict text Illegal → IsRefutationOf kind book text
unfolding IsRefutationVerdict IsRefutationOf
right_from_verdict text kind book steps ending told h =
    let due : RefutationDue = InBody kind book (BodyRead steps ending) in
    let other : RefutationDue = InBody h.0 h.1 (BodyRead h.2 h.3) in
    let same : other ≡ due = (sharp.one_reading refutation_rules refutation_sharp nothing_read
    other due (whole_text text) h.4.0 told.0 h.4.1 told.1).0 in
    (steps, ending, told, subst IsRight same h.5)

-- a refutation that names a call with an impossible reply, without a step, is right
pub reply_refutes : (kind : Kind) (book : List Page) (call : Call) (text : List ℕ) → IsValid book
    → IsImpossible (kind_spec kind) book call
    → IsRefutationText text kind book [] (Impossible call) → IsRefutationOf kind book text
unfolding IsRefutationOf
reply_refutes kind book call text valid h told =
    let inside : IsCall book call =
    slice_get_within (page_of book call.caller).operations call.number h.op h.asked in
    let right : IsRefutation kind book [] (Impossible call) = record {
      names = all_numbers book;
      part = book;
      left = (valid, refl, refl);
      shown = (call, record { inside = inside; is = original-all book call inside }, h);
    } in
    ([], Impossible call, told, right)

-- a text with a property is answered where it is within the limit of bytes, and else the limit
pub within : (HasIt : List ℕ → Type 0) (Unfound : Type 0) (limits : Limits) (text : Vec ℕ Global)
    (found : Result (Vec ℕ Global) Limit) → HasIt text.items
    → IfOk found (λ it. (it ≡ text) × (length text.items ≤ limits.bytes))
    → IfErr found (λ limit. (limit ≡ Bytes) × (limits.bytes < length text.items))
    → IsWithin HasIt Unfound limits found
within HasIt Unfound limits text (Ok it) has h k =
    subst (λ (t : Vec ℕ Global). HasIt t.items × (length t.items ≤ limits.bytes)) (sym h.0)
    (has, h.1)
within HasIt Unfound limits text (Err limit) has h k =
    subst (λ (l : Limit). IsWithin HasIt Unfound limits (Err l)) (sym k.0) (text.items, has, k.1)

-- where something holds of all values, it holds of an answer
pub of_answer : {T E : Type 0} (Holds : T → Type 0) (r : Result T E) → ((x : T) → Holds x)
    → IfOk r Holds
of_answer Holds (Ok x) all = all x
of_answer Holds (Err e) all = tt
