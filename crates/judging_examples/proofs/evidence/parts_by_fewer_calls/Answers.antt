use Rattle.std.proofs.Common.{◌≡◌, ℕ, zero, suc, ◌<◌, [], ◌∷◌, refl, sym, inl, arith}
use Rattle.std.proofs.lemmas.Option.{same_Some}
use Rattle.book_base.specs.Book.{calls_of}
use Rattle.seq_objects.specs.declared.kind.Kind.TheVariants as kinds
use Rattle.seq_objects.specs.Words.{enq, deq, read}
use Rattle.seq_objects.specs.Replies.{reply_done, reply_value}
use Rattle.seq_objects.specs.Objects.{kind_next}
use Rattle.judging_examples.specs.Runs.{operation}
use Rattle.smaller_book.specs.Part.{IsNamed}
use Rattle.smaller_book.specs.ReadOnly.{IsReadOnly}
use Rattle.smaller_book.specs.Keys.{keys_from_to}
use Rattle.smaller_book.proofs.LoneCalls.{first_call}
use Rattle.smaller_book.proofs.Steps.{unseen_evidence, keys_evidence, evidence_part}
use Rattle.judging_examples.specs.EvidenceBooks.{needless_read, needless_put, later_read, later_take}
use Rattle.judging_examples.proofs.EvidenceBooks.{second_alone, two_are_valid, later_is_valid, later_is_part, later_keeps_answers, two_have_one_open, read_leaves, take_stays}
use Rattle.judging_examples.proofs.evidence.parts_by_fewer_calls.Goals as goal

lacks_first : (i k : ℕ) → k < calls_of needless_read i
    → ¬ IsNamed second_alone (record { caller = i; number = k })
    → IsReadOnly (kind_next kinds.Register) needless_read (record { caller = i; number = k })
lacks_first zero zero less unnamed = read_leaves
lacks_first zero (suc zero) less unnamed = absurd (unnamed (0, omega arith, refl))
lacks_first zero (suc (suc k)) less unnamed = absurd (omega (arith, less))
lacks_first (suc i) k less unnamed = absurd (omega (arith, less))

pub returns-clause-read : goal.returns-clause-read
returns-clause-read c =
    let asks : ℕ = operation read 0 in
    unseen_evidence kinds.Register needless_read second_alone later_read
    (two_are_valid asks asks (reply_value 0) (reply_value 6)) (later_is_valid asks (reply_value 6))
    (record {
      wide = refl;
      is_part = later_is_part asks asks (reply_value 0) (reply_value 6);
      answers = later_keeps_answers asks asks (reply_value 0) (reply_value 6);
      unseen = λ call inside unnamed.
          inl (lacks_first call.caller call.number inside unnamed);
    })

pub returns-clause-take : goal.returns-clause-take
returns-clause-take c =
    let puts : ℕ = operation enq 5 in
    let takes : ℕ = operation deq 0 in
    keys_evidence kinds.Queue needless_put second_alone later_take
    (two_are_valid puts takes reply_done (reply_value 6)) (later_is_valid takes (reply_value 6))
    (record {
      may_go = two_have_one_open puts takes reply_done (reply_value 6);
      keys = keys_from_to 5 5;
      named = sym take_stays;
      is_part = later_is_part puts takes reply_done (reply_value 6);
      answers = later_keeps_answers puts takes reply_done (reply_value 6);
    })

pub returns-clause-numbers : goal.returns-clause-numbers
returns-clause-numbers c evidence =
    let is = evidence_part kinds.Queue needless_put ((0 ∷ []) ∷ []) later_take evidence in
    let same : operation deq 0 ≡ operation enq 5 =
    same_Some (operation deq 0) (operation enq 5) (is.operations first_call (omega arith)) in
    omega (arith, same)
