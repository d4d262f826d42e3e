use Rattle.std.proofs.Common.{◌≡◌, ℕ, zero, suc, ◌+◌, ◌≤◌, [], ◌∷◌, Some, slice_index, refl, arith}
use Rattle.book_base.specs.declared.call.Call.{Call}
use Rattle.book_base.specs.declared.call.Record.{Record}
use Rattle.book_base.specs.Cut.{IsWithin}
use Rattle.book_base.specs.Book.{record_of}
use Rattle.seq_objects.specs.Replies.{reply_done, reply_value}
use Rattle.judging_examples.specs.Books.{answer}
use Rattle.judging_examples.specs.EvidenceBooks.{three_increments}
use Rattle.judging_examples.proofs.EvidenceBooks.{increments_views, within_itself}
use Rattle.judging_examples.proofs.evidence.closed_cuts_and_moments.Goals as goal

-- The view of all three calls is within the view of each record of `three_increments`.
all_within : (i k : ℕ) (r : Record)
    → record_of three_increments (record { caller = i; number = k }) ≡ Some r
    → IsWithin (1 ∷ 1 ∷ 1 ∷ []) r.view
all_within = increments_views (λ i k v. IsWithin (1 ∷ 1 ∷ 1 ∷ []) v)
    (within_itself (1 ∷ 1 ∷ 1 ∷ [])) (within_itself (1 ∷ 1 ∷ 1 ∷ []))
    (within_itself (1 ∷ 1 ∷ 1 ∷ []))

pub returns-clause-equal_views : goal.returns-clause-equal_views
returns-clause-equal_views c later earlier r s held x y within apart =
    absurd (apart (increments_views (λ i k v. (j m : ℕ) (t : Record)
    → record_of three_increments (record { caller = j; number = m }) ≡ Some t
    → IsWithin v t.view) all_within all_within all_within
    later.caller later.number r x earlier.caller earlier.number s y))

write_within : IsWithin (1 ∷ 0 ∷ []) (1 ∷ 1 ∷ [])
write_within zero = omega arith
write_within (suc zero) = omega arith
write_within (suc (suc i)) = omega arith

pub returns-clause-smaller_view : goal.returns-clause-smaller_view
returns-clause-smaller_view c closed =
    let read : Call = record { caller = 1; number = 0 } in
    let write : Call = record { caller = 0; number = 0 } in
    let held = closed read write (answer (reply_value 6) (1 ∷ 1 ∷ []))
    (answer reply_done (1 ∷ 0 ∷ [])) (omega arith) refl refl write_within
    (λ back. omega (arith, back 1)) in
    omega (arith, held)

one_call_more : (i : ℕ) → slice_index (1 ∷ 1 ∷ 1 ∷ []) i ≤ slice_index (1 ∷ 1 ∷ 0 ∷ []) i + 1
one_call_more zero = omega arith
one_call_more (suc zero) = omega arith
one_call_more (suc (suc zero)) = omega arith
one_call_more (suc (suc (suc i))) = omega arith

pub returns-clause-one_more : goal.returns-clause-one_more
returns-clause-one_more c call r i held is =
    increments_views (λ j k v. slice_index v i ≤ slice_index (1 ∷ 1 ∷ 0 ∷ []) i + 1)
    (one_call_more i) (one_call_more i) (one_call_more i) call.caller call.number r is

pub returns-clause-two_more : goal.returns-clause-two_more
returns-clause-two_more c moment =
    let take : Call = record { caller = 1; number = 0 } in
    let few = moment take (answer (reply_value 5) (2 ∷ 1 ∷ [])) 0 (omega arith) refl in
    omega (arith, few)
