-- A queue gives its values in their order.
use Rattle.std.proofs.Common.{◌≡◌, ℕ, true, List, [], ◌∷◌, ◌++◌, length, map, slice_get, Some, refl, sym, ap, ◌∙◌, append-nil, arith}
use Rattle.std.proofs.lemmas.Bool.{cond-true, cond-false}
use Rattle.std.proofs.lemmas.Option.{slice_get_past}
use Rattle.book_base.specs.Reaching.{list_after_run}
use Rattle.legal_orders.proofs.QueueRuns.{queue_gives_in_order}
use Rattle.seq_objects.specs.declared.kind.Kind.TheVariants.{Queue}
use Rattle.seq_objects.specs.Words as words
use Rattle.seq_objects.specs.Words.{is_operation_of, argument_of}
use Rattle.seq_objects.specs.Replies.{reply_done, reply_value, value_of}
use Rattle.seq_objects.specs.Items.{first_taken}
use Rattle.seq_objects.specs.QueueSteps.{queue_operation, queue_after}
use Rattle.kind_search.specs.Readings.{queue_reading}
use Rattle.seq_objects.specs.Objects.{kind_next}
use Rattle.kind_search.proofs.Reading.{queue_is_read}
use Rattle.broken_rules.specs.Runs.{AreDone}
use Rattle.broken_rules.specs.Removals.{put_in, given_out, reply_with, DequeuesGiveTheOldest}
use Rattle.broken_rules.proofs.Stepping.{replied, runs_before, apart}

abbrev next : List ℕ → ℕ → List ℕ × ℕ
next list word = queue_after list (queue_operation word)

pub after_enq : (list : List ℕ) (word : ℕ) → is_operation_of word words.enq ≡ true
    → next list word ≡ (list ++ argument_of word ∷ [], reply_done)
after_enq list word is = ap (queue_after list) (cond-true (is_operation_of word words.enq) _ _ is)

pub after_deq : (list : List ℕ) (word : ℕ) → is_operation_of word words.deq ≡ true
    → next list word ≡ first_taken list
after_deq list word is =
    ap (queue_after list)
    (cond-false (is_operation_of word words.enq) _ _
    (apart word words.deq words.enq (omega arith) is)
    ∙ cond-true (is_operation_of word words.deq) _ _ is)

slice_get-seam : (xs : List ℕ) (y : ℕ) (ys : List ℕ) → slice_get (xs ++ y ∷ ys) (length xs) ≡ Some y
slice_get-seam [] y ys = refl
slice_get-seam (x ∷ xs) y ys = slice_get-seam xs y ys

-- the first item of a list is the first of the values put in that wasn't given out yet
first_of : (list puts taken : List ℕ) → puts ≡ taken ++ map value_of list
    → (first_taken list).1 ≡ reply_with (slice_get puts (length taken))
first_of [] puts taken e =
    sym (ap (λ (xs : List ℕ). reply_with (slice_get xs (length taken))) (e ∙ append-nil taken)
    ∙ ap reply_with (slice_get_past taken (length taken) (omega arith)))
first_of (x ∷ rest) puts taken e =
    let there : slice_get puts (length taken) ≡ Some (value_of x) =
    ap (λ (xs : List ℕ). slice_get xs (length taken)) e
    ∙ slice_get-seam taken (value_of x) (map value_of rest) in
    let same : reply_value x ≡ reply_value (value_of x) = omega arith in
    same ∙ sym (ap reply_with there)

pub dequeues_give_the_oldest : DequeuesGiveTheOldest
unfolding kind_next
dequeues_give_the_oldest before rest step run is =
    let list : List ℕ = list_after_run next [] before in
    let order = queue_gives_in_order queue_reading next queue_is_read [] before
    (runs_before next [] before (step ∷ rest) run) in
    sym (replied next [] before rest step run)
    ∙ ap (λ (r : List ℕ × ℕ). r.1) (after_deq list step.0 is)
    ∙ first_of list (put_in queue_reading before) (given_out queue_reading before) order

pub enqueues_are_done : AreDone Queue words.enq
unfolding kind_next
enqueues_are_done before rest step run is =
    let list : List ℕ = list_after_run next [] before in
    sym (replied next [] before rest step run)
    ∙ ap (λ (r : List ℕ × ℕ). r.1) (after_enq list step.0 is)
