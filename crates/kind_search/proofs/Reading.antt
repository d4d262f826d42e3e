-- Queues and stacks meet the definitions that the rules of histories use.
use Rattle.std.proofs.Common.{◌≡◌, ℕ, ◌+◌, ◌/◌, ◌^◌, ◌<◌, ◌∙◌, List, [], ◌∷◌, ◌++◌, length, map, reverse, take, get_or, Option, Some, None, refl, sym, ap, subst, arith}
use Rattle.std.specs.List.{Contains}
use Rattle.std.proofs.lemmas.Bool.{cond_both, cond-true, eq-eqb}
use Rattle.std.proofs.lemmas.Option.{same_Some}
use Rattle.std.proofs.lemmas.List.{map-append, reverse-append, take_more, take_all, get_or-map, length-map}
use Rattle.std.proofs.lemmas.List.Elements.{Contains-get_or}
use Rattle.std.proofs.lemmas.List.Sorted.{Contains-permutation, IsPermutation-reverse}
use Rattle.list_laws.proofs.Options.{if_some}
use Rattle.legal_orders.specs.Container.{Puts, Takes, Neither, GivesFirst, IsQueue, IsStack}
use Rattle.seq_objects.specs.declared.queue.QueueOperation.{QueueOperation}
use Rattle.seq_objects.specs.declared.queue.QueueOperation.TheVariants.{Enqueue, Dequeue}
use Rattle.seq_objects.specs.declared.stack.StackOperation.{StackOperation}
use Rattle.seq_objects.specs.declared.stack.StackOperation.TheVariants.{Push, Pop}
use Rattle.seq_objects.specs.Replies.{reply_value, is_value, value_of, shown_value}
use Rattle.seq_objects.specs.Words as words
use Rattle.seq_objects.specs.Words.{is_operation_of, argument_of}
use Rattle.seq_objects.specs.Items.{first_taken, last_taken}
use Rattle.seq_objects.specs.QueueSteps.{queue_operation, queue_after}
use Rattle.seq_objects.specs.StackSteps.{stack_operation, stack_after}
use Rattle.kind_search.specs.Readings.{queue_deed, queue_reading, stack_deed, stack_reading}

-- a reply that gives an item shows its value
pub shown_item : (item : ℕ) → shown_value (reply_value item) ≡ Some (value_of item)
shown_item item =
    cond-true (is_value (reply_value item)) (Some (value_of (reply_value item))) None
    (eq-eqb (reply_value item / 2 ^ 32) 2 (omega arith))
    ∙ ap Some (omega arith)

-- ---- queues

abbrev queue_puts_small : Option QueueOperation → Type 0
queue_puts_small (Some (Enqueue value)) = value < 2 ^ 32
queue_puts_small (Some Dequeue) = Unit {0}
queue_puts_small None = Unit {0}

enqueued_is_small : (word : ℕ) → queue_puts_small (queue_operation word)
enqueued_is_small word =
    cond_both {A = Option QueueOperation} (is_operation_of word words.enq) _ _ queue_puts_small
    (λ enq. omega arith)
    (λ _. cond_both {A = Option QueueOperation}
    (is_operation_of word words.deq) _ _ queue_puts_small (λ deq. tt) (λ other. tt))

queue_put : (list : List ℕ) (o : Option QueueOperation) (v : ℕ) → queue_puts_small o
    → queue_deed o ≡ Puts v → map value_of (queue_after list o).0 ≡ map value_of list ++ v ∷ []
queue_put list (Some (Enqueue value)) v small e =
    let same : value ≡ v = cc in
    map-append value_of list (value ∷ []) ∙ ap (λ (x : ℕ). map value_of list ++ x ∷ [])
    {x = value_of value} {y = v} (omega (arith, small, same))
queue_put list (Some Dequeue) v small e = absurd cc
queue_put list None v small e = absurd cc

first_gives : (list : List ℕ) → GivesFirst (map value_of list) (shown_value (first_taken list).1)
    (map value_of (first_taken list).0)
first_gives [] = (refl, refl)
first_gives (x ∷ rest) =
    subst (λ (o : Option ℕ). GivesFirst (map value_of (x ∷ rest)) o (map value_of rest))
    (sym (shown_item x)) refl

queue_take : (list : List ℕ) (o : Option QueueOperation) → queue_deed o ≡ Takes → GivesFirst
    (map value_of list) (shown_value (queue_after list o).1) (map value_of (queue_after list o).0)
queue_take list (Some (Enqueue value)) e = absurd cc
queue_take list (Some Dequeue) e = first_gives list
queue_take list None e = absurd cc

queue_neither : (list : List ℕ) (o : Option QueueOperation) → queue_deed o ≡ Neither
    → map value_of (queue_after list o).0 ≡ map value_of list
queue_neither list (Some (Enqueue value)) e = absurd cc
queue_neither list (Some Dequeue) e = absurd cc
queue_neither list None e = refl

pub queue_is_read : IsQueue queue_reading (λ list op. queue_after list (queue_operation op))
queue_is_read = record {
  put = λ list op v e. queue_put list (queue_operation op) v (enqueued_is_small op) e;
  take = λ list op e. queue_take list (queue_operation op) e;
  neither = λ list op e. queue_neither list (queue_operation op) e;
}

-- ---- stacks

abbrev shown_first : List ℕ → List ℕ
shown_first list = reverse (map value_of list)

abbrev pub stack_puts_small : Option StackOperation → Type 0
stack_puts_small (Some (Push value)) = value < 2 ^ 32
stack_puts_small (Some Pop) = Unit {0}
stack_puts_small None = Unit {0}

pub pushed_is_small : (word : ℕ) → stack_puts_small (stack_operation word)
pushed_is_small word =
    cond_both {A = Option StackOperation} (is_operation_of word words.push) _ _ stack_puts_small
    (λ push. omega arith)
    (λ _. cond_both {A = Option StackOperation}
    (is_operation_of word words.pop) _ _ stack_puts_small (λ pop. tt) (λ other. tt))

-- the values of a stack's list with one more word, newest first, begin with that word's value
shown_pushed : (list : List ℕ) (word : ℕ)
    → shown_first (list ++ word ∷ []) ≡ value_of word ∷ shown_first list
shown_pushed list word = ap reverse (map-append value_of list (word ∷ []))
    ∙ reverse-append (map value_of list) (value_of word ∷ [])

stack_put : (list : List ℕ) (o : Option StackOperation) (v : ℕ) → stack_puts_small o
    → stack_deed o ≡ Puts v → shown_first (stack_after list o).0 ≡ v ∷ shown_first list
stack_put list (Some (Push value)) v small e =
    let same : value ≡ v = cc in
    shown_pushed list value
    ∙ ap (λ (x : ℕ). x ∷ shown_first list) {x = value_of value} {y = v} (omega (arith, small, same))
stack_put list (Some Pop) v small e = absurd cc
stack_put list None v small e = absurd cc

last_gives : (list : List ℕ) → GivesFirst (shown_first list) (shown_value (last_taken list).1)
    (shown_first (last_taken list).0)
last_gives [] = (refl, refl)
last_gives (x ∷ rest) =
    let list : List ℕ = x ∷ rest in
    let n : ℕ = length rest in
    let last : ℕ = get_or list n 0 in
    let whole : list ≡ take n list ++ last ∷ [] =
    sym (take_all (n + 1) list (omega arith)) ∙ take_more list n 0 (omega arith) in
    let first : shown_first list ≡ value_of last ∷ shown_first (take n list) =
    ap shown_first whole ∙ shown_pushed (take n list) last in
    subst (λ (o : Option ℕ). GivesFirst (shown_first list) o (shown_first (take n list)))
    (sym (shown_item last)) first

stack_take : (list : List ℕ) (o : Option StackOperation) → stack_deed o ≡ Takes → GivesFirst
    (shown_first list) (shown_value (stack_after list o).1) (shown_first (stack_after list o).0)
stack_take list (Some (Push value)) e = absurd cc
stack_take list (Some Pop) e = last_gives list
stack_take list None e = absurd cc

stack_neither : (list : List ℕ) (o : Option StackOperation) → stack_deed o ≡ Neither
    → shown_first (stack_after list o).0 ≡ shown_first list
stack_neither list (Some (Push value)) e = absurd cc
stack_neither list (Some Pop) e = absurd cc
stack_neither list None e = refl

pub stack_is_read : IsStack stack_reading (λ list op. stack_after list (stack_operation op))
stack_is_read = record {
  put = λ list op v e. stack_put list (stack_operation op) v (pushed_is_small op) e;
  take = λ list op e. stack_take list (stack_operation op) e;
  neither = λ list op e. stack_neither list (stack_operation op) e;
}
