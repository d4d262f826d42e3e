-- A priority queue gives its least value first.
use Rattle.std.proofs.Common.{◌≡◌, ◌≢◌, ℕ, suc, ◌+◌, ◌*◌, ◌/◌, ◌^◌, ◌<◌, ◌≤◌, ◌∙◌, ◌==◌, ◌&&◌, Bool, true, false, not, ltb, List, [], ◌∷◌, length, insert, Option, None, Some, unwrap_or, if◌then◌else◌, refl, sym, ap, subst, inl, inr, arith}
use Rattle.std.specs.List.{prefix_len}
use Rattle.std.proofs.lemmas.Bool.{cases_lt, cond_both, cond-true, cond-false, lt-ltb, le-ltb, eqb-true, and_parts}
use Rattle.std.proofs.lemmas.Option.{same_Some}
use Rattle.list_laws.proofs.Options.{if_some}
use Rattle.legal_orders.specs.Container.{Puts, Takes, Neither}
use Rattle.list_pruning.specs.LeastFirst.{placed, GivesLeastFirst}
use Rattle.seq_objects.specs.declared.pqueue.PqueueOperation.{PqueueOperation}
use Rattle.seq_objects.specs.declared.pqueue.PqueueOperation.TheVariants.{Insert, Min}
use Rattle.seq_objects.specs.Words as words
use Rattle.seq_objects.specs.Words.{is_operation_of, code_of, argument_of, extra_of, has_arguments}
use Rattle.seq_objects.specs.Replies.{is_value, value_of, shown_value}
use Rattle.seq_objects.specs.Items.{place_for, inserted}
use Rattle.seq_objects.specs.PqueueSteps.{pqueue_operation, pqueue_after}
use Rattle.kind_search.specs.PqueueReading.{pqueue_deed, pqueue_reading}
use Rattle.kind_search.proofs.Reading.{shown_item}

-- ---- where a value is inserted

abbrev no_greater : ℕ → ℕ → Bool
no_greater v x = not (ltb v x)

prefix_is_short : (v : ℕ) (list : List ℕ) → prefix_len (no_greater v) list ≤ length list
prefix_is_short v [] = omega arith
prefix_is_short v (x ∷ rest) = elim (ltb v x) as
    (λ (b : Bool). (if not b then 1 + prefix_len (no_greater v) rest else 0) ≤ suc (length rest)) [
      | true ↦ omega arith
      | false ↦ omega (arith, prefix_is_short v rest)
    ]

place_for-prefix : (v : ℕ) (list : List ℕ) → place_for list v ≡ prefix_len (no_greater v) list
place_for-prefix v list =
    let n : ℕ = prefix_len (no_greater v) list in
    elim (cases_lt n (length list)) [
      | inl inside ↦ ap (λ (o : Option ℕ). unwrap_or o (length list))
          (cond-true (ltb n (length list)) (Some n) None (lt-ltb n (length list) inside))
      | inr past ↦
          ap (λ (o : Option ℕ). unwrap_or o (length list))
          (cond-false (ltb n (length list)) (Some n) None (le-ltb n (length list) past))
          ∙ omega (arith, past, prefix_is_short v list)
    ]

insert-prefix : (v : ℕ) (list : List ℕ)
    → insert list (prefix_len (no_greater v) list) v ≡ placed v list
insert-prefix v [] = refl
insert-prefix v (x ∷ rest) =
    let n : ℕ = prefix_len (no_greater v) rest in
    let next : suc n ≡ 1 + n = omega arith in
    elim (ltb v x) as (λ (b : Bool). insert (x ∷ rest) (if not b then 1 + n else 0) v
    ≡ (if b then v ∷ x ∷ rest else x ∷ placed v rest)) [
      | true ↦ refl
      | false ↦ subst (λ (m : ℕ). insert (x ∷ rest) m v ≡ x ∷ placed v rest) next
          (ap (λ (xs : List ℕ). x ∷ xs) (insert-prefix v rest))
    ]

inserted_is_placed : (list : List ℕ) (v : ℕ) → inserted list v ≡ placed v list
inserted_is_placed list v =
    ap (λ (n : ℕ). insert list n v) (place_for-prefix v list) ∙ insert-prefix v list

-- ---- what the operations are

abbrev puts_small : Option PqueueOperation → Type 0
puts_small (Some (Insert value)) = value < 2 ^ 32
puts_small (Some Min) = Unit {0}
puts_small None = Unit {0}

inserted_is_small : (word : ℕ) → puts_small (pqueue_operation word)
inserted_is_small word =
    cond_both {A = Option PqueueOperation} (is_operation_of word words.insert) _ _ puts_small
    (λ insert. omega arith)
    (λ _. cond_both {A = Option PqueueOperation} (is_operation_of word words.min) _ _ puts_small
    (λ min. tt) (λ other. tt))

deed_small : (o : Option PqueueOperation) (v : ℕ) → puts_small o → pqueue_deed o ≡ Puts v
    → v < 2 ^ 32
deed_small (Some (Insert value)) v small e = let same : value ≡ v = cc in omega (arith, small, same)
deed_small (Some Min) v small e = absurd cc
deed_small None v small e = absurd cc

-- the word of a min is always the same
abbrev takes_by_one : ℕ → Option PqueueOperation → Type 0
takes_by_one word (Some (Insert value)) = Unit {0}
takes_by_one word (Some Min) = word ≡ 2 * 2 ^ 32
takes_by_one word None = Unit {0}

min_is_one : (word : ℕ) → takes_by_one word (pqueue_operation word)
min_is_one word =
    cond_both {A = Option PqueueOperation} (is_operation_of word words.insert) _ _
    (takes_by_one word) (λ insert. tt)
    (λ _. cond_both {A = Option PqueueOperation} (is_operation_of word words.min) _ _
    (takes_by_one word) (λ (is : is_operation_of word words.min ≡ true).
    let parts =
    and_parts (code_of word == 2) ((argument_of word == 0) && (extra_of word == 0)) is in
    let none = and_parts (argument_of word == 0) (extra_of word == 0) parts.1 in
    omega (
      arith,
      eqb-true (code_of word) 2 parts.0,
      eqb-true (argument_of word) 0 none.0,
      eqb-true (extra_of word) 0 none.1,
    )) (λ other. tt))

takes_one : (word : ℕ) (o : Option PqueueOperation) → takes_by_one word o → pqueue_deed o ≡ Takes
    → word ≡ 2 * 2 ^ 32
takes_one word (Some (Insert value)) one e = absurd cc
takes_one word (Some Min) one e = one
takes_one word None one e = absurd cc

-- a value is shown by one reply
pub shown_word : (reply v : ℕ) → shown_value reply ≡ Some v → reply ≡ 2 * 2 ^ 32 + v
shown_word reply v shown =
    let parts = if_some (is_value reply) (Some (value_of reply)) v shown in
    let value : value_of reply ≡ v = same_Some (value_of reply) v parts.1 in
    omega (arith, eqb-true (reply / 2 ^ 32) 2 parts.0, value)

-- ---- the steps

step_put : (list : List ℕ) (o : Option PqueueOperation) (v : ℕ) → pqueue_deed o ≡ Puts v
    → (pqueue_after list o).0 ≡ placed v list
step_put list (Some (Insert value)) v e = let same : value ≡ v = cc in
    inserted_is_placed list value ∙ ap (λ (x : ℕ). placed x list) same
step_put list (Some Min) v e = absurd cc
step_put list None v e = absurd cc

step_take : (x : ℕ) (rest : List ℕ) (o : Option PqueueOperation) → pqueue_deed o ≡ Takes
    → (pqueue_after (x ∷ rest) o).0 ≡ rest
step_take x rest (Some (Insert value)) e = absurd cc
step_take x rest (Some Min) e = refl
step_take x rest None e = absurd cc

step_shows : (x : ℕ) (rest : List ℕ) (o : Option PqueueOperation) → x < 2 ^ 32
    → pqueue_deed o ≡ Takes → shown_value (pqueue_after (x ∷ rest) o).1 ≡ Some x
step_shows x rest (Some (Insert value)) small e = absurd cc
step_shows x rest (Some Min) small e = shown_item x ∙ ap Some (omega (arith, small))
step_shows x rest None small e = absurd cc

step_empty : (o : Option PqueueOperation) → pqueue_deed o ≡ Takes → ((pqueue_after [] o).0 ≡ [])
    × (shown_value (pqueue_after [] o).1 ≡ None)
step_empty (Some (Insert value)) e = absurd cc
step_empty (Some Min) e = (refl, refl)
step_empty None e = absurd cc

step_neither : (list : List ℕ) (o : Option PqueueOperation) → pqueue_deed o ≡ Neither
    → (pqueue_after list o).0 ≡ list
step_neither list (Some (Insert value)) e = absurd cc
step_neither list (Some Min) e = absurd cc
step_neither list None e = refl

step_blind : (one other : List ℕ) (o : Option PqueueOperation) → pqueue_deed o ≢ Takes
    → (pqueue_after one o).1 ≡ (pqueue_after other o).1
step_blind one other (Some (Insert value)) other_deed = refl
step_blind one other (Some Min) other_deed = absurd (other_deed refl)
step_blind one other None other_deed = refl

pub pqueue_gives_least_first : GivesLeastFirst pqueue_reading
    (λ list op. pqueue_after list (pqueue_operation op)) (2 ^ 32)
pqueue_gives_least_first = record {
  small = λ op v e. deed_small (pqueue_operation op) v (inserted_is_small op) e;
  put = λ list op v e. step_put list (pqueue_operation op) v e;
  take = λ x rest op e. step_take x rest (pqueue_operation op) e;
  shows = λ x rest op small e. step_shows x rest (pqueue_operation op) small e;
  empty = λ op e. step_empty (pqueue_operation op) e;
  neither = λ list op e. step_neither list (pqueue_operation op) e;
  blind = λ one other op apart. step_blind one other (pqueue_operation op) apart;
  one_take = λ a b ea eb. takes_one a (pqueue_operation a) (min_is_one a) ea
      ∙ sym (takes_one b (pqueue_operation b) (min_is_one b) eb);
  one_reply = λ a b v ea eb. shown_word a v ea ∙ sym (shown_word b v eb);
}
