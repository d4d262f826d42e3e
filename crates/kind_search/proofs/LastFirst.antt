-- A stack gives its last value first.
use Rattle.std.proofs.Common.{◌≡◌, ◌≢◌, ℕ, ◌*◌, ◌^◌, ◌<◌, ◌∙◌, ◌==◌, ◌&&◌, true, List, [], ◌∷◌, ◌++◌, length, take, get_or, Option, None, Some, refl, sym, ap, arith, length-append}
use Rattle.std.proofs.lemmas.Bool.{cond_both, eqb-true, and_parts}
use Rattle.std.proofs.Math.Seq.{take-append_seam, get_or-append_seam}
use Rattle.legal_orders.specs.Container.{Puts, Takes, Neither}
use Rattle.list_pruning.specs.LastFirst.{GivesLastFirst}
use Rattle.seq_objects.specs.declared.stack.StackOperation.{StackOperation}
use Rattle.seq_objects.specs.declared.stack.StackOperation.TheVariants.{Push, Pop}
use Rattle.seq_objects.specs.Words as words
use Rattle.seq_objects.specs.Words.{is_operation_of, code_of, argument_of, extra_of, has_arguments}
use Rattle.seq_objects.specs.Replies.{reply_value, shown_value}
use Rattle.seq_objects.specs.Items.{last_taken}
use Rattle.seq_objects.specs.StackSteps.{stack_operation, stack_after}
use Rattle.kind_search.specs.Readings.{stack_deed, stack_reading}
use Rattle.kind_search.proofs.Reading.{shown_item, stack_puts_small, pushed_is_small}
use Rattle.kind_search.proofs.LeastFirst.{shown_word}

-- ---- what the operations are

deed_small : (o : Option StackOperation) (v : ℕ) → stack_puts_small o → stack_deed o ≡ Puts v
    → v < 2 ^ 32
deed_small (Some (Push value)) v small e = let same : value ≡ v = cc in omega (arith, small, same)
deed_small (Some Pop) v small e = absurd cc
deed_small None v small e = absurd cc

-- the word of a pop is always the same
abbrev takes_by_one : ℕ → Option StackOperation → Type 0
takes_by_one word (Some (Push value)) = Unit {0}
takes_by_one word (Some Pop) = word ≡ 2 * 2 ^ 32
takes_by_one word None = Unit {0}

pop_is_one : (word : ℕ) → takes_by_one word (stack_operation word)
pop_is_one word =
    cond_both {A = Option StackOperation} (is_operation_of word words.push) _ _ (takes_by_one word)
    (λ push. tt)
    (λ _. cond_both {A = Option StackOperation} (is_operation_of word words.pop) _ _
    (takes_by_one word) (λ (is : is_operation_of word words.pop ≡ true).
    let parts =
    and_parts (code_of word == 2) ((argument_of word == 0) && (extra_of word == 0)) is in
    let none = and_parts (argument_of word == 0) (extra_of word == 0) parts.1 in
    omega (
      arith,
      eqb-true (code_of word) 2 parts.0,
      eqb-true (argument_of word) 0 none.0,
      eqb-true (extra_of word) 0 none.1,
    )) (λ other. tt))

takes_one : (word : ℕ) (o : Option StackOperation) → takes_by_one word o → stack_deed o ≡ Takes
    → word ≡ 2 * 2 ^ 32
takes_one word (Some (Push value)) one e = absurd cc
takes_one word (Some Pop) one e = one
takes_one word None one e = absurd cc

-- ---- the steps

-- a list with an item at its end, without its last item, is the list before, and the reply gives
-- the item
last_taken-end : (list : List ℕ) (x : ℕ) → last_taken (list ++ x ∷ []) ≡ (list, reply_value x)
last_taken-end [] x = refl
last_taken-end (y ∷ ys) x =
    let whole : List ℕ = y ∷ (ys ++ x ∷ []) in
    let longer : length (ys ++ x ∷ []) ≡ length (y ∷ ys) =
    omega (arith, length-append ys (x ∷ [])) in
    ap (λ (n : ℕ). (take n whole, reply_value (get_or whole n 0))) longer
    ∙ (ap (λ (xs : List ℕ). (xs, reply_value (get_or whole (length (y ∷ ys)) 0)))
    (take-append_seam (y ∷ ys) (x ∷ []))
    ∙ ap (λ (item : ℕ). (y ∷ ys, reply_value item)) (get_or-append_seam (y ∷ ys) x [] 0))

step_put : (list : List ℕ) (o : Option StackOperation) (v : ℕ) → stack_deed o ≡ Puts v
    → (stack_after list o).0 ≡ list ++ v ∷ []
step_put list (Some (Push value)) v e = let same : value ≡ v = cc in
    ap (λ (x : ℕ). list ++ x ∷ []) same
step_put list (Some Pop) v e = absurd cc
step_put list None v e = absurd cc

step_take : (list : List ℕ) (x : ℕ) (o : Option StackOperation) → stack_deed o ≡ Takes
    → (stack_after (list ++ x ∷ []) o).0 ≡ list
step_take list x (Some (Push value)) e = absurd cc
step_take list x (Some Pop) e = ap (λ (taken : List ℕ × ℕ). taken.0) (last_taken-end list x)
step_take list x None e = absurd cc

step_shows : (list : List ℕ) (x : ℕ) (o : Option StackOperation) → x < 2 ^ 32 → stack_deed o ≡ Takes
    → shown_value (stack_after (list ++ x ∷ []) o).1 ≡ Some x
step_shows list x (Some (Push value)) small e = absurd cc
step_shows list x (Some Pop) small e =
    ap (λ (taken : List ℕ × ℕ). shown_value taken.1) (last_taken-end list x)
    ∙ (shown_item x ∙ ap Some (omega (arith, small)))
step_shows list x None small e = absurd cc

step_empty : (o : Option StackOperation) → stack_deed o ≡ Takes → ((stack_after [] o).0 ≡ [])
    × (shown_value (stack_after [] o).1 ≡ None)
step_empty (Some (Push value)) e = absurd cc
step_empty (Some Pop) e = (refl, refl)
step_empty None e = absurd cc

step_neither : (list : List ℕ) (o : Option StackOperation) → stack_deed o ≡ Neither
    → (stack_after list o).0 ≡ list
step_neither list (Some (Push value)) e = absurd cc
step_neither list (Some Pop) e = absurd cc
step_neither list None e = refl

step_blind : (one other : List ℕ) (o : Option StackOperation) → stack_deed o ≢ Takes
    → (stack_after one o).1 ≡ (stack_after other o).1
step_blind one other (Some (Push value)) other_deed = refl
step_blind one other (Some Pop) other_deed = absurd (other_deed refl)
step_blind one other None other_deed = refl

pub stack_gives_last_first : GivesLastFirst stack_reading
    (λ list op. stack_after list (stack_operation op)) (2 ^ 32)
stack_gives_last_first = record {
  small = λ op v e. deed_small (stack_operation op) v (pushed_is_small op) e;
  put = λ list op v e. step_put list (stack_operation op) v e;
  take = λ list x op e. step_take list x (stack_operation op) e;
  shows = λ list x op small e. step_shows list x (stack_operation op) small e;
  empty = λ op e. step_empty (stack_operation op) e;
  neither = λ list op e. step_neither list (stack_operation op) e;
  blind = λ one other op apart. step_blind one other (stack_operation op) apart;
  one_take = λ a b ea eb. takes_one a (stack_operation a) (pop_is_one a) ea
      ∙ sym (takes_one b (stack_operation b) (pop_is_one b) eb);
  one_reply = λ a b v ea eb. shown_word a v ea ∙ sym (shown_word b v eb);
}
