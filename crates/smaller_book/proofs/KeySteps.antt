-- What a step does to a list with all items and to one without the items of some keys, by the kind
-- of the object.
use Rattle.std.proofs.Common.{◌≡◌, ◌≢◌, ℕ, suc, ◌+◌, ◌^◌, ◌<◌, ◌≤◌, ◌⊎◌, ◌∙◌, Bool, true, false, not, ◌==◌, nat_lt, List, [], ◌∷◌, ◌++◌, length, filter, find, take, get_or, position, remove, Option, Some, None, is_some, if◌then◌else◌, refl, sym, ap, subst, inl, inr, arith}
use Rattle.std.specs.List.{AllByRecursion, position_or_len}
use Rattle.std.proofs.lemmas.Bool.{cases_Bool, cases_eq, cases_lt, cond-true, cond-false, true≢false, and_parts, eq-eqb, ne_eqb, ltb-true, ltb-false, lt-ltb, le-ltb}
use Rattle.std.proofs.lemmas.List.{length_push, get_or_push, take_all, take_more, take-append-le}
use Rattle.std.proofs.lemmas.List.Elements.{filter-append}
use Rattle.list_laws.proofs.Options.{cases_Option, pair_is}
use Rattle.legal_orders.specs.Container.{one_if, times}
use Rattle.seq_objects.specs.declared.kind.Kind.{Kind}
use Rattle.seq_objects.specs.declared.kind.Kind.TheVariants as kinds
use Rattle.seq_objects.specs.Words as words
use Rattle.seq_objects.specs.Words.{OperationEntry, entries, entry_of, is_known_word, is_operation_of, code_of, has_arguments, argument_of, extra_of}
use Rattle.seq_objects.specs.Replies.{reply_done, reply_none, reply_value, reply_bad, reply_no, reply_yes, value_of, shown_value}
use Rattle.seq_objects.specs.Items.{first_taken, last_taken, inserted, place_of, place_for, first_or_zero}
use Rattle.seq_objects.specs.QueueSteps.{queue_after}
use Rattle.seq_objects.specs.StackSteps.{stack_after}
use Rattle.seq_objects.specs.RegisterSteps.{register_after-write, register_after-read, register_after-other}
use Rattle.seq_objects.specs.IntSetSteps.{set_after, added, removed, taken_out}
use Rattle.seq_objects.specs.MapSteps.{map_operation, map_after, item_of, key_of, place_of_key, put_at, put_in, value_at, without}
use Rattle.seq_objects.specs.MapLaws.{HasKeysOnce, got}
use Rattle.seq_objects.specs.Objects.{kind_next, kind_next-unknown}
use Rattle.seq_objects.proofs.MapReading.{put_is_got, put_leaves_others, delete_leaves_others, deleted_is_none, keys_stay_once}
use Rattle.broken_rules.proofs.Stepping.{apart, shown_item}
use Rattle.broken_rules.proofs.Ordering.{after_enq, after_deq}
use Rattle.broken_rules.proofs.Covering.{after_push, after_pop}
use Rattle.broken_rules.proofs.Rising.{placed, inserted_is, after_insert, after_min, after_other}
use Rattle.broken_rules.proofs.ObjectStanding.{times-insert, times-remove, times-placed, is_there, added_other, removed_other, taken_out_tells, added_tells, after_add, after_remove, after_has}
use Rattle.book_base.specs.Book.{Page}
use Rattle.book_base.specs.Pruning.{HasOneOpen}
use Rattle.smaller_book.specs.Keys.{value_shown, key_by_kind, key_of_step, key_of_item, is_among, items_without, Rises, IsWellFormed, KeysMayGo}
use Rattle.smaller_book.proofs.Filtering.{filter-kept, filter-gone, filter-all, all-filter, keys_once-filter, times-filter}

-- A relation of a list with all items and one without the items of some keys, which each step of
-- the object keeps.
pub record KeepsKeys (kind : Kind) (keys : ℕ → Bool) (R : List ℕ → List ℕ → Type 0) : Type 0 where
  -- a well-formed list is related to the list without the items of these keys
  pub begins : (list : List ℕ) → IsWellFormed kind list → R list (items_without kind keys list)
  -- a step that is about one of these keys keeps the relation, made on the first list alone
  pub gone : (whole few : List ℕ) (word : ℕ) → R whole few
      → is_among keys (key_of_step kind word (Some (kind_next kind whole word).1)) ≡ true
      → R (kind_next kind whole word).0 few
  -- each other step keeps the relation, made on both lists, and has the same reply on both
  pub kept : (whole few : List ℕ) (word : ℕ) → R whole few
      → is_among keys (key_of_step kind word (Some (kind_next kind whole word).1)) ≡ false
      → ((kind_next kind few word).1 ≡ (kind_next kind whole word).1)
      × R (kind_next kind whole word).0 (kind_next kind few word).0

-- ---- the keys of known words

known_first : {X : Type 0} (p : X → Bool) (x : X) (xs : List X) → p x ≡ true
    → is_some (find p (x ∷ xs)) ≡ true
known_first p x xs passes = ap is_some (cond-true (p x) (Some x) (find p xs) passes)

known_later : {X : Type 0} (p : X → Bool) (x : X) (xs : List X) → is_some (find p xs) ≡ true
    → is_some (find p (x ∷ xs)) ≡ true
known_later p x xs found = elim (cases_Bool (p x)) [
  | inl passes ↦ known_first p x xs passes
  | inr fails ↦ ap is_some (cond-false (p x) (Some x) (find p xs) fails) ∙ found
]

-- The key of a word that the kind knows is the one that the kind's rule says.
known_key : (kind : Kind) (word : ℕ) (reply : Option ℕ) → is_known_word kind word ≡ true
    → key_of_step kind word reply ≡ key_by_kind kind word reply
known_key kind word reply known =
    cond-true (is_known_word kind word) (key_by_kind kind word reply) None known

-- ---- containers

-- The argument of a word is its own value.
argument_value : (word : ℕ) → value_of (argument_of word) ≡ argument_of word
argument_value word = omega arith

-- A kind is a container of values: a put brings its argument into the list and is about it, a take
-- takes an item out of the list and is about the value that its reply shows, and any other word
-- changes nothing.
record IsContainer (kind : Kind) (put taking : OperationEntry) (put_into : List ℕ → ℕ → List ℕ)
    (taken : List ℕ → List ℕ × ℕ) : Type 0 where
  puts : (list : List ℕ) (word : ℕ) → is_operation_of word put ≡ true
      → kind_next kind list word ≡ (put_into list (argument_of word), reply_done)
  takes : (list : List ℕ) (word : ℕ) → is_operation_of word taking ≡ true
      → kind_next kind list word ≡ taken list
  put_key : (word : ℕ) (reply : Option ℕ) → is_operation_of word put ≡ true
      → key_of_step kind word reply ≡ Some (argument_of word)
  take_key : (word reply : ℕ) → is_operation_of word taking ≡ true
      → key_of_step kind word (Some reply) ≡ shown_value reply
  others : (list : List ℕ) (word : ℕ) → is_operation_of word put ≡ false
      → is_operation_of word taking ≡ false → kind_next kind list word ≡ (list, reply_bad)

-- A take either finds no item, and then all items pass; or it shows an item. If this item passes, a
-- take from the items that pass shows it too and takes it out of them; if it doesn't pass, the take
-- keeps all items that pass.
abbrev TakesOne : (ℕ → Bool) → (List ℕ → List ℕ × ℕ) → List ℕ → Type 0
TakesOne p taken list =
    ((taken list ≡ (list, reply_none)) × (filter p list ≡ list))
    ⊎ ((x : ℕ) × ((taken list).1 ≡ reply_value x)
    × (p x ≡ true → taken (filter p list) ≡ (filter p (taken list).0, reply_value x))
    × (p x ≡ false → filter p list ≡ filter p (taken list).0))

-- What puts and takes do to the items that pass doesn't depend on the items that don't.
record IsSplitBy (p : ℕ → Bool) (formed : List ℕ → Type 0) (put_into : List ℕ → ℕ → List ℕ)
    (taken : List ℕ → List ℕ × ℕ) : Type 0 where
  put_kept : (list : List ℕ) (v : ℕ) → formed list → p v ≡ true
      → filter p (put_into list v) ≡ put_into (filter p list) v
  put_gone : (list : List ℕ) (v : ℕ) → p v ≡ false → filter p (put_into list v) ≡ filter p list
  put_formed : (list : List ℕ) (v : ℕ) → formed list → formed (put_into list v)
  take_one : (list : List ℕ) → TakesOne p taken list
  take_formed : (list : List ℕ) → formed list → formed (taken list).0

-- Whether the value of an item is none of these keys.
abbrev pub stays : (ℕ → Bool) → ℕ → Bool
stays keys item = not (keys (value_of item))

-- The first list is well-formed, and the second one has those of its items whose values are none of
-- these keys.
abbrev pub IsRest : (ℕ → Bool) → (List ℕ → Type 0) → List ℕ → List ℕ → Type 0
IsRest keys formed whole few = formed whole × (few ≡ filter (stays keys) whole)

module _ (kind : Kind) (keys : ℕ → Bool) (formed : List ℕ → Type 0) (put taking : OperationEntry)
    (put_into : List ℕ → ℕ → List ℕ) (taken : List ℕ → List ℕ × ℕ)
    (container : IsContainer kind put taking put_into taken)
    (split : IsSplitBy (stays keys) formed put_into taken) where
  container_gone : (whole few : List ℕ) (word : ℕ) → IsRest keys formed whole few
      → is_among keys (key_of_step kind word (Some (kind_next kind whole word).1)) ≡ true
      → IsRest keys formed (kind_next kind whole word).0 few
  container_gone whole few word (is, rest) among = elim (cases_Bool (is_operation_of word put)) [
    | inl puts ↦
        let v : ℕ = argument_of word in
        let goes : keys v ≡ true = ap (is_among keys)
        (sym (container.put_key word (Some (kind_next kind whole word).1) puts)) ∙ among in
        let out : stays keys v ≡ false =
        ap (λ (x : ℕ). not (keys x)) (argument_value word) ∙ ap not goes in
        let new : IsRest keys formed (put_into whole v) few =
        (split.put_formed whole v is, rest ∙ sym (split.put_gone whole v out)) in
        subst (λ (step : List ℕ × ℕ). IsRest keys formed step.0 few)
        (sym (container.puts whole word puts)) new
    | inr not_put ↦ elim (cases_Bool (is_operation_of word taking)) [
      | inl takes ↦
          let key : is_among keys (shown_value (taken whole).1) ≡ true
          = ap (λ (step : List ℕ × ℕ). is_among keys (shown_value step.1))
          (sym (container.takes whole word takes))
          ∙ (ap (is_among keys) (sym (container.take_key word (kind_next kind whole word).1 takes))
          ∙ among) in
          let new : IsRest keys formed (taken whole).0 few = elim (split.take_one whole) [
            | inl none ↦ absurd (true≢false
                (sym key ∙ ap (λ (step : List ℕ × ℕ). is_among keys (shown_value step.1)) none.0))
            | inr one ↦
                let goes : keys (value_of one.0) ≡ true =
                sym (ap (is_among keys) (ap shown_value one.1 ∙ shown_item one.0)) ∙ key in
                (split.take_formed whole is, rest ∙ one.3 (ap not goes))
          ] in
          subst (λ (step : List ℕ × ℕ). IsRest keys formed step.0 few)
          (sym (container.takes whole word takes)) new
      | inr not_take ↦ subst (λ (step : List ℕ × ℕ). IsRest keys formed step.0 few)
          (sym (container.others whole word not_put not_take)) (is, rest)
    ]
  ]

  container_kept : (whole few : List ℕ) (word : ℕ) → IsRest keys formed whole few
      → is_among keys (key_of_step kind word (Some (kind_next kind whole word).1)) ≡ false
      → ((kind_next kind few word).1 ≡ (kind_next kind whole word).1)
      × IsRest keys formed (kind_next kind whole word).0 (kind_next kind few word).0
  container_kept whole few word (is, rest) among =
      let P : List ℕ × ℕ → List ℕ × ℕ → Type 0 =
      λ other step. (other.1 ≡ step.1) × IsRest keys formed step.0 other.0 in
      let by_steps : (other step : List ℕ × ℕ) → kind_next kind few word ≡ other
      → kind_next kind whole word ≡ step → P other step
      → P (kind_next kind few word) (kind_next kind whole word)
      = λ other step e f holds. subst (λ s. P (kind_next kind few word) s) (sym f)
      (subst (λ s. P s step) (sym e) holds) in
      elim (cases_Bool (is_operation_of word put)) [
        | inl puts ↦
            let v : ℕ = argument_of word in
            let stay : keys v ≡ false = ap (is_among keys)
            (sym (container.put_key word (Some (kind_next kind whole word).1) puts)) ∙ among in
            let on : stays keys v ≡ true =
            ap (λ (x : ℕ). not (keys x)) (argument_value word) ∙ ap not stay in
            by_steps (put_into few v, reply_done) (put_into whole v, reply_done)
            (container.puts few word puts) (container.puts whole word puts) (
              refl,
              (
                split.put_formed whole v is,
                ap (λ (l : List ℕ). put_into l v) rest ∙ sym (split.put_kept whole v is on),
              ),
            )
        | inr not_put ↦ elim (cases_Bool (is_operation_of word taking)) [
          | inl takes ↦
              let key : is_among keys (shown_value (taken whole).1) ≡ false
              = ap (λ (step : List ℕ × ℕ). is_among keys (shown_value step.1))
              (sym (container.takes whole word takes))
              ∙ (ap (is_among keys)
              (sym (container.take_key word (kind_next kind whole word).1 takes)) ∙ among) in
              let new : P (taken few) (taken whole) = elim (split.take_one whole) [
                | inl none ↦
                    let same : few ≡ whole = rest ∙ none.1 in
                    let list : (taken whole).0 ≡ whole =
                    ap (λ (step : List ℕ × ℕ). step.0) none.0 in
                    let formed_still : formed (taken whole).0 = subst formed (sym list) is in (
                      ap (λ (l : List ℕ). (taken l).1) same,
                      (
                        formed_still,
                        ap (λ (l : List ℕ). (taken l).0) same
                            ∙ (list ∙ (sym none.1 ∙ ap (filter (stays keys)) (sym list))),
                      ),
                    )
                | inr one ↦
                    let stay : keys (value_of one.0) ≡ false =
                    sym (ap (is_among keys) (ap shown_value one.1 ∙ shown_item one.0)) ∙ key in
                    let made : taken few
                    ≡ (filter (stays keys) (taken whole).0, reply_value one.0) =
                    ap taken rest ∙ one.2 (ap not stay) in (
                      ap (λ (step : List ℕ × ℕ). step.1) made ∙ sym one.1,
                      (split.take_formed whole is, ap (λ (step : List ℕ × ℕ). step.0) made),
                    )
              ] in
              by_steps (taken few) (taken whole) (container.takes few word takes)
              (container.takes whole word takes) new
          | inr not_take ↦
              by_steps (few, reply_bad) (whole, reply_bad)
              (container.others few word not_put not_take)
              (container.others whole word not_put not_take)
              (refl, (is, rest))
        ]
      ]

-- A take of the first item finds none and all items pass, or shows an item and treats those that
-- pass as if no others were there.
first_one : (p : ℕ → Bool) (list : List ℕ) → TakesOne p first_taken list
first_one p [] = inl (refl, refl)
first_one p (x ∷ rest) = inr
    (x, refl, λ kept. ap first_taken (filter-kept p x rest kept), λ gone. filter-gone p x rest gone)

-- ---- queues

queue_is_container : IsContainer kinds.Queue words.enq words.deq
    (λ list v. list ++ v ∷ []) first_taken
unfolding kind_next is_known_word entry_of entries
queue_is_container = record {
  puts = λ list word is. after_enq list word is;
  takes = λ list word is. after_deq list word is;
  put_key = λ word reply is.
      known_key kinds.Queue word reply
      (known_first (is_operation_of word) words.enq (words.deq ∷ []) is)
      ∙ cond-true (is_operation_of word words.enq) (Some (argument_of word)) (value_shown reply) is;
  take_key = λ word reply is.
      known_key kinds.Queue word (Some reply) (known_later (is_operation_of word) words.enq
      (words.deq ∷ []) (known_first (is_operation_of word) words.deq [] is))
      ∙ cond-false (is_operation_of word words.enq) (Some (argument_of word)) (shown_value reply)
      (apart word words.deq words.enq (omega arith) is);
  others = λ list word not_enq not_deq.
      ap (queue_after list) (cond-false (is_operation_of word words.enq) _ _ not_enq
      ∙ cond-false (is_operation_of word words.deq) _ _ not_deq);
}

pushed_kept : (p : ℕ → Bool) (list : List ℕ) (v : ℕ) → p v ≡ true
    → filter p (list ++ v ∷ []) ≡ filter p list ++ v ∷ []
pushed_kept p list v kept = filter-append p list (v ∷ [])
    ∙ ap (λ (ys : List ℕ). filter p list ++ ys) (filter-kept p v [] kept)

append-none : (xs : List ℕ) → xs ++ [] ≡ xs
append-none [] = refl
append-none (x ∷ xs) = ap (λ (ys : List ℕ). x ∷ ys) (append-none xs)

pushed_gone : (p : ℕ → Bool) (list : List ℕ) (v : ℕ) → p v ≡ false
    → filter p (list ++ v ∷ []) ≡ filter p list
pushed_gone p list v gone =
    filter-append p list (v ∷ []) ∙ (ap (λ (ys : List ℕ). filter p list ++ ys)
    (filter-gone p v [] gone) ∙ append-none (filter p list))

abbrev pub any_list : List ℕ → Type 0
any_list list = Unit {0}

queue_is_split : (p : ℕ → Bool) → IsSplitBy p any_list (λ list v. list ++ v ∷ []) first_taken
queue_is_split p = record {
  put_kept = λ list v formed kept. pushed_kept p list v kept;
  put_gone = λ list v gone. pushed_gone p list v gone;
  put_formed = λ list v formed. tt;
  take_one = λ list. first_one p list;
  take_formed = λ list formed. tt;
}

-- ---- stacks

stack_is_container : IsContainer kinds.Stack words.push words.pop
    (λ list v. list ++ v ∷ []) last_taken
unfolding kind_next is_known_word entry_of entries
stack_is_container = record {
  puts = λ list word is. after_push list word is;
  takes = λ list word is. after_pop list word is;
  put_key = λ word reply is.
      known_key kinds.Stack word reply
      (known_first (is_operation_of word) words.push (words.pop ∷ []) is)
      ∙ cond-true (is_operation_of word words.push) (Some (argument_of word))
      (value_shown reply) is;
  take_key = λ word reply is.
      known_key kinds.Stack word (Some reply) (known_later (is_operation_of word) words.push
      (words.pop ∷ []) (known_first (is_operation_of word) words.pop [] is))
      ∙ cond-false (is_operation_of word words.push) (Some (argument_of word)) (shown_value reply)
      (apart word words.pop words.push (omega arith) is);
  others = λ list word not_push not_pop.
      ap (stack_after list) (cond-false (is_operation_of word words.push) _ _ not_push
      ∙ cond-false (is_operation_of word words.pop) _ _ not_pop);
}

-- A take of the last item, from a list with an item pushed at its end, shows this item, and the
-- list is then as before the push.
last_pushed : (prefix : List ℕ) (y : ℕ) → last_taken (prefix ++ y ∷ []) ≡ (prefix, reply_value y)
last_pushed [] y = refl
last_pushed (x ∷ prefix) y =
    let whole : List ℕ = (x ∷ prefix) ++ y ∷ [] in
    let n : ℕ = length (prefix ++ y ∷ []) in
    let same : n ≡ length (x ∷ prefix) = omega (arith, length_push prefix y) in
    let items : take n whole ≡ x ∷ prefix
    = ap (λ (k : ℕ). take k whole) same ∙ (take-append-le (length (x ∷ prefix)) (x ∷ prefix)
    (y ∷ []) (omega arith) ∙ take_all (length (x ∷ prefix)) (x ∷ prefix) (omega arith)) in
    let last : get_or whole n 0 ≡ y = get_or_push (x ∷ prefix) y 0 n (sym same) in
    pair_is items (ap reply_value last)

last_one : (p : ℕ → Bool) (list : List ℕ) → TakesOne p last_taken list
last_one p [] = inl (refl, refl)
last_one p (x ∷ rest) =
    let list : List ℕ = x ∷ rest in
    let n : ℕ = length rest in
    let prefix : List ℕ = take n list in
    let last : ℕ = get_or list n 0 in
    let whole : list ≡ prefix ++ last ∷ [] =
    sym (take_all (n + 1) list (omega arith)) ∙ take_more list n 0 (omega arith) in
    inr (
      last,
      refl,
      λ kept. ap (λ (l : List ℕ). last_taken (filter p l)) whole
          ∙ (ap last_taken (pushed_kept p prefix last kept) ∙ last_pushed (filter p prefix) last),
      λ gone. ap (filter p) whole ∙ pushed_gone p prefix last gone,
    )

stack_is_split : (p : ℕ → Bool) → IsSplitBy p any_list (λ list v. list ++ v ∷ []) last_taken
stack_is_split p = record {
  put_kept = λ list v formed kept. pushed_kept p list v kept;
  put_gone = λ list v gone. pushed_gone p list v gone;
  put_formed = λ list v formed. tt;
  take_one = λ list. last_one p list;
  take_formed = λ list formed. tt;
}

-- ---- priority queues

pqueue_is_container : IsContainer kinds.Pqueue words.insert words.min inserted first_taken
unfolding kind_next is_known_word entry_of entries
pqueue_is_container = record {
  puts = λ list word is. after_insert list word is;
  takes =
      λ list word is. after_min list word (apart word words.min words.insert (omega arith) is) is;
  put_key = λ word reply is.
      known_key kinds.Pqueue word reply
      (known_first (is_operation_of word) words.insert (words.min ∷ []) is)
      ∙ cond-true (is_operation_of word words.insert) (Some (argument_of word))
      (value_shown reply) is;
  take_key = λ word reply is.
      known_key kinds.Pqueue word (Some reply) (known_later (is_operation_of word) words.insert
      (words.min ∷ []) (known_first (is_operation_of word) words.min [] is))
      ∙ cond-false (is_operation_of word words.insert) (Some (argument_of word)) (shown_value reply)
      (apart word words.min words.insert (omega arith) is);
  others = λ list word not_insert not_min. after_other list word not_insert not_min;
}

-- A value that is less than the least item of a rising list is placed before all items.
placed_first : (v x : ℕ) (ys : List ℕ) → v < x → AllByRecursion (λ y. x ≤ y) ys
    → placed v ys ≡ v ∷ ys
placed_first v x [] less above = refl
placed_first v x (y ∷ ys) less above =
    let below : x ≤ y = above.0 in
    cond-true (nat_lt v y) (v ∷ y ∷ ys) (y ∷ placed v ys) (lt-ltb v y (omega arith))

placed_kept : (p : ℕ → Bool) (v : ℕ) (xs : List ℕ) → Rises xs → p v ≡ true
    → filter p (placed v xs) ≡ placed v (filter p xs)
placed_kept p v [] rises kept = filter-kept p v [] kept
placed_kept p v (x ∷ xs) rises kept = elim (cases_Bool (nat_lt v x)) [
  | inl less ↦
      let before : v < x = ltb-true v x less in
      let here : filter p (placed v (x ∷ xs)) ≡ v ∷ filter p (x ∷ xs)
      = ap (filter p) (cond-true (nat_lt v x) (v ∷ x ∷ xs) (x ∷ placed v xs) less)
      ∙ filter-kept p v (x ∷ xs) kept in
      let all : AllByRecursion (λ y. x ≤ y) (x ∷ xs) = (omega arith, rises.0) in
      here ∙ sym (placed_first v x (filter p (x ∷ xs)) before (all-filter p (λ y. x ≤ y) (x ∷ xs) all))
  | inr most ↦
      let here : filter p (placed v (x ∷ xs)) ≡ filter p (x ∷ placed v xs) =
      ap (filter p) (cond-false (nat_lt v x) (v ∷ x ∷ xs) (x ∷ placed v xs) most) in
      elim (cases_Bool (p x)) [
        | inl stay ↦
            here
            ∙ (filter-kept p x (placed v xs) stay
            ∙ (ap (λ (ys : List ℕ). x ∷ ys) (placed_kept p v xs rises.1 kept)
            ∙ (sym (cond-false (nat_lt v x) (v ∷ x ∷ filter p xs) (x ∷ placed v (filter p xs)) most)
            ∙ ap (placed v) (sym (filter-kept p x xs stay)))))
        | inr gone ↦ here ∙ (filter-gone p x (placed v xs) gone
            ∙ (placed_kept p v xs rises.1 kept ∙ ap (placed v) (sym (filter-gone p x xs gone))))
      ]
]

placed_gone : (p : ℕ → Bool) (v : ℕ) (xs : List ℕ) → p v ≡ false
    → filter p (placed v xs) ≡ filter p xs
placed_gone p v [] gone = filter-gone p v [] gone
placed_gone p v (x ∷ xs) gone = elim (cases_Bool (nat_lt v x)) [
  | inl less ↦ ap (filter p) (cond-true (nat_lt v x) (v ∷ x ∷ xs) (x ∷ placed v xs) less)
      ∙ filter-gone p v (x ∷ xs) gone
  | inr most ↦
      ap (filter p) (cond-false (nat_lt v x) (v ∷ x ∷ xs) (x ∷ placed v xs) most)
      ∙ ap (λ (ys : List ℕ). if p x then x ∷ ys else ys) (placed_gone p v xs gone)
]

above_placed : (x v : ℕ) (xs : List ℕ) → x ≤ v → AllByRecursion (λ y. x ≤ y) xs
    → AllByRecursion (λ y. x ≤ y) (placed v xs)
above_placed x v [] le all = (le, tt)
above_placed x v (y ∷ ys) le all = elim (cases_Bool (nat_lt v y)) [
  | inl less ↦ subst (AllByRecursion (λ z. x ≤ z))
      (sym (cond-true (nat_lt v y) (v ∷ y ∷ ys) (y ∷ placed v ys) less)) (le, all)
  | inr most ↦ subst (AllByRecursion (λ z. x ≤ z))
      (sym (cond-false (nat_lt v y) (v ∷ y ∷ ys) (y ∷ placed v ys) most))
      (all.0, above_placed x v ys le all.1)
]

above_less : (v x : ℕ) (xs : List ℕ) → v ≤ x → AllByRecursion (λ y. x ≤ y) xs
    → AllByRecursion (λ y. v ≤ y) xs
above_less v x [] le all = tt
above_less v x (y ∷ ys) le all =
    (let here : x ≤ y = all.0 in omega arith, above_less v x ys le all.1)

rises_placed : (v : ℕ) (xs : List ℕ) → Rises xs → Rises (placed v xs)
rises_placed v [] rises = (tt, tt)
rises_placed v (x ∷ xs) rises = elim (cases_Bool (nat_lt v x)) [
  | inl less ↦
      let le : v ≤ x = omega (arith, ltb-true v x less) in
      subst Rises (sym (cond-true (nat_lt v x) (v ∷ x ∷ xs) (x ∷ placed v xs) less))
      ((le, above_less v x xs le rises.0), rises)
  | inr most ↦
      subst Rises (sym (cond-false (nat_lt v x) (v ∷ x ∷ xs) (x ∷ placed v xs) most))
      (above_placed x v xs (ltb-false v x most) rises.0, rises_placed v xs rises.1)
]

rises_taken : (list : List ℕ) → Rises list → Rises (first_taken list).0
rises_taken [] rises = tt
rises_taken (x ∷ rest) rises = rises.1

pqueue_is_split : (p : ℕ → Bool) → IsSplitBy p Rises inserted first_taken
pqueue_is_split p = record {
  put_kept = λ list v rises kept.
      ap (filter p) (inserted_is v list)
      ∙ (placed_kept p v list rises kept ∙ sym (inserted_is v (filter p list)));
  put_gone = λ list v gone. ap (filter p) (inserted_is v list) ∙ placed_gone p v list gone;
  put_formed = λ list v rises. subst Rises (sym (inserted_is v list)) (rises_placed v list rises);
  take_one = λ list. first_one p list;
  take_formed = λ list rises. rises_taken list rises;
}

-- ---- sets

-- Each value that is none of these keys is in both lists equally often.
abbrev pub HasSameValues : (ℕ → Bool) → List ℕ → List ℕ → Type 0
HasSameValues keys whole few = (v : ℕ) → keys v ≡ false → times v few ≡ times v whole

-- A value that is in two lists equally often is found in both or in neither.
same_there : (v : ℕ) (xs ys : List ℕ) → times v xs ≡ times v ys
    → is_some (place_of xs v) ≡ is_some (place_of ys v)
same_there v xs ys same = elim (is_there v xs) [
  | inl here ↦ elim (is_there v ys) [
    | inl there ↦ here.0 ∙ sym there.0
    | inr absent ↦ absurd (omega (arith, here.1, absent.1, same))
  ]
  | inr none ↦ elim (is_there v ys) [
    | inl there ↦ absurd (omega (arith, none.1, there.1, same))
    | inr absent ↦ none.0 ∙ sym absent.0
  ]
]

-- An add of a value keeps the number of items with this value where there are some, and makes it 1
-- where there are none.
times-added : (v : ℕ) (xs : List ℕ) → ((1 ≤ times v xs) × (times v (added xs v).0 ≡ times v xs))
    ⊎ ((times v xs ≡ 0) × (times v (added xs v).0 ≡ 1))
times-added v xs = elim (is_there v xs) [
  | inl there ↦
      inl (
        there.1,
        ap (λ (r : List ℕ × ℕ). times v r.0)
            (cond-true (is_some (place_of xs v)) (xs, reply_no) (inserted xs v, reply_yes) there.0),
      )
  | inr absent ↦
      let list : times v (added xs v).0 ≡ times v (inserted xs v)
      = ap (λ (r : List ℕ × ℕ). times v r.0) (cond-false (is_some (place_of xs v)) (xs, reply_no)
      (inserted xs v, reply_yes) absent.0) in
      inr (
        absent.1,
        omega (
          arith,
          list,
          times-insert v v xs (place_for xs v),
          absent.1,
          ap one_if (eq-eqb v v refl),
        ),
      )
]

same_added : (v : ℕ) (xs ys : List ℕ) → times v xs ≡ times v ys
    → times v (added xs v).0 ≡ times v (added ys v).0
same_added v xs ys same = elim (times-added v xs) [
  | inl here ↦ elim (times-added v ys) [
    | inl there ↦ here.1 ∙ (same ∙ sym there.1)
    | inr absent ↦ absurd (omega (arith, here.0, absent.0, same))
  ]
  | inr none ↦ elim (times-added v ys) [
    | inl there ↦ absurd (omega (arith, none.0, there.0, same))
    | inr absent ↦ none.1 ∙ sym absent.1
  ]
]

-- A remove of a value takes one item with this value out, where there is one.
times-removed : (v : ℕ) (xs : List ℕ)
    → times v (removed xs v).0 + one_if (is_some (place_of xs v)) ≡ times v xs
times-removed v xs = elim (cases_Option (place_of xs v)) [
  | inl none ↦
      omega (
        arith,
        ap (λ (o : Option ℕ). times v (taken_out xs o).0) none,
        ap (λ (o : Option ℕ). one_if (is_some o)) none,
      )
  | inr some ↦
      let first = times-placed v xs some.0 some.1 in
      let list : times v (removed xs v).0 ≡ times v (remove xs some.0) =
      ap (λ (o : Option ℕ). times v (taken_out xs o).0) some.1 in
      omega (
        arith,
        list,
        times-remove v xs some.0 first.0,
        ap one_if (eq-eqb (get_or xs some.0 0) v first.1),
        ap (λ (o : Option ℕ). one_if (is_some o)) some.1,
      )
]

same_removed : (v : ℕ) (xs ys : List ℕ) → times v xs ≡ times v ys
    → times v (removed xs v).0 ≡ times v (removed ys v).0
same_removed v xs ys same =
    omega (arith, times-removed v xs, times-removed v ys, ap one_if (same_there v xs ys same), same)

module _ (keys : ℕ → Bool) where
  -- A value that is one of these keys differs from each value that is none of them.
  apart_from : (v w : ℕ) → keys v ≡ true → keys w ≡ false → v ≢ w
  apart_from v w goes stay e = true≢false (sym goes ∙ (ap keys e ∙ stay))

  added_alike : (whole few : List ℕ) (v : ℕ) → HasSameValues keys whole few → keys v ≡ false
      → ((added few v).1 ≡ (added whole v).1) × HasSameValues keys (added whole v).0 (added few v).0
  added_alike whole few v same stay = (
    added_tells few v ∙ (ap (λ (b : Bool). if b then reply_no else reply_yes)
        (same_there v few whole (same v stay)) ∙ sym (added_tells whole v)),
    λ w on. elim (cases_eq v w) [
      | inl e ↦ subst (λ (x : ℕ). times x (added few v).0 ≡ times x (added whole v).0) e
          (same_added v few whole (same v stay))
      | inr other ↦ added_other v w few other ∙ (same w on ∙ sym (added_other v w whole other))
    ],
  )

  removed_alike : (whole few : List ℕ) (v : ℕ) → HasSameValues keys whole few → keys v ≡ false
      → ((removed few v).1 ≡ (removed whole v).1)
      × HasSameValues keys (removed whole v).0 (removed few v).0
  removed_alike whole few v same stay = (
    taken_out_tells few (place_of few v) ∙ (ap (λ (b : Bool). if b then reply_yes else reply_no)
        (same_there v few whole (same v stay)) ∙ sym (taken_out_tells whole (place_of whole v))),
    λ w on. elim (cases_eq v w) [
      | inl e ↦ subst (λ (x : ℕ). times x (removed few v).0 ≡ times x (removed whole v).0) e
          (same_removed v few whole (same v stay))
      | inr other ↦ removed_other v w few other ∙ (same w on ∙ sym (removed_other v w whole other))
    ],
  )

-- Where a known word has its argument as its key, the argument is one of some keys exactly where
-- the key of the word is.
keys_of_argument : (kind : Kind) (keys : ℕ → Bool) (word reply : ℕ) (b : Bool)
    → is_known_word kind word ≡ true → key_by_kind kind word (Some reply) ≡ Some (argument_of word)
    → is_among keys (key_of_step kind word (Some reply)) ≡ b → keys (argument_of word) ≡ b
keys_of_argument kind keys word reply b known own among =
    ap (is_among keys) (sym (known_key kind word (Some reply) known ∙ own)) ∙ among

set_gone : (keys : ℕ → Bool) (whole few : List ℕ) (word : ℕ) → HasSameValues keys whole few
    → is_among keys (key_of_step kinds.IntSet word (Some (kind_next kinds.IntSet whole word).1))
    ≡ true → HasSameValues keys (kind_next kinds.IntSet whole word).0 few
unfolding kind_next
set_gone keys whole few word same among =
    let v : ℕ = argument_of word in
    let P : List ℕ × ℕ → Type 0 = λ step. HasSameValues keys step.0 few in
    elim (cases_Bool (is_known_word kinds.IntSet word)) [
      | inr unknown ↦ subst P (sym (kind_next-unknown kinds.IntSet whole word unknown)) same
      | inl known ↦
          let goes : keys v ≡ true = keys_of_argument kinds.IntSet keys word
          (kind_next kinds.IntSet whole word).1 true known refl among in
          elim (cases_Bool (is_operation_of word words.add)) [
            | inl add ↦
                let new : P (added whole v) =
                λ w on. same w on ∙ sym (added_other v w whole (apart_from keys v w goes on)) in
                subst P (sym (after_add whole word add)) new
            | inr not_add ↦ elim (cases_Bool (is_operation_of word words.remove)) [
              | inl remove ↦
                  let new : P (removed whole v) =
                  λ w on. same w on ∙ sym (removed_other v w whole (apart_from keys v w goes on)) in
                  subst P (sym (after_remove whole word remove)) new
              | inr not_remove ↦ elim (cases_Bool (is_operation_of word words.has)) [
                | inl has ↦ subst P (sym (after_has whole word has)) same
                | inr not_has ↦
                    subst P
                    (sym (ap (set_after whole)
                    (cond-false (is_operation_of word words.add) _ _ not_add
                    ∙ (cond-false (is_operation_of word words.remove) _ _ not_remove
                    ∙ cond-false (is_operation_of word words.has) _ _ not_has)))) same
              ]
            ]
          ]
    ]

set_kept : (keys : ℕ → Bool) (whole few : List ℕ) (word : ℕ) → HasSameValues keys whole few
    → is_among keys
    (key_of_step kinds.IntSet word (Some (kind_next kinds.IntSet whole word).1)) ≡ false
    → ((kind_next kinds.IntSet few word).1 ≡ (kind_next kinds.IntSet whole word).1)
    × HasSameValues keys (kind_next kinds.IntSet whole word).0 (kind_next kinds.IntSet few word).0
unfolding kind_next
set_kept keys whole few word same among =
    let v : ℕ = argument_of word in
    let P : List ℕ × ℕ → List ℕ × ℕ → Type 0 =
    λ other step. (other.1 ≡ step.1) × HasSameValues keys step.0 other.0 in
    let by_steps : (other step : List ℕ × ℕ) → kind_next kinds.IntSet few word ≡ other
    → kind_next kinds.IntSet whole word ≡ step → P other step
    → P (kind_next kinds.IntSet few word) (kind_next kinds.IntSet whole word)
    = λ other step e f holds. subst (λ s. P (kind_next kinds.IntSet few word) s) (sym f)
    (subst (λ s. P s step) (sym e) holds) in
    elim (cases_Bool (is_known_word kinds.IntSet word)) [
      | inr unknown ↦ by_steps _ _ (kind_next-unknown kinds.IntSet few word unknown)
          (kind_next-unknown kinds.IntSet whole word unknown) (refl, same)
      | inl known ↦
          let stay : keys v ≡ false = keys_of_argument kinds.IntSet keys word
          (kind_next kinds.IntSet whole word).1 false known refl among in
          elim (cases_Bool (is_operation_of word words.add)) [
            | inl add ↦ by_steps _ _ (after_add few word add) (after_add whole word add)
                (added_alike keys whole few v same stay)
            | inr not_add ↦ elim (cases_Bool (is_operation_of word words.remove)) [
              | inl remove ↦ by_steps _ _ (after_remove few word remove)
                  (after_remove whole word remove) (removed_alike keys whole few v same stay)
              | inr not_remove ↦ elim (cases_Bool (is_operation_of word words.has)) [
                | inl has ↦
                    by_steps _ _ (after_has few word has) (after_has whole word has) (
                      ap (λ (b : Bool). if b then reply_yes else reply_no)
                          (same_there v few whole (same v stay)),
                      same,
                    )
                | inr not_has ↦
                    let other : (list : List ℕ)
                    → kind_next kinds.IntSet list word ≡ (list, reply_bad) = λ list.
                    ap (set_after list)
                    (cond-false (is_operation_of word words.add) _ _ not_add
                    ∙ (cond-false (is_operation_of word words.remove) _ _ not_remove
                    ∙ cond-false (is_operation_of word words.has) _ _ not_has)) in
                    by_steps _ _ (other few) (other whole) (refl, same)
              ]
            ]
          ]
    ]

-- ---- maps

-- No list has two items of one key, and a get of a key that is none of these keys replies the same
-- on both lists.
pub record HasSameKeys (keys : ℕ → Bool) (whole few : List ℕ) : Type 0 where
  pub all_once : HasKeysOnce whole
  pub few_once : HasKeysOnce few
  pub same : (key : ℕ) → keys key ≡ false → got few key ≡ got whole key

-- A search that ends before the end of a list has found the first item that passes.
first_at : (p : ℕ → Bool) (xs : List ℕ) (n : ℕ) → position_or_len p xs ≡ n → n < length xs
    → position p xs ≡ Some n
first_at p xs n e inside =
    ap (λ (k : ℕ). if nat_lt k (length xs) then Some k else None) e
    ∙ cond-true (nat_lt n (length xs)) (Some n) None (lt-ltb n (length xs) inside)

first_nowhere : (p : ℕ → Bool) (xs : List ℕ) (n : ℕ) → position_or_len p xs ≡ n → length xs ≤ n
    → position p xs ≡ None
first_nowhere p xs n e past =
    ap (λ (k : ℕ). if nat_lt k (length xs) then Some k else None) e
    ∙ cond-false (nat_lt n (length xs)) (Some n) None (le-ltb n (length xs) past)

-- A get of a key from a longer list replies with the value of the first item, if this item has the
-- key, and else as from the rest.
got-cons : (key x : ℕ) (xs : List ℕ)
    → got (x ∷ xs) key ≡ (if key_of x == key then reply_value x else got xs key)
got-cons key x xs =
    let p : ℕ → Bool = λ item. key_of item == key in
    let n : ℕ = position_or_len p xs in
    elim (cases_Bool (p x)) as
    (λ _. got (x ∷ xs) key ≡ (if p x then reply_value x else got xs key)) [
      | inl here ↦
          ap (value_at (x ∷ xs))
          (first_at p (x ∷ xs) 0 (cond-false (not (p x)) (1 + n) 0 (ap not here)) (omega arith))
          ∙ sym (cond-true (p x) (reply_value x) (got xs key) here)
      | inr other ↦
          let later : position_or_len p (x ∷ xs) ≡ suc n =
          cond-true (not (p x)) (1 + n) 0 (ap not other) ∙ omega arith in
          let rest : got (x ∷ xs) key ≡ got xs key =
          elim (cases_lt n (length xs)) as (λ _. got (x ∷ xs) key ≡ got xs key) [
            | inl inside ↦
                ap (value_at (x ∷ xs)) (first_at p (x ∷ xs) (suc n) later (omega (arith, inside)))
                ∙ sym (ap (value_at xs) (first_at p xs n refl inside))
            | inr past ↦ ap (value_at (x ∷ xs))
                (first_nowhere p (x ∷ xs) (suc n) later (omega (arith, past)))
                ∙ sym (ap (value_at xs) (first_nowhere p xs n refl past))
          ] in
          rest ∙ sym (cond-false (p x) (reply_value x) (got xs key) other)
    ]

got-filter : (p : ℕ → Bool) (key : ℕ) (xs : List ℕ) → ((x : ℕ) → key_of x ≡ key → p x ≡ true)
    → got (filter p xs) key ≡ got xs key
got-filter p key [] stay = refl
got-filter p key (x ∷ xs) stay = elim (cases_Bool (p x)) [
  | inl kept ↦
      ap (λ (l : List ℕ). got l key) (filter-kept p x xs kept)
      ∙ (got-cons key x (filter p xs)
      ∙ (ap (λ (r : ℕ). if key_of x == key then reply_value x else r) (got-filter p key xs stay)
      ∙ sym (got-cons key x xs)))
  | inr gone ↦
      let other : key_of x ≢ key = λ e. true≢false (sym (stay x e) ∙ gone) in
      ap (λ (l : List ℕ). got l key) (filter-gone p x xs gone)
      ∙ (got-filter p key xs stay ∙ sym (got-cons key x xs
      ∙ cond-false (key_of x == key) (reply_value x) (got xs key) (ne_eqb (key_of x) key other)))
]

-- A put's step on a map puts its extra as the value for its argument as the key.
map_put : (list : List ℕ) (word : ℕ) → is_operation_of word words.put ≡ true
    → map_after list (map_operation word) ≡ put_in list (argument_of word) (extra_of word)
map_put list word is = ap (map_after list) (cond-true (is_operation_of word words.put) _ _ is)

map_get : (list : List ℕ) (word : ℕ) → is_operation_of word words.put ≡ false
    → is_operation_of word words.get ≡ true
    → map_after list (map_operation word)
    ≡ (list, value_at list (place_of_key list (argument_of word)))
map_get list word not_put is =
    ap (map_after list) (cond-false (is_operation_of word words.put) _ _ not_put
    ∙ cond-true (is_operation_of word words.get) _ _ is)

map_delete : (list : List ℕ) (word : ℕ) → is_operation_of word words.put ≡ false
    → is_operation_of word words.get ≡ false → is_operation_of word words.del ≡ true
    → map_after list (map_operation word) ≡ (
      without list (place_of_key list (argument_of word)),
      value_at list (place_of_key list (argument_of word)),
    )
map_delete list word not_put not_get is =
    ap (map_after list)
    (cond-false (is_operation_of word words.put) _ _ not_put
    ∙ cond-false (is_operation_of word words.get) _ _ not_get
    ∙ cond-true (is_operation_of word words.del) _ _ is)

map_other : (list : List ℕ) (word : ℕ) → is_operation_of word words.put ≡ false
    → is_operation_of word words.get ≡ false → is_operation_of word words.del ≡ false
    → map_after list (map_operation word) ≡ (list, reply_bad)
map_other list word not_put not_get not_del =
    ap (map_after list)
    (cond-false (is_operation_of word words.put) _ _ not_put
    ∙ cond-false (is_operation_of word words.get) _ _ not_get
    ∙ cond-false (is_operation_of word words.del) _ _ not_del)

-- The value that a map's put puts in is below 2 ^ 32.
put_is_small : (word : ℕ) → is_operation_of word words.put ≡ true → extra_of word < 2 ^ 32
put_is_small word is = ltb-true (extra_of word) (2 ^ 32)
    (and_parts (code_of word == words.put.code) (has_arguments words.put.arity word) is).1

-- A step of a map doesn't change the reply to a get of any key but the step's own.
leaves_others : (list : List ℕ) (word other : ℕ) → other ≢ argument_of word
    → got (map_after list (map_operation word)).0 other ≡ got list other
leaves_others list word other apart_of = elim (cases_Bool (is_operation_of word words.put)) [
  | inl put ↦
      ap (λ (step : List ℕ × ℕ). got step.0 other) (map_put list word put)
      ∙ put_leaves_others list (argument_of word) (extra_of word) other
      (put_is_small word put) apart_of
  | inr not_put ↦ elim (cases_Bool (is_operation_of word words.get)) [
    | inl get ↦ ap (λ (step : List ℕ × ℕ). got step.0 other) (map_get list word not_put get)
    | inr not_get ↦ elim (cases_Bool (is_operation_of word words.del)) [
      | inl del ↦
          ap (λ (step : List ℕ × ℕ). got step.0 other) (map_delete list word not_put not_get del)
          ∙ delete_leaves_others list (argument_of word) other apart_of
      | inr not_del ↦
          ap (λ (step : List ℕ × ℕ). got step.0 other) (map_other list word not_put not_get not_del)
    ]
  ]
]

put_reply : (list : List ℕ) (item : ℕ) (place : Option ℕ)
    → (put_at list item place).1 ≡ value_at list place
put_reply list item None = refl
put_reply list item (Some place) = refl

-- Two steps have the same reply, and after them a get of this key has the same reply.
abbrev AreAlike : ℕ → List ℕ × ℕ → List ℕ × ℕ → Type 0
AreAlike key one other = (one.1 ≡ other.1) × (got one.0 key ≡ got other.0 key)

alike_by : (key : ℕ) (a b c d : List ℕ × ℕ) → a ≡ c → b ≡ d → AreAlike key c d → AreAlike key a b
alike_by key a b c d e f alike = (
  ap (λ (step : List ℕ × ℕ). step.1) e ∙ (alike.0 ∙ sym (ap (λ (step : List ℕ × ℕ). step.1) f)),
  ap (λ (step : List ℕ × ℕ). got step.0 key) e
      ∙ (alike.1 ∙ sym (ap (λ (step : List ℕ × ℕ). got step.0 key) f)),
)

-- Where a get of a step's key replies the same on two lists, each without two items of one key, the
-- step has the same reply on both, and a get of the key after the step has the same reply on both
-- too.
replies_alike : (xs ys : List ℕ) (word : ℕ) → HasKeysOnce xs → HasKeysOnce ys
    → got xs (argument_of word) ≡ got ys (argument_of word)
    → AreAlike (argument_of word) (map_after xs (map_operation word))
    (map_after ys (map_operation word))
replies_alike xs ys word once_xs once_ys same =
    let key : ℕ = argument_of word in
    let value : ℕ = extra_of word in
    let by_steps : (c d : List ℕ × ℕ) → map_after xs (map_operation word) ≡ c
    → map_after ys (map_operation word) ≡ d → AreAlike key c d
    → AreAlike key (map_after xs (map_operation word)) (map_after ys (map_operation word))
    = alike_by key (map_after xs (map_operation word)) (map_after ys (map_operation word)) in
    elim (cases_Bool (is_operation_of word words.put)) [
      | inl put ↦
          let small : value < 2 ^ 32 = put_is_small word put in
          by_steps (put_in xs key value) (put_in ys key value) (map_put xs word put)
          (map_put ys word put) (
            put_reply xs (item_of key value) (place_of_key xs key)
                ∙ (same ∙ sym (put_reply ys (item_of key value) (place_of_key ys key))),
            put_is_got xs key value small ∙ sym (put_is_got ys key value small),
          )
      | inr not_put ↦ elim (cases_Bool (is_operation_of word words.get)) [
        | inl get ↦
            by_steps (xs, value_at xs (place_of_key xs key)) (ys, value_at ys (place_of_key ys key))
            (map_get xs word not_put get) (map_get ys word not_put get) (same, same)
        | inr not_get ↦ elim (cases_Bool (is_operation_of word words.del)) [
          | inl del ↦
              by_steps (without xs (place_of_key xs key), value_at xs (place_of_key xs key))
              (without ys (place_of_key ys key), value_at ys (place_of_key ys key))
              (map_delete xs word not_put not_get del) (map_delete ys word not_put not_get del)
              (same, deleted_is_none xs key once_xs ∙ sym (deleted_is_none ys key once_ys))
          | inr not_del ↦
              by_steps (xs, reply_bad) (ys, reply_bad) (map_other xs word not_put not_get not_del)
              (map_other ys word not_put not_get not_del) (refl, same)
        ]
      ]
    ]

map_gone : (keys : ℕ → Bool) (whole few : List ℕ) (word : ℕ) → HasSameKeys keys whole few
    → is_among keys (key_of_step kinds.Map word (Some (kind_next kinds.Map whole word).1)) ≡ true
    → HasSameKeys keys (kind_next kinds.Map whole word).0 few
unfolding kind_next
map_gone keys whole few word related among = elim (cases_Bool (is_known_word kinds.Map word)) [
  | inr unknown ↦ subst (λ (step : List ℕ × ℕ). HasSameKeys keys step.0 few)
      (sym (kind_next-unknown kinds.Map whole word unknown)) related
  | inl known ↦
      let key : ℕ = argument_of word in
      let goes : keys key ≡ true =
      keys_of_argument kinds.Map keys word
      (kind_next kinds.Map whole word).1 true known refl among in
      record {
        all_once = keys_stay_once whole word related.all_once;
        few_once = related.few_once;
        same = λ k on. related.same k on
            ∙ sym (leaves_others whole word k (λ e. apart_from keys key k goes on (sym e)));
      }
]

map_kept : (keys : ℕ → Bool) (whole few : List ℕ) (word : ℕ) → HasSameKeys keys whole few
    → is_among keys (key_of_step kinds.Map word (Some (kind_next kinds.Map whole word).1)) ≡ false
    → ((kind_next kinds.Map few word).1 ≡ (kind_next kinds.Map whole word).1)
    × HasSameKeys keys (kind_next kinds.Map whole word).0 (kind_next kinds.Map few word).0
unfolding kind_next
map_kept keys whole few word related among = elim (cases_Bool (is_known_word kinds.Map word)) [
  | inr unknown ↦
      let P : List ℕ × ℕ → List ℕ × ℕ → Type 0 =
      λ other step. (other.1 ≡ step.1) × HasSameKeys keys step.0 other.0 in
      subst (λ s. P (kind_next kinds.Map few word) s)
      (sym (kind_next-unknown kinds.Map whole word unknown))
      (subst (λ s. P s (whole, reply_bad)) (sym (kind_next-unknown kinds.Map few word unknown))
      (refl, related))
  | inl known ↦
      let key : ℕ = argument_of word in
      let stay : keys key ≡ false =
      keys_of_argument kinds.Map keys word
      (kind_next kinds.Map whole word).1 false known refl among in
      let alike =
      replies_alike few whole word related.few_once related.all_once (related.same key stay) in (
        alike.0,
        record {
          all_once = keys_stay_once whole word related.all_once;
          few_once = keys_stay_once few word related.few_once;
          same = λ k on. elim (cases_eq k key) [
            | inl e ↦ subst (λ (i : ℕ). got (map_after few (map_operation word)).0 i
                ≡ got (map_after whole (map_operation word)).0 i) (sym e) alike.1
            | inr other ↦ leaves_others few word k other
                ∙ (related.same k on ∙ sym (leaves_others whole word k other))
          ];
        },
      )
]

-- ---- registers

register_writes : (list : List ℕ) (word : ℕ) → is_operation_of word words.write ≡ true
    → kind_next kinds.Register list word ≡ (argument_of word ∷ [], reply_done)
unfolding kind_next
register_writes list word is = register_after-write list word is

register_reads : (list : List ℕ) (word : ℕ) → is_operation_of word words.read ≡ true
    → kind_next kinds.Register list word ≡ (list, reply_value (first_or_zero list))
unfolding kind_next
register_reads list word is =
    register_after-read list word (apart word words.read words.write (omega arith) is) is

register_else : (list : List ℕ) (word : ℕ) → is_operation_of word words.write ≡ false
    → is_operation_of word words.read ≡ false
    → kind_next kinds.Register list word ≡ (list, reply_bad)
unfolding kind_next
register_else list word not_write not_read = register_after-other list word not_write not_read

write_key : (word : ℕ) (reply : Option ℕ) → is_operation_of word words.write ≡ true
    → key_of_step kinds.Register word reply ≡ Some (argument_of word)
unfolding is_known_word entry_of entries
write_key word reply is =
    known_key kinds.Register word reply
    (known_first (is_operation_of word) words.write (words.read ∷ []) is)
    ∙ cond-true (is_operation_of word words.write) (Some (argument_of word)) (value_shown reply) is

read_key : (word reply : ℕ) → is_operation_of word words.read ≡ true
    → key_of_step kinds.Register word (Some reply) ≡ shown_value reply
unfolding is_known_word entry_of entries
read_key word reply is =
    known_key kinds.Register word (Some reply) (known_later (is_operation_of word) words.write
    (words.read ∷ []) (known_first (is_operation_of word) words.read [] is))
    ∙ cond-false (is_operation_of word words.write) (Some (argument_of word)) (shown_value reply)
    (apart word words.read words.write (omega arith) is)

-- The value that a register's list holds.
abbrev pub held_value : List ℕ → ℕ
held_value list = value_of (first_or_zero list)

-- The two lists are the same, or the first one holds one of these values.
abbrev pub IsSameOrGone : (ℕ → Bool) → List ℕ → List ℕ → Type 0
IsSameOrGone keys whole few = (whole ≡ few) ⊎ (keys (held_value whole) ≡ true)

register_stays : (list : List ℕ) (word : ℕ) → is_operation_of word words.write ≡ false
    → (kind_next kinds.Register list word).0 ≡ list
register_stays list word not_write = elim (cases_Bool (is_operation_of word words.read)) [
  | inl reads ↦ ap (λ (step : List ℕ × ℕ). step.0) (register_reads list word reads)
  | inr other ↦ ap (λ (step : List ℕ × ℕ). step.0) (register_else list word not_write other)
]

register_gone : (keys : ℕ → Bool) (whole few : List ℕ) (word : ℕ) → IsSameOrGone keys whole few
    → is_among keys
    (key_of_step kinds.Register word (Some (kind_next kinds.Register whole word).1)) ≡ true
    → IsSameOrGone keys (kind_next kinds.Register whole word).0 few
register_gone keys whole few word related among =
    elim (cases_Bool (is_operation_of word words.write)) [
      | inl writes ↦
          let goes : keys (argument_of word) ≡ true = ap (is_among keys)
          (sym (write_key word (Some (kind_next kinds.Register whole word).1) writes)) ∙ among in
          subst (λ (step : List ℕ × ℕ). IsSameOrGone keys step.0 few)
          (sym (register_writes whole word writes)) (inr (ap keys (argument_value word) ∙ goes))
      | inr not_write ↦ subst (λ (list : List ℕ). IsSameOrGone keys list few)
          (sym (register_stays whole word not_write)) related
    ]

register_kept : (keys : ℕ → Bool) (whole few : List ℕ) (word : ℕ) → IsSameOrGone keys whole few
    → is_among keys
    (key_of_step kinds.Register word (Some (kind_next kinds.Register whole word).1)) ≡ false
    → ((kind_next kinds.Register few word).1 ≡ (kind_next kinds.Register whole word).1)
    × IsSameOrGone keys (kind_next kinds.Register whole word).0
    (kind_next kinds.Register few word).0
register_kept keys whole few word related among =
    let P : List ℕ × ℕ → List ℕ × ℕ → Type 0 =
    λ other step. (other.1 ≡ step.1) × IsSameOrGone keys step.0 other.0 in
    let by_steps : (other step : List ℕ × ℕ) → kind_next kinds.Register few word ≡ other
    → kind_next kinds.Register whole word ≡ step → P other step
    → P (kind_next kinds.Register few word) (kind_next kinds.Register whole word)
    = λ other step e f holds. subst (λ s. P (kind_next kinds.Register few word) s) (sym f)
    (subst (λ s. P s step) (sym e) holds) in
    elim (cases_Bool (is_operation_of word words.write)) [
      | inl writes ↦
          by_steps (argument_of word ∷ [], reply_done) (argument_of word ∷ [], reply_done)
          (register_writes few word writes) (register_writes whole word writes) (refl, inl refl)
      | inr not_write ↦ elim (cases_Bool (is_operation_of word words.read)) [
        | inl reads ↦
            let shown : is_among keys (shown_value (reply_value (first_or_zero whole))) ≡ false
            = ap (λ (step : List ℕ × ℕ). is_among keys (shown_value step.1))
            (sym (register_reads whole word reads))
            ∙ (ap (is_among keys)
            (sym (read_key word (kind_next kinds.Register whole word).1 reads)) ∙ among) in
            let stays : keys (held_value whole) ≡ false =
            sym (ap (is_among keys) (shown_item (first_or_zero whole))) ∙ shown in
            by_steps (few, reply_value (first_or_zero few))
            (whole, reply_value (first_or_zero whole)) (register_reads few word reads)
            (register_reads whole word reads) (elim related [
              | inl same ↦
                  (ap (λ (l : List ℕ). reply_value (first_or_zero l)) (sym same), inl same)
              | inr gone ↦ absurd (true≢false (sym gone ∙ stays))
            ])
        | inr other ↦
            by_steps (few, reply_bad) (whole, reply_bad) (register_else few word not_write other)
            (register_else whole word not_write other) (refl, related)
      ]
    ]

-- ---- the other kinds

-- An operation of a kind without keys is about no key, and so about none of these.
no_key : (known : Bool) (keys : ℕ → Bool) → is_among keys (if known then None else None) ≡ false
no_key true keys = refl
no_key false keys = refl

keyless_gone : (known : Bool) (keys : ℕ → Bool) {P : Type 0}
    → is_among keys (if known then None else None) ≡ true → P
keyless_gone known keys among = absurd (true≢false (sym among ∙ no_key known keys))

keyless_kept : (kind : Kind) (whole few : List ℕ) (word : ℕ) → whole ≡ few
    → ((kind_next kind few word).1 ≡ (kind_next kind whole word).1)
    × ((kind_next kind whole word).0 ≡ (kind_next kind few word).0)
keyless_kept kind whole few word same = (
  ap (λ (l : List ℕ). (kind_next kind l word).1) (sym same),
  ap (λ (l : List ℕ). (kind_next kind l word).0) same,
)

-- ---- all kinds

-- By the kind of the object: the second list has what the first one has, but for the items of these
-- keys; of a register it is the first one, where this doesn't hold one of them.
abbrev pub Restricts : Kind → (ℕ → Bool) → List ℕ → List ℕ → Type 0
Restricts kinds.Queue keys whole few = IsRest keys any_list whole few
Restricts kinds.Stack keys whole few = IsRest keys any_list whole few
Restricts kinds.Pqueue keys whole few = IsRest keys Rises whole few
Restricts kinds.IntSet keys whole few = HasSameValues keys whole few
Restricts kinds.Map keys whole few = HasSameKeys keys whole few
Restricts kinds.Register keys whole few = IsSameOrGone keys whole few
Restricts kinds.Counter keys whole few = whole ≡ few
Restricts kinds.CasRegister keys whole few = whole ≡ few

-- For each kind, each step keeps the relation of a list with all items and one without the items of
-- these keys.
pub keeps_keys : (kind : Kind) (keys : ℕ → Bool) → KeepsKeys kind keys (Restricts kind keys)
keeps_keys kinds.Queue keys = record {
  begins = λ list formed. (tt, refl);
  gone = container_gone kinds.Queue keys any_list words.enq words.deq
      (λ list v. list ++ v ∷ []) first_taken queue_is_container (queue_is_split (stays keys));
  kept = container_kept kinds.Queue keys any_list words.enq words.deq
      (λ list v. list ++ v ∷ []) first_taken queue_is_container (queue_is_split (stays keys));
}
keeps_keys kinds.Stack keys = record {
  begins = λ list formed. (tt, refl);
  gone = container_gone kinds.Stack keys any_list words.push words.pop
      (λ list v. list ++ v ∷ []) last_taken stack_is_container (stack_is_split (stays keys));
  kept = container_kept kinds.Stack keys any_list words.push words.pop
      (λ list v. list ++ v ∷ []) last_taken stack_is_container (stack_is_split (stays keys));
}
keeps_keys kinds.Pqueue keys = record {
  begins = λ list formed. (formed, refl);
  gone = container_gone kinds.Pqueue keys Rises words.insert words.min inserted first_taken
      pqueue_is_container (pqueue_is_split (stays keys));
  kept = container_kept kinds.Pqueue keys Rises words.insert words.min inserted first_taken
      pqueue_is_container (pqueue_is_split (stays keys));
}
keeps_keys kinds.IntSet keys = record {
  begins = λ list formed v on. times-filter
      (λ (item : ℕ). not (is_among keys (key_of_item kinds.IntSet item))) v list (ap not on);
  gone = set_gone keys;
  kept = set_kept keys;
}
keeps_keys kinds.Map keys = record {
  begins = λ list formed. record {
    all_once = formed;
    few_once = keys_once-filter
        (λ (item : ℕ). not (is_among keys (key_of_item kinds.Map item))) list formed;
    same = λ key on. got-filter (λ (item : ℕ). not (is_among keys (key_of_item kinds.Map item))) key
        list (λ x e. ap not (ap keys e ∙ on));
  };
  gone = map_gone keys;
  kept = map_kept keys;
}
keeps_keys kinds.Register keys = record {
  begins = λ list formed. inl (sym (filter-all (λ (item : ℕ). true) list (λ x. refl)));
  gone = register_gone keys;
  kept = register_kept keys;
}
keeps_keys kinds.Counter keys = record {
  begins = λ list formed. sym (filter-all (λ (item : ℕ). true) list (λ x. refl));
  gone = λ whole few word same among. keyless_gone (is_known_word kinds.Counter word) keys among;
  kept = λ whole few word same among. keyless_kept kinds.Counter whole few word same;
}
keeps_keys kinds.CasRegister keys = record {
  begins = λ list formed. sym (filter-all (λ (item : ℕ). true) list (λ x. refl));
  gone =
      λ whole few word same among. keyless_gone (is_known_word kinds.CasRegister word) keys among;
  kept = λ whole few word same among. keyless_kept kinds.CasRegister whole few word same;
}

register_unanswered : (keys : ℕ → Bool) (whole few : List ℕ) (word : ℕ)
    → IsSameOrGone keys whole few
    → is_among keys (key_of_step kinds.Register word None) ≡ false
    → IsSameOrGone keys (kind_next kinds.Register whole word).0
    (kind_next kinds.Register few word).0
register_unanswered keys whole few word related among =
    elim (cases_Bool (is_operation_of word words.write)) [
      | inl writes ↦
          let reply : ℕ = (kind_next kinds.Register whole word).1 in
          (register_kept keys whole few word related
          (ap (is_among keys)
          (write_key word (Some reply) writes ∙ sym (write_key word None writes))
          ∙ among)).1
      | inr not_write ↦
          subst (λ (list : List ℕ). IsSameOrGone keys list (kind_next kinds.Register few word).0)
          (sym (register_stays whole word not_write))
          (subst (λ (list : List ℕ). IsSameOrGone keys whole list)
          (sym (register_stays few word not_write)) related)
    ]

-- Where calls of keys may be left out of a book, it has one open, or a step of an operation that is
-- about none of the keys before a reply is known keeps the relation, made on both lists.
pub unanswered_kept : (kind : Kind) (keys : ℕ → Bool) (book : List Page) → KeysMayGo kind book
    → (whole few : List ℕ) (word : ℕ) → Restricts kind keys whole few
    → is_among keys (key_of_step kind word None) ≡ false
    → HasOneOpen book
    ⊎ Restricts kind keys (kind_next kind whole word).0 (kind_next kind few word).0
unanswered_kept kinds.Queue keys book may whole few word related among = inl may
unanswered_kept kinds.Stack keys book may whole few word related among = inl may
unanswered_kept kinds.Pqueue keys book may whole few word related among = inl may
unanswered_kept kinds.IntSet keys book may whole few word related among =
    inr (set_kept keys whole few word related among).1
unanswered_kept kinds.Map keys book may whole few word related among =
    inr (map_kept keys whole few word related among).1
unanswered_kept kinds.Register keys book may whole few word related among =
    inr (register_unanswered keys whole few word related among)
unanswered_kept kinds.Counter keys book may whole few word related among =
    inr (keyless_kept kinds.Counter whole few word related).1
unanswered_kept kinds.CasRegister keys book may whole few word related among =
    inr (keyless_kept kinds.CasRegister whole few word related).1
