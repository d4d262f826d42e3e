-- Sets and maps without an item of a key: no operation finds the key, and only one that puts it in
-- gives an item of it.
use Rattle.std.proofs.Common.{◌≡◌, ◌≢◌, ◌⊎◌, ◌∙◌, ℕ, suc, ◌==◌, ◌<◌, ◌^◌, Bool, true, false, List, [], ◌∷◌, length, drop, get_or, slice_index, Option, Some, None, is_some, cond, if◌then◌else◌, refl, sym, ap, subst, inl, inr, arith}
use Rattle.std.specs.List.{filter}
use Rattle.std.proofs.lemmas.Bool.{cases_Bool, cond-true, cond-false, false≢true, both_ways, eq-eqb, ne_eqb}
use Rattle.std.proofs.lemmas.Option.{same_Some, none-some}
use Rattle.list_laws.proofs.Options.{cases_Option}
use Rattle.legal_orders.specs.Keys.{IsKeyed}
use Rattle.seq_objects.specs.declared.kind.Kind.{Kind}
use Rattle.seq_objects.specs.declared.kind.Kind.TheVariants as kinds
use Rattle.seq_objects.specs.Words as words
use Rattle.seq_objects.specs.Words.{OperationEntry, entries, entry_of, is_operation_of, is_known_word, code_of, argument_of, extra_of}
use Rattle.seq_objects.specs.declared.map.MapOperation.{MapOperation}
use Rattle.seq_objects.specs.declared.map.MapOperation.TheVariants as maps
use Rattle.seq_objects.specs.Replies.{reply_no, reply_none, reply_value, reply_yes, reply_bad, is_value}
use Rattle.seq_objects.specs.Items.{place_of, place_for, inserted}
use Rattle.seq_objects.specs.IntSetSteps.{added, removed, set_operation, set_after}
use Rattle.seq_objects.specs.MapSteps.{item_of, key_of, place_of_key, put_at, put_in, value_at, without, map_operation, map_after}
use Rattle.seq_objects.proofs.ReadOnly.{value_is_small}
use Rattle.kind_search.proofs.KeyedItems.{filter-found, filter-insert_first, filter-none, filter-set_first}
use Rattle.kind_search.specs.Keys.{key_in_set, set_key, set_part, key_in_map, map_key, map_part}
use Rattle.seq_objects.specs.Objects.{kind_next}
use Rattle.kind_search.proofs.SetKeys.{set_is_keyed}
use Rattle.kind_search.proofs.MapKeys.{map_is_keyed}
use Rattle.broken_rules.proofs.ObjectStanding.{after_add, after_remove, after_has, added_tells, taken_out_tells}
use Rattle.broken_rules.specs.Deeds.{key_of_word, puts_key, finds_key, takes_key_out, misses_key}
use Rattle.broken_rules.proofs.Codes.{has_code}

-- An object of keys, whose keys are those of a kind's words. Without any item an operation finds
-- nothing, and makes no item of its key unless it puts the key in.
pub record FindsWhatIsPut (kind : Kind) (key : ℕ → Option ℕ) (part : ℕ → List ℕ → List ℕ)
    (next : List ℕ → ℕ → List ℕ × ℕ) : Type 0 where
  pub keyed : IsKeyed key part next
  pub keys : (word : ℕ) → key_of_word kind word ≡ key word
  pub none : (k : ℕ) → part k [] ≡ []
  pub leaves : (word k : ℕ) → key word ≡ Some k → puts_key word ≡ false
      → part k (next [] word).0 ≡ []
  pub lacks : (word k : ℕ) → key word ≡ Some k → finds_key kind word (next [] word).1 ≡ false

-- An object of keys keeps what is put in. An operation that puts its key in leaves an item of it,
-- one that doesn't take its key out leaves it in, and where an item has the key, no operation on it
-- misses it.
pub record KeepsWhatIsPut (kind : Kind) (key : ℕ → Option ℕ) (part : ℕ → List ℕ → List ℕ)
    (next : List ℕ → ℕ → List ℕ × ℕ) : Type 0 where
  pub puts : (list : List ℕ) (word k : ℕ) → key word ≡ Some k → puts_key word ≡ true
      → part k (next list word).0 ≢ []
  pub keeps : (list : List ℕ) (word k : ℕ) → key word ≡ Some k → takes_key_out kind word ≡ false
      → part k list ≢ [] → part k (next list word).0 ≢ []
  pub tells : (list : List ℕ) (word k : ℕ) → key word ≡ Some k → part k list ≢ []
      → misses_key kind word (next list word).1 ≡ false

-- the key of a word, by the tests for the three entries of a kind
key_by_tests : (a b c : Bool) (v : ℕ) (x y z : OperationEntry)
    → (if is_some (cond a (Some x) (cond b (Some y) (cond c (Some z) None))) then Some v else None)
    ≡ cond a (Some v) (cond b (Some v) (cond c (Some v) None))
key_by_tests true b c v x y z = refl
key_by_tests false true c v x y z = refl
key_by_tests false false true v x y z = refl
key_by_tests false false false v x y z = refl

-- an operation of this entry has the code 1
puts_by_entry : (word : ℕ) (entry : OperationEntry) → entry.code ≡ 1
    → is_operation_of word entry ≡ true
    → puts_key word ≡ true
puts_by_entry word entry one is = eq-eqb (code_of word) 1 (has_code word entry is ∙ one)

not_of_code : (word : ℕ) (entry : OperationEntry) → entry.code ≡ 1 → puts_key word ≡ false
    → is_operation_of word entry ≡ false
not_of_code word entry one other = elim (cases_Bool (is_operation_of word entry)) [
  | inl is ↦ absurd (false≢true (sym other ∙ puts_by_entry word entry one is))
  | inr not ↦ not
]

-- ---- sets

set_key_by_tests : (word : ℕ) → key_of_word kinds.IntSet word
    ≡ cond (is_operation_of word words.add) (Some (argument_of word))
    (cond (is_operation_of word words.remove) (Some (argument_of word))
    (cond (is_operation_of word words.has) (Some (argument_of word)) None))
unfolding is_known_word entry_of entries
set_key_by_tests word = key_by_tests (is_operation_of word words.add)
    (is_operation_of word words.remove) (is_operation_of word words.has) (argument_of word)
    words.add words.remove words.has

no_set_key : (word : ℕ) → is_operation_of word words.add ≡ false
    → is_operation_of word words.remove ≡ false → is_operation_of word words.has ≡ false
    → set_key word ≡ None
no_set_key word not_add not_remove not_has =
    ap key_in_set (cond-false (is_operation_of word words.add) _ _ not_add
    ∙ (cond-false (is_operation_of word words.remove) _ _ not_remove
    ∙ cond-false (is_operation_of word words.has) _ _ not_has))

set_keys : (word : ℕ) → key_of_word kinds.IntSet word ≡ set_key word
set_keys word = elim (cases_Bool (is_operation_of word words.add)) [
  | inl adds ↦
      let key : set_key word ≡ Some (argument_of word) =
      ap key_in_set (cond-true (is_operation_of word words.add) _ _ adds) in
      set_key_by_tests word
      ∙ (cond-true (is_operation_of word words.add) _ _ adds ∙ sym key)
  | inr not_add ↦ elim (cases_Bool (is_operation_of word words.remove)) [
    | inl removes ↦
        let key : set_key word ≡ Some (argument_of word)
        = ap key_in_set (cond-false (is_operation_of word words.add) _ _ not_add
        ∙ cond-true (is_operation_of word words.remove) _ _ removes) in
        set_key_by_tests word
        ∙ (cond-false (is_operation_of word words.add) _ _ not_add
        ∙ (cond-true (is_operation_of word words.remove) _ _ removes ∙ sym key))
    | inr not_remove ↦ elim (cases_Bool (is_operation_of word words.has)) [
      | inl has ↦
          let key : set_key word ≡ Some (argument_of word)
          = ap key_in_set (cond-false (is_operation_of word words.add) _ _ not_add
          ∙ (cond-false (is_operation_of word words.remove) _ _ not_remove
          ∙ cond-true (is_operation_of word words.has) _ _ has)) in
          set_key_by_tests word
          ∙ (cond-false (is_operation_of word words.add) _ _ not_add
          ∙ (cond-false (is_operation_of word words.remove) _ _ not_remove
          ∙ (cond-true (is_operation_of word words.has) _ _ has ∙ sym key)))
      | inr not_has ↦
          set_key_by_tests word
          ∙ (cond-false (is_operation_of word words.add) _ _ not_add
          ∙ (cond-false (is_operation_of word words.remove) _ _ not_remove
          ∙ (cond-false (is_operation_of word words.has) _ _ not_has
          ∙ sym (no_set_key word not_add not_remove not_has))))
    ]
  ]
]

-- an operation that isn't an add doesn't change an empty set
set_leaves : (word k : ℕ) → set_key word ≡ Some k → puts_key word ≡ false
    → set_part k (set_after [] (set_operation word)).0 ≡ []
set_leaves word k is other =
    let part : List ℕ × ℕ → List ℕ = λ r. set_part k r.0 in
    let not_add : is_operation_of word words.add ≡ false =
    not_of_code word words.add refl other in
    elim (cases_Bool (is_operation_of word words.remove)) [
      | inl removes ↦ ap part (after_remove [] word removes)
      | inr not_remove ↦ elim (cases_Bool (is_operation_of word words.has)) [
        | inl has ↦ ap part (after_has [] word has)
        | inr not_has ↦
            absurd (none-some k (sym (no_set_key word not_add not_remove not_has) ∙ is))
      ]
    ]

-- an operation on an empty set finds nothing
set_lacks : (word k : ℕ) → set_key word ≡ Some k
    → finds_key kinds.IntSet word (set_after [] (set_operation word)).1 ≡ false
set_lacks word k is =
    let finds : List ℕ × ℕ → Bool = λ r. finds_key kinds.IntSet word r.1 in
    elim (cases_Bool (is_operation_of word words.add)) [
      | inl adds ↦
          ap finds (after_add [] word adds)
          ∙ cond-true (puts_key word) (reply_yes == reply_no) (reply_yes == reply_yes)
          (puts_by_entry word words.add refl adds)
      | inr not_add ↦ elim (cases_Bool (is_operation_of word words.remove)) [
        | inl removes ↦
            let puts : puts_key word ≡ false =
            ap (λ (n : ℕ). n == 1) (has_code word words.remove removes) in
            ap finds (after_remove [] word removes)
            ∙ cond-false (puts_key word) (reply_no == reply_no) (reply_no == reply_yes) puts
        | inr not_remove ↦ elim (cases_Bool (is_operation_of word words.has)) [
          | inl has ↦
              let puts : puts_key word ≡ false =
              ap (λ (n : ℕ). n == 1) (has_code word words.has has) in
              ap finds (after_has [] word has)
              ∙ cond-false (puts_key word) (reply_no == reply_no) (reply_no == reply_yes) puts
          | inr not_has ↦
              absurd (none-some k (sym (no_set_key word not_add not_remove not_has) ∙ is))
        ]
      ]
    ]

pub set_finds_what_is_put : FindsWhatIsPut kinds.IntSet set_key set_part (kind_next kinds.IntSet)
unfolding kind_next
set_finds_what_is_put = record {
  keyed = set_is_keyed;
  keys = set_keys;
  none = λ k. refl;
  leaves = set_leaves;
  lacks = set_lacks;
}

-- a list with an item isn't empty
some_item : (xs : List ℕ) (x : ℕ) (rest : List ℕ) → xs ≡ x ∷ rest → xs ≢ []
some_item xs x rest is none = absurd (omega (arith, ap length is, ap length none))

-- the key of an operation of one entry of a set
set_entry : (word k : ℕ) → set_key word ≡ Some k
    → ((is_operation_of word words.add ≡ true) × (argument_of word ≡ k))
    ⊎ (((is_operation_of word words.remove ≡ true) × (argument_of word ≡ k))
    ⊎ ((is_operation_of word words.has ≡ true) × (argument_of word ≡ k)))
set_entry word k is = elim (cases_Bool (is_operation_of word words.add)) [
  | inl adds ↦
      let key : set_key word ≡ Some (argument_of word) =
      ap key_in_set (cond-true (is_operation_of word words.add) _ _ adds) in
      inl (adds, same_Some (argument_of word) k (sym key ∙ is))
  | inr not_add ↦ elim (cases_Bool (is_operation_of word words.remove)) [
    | inl removes ↦
        let key : set_key word ≡ Some (argument_of word)
        = ap key_in_set (cond-false (is_operation_of word words.add) _ _ not_add
        ∙ cond-true (is_operation_of word words.remove) _ _ removes) in
        inr (inl (removes, same_Some (argument_of word) k (sym key ∙ is)))
    | inr not_remove ↦ elim (cases_Bool (is_operation_of word words.has)) [
      | inl has ↦
          let key : set_key word ≡ Some (argument_of word)
          = ap key_in_set (cond-false (is_operation_of word words.add) _ _ not_add
          ∙ (cond-false (is_operation_of word words.remove) _ _ not_remove
          ∙ cond-true (is_operation_of word words.has) _ _ has)) in
          inr (inr (has, same_Some (argument_of word) k (sym key ∙ is)))
      | inr not_has ↦
          absurd (none-some k (sym (no_set_key word not_add not_remove not_has) ∙ is))
    ]
  ]
]

-- an operation of an entry with another code than 1 doesn't put its key in
puts_none : (word : ℕ) (entry : OperationEntry) → entry.code ≢ 1
    → is_operation_of word entry ≡ true → puts_key word ≡ false
puts_none word entry other is =
    ne_eqb (code_of word) 1 (λ one. other (sym (has_code word entry is) ∙ one))

-- a value that is added is in the set
set_added : (list : List ℕ) (v : ℕ) → set_part v (added list v).0 ≢ []
set_added list v =
    let p : ℕ → Bool = λ x. x == v in
    let made : Bool → List ℕ × ℕ =
    λ there. if there then (list, reply_no) else (inserted list v, reply_yes) in
    let after : Option ℕ → List ℕ = λ o. filter p (made (is_some o)).0 in
    elim (cases_Option (place_of list v)) as (λ _. after (place_of list v) ≢ []) [
      | inl none ↦
          some_item (after (place_of list v)) v []
          (ap after none ∙ filter-insert_first p list (place_for list v) v (eq-eqb v v refl)
          (filter-none p list none))
      | inr found ↦
          some_item (after (place_of list v)) (get_or list found.0 0)
          (filter p (drop (suc found.0) list))
          (ap after found.1 ∙ filter-found p list found.0 found.1)
    ]

-- a value of which the set has an item has a place
set_placed : (list : List ℕ) (v : ℕ) → set_part v list ≢ [] → is_some (place_of list v) ≡ true
set_placed list v there = elim (cases_Option (place_of list v)) [
  | inl none ↦ absurd (there (filter-none (λ x. x == v) list none))
  | inr found ↦ ap is_some found.1
]

set_puts : (list : List ℕ) (word k : ℕ) → set_key word ≡ Some k → puts_key word ≡ true
    → set_part k (set_after list (set_operation word)).0 ≢ []
set_puts list word k is puts = elim (set_entry word k is) [
  | inl adds ↦
      subst (λ (xs : List ℕ). set_part k xs ≢ [])
      (sym (ap (λ (r : List ℕ × ℕ). r.0) (after_add list word adds.0)
      ∙ ap (λ (v : ℕ). (added list v).0) adds.1)) (set_added list k)
  | inr other ↦ elim other [
    | inl removes ↦
        absurd (both_ways (puts_key word) (puts_none word words.remove (omega arith) removes.0) puts)
    | inr has ↦
        absurd (both_ways (puts_key word) (puts_none word words.has (omega arith) has.0) puts)
  ]
]

set_keeps : (list : List ℕ) (word k : ℕ) → set_key word ≡ Some k
    → takes_key_out kinds.IntSet word ≡ false → set_part k list ≢ []
    → set_part k (set_after list (set_operation word)).0 ≢ []
set_keeps list word k is keep there = elim (set_entry word k is) [
  | inl adds ↦ set_puts list word k is (puts_by_entry word words.add refl adds.0)
  | inr other ↦ elim other [
    | inl removes ↦
        absurd (both_ways (takes_key_out kinds.IntSet word) keep
        (eq-eqb (code_of word) 2 (has_code word words.remove removes.0)))
    | inr has ↦
        subst (λ (xs : List ℕ). set_part k xs ≢ [])
        (sym (ap (λ (r : List ℕ × ℕ). r.0) (after_has list word has.0))) there
  ]
]

set_tells : (list : List ℕ) (word k : ℕ) → set_key word ≡ Some k → set_part k list ≢ []
    → misses_key kinds.IntSet word (set_after list (set_operation word)).1 ≡ false
set_tells list word k is there =
    let misses : List ℕ × ℕ → Bool = λ r. misses_key kinds.IntSet word r.1 in
    let placed = set_placed list k there in
    elim (set_entry word k is) [
      | inl adds ↦
          let reply : (set_after list (set_operation word)).1 ≡ reply_no
          = ap (λ (r : List ℕ × ℕ). r.1) (after_add list word adds.0)
          ∙ (ap (λ (v : ℕ). (added list v).1) adds.1
          ∙ (added_tells list k ∙ cond-true (is_some (place_of list k)) reply_no reply_yes placed)) in
          ap (misses_key kinds.IntSet word) reply
          ∙ cond-true (puts_key word) (reply_no == reply_yes) (reply_no == reply_no)
          (puts_by_entry word words.add refl adds.0)
      | inr other ↦ elim other [
        | inl removes ↦
            let reply : (set_after list (set_operation word)).1 ≡ reply_yes
            = ap (λ (r : List ℕ × ℕ). r.1) (after_remove list word removes.0)
            ∙ (ap (λ (v : ℕ). (removed list v).1) removes.1
            ∙ (taken_out_tells list (place_of list k)
            ∙ cond-true (is_some (place_of list k)) reply_yes reply_no placed)) in
            ap (misses_key kinds.IntSet word) reply
            ∙ cond-false (puts_key word) (reply_yes == reply_yes) (reply_yes == reply_no)
            (puts_none word words.remove (omega arith) removes.0)
        | inr has ↦
            let reply : (set_after list (set_operation word)).1 ≡ reply_yes
            = ap (λ (r : List ℕ × ℕ). r.1) (after_has list word has.0)
            ∙ (ap (λ (v : ℕ). if is_some (place_of list v) then reply_yes else reply_no) has.1
            ∙ cond-true (is_some (place_of list k)) reply_yes reply_no placed) in
            ap (misses_key kinds.IntSet word) reply
            ∙ cond-false (puts_key word) (reply_yes == reply_yes) (reply_yes == reply_no)
            (puts_none word words.has (omega arith) has.0)
      ]
    ]

pub set_keeps_what_is_put : KeepsWhatIsPut kinds.IntSet set_key set_part (kind_next kinds.IntSet)
unfolding kind_next
set_keeps_what_is_put = record { puts = set_puts; keeps = set_keeps; tells = set_tells }

-- ---- maps

map_key_by_tests : (word : ℕ) → key_of_word kinds.Map word
    ≡ cond (is_operation_of word words.put) (Some (argument_of word))
    (cond (is_operation_of word words.get) (Some (argument_of word))
    (cond (is_operation_of word words.del) (Some (argument_of word)) None))
unfolding is_known_word entry_of entries
map_key_by_tests word = key_by_tests (is_operation_of word words.put)
    (is_operation_of word words.get) (is_operation_of word words.del) (argument_of word)
    words.put words.get words.del

map_keys : (word : ℕ) → key_of_word kinds.Map word ≡ map_key word
map_keys word = elim (cases_Bool (is_operation_of word words.put)) [
  | inl puts ↦
      let key : map_key word ≡ Some (argument_of word) =
      ap key_in_map (cond-true (is_operation_of word words.put) _ _ puts) in
      map_key_by_tests word
      ∙ (cond-true (is_operation_of word words.put) _ _ puts ∙ sym key)
  | inr not_put ↦ elim (cases_Bool (is_operation_of word words.get)) [
    | inl gets ↦
        let key : map_key word ≡ Some (argument_of word)
        = ap key_in_map (cond-false (is_operation_of word words.put) _ _ not_put
        ∙ cond-true (is_operation_of word words.get) _ _ gets) in
        map_key_by_tests word
        ∙ (cond-false (is_operation_of word words.put) _ _ not_put
        ∙ (cond-true (is_operation_of word words.get) _ _ gets ∙ sym key))
    | inr not_get ↦ elim (cases_Bool (is_operation_of word words.del)) [
      | inl deletes ↦
          let key : map_key word ≡ Some (argument_of word)
          = ap key_in_map (cond-false (is_operation_of word words.put) _ _ not_put
          ∙ (cond-false (is_operation_of word words.get) _ _ not_get
          ∙ cond-true (is_operation_of word words.del) _ _ deletes)) in
          map_key_by_tests word
          ∙ (cond-false (is_operation_of word words.put) _ _ not_put
          ∙ (cond-false (is_operation_of word words.get) _ _ not_get
          ∙ (cond-true (is_operation_of word words.del) _ _ deletes ∙ sym key)))
      | inr not_del ↦
          let key : map_key word ≡ None
          = ap key_in_map (cond-false (is_operation_of word words.put) _ _ not_put
          ∙ (cond-false (is_operation_of word words.get) _ _ not_get
          ∙ cond-false (is_operation_of word words.del) _ _ not_del)) in
          map_key_by_tests word
          ∙ (cond-false (is_operation_of word words.put) _ _ not_put
          ∙ (cond-false (is_operation_of word words.get) _ _ not_get
          ∙ (cond-false (is_operation_of word words.del) _ _ not_del ∙ sym key)))
    ]
  ]
]

-- an operation that isn't a put doesn't change an empty map, and its reply says that there is
-- nothing
map_step : (word : ℕ) → is_operation_of word words.put ≡ false
    → ((map_after [] (map_operation word)).0 ≡ [])
    × (is_value (map_after [] (map_operation word)).1 ≡ false)
map_step word not_put =
    let key : ℕ = argument_of word in
    elim (cases_Bool (is_operation_of word words.get)) [
      | inl gets ↦
          let step : map_after [] (map_operation word)
          ≡ ([], value_at [] (place_of_key [] key))
          = ap (map_after []) (cond-false (is_operation_of word words.put) _ _ not_put
          ∙ cond-true (is_operation_of word words.get) _ _ gets) in
          (ap (λ (r : List ℕ × ℕ). r.0) step, ap (λ (r : List ℕ × ℕ). is_value r.1) step)
      | inr not_get ↦ elim (cases_Bool (is_operation_of word words.del)) [
        | inl deletes ↦
            let step : map_after [] (map_operation word)
            ≡ (without [] (place_of_key [] key), value_at [] (place_of_key [] key))
            = ap (map_after []) (cond-false (is_operation_of word words.put) _ _ not_put
            ∙ (cond-false (is_operation_of word words.get) _ _ not_get
            ∙ cond-true (is_operation_of word words.del) _ _ deletes)) in
            (ap (λ (r : List ℕ × ℕ). r.0) step, ap (λ (r : List ℕ × ℕ). is_value r.1) step)
        | inr not_del ↦
            let step : map_after [] (map_operation word) ≡ ([], reply_bad)
            = ap (map_after []) (cond-false (is_operation_of word words.put) _ _ not_put
            ∙ (cond-false (is_operation_of word words.get) _ _ not_get
            ∙ cond-false (is_operation_of word words.del) _ _ not_del)) in
            (ap (λ (r : List ℕ × ℕ). r.0) step, ap (λ (r : List ℕ × ℕ). is_value r.1) step)
      ]
    ]

map_leaves : (word k : ℕ) → map_key word ≡ Some k → puts_key word ≡ false
    → map_part k (map_after [] (map_operation word)).0 ≡ []
map_leaves word k is other =
    ap (map_part k) (map_step word (not_of_code word words.put refl other)).0

-- an operation on an empty map finds nothing
map_lacks : (word k : ℕ) → map_key word ≡ Some k
    → finds_key kinds.Map word (map_after [] (map_operation word)).1 ≡ false
map_lacks word k is = elim (cases_Bool (is_operation_of word words.put)) [
  | inl puts ↦
      let step : map_after [] (map_operation word)
      ≡ put_in [] (argument_of word) (extra_of word) =
      ap (map_after []) (cond-true (is_operation_of word words.put) _ _ puts) in
      ap (λ (r : List ℕ × ℕ). is_value r.1) step
  | inr not_put ↦ (map_step word not_put).1
]

pub map_finds_what_is_put : FindsWhatIsPut kinds.Map map_key map_part (kind_next kinds.Map)
unfolding kind_next
map_finds_what_is_put = record {
  keyed = map_is_keyed;
  keys = map_keys;
  none = λ k. refl;
  leaves = map_leaves;
  lacks = map_lacks;
}

-- the key of an operation of one entry of a map, and the step of this operation
map_entry : (list : List ℕ) (word k : ℕ) → map_key word ≡ Some k
    → ((is_operation_of word words.put ≡ true) × (argument_of word ≡ k)
    × (map_operation word ≡ Some (maps.Put k (extra_of word))))
    ⊎ (((is_operation_of word words.get ≡ true)
    × (map_after list (map_operation word) ≡ (list, value_at list (place_of_key list k))))
    ⊎ ((is_operation_of word words.del ≡ true)
    × ((map_after list (map_operation word)).1 ≡ value_at list (place_of_key list k))))
map_entry list word k is = elim (cases_Bool (is_operation_of word words.put)) [
  | inl puts ↦
      let asked : map_operation word ≡ Some (maps.Put (argument_of word) (extra_of word)) =
      cond-true (is_operation_of word words.put) _ _ puts in
      let same : argument_of word ≡ k =
      same_Some (argument_of word) k (sym (ap key_in_map asked) ∙ is) in
      inl (puts, same, asked ∙ ap (λ (v : ℕ). Some (maps.Put v (extra_of word))) same)
  | inr not_put ↦ elim (cases_Bool (is_operation_of word words.get)) [
    | inl gets ↦
        let asked : map_operation word ≡ Some (maps.Get (argument_of word))
        = cond-false (is_operation_of word words.put) _ _ not_put
        ∙ cond-true (is_operation_of word words.get) _ _ gets in
        let same : argument_of word ≡ k =
        same_Some (argument_of word) k (sym (ap key_in_map asked) ∙ is) in
        inr (inl (
          gets,
          ap (map_after list) asked
              ∙ ap (λ (v : ℕ). (list, value_at list (place_of_key list v))) same,
        ))
    | inr not_get ↦ elim (cases_Bool (is_operation_of word words.del)) [
      | inl deletes ↦
          let asked : map_operation word ≡ Some (maps.Delete (argument_of word))
          = cond-false (is_operation_of word words.put) _ _ not_put
          ∙ (cond-false (is_operation_of word words.get) _ _ not_get
          ∙ cond-true (is_operation_of word words.del) _ _ deletes) in
          let same : argument_of word ≡ k =
          same_Some (argument_of word) k (sym (ap key_in_map asked) ∙ is) in
          inr (inr (
            deletes,
            ap (λ (o : Option MapOperation). (map_after list o).1) asked
                ∙ ap (λ (v : ℕ). value_at list (place_of_key list v)) same,
          ))
      | inr not_del ↦
          let key : map_key word ≡ None
          = ap key_in_map (cond-false (is_operation_of word words.put) _ _ not_put
          ∙ (cond-false (is_operation_of word words.get) _ _ not_get
          ∙ cond-false (is_operation_of word words.del) _ _ not_del)) in
          absurd (none-some k (sym key ∙ is))
    ]
  ]
]

-- a key that is put is in the map
map_put : (list : List ℕ) (k value : ℕ) → value < 2 ^ 32 → map_part k (put_in list k value).0 ≢ []
map_put list k value small =
    let p : ℕ → Bool = λ item. key_of item == k in
    let item : ℕ = item_of k value in
    let own : key_of item ≡ k = omega (arith, small) in
    let passes : p item ≡ true = eq-eqb (key_of item) k own in
    let after : Option ℕ → List ℕ = λ o. filter p (put_at list item o).0 in
    elim (cases_Option (place_of_key list k)) as (λ _. after (place_of_key list k) ≢ []) [
      | inl none ↦
          some_item (after (place_of_key list k)) item []
          (ap after none ∙ filter-insert_first p list (place_for list item) item passes
          (filter-none p list none))
      | inr found ↦
          some_item (after (place_of_key list k)) item (filter p (drop (suc found.0) list))
          (ap after found.1 ∙ filter-set_first p list found.0 item found.1 passes)
    ]

map_puts : (list : List ℕ) (word k : ℕ) → map_key word ≡ Some k → puts_key word ≡ true
    → map_part k (map_after list (map_operation word)).0 ≢ []
map_puts list word k is puts = elim (map_entry list word k is) [
  | inl put ↦
      subst (λ (o : Option MapOperation). map_part k (map_after list o).0 ≢ []) (sym put.2)
      (map_put list k (extra_of word) (value_is_small word k (extra_of word) put.2))
  | inr other ↦ elim other [
    | inl gets ↦
        absurd (both_ways (puts_key word) (puts_none word words.get (omega arith) gets.0) puts)
    | inr deletes ↦
        absurd (both_ways (puts_key word) (puts_none word words.del (omega arith) deletes.0) puts)
  ]
]

map_keeps : (list : List ℕ) (word k : ℕ) → map_key word ≡ Some k
    → takes_key_out kinds.Map word ≡ false → map_part k list ≢ []
    → map_part k (map_after list (map_operation word)).0 ≢ []
map_keeps list word k is keep there = elim (map_entry list word k is) [
  | inl put ↦ map_puts list word k is (puts_by_entry word words.put refl put.0)
  | inr other ↦ elim other [
    | inl gets ↦
        subst (λ (xs : List ℕ). map_part k xs ≢ [])
        (sym (ap (λ (r : List ℕ × ℕ). r.0) gets.1)) there
    | inr deletes ↦
        absurd (both_ways (takes_key_out kinds.Map word) keep
        (eq-eqb (code_of word) 3 (has_code word words.del deletes.0)))
  ]
]

-- a reply that gives an item isn't `none`
value_is_some : (item : ℕ) → misses_key kinds.Map 0 (reply_value item) ≡ false
value_is_some item = ne_eqb (reply_value item) reply_none (λ same. omega (arith, same))

-- the reply with the value of an item, at its place, isn't `none`
told_there : (list : List ℕ) (k : ℕ) → map_part k list ≢ []
    → misses_key kinds.Map 0 (value_at list (place_of_key list k)) ≡ false
told_there list k there = elim (cases_Option (place_of_key list k)) [
  | inl none ↦ absurd (there (filter-none (λ item. key_of item == k) list none))
  | inr found ↦
      ap (λ (o : Option ℕ). misses_key kinds.Map 0 (value_at list o)) found.1
      ∙ value_is_some (slice_index list found.0)
]

put_told : (list : List ℕ) (item : ℕ) (place : Option ℕ)
    → (put_at list item place).1 ≡ value_at list place
put_told list item None = refl
put_told list item (Some place) = refl

map_tells : (list : List ℕ) (word k : ℕ) → map_key word ≡ Some k → map_part k list ≢ []
    → misses_key kinds.Map word (map_after list (map_operation word)).1 ≡ false
map_tells list word k is there =
    let told = told_there list k there in
    elim (map_entry list word k is) [
      | inl put ↦
          ap (λ (o : Option MapOperation). misses_key kinds.Map word (map_after list o).1) put.2
          ∙ (ap (misses_key kinds.Map word)
          (put_told list (item_of k (extra_of word)) (place_of_key list k)) ∙ told)
      | inr other ↦ elim other [
        | inl gets ↦
            ap (λ (r : List ℕ × ℕ). misses_key kinds.Map word r.1) gets.1 ∙ told
        | inr deletes ↦ ap (misses_key kinds.Map word) deletes.1 ∙ told
      ]
    ]

pub map_keeps_what_is_put : KeepsWhatIsPut kinds.Map map_key map_part (kind_next kinds.Map)
unfolding kind_next
map_keeps_what_is_put = record { puts = map_puts; keeps = map_keeps; tells = map_tells }
