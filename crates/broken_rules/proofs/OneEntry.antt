-- Maps hold each key once: after each run of a map at most one item has a key. What an operation
-- makes of this item, and what it replies.
use Rattle.std.proofs.Common.{◌≡◌, ◌≢◌, ◌⊎◌, ◌∙◌, ℕ, ◌<◌, ◌/◌, ◌^◌, ◌==◌, not, Bool, true, false, cond, List, [], ◌∷◌, length, Option, Some, None, refl, sym, ap, inl, inr, arith}
use Rattle.std.specs.Prelude.{position}
use Rattle.std.proofs.lemmas.Bool.{false≢true, both_ways, and_parts, or_cases, eqb-true, eq-eqb, not-true}
use Rattle.std.proofs.lemmas.Option.{same_Some, none-some}
use Rattle.book_base.specs.declared.call.Record.{Record}
use Rattle.seq_objects.specs.declared.map.MapOperation.{MapOperation}
use Rattle.seq_objects.specs.declared.map.MapOperation.TheVariants as maps
use Rattle.seq_objects.specs.Replies.{reply_none, reply_value, value_of, is_value}
use Rattle.seq_objects.specs.MapSteps.{item_of, key_of, place_of_key, put_at, value_at, without, map_operation, map_after}
use Rattle.seq_objects.proofs.ReadOnly.{value_is_small}
use Rattle.kind_search.specs.Keys.{key_in_map, map_key, map_part}
use Rattle.kind_search.proofs.MapKeys.{map_is_keyed}
use Rattle.broken_rules.specs.Entries.{entry_in, is_other, got_other, excludes}
use Rattle.broken_rules.proofs.Keys.{cases_key}

-- at most one item of a list has a key
abbrev pub HasOne : ℕ → List ℕ → Type 0
HasOne k list = (map_part k list ≡ [])
    ⊎ ((x : ℕ) × (map_part k list ≡ x ∷ []) × (key_of x ≡ k))

-- the list of a map after an operation word, and the reply
abbrev pub after : List ℕ → ℕ → List ℕ × ℕ
after list word = map_after list (map_operation word)

-- ---- a list of one item

kept_by : (x : ℕ) (b : Bool) → b ≡ true → cond b (x ∷ []) [] ≡ x ∷ []
kept_by x true e = refl
kept_by x false e = absurd (false≢true e)

own_part : (k x : ℕ) → key_of x ≡ k → map_part k (x ∷ []) ≡ x ∷ []
own_part k x is = kept_by x (key_of x == k) (eq-eqb (key_of x) k is)

found_by : (x : ℕ) (b : Bool) → b ≡ true → position (λ (y : ℕ). b) (x ∷ []) ≡ Some 0
found_by x true e = refl
found_by x false e = absurd (false≢true e)

own_place : (k x : ℕ) → key_of x ≡ k → place_of_key (x ∷ []) k ≡ Some 0
own_place k x is = found_by x (key_of x == k) (eq-eqb (key_of x) k is)

item_key : (k v : ℕ) → v < 2 ^ 32 → key_of (item_of k v) ≡ k
item_key k v small = omega (arith, small)

-- ---- the operations on a key

-- an operation on a key is a put, a get or a delete of it
asked_cases : (o : Option MapOperation) (k : ℕ) → key_in_map o ≡ Some k
    → ((v : ℕ) × (o ≡ Some (maps.Put k v)))
    ⊎ ((o ≡ Some (maps.Get k)) ⊎ (o ≡ Some (maps.Delete k)))
asked_cases None k e = absurd (none-some k e)
asked_cases (Some (maps.Put key value)) k e =
    inl (value, ap (λ (j : ℕ). Some (maps.Put j value)) (same_Some key k e))
asked_cases (Some (maps.Get key)) k e =
    inr (inl (ap (λ (j : ℕ). Some (maps.Get j)) (same_Some key k e)))
asked_cases (Some (maps.Delete key)) k e =
    inr (inr (ap (λ (j : ℕ). Some (maps.Delete j)) (same_Some key k e)))

-- a put leaves the entry that it puts in
put_leaves : (list : List ℕ) (word k v : ℕ) → HasOne k list
    → map_operation word ≡ Some (maps.Put k v)
    → map_part k (after list word).0 ≡ item_of k v ∷ []
put_leaves list word k v one asked =
    let item : ℕ = item_of k v in
    let own : map_part k (item ∷ []) ≡ item ∷ [] =
    own_part k item (item_key k v (value_is_small word k v asked)) in
    let key : map_key word ≡ Some k = ap key_in_map asked in
    elim one [
      | inl none ↦
          map_is_keyed.own list [] word k key none
          ∙ (ap (λ (o : Option MapOperation). map_part k (map_after [] o).0) asked ∙ own)
      | inr held ↦
          let x : ℕ = held.0 in
          map_is_keyed.own list (x ∷ []) word k key (held.1 ∙ sym (own_part k x held.2))
          ∙ (ap (λ (o : Option MapOperation). map_part k (map_after (x ∷ []) o).0) asked
          ∙ (ap (λ (p : Option ℕ). map_part k (put_at (x ∷ []) item p).0) (own_place k x held.2)
          ∙ own))
    ]

get_leaves : (list : List ℕ) (word k : ℕ) → map_operation word ≡ Some (maps.Get k)
    → map_part k (after list word).0 ≡ map_part k list
get_leaves list word k asked =
    ap (λ (o : Option MapOperation). map_part k (map_after list o).0) asked

-- a delete leaves nothing
delete_leaves : (list : List ℕ) (word k : ℕ) → HasOne k list
    → map_operation word ≡ Some (maps.Delete k)
    → map_part k (after list word).0 ≡ []
delete_leaves list word k one asked =
    let key : map_key word ≡ Some k = ap key_in_map asked in
    elim one [
      | inl none ↦
          map_is_keyed.own list [] word k key none
          ∙ ap (λ (o : Option MapOperation). map_part k (map_after [] o).0) asked
      | inr held ↦
          let x : ℕ = held.0 in
          map_is_keyed.own list (x ∷ []) word k key (held.1 ∙ sym (own_part k x held.2))
          ∙ (ap (λ (o : Option MapOperation). map_part k (map_after (x ∷ []) o).0) asked
          ∙ ap (λ (p : Option ℕ). map_part k (without (x ∷ []) p)) (own_place k x held.2))
    ]

-- A map that has a key at most once has it at most once after each operation.
pub one_after : (list : List ℕ) (word k : ℕ) → HasOne k list → HasOne k (after list word).0
one_after list word k one = elim (cases_key (map_key word) k) [
  | inr other ↦
      let same = map_is_keyed.others list word k other in
      elim one [
        | inl none ↦ inl (same ∙ none)
        | inr held ↦ inr (held.0, same ∙ held.1, held.2)
      ]
  | inl key ↦ elim (asked_cases (map_operation word) k key) [
    | inl put ↦ inr (
      item_of k put.0,
      put_leaves list word k put.0 one put.1,
      item_key k put.0 (value_is_small word k put.0 put.1),
    )
    | inr rest ↦ elim rest [
      | inl get ↦
          let same = get_leaves list word k get in
          elim one [
            | inl none ↦ inl (same ∙ none)
            | inr held ↦ inr (held.0, same ∙ held.1, held.2)
          ]
      | inr delete ↦ inl (delete_leaves list word k one delete)
    ]
  ]
]

-- ---- replies

-- an operation on a key that no item has replies `none`
none_replied : (list : List ℕ) (word k : ℕ) → map_key word ≡ Some k → map_part k list ≡ []
    → (after list word).1 ≡ reply_none
none_replied list word k key none =
    map_is_keyed.reply list [] word k key none ∙ elim (asked_cases (map_operation word) k key) as
    (λ _. (after [] word).1 ≡ reply_none) [
      | inl put ↦ ap (λ (o : Option MapOperation). (map_after [] o).1) put.1
      | inr rest ↦ elim rest as (λ _. (after [] word).1 ≡ reply_none) [
        | inl get ↦ ap (λ (o : Option MapOperation). (map_after [] o).1) get
        | inr delete ↦ ap (λ (o : Option MapOperation). (map_after [] o).1) delete
      ]
    ]

-- an operation on a key replies the value of the one item that has it
value_replied : (list : List ℕ) (word k x : ℕ) → map_key word ≡ Some k
    → map_part k list ≡ x ∷ [] → key_of x ≡ k → (after list word).1 ≡ reply_value x
value_replied list word k x key held is =
    let place = own_place k x is in
    let one : List ℕ = x ∷ [] in
    map_is_keyed.reply list one word k key (held ∙ sym (own_part k x is))
    ∙ elim (asked_cases (map_operation word) k key) as (λ _. (after one word).1 ≡ reply_value x) [
      | inl put ↦
          ap (λ (o : Option MapOperation). (map_after one o).1) put.1
          ∙ ap (λ (p : Option ℕ). (put_at one (item_of k put.0) p).1) place
      | inr rest ↦ elim rest as (λ _. (after one word).1 ≡ reply_value x) [
        | inl get ↦
            ap (λ (o : Option MapOperation). (map_after one o).1) get
            ∙ ap (λ (p : Option ℕ). value_at one p) place
        | inr delete ↦
            ap (λ (o : Option MapOperation). (map_after one o).1) delete
            ∙ ap (λ (p : Option ℕ). value_at one p) place
      ]
    ]

shown_test : (b : Bool) (x y : ℕ) → cond b (Some x) None ≡ Some y → (b ≡ true) × (x ≡ y)
shown_test true x y e = (refl, same_Some x y e)
shown_test false x y e = absurd (none-some y e)

-- An operation on a key that shows an entry of it finds this entry there.
pub shown_is_there : (list : List ℕ) (word k item : ℕ) → HasOne k list → map_key word ≡ Some k
    → entry_in k (after list word).1 ≡ Some item → map_part k list ≡ item ∷ []
shown_is_there list word k item one key shows =
    let reply : ℕ = (after list word).1 in
    let parts = shown_test (is_value reply) (item_of k (value_of reply)) item shows in
    elim one [
      | inl none ↦
          absurd (both_ways (is_value reply)
          (ap is_value (none_replied list word k key none)) parts.0)
      | inr held ↦
          let x : ℕ = held.0 in
          let replied : reply ≡ reply_value x = value_replied list word k x key held.1 held.2 in
          let value : value_of reply ≡ value_of (reply_value x) = ap value_of replied in
          let same : x ≡ item = omega (arith, value, parts.1, held.2) in
          held.1 ∙ ap (λ (y : ℕ). y ∷ []) same
    ]

-- an entry that is shown is made of its key and a value
pub entry_value : (k reply item : ℕ) → entry_in k reply ≡ Some item
    → (v : ℕ) × (item_of k v ≡ item) × (v < 2 ^ 32)
entry_value k reply item shows =
    let parts = shown_test (is_value reply) (item_of k (value_of reply)) item shows in
    (value_of reply, parts.1, omega arith)

-- ---- what isn't there

-- the entry isn't the item of its key, which at most one item has
abbrev pub Lacks : ℕ → ℕ → List ℕ → Type 0
Lacks k entry list = HasOne k list × (map_part k list ≢ entry ∷ [])

abbrev first_in : List ℕ → ℕ
first_in [] = 0
first_in (x ∷ xs) = x

other_item : (x y : ℕ) → x ≢ y → x ∷ [] ≢ y ∷ []
other_item x y apart e = apart (ap first_in e)

pub no_item : (xs : List ℕ) (y : ℕ) → xs ≡ [] → xs ≢ y ∷ []
no_item xs y none one = absurd (omega (arith, ap length none, ap length one))

-- An entry that isn't there is there only after a put of it.
pub lacks_after : (list : List ℕ) (word k v : ℕ) → Lacks k (item_of k v) list
    → map_operation word ≢ Some (maps.Put k v) → Lacks k (item_of k v) (after list word).0
lacks_after list word k v lacks other_put =
    let entry : ℕ = item_of k v in (
      one_after list word k lacks.0,
      elim (cases_key (map_key word) k) [
        | inr other ↦ λ e. lacks.1 (sym (map_is_keyed.others list word k other) ∙ e)
        | inl key ↦ elim (asked_cases (map_operation word) k key) [
          | inl put ↦ λ e.
              other_item (item_of k put.0) entry
              (λ same.
              let value : put.0 ≡ v = omega (arith, same) in
              other_put (put.1 ∙ ap (λ (w : ℕ). Some (maps.Put k w)) value))
              (sym (put_leaves list word k put.0 lacks.0 put.1) ∙ e)
          | inr rest ↦ elim rest [
            | inl get ↦ λ e. lacks.1 (sym (get_leaves list word k get) ∙ e)
            | inr delete ↦
                no_item (map_part k (after list word).0) entry
                (delete_leaves list word k lacks.0 delete)
          ]
        ]
      ],
    )

not_same : (x y : ℕ) → not (x == y) ≡ true → x ≢ y
not_same x y differs same = both_ways (x == y) (not-true (x == y) differs) (eq-eqb x y same)

shown_by_test : (b : Bool) (x y : ℕ) → b ≡ true → x ≡ y → cond b (Some x) None ≡ Some y
shown_by_test true x y e same = ap Some same
shown_by_test false x y e same = absurd (false≢true e)

-- the reply with the value of an entry shows this entry
shows_itself : (k v : ℕ) → v < 2 ^ 32 → entry_in k (reply_value (item_of k v)) ≡ Some (item_of k v)
shows_itself k v small =
    let reply : ℕ = reply_value (item_of k v) in
    shown_by_test (is_value reply) (item_of k (value_of reply)) (item_of k v)
    (eq-eqb (reply / 2 ^ 32) 2 (omega (arith, small))) (omega (arith, small))

same_key : (k v key : ℕ) → v < 2 ^ 32 → (key == key_of (item_of k v)) ≡ true → key ≡ k
same_key k v key small e = eqb-true key (key_of (item_of k v)) e ∙ item_key k v small

-- a get that says so by its record excludes an entry
got_lacks : (list : List ℕ) (word k v : ℕ) (o : Option Record) → v < 2 ^ 32
    → ((r : Record) → o ≡ Some r → r.reply ≡ (after list word).1)
    → got_other (item_of k v) k o ≡ true → map_key word ≡ Some k
    → map_part k list ≢ item_of k v ∷ []
got_lacks list word k v None small says e key there = absurd (false≢true e)
got_lacks list word k v (Some r) small says e key there =
    let entry : ℕ = item_of k v in
    let replied : r.reply ≡ reply_value entry =
    says r refl ∙ value_replied list word k entry key there (item_key k v small) in
    elim (or_cases (r.reply == reply_none) (is_other entry (entry_in k r.reply)) e) [
      | inl none ↦
          let nothing : r.reply ≡ reply_none = eqb-true r.reply reply_none none in
          absurd (omega (arith, nothing, replied))
      | inr differs ↦
          let shown : entry_in k r.reply ≡ Some entry
          = ap (entry_in k) replied ∙ shows_itself k v small in
          absurd (both_ways (is_other entry (entry_in k r.reply))
          (ap (is_other entry) shown ∙ ap not (eq-eqb entry entry refl)) differs)
    ]

-- After an operation that excludes an entry this entry isn't there.
lacks_by : (list : List ℕ) (word k v : ℕ) (answer : Option Record) → v < 2 ^ 32
    → ((r : Record) → answer ≡ Some r → r.reply ≡ (after list word).1)
    → HasOne k list → (o : Option MapOperation) → map_operation word ≡ o
    → excludes (item_of k v) o answer ≡ true
    → map_part k (after list word).0 ≢ item_of k v ∷ []
lacks_by list word k v answer small says one None is e there = absurd (false≢true e)
lacks_by list word k v answer small says one (Some (maps.Put key value)) is e there =
    let entry : ℕ = item_of k v in
    let parts = and_parts (key == key_of entry) (not (item_of key value == entry)) e in
    let same = same_key k v key small parts.0 in
    let put : map_operation word ≡ Some (maps.Put k value) =
    is ∙ ap (λ (j : ℕ). Some (maps.Put j value)) same in
    other_item (item_of k value) entry
    (λ one_item. not_same (item_of key value) entry parts.1
    (ap (λ (j : ℕ). item_of j value) same ∙ one_item))
    (sym (put_leaves list word k value one put) ∙ there)
lacks_by list word k v answer small says one (Some (maps.Get key)) is e there =
    let entry : ℕ = item_of k v in
    let parts = and_parts (key == key_of entry) (got_other entry key answer) e in
    let same = same_key k v key small parts.0 in
    let get : map_operation word ≡ Some (maps.Get k) =
    is ∙ ap (λ (j : ℕ). Some (maps.Get j)) same in
    got_lacks list word k v answer small says
    (sym (ap (λ (j : ℕ). got_other entry j answer) same) ∙ parts.1) (ap key_in_map get)
    (sym (get_leaves list word k get) ∙ there)
lacks_by list word k v answer small says one (Some (maps.Delete key)) is e there =
    let delete : map_operation word ≡ Some (maps.Delete k) =
    is ∙ ap (λ (j : ℕ). Some (maps.Delete j)) (same_key k v key small e) in
    no_item (map_part k (after list word).0) (item_of k v) (delete_leaves list word k one delete)
    there

pub lacks_excluded : (list : List ℕ) (word k v : ℕ) (answer : Option Record) → v < 2 ^ 32
    → ((r : Record) → answer ≡ Some r → r.reply ≡ (after list word).1)
    → excludes (item_of k v) (map_operation word) answer ≡ true
    → HasOne k list → Lacks k (item_of k v) (after list word).0
lacks_excluded list word k v answer small says excluded one = (
  one_after list word k one,
  lacks_by list word k v answer small says one (map_operation word) refl excluded,
)
