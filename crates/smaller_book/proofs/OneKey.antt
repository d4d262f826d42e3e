-- What calls of one key of a set or a map make of lists that have at most this key.
use Rattle.std.proofs.Common.{◌≡◌, ◌≢◌, ℕ, ◌^◌, ◌<◌, ◌⊎◌, ◌==◌, ◌∙◌, Bool, true, false, List, [], ◌∷◌, unwrap_or, Option, Some, None, is_some, option_map, refl, sym, ap, subst, inl, inr, arith}
use Rattle.std.specs.Prelude.{option_to_list, IsTrue}
use Rattle.std.proofs.lemmas.Bool.{cond_both, cond-true, cond-false, true≢false, and_parts, eq-eqb, ltb-true}
use Rattle.std.proofs.lemmas.Option.{none-some, same_Some}
use Rattle.list_laws.proofs.Options.{if_some}
use Rattle.book_base.specs.declared.call.Call.{Call}
use Rattle.book_base.specs.Book.{Page, IsCall, operation_of, record_of}
use Rattle.seq_objects.specs.declared.kind.Kind.{Kind}
use Rattle.seq_objects.specs.declared.kind.Kind.TheVariants as kinds
use Rattle.seq_objects.specs.declared.int_set.IntSetOperation.{IntSetOperation}
use Rattle.seq_objects.specs.declared.int_set.IntSetOperation.TheVariants as int_set
use Rattle.seq_objects.specs.declared.map.MapOperation.{MapOperation}
use Rattle.seq_objects.specs.declared.map.MapOperation.TheVariants as map
use Rattle.seq_objects.specs.Words as words
use Rattle.seq_objects.specs.Words.{is_known_word, is_operation_of, code_of, has_arguments, argument_of, extra_of}
use Rattle.seq_objects.specs.Items.{place_of, inserted}
use Rattle.seq_objects.specs.IntSetSteps.{set_operation, set_after, added, removed, taken_out}
use Rattle.seq_objects.specs.MapSteps.{item_of, key_of, place_of_key, put_at, put_in, without, map_operation, map_after}
use Rattle.seq_objects.specs.Objects.{kind_next}
use Rattle.seq_objects.proofs.ReadOnly.{position-one}
use Rattle.smaller_book.specs.Unseen.{Keep}
use Rattle.smaller_book.specs.Keys.{key_of_step, key_of_call}
use Rattle.smaller_book.specs.OneKey.{is_set_or_map, IsOfOneKey, HoldsAtMost, HoldsOneKey, HasOneWithoutUnseenOfKind}
use Rattle.smaller_book.specs.Settings.{set_by_set, set_by_map}
use Rattle.smaller_book.proofs.Unseen.{has_one_without_unseen_among}

-- ---- maps

-- What holds of each operation of a map holds of the one that a word stands for.
map_cases : (word : ℕ) (P : Option MapOperation → Type 0)
    → (extra_of word < 2 ^ 32 → P (Some (map.Put (argument_of word) (extra_of word))))
    → P (Some (map.Get (argument_of word))) → P (Some (map.Delete (argument_of word))) → P None
    → P (map_operation word)
map_cases word P put get delete none =
    cond_both (is_operation_of word words.put) _ _ P
    (λ is. put (ltb-true (extra_of word) (2 ^ 32)
    (and_parts (code_of word == words.put.code) (has_arguments words.put.arity word) is).1))
    (λ _. cond_both (is_operation_of word words.get) _ _ P (λ _. get)
    (λ _. cond_both (is_operation_of word words.del) _ _ P (λ _. delete) (λ _. none)))

-- A put of the key leaves its item alone.
put_alone : (key value : ℕ) (list : List ℕ) → HoldsAtMost kinds.Map key list
    → (put_in list key value).0 ≡ item_of key value ∷ []
put_alone key value list holds = elim holds [
  | inl empty ↦ subst (λ (xs : List ℕ). (put_in xs key value).0 ≡ item_of key value ∷ [])
      (sym empty) refl
  | inr (item, is, about) ↦
      let place : place_of_key (item ∷ []) key ≡ Some 0 =
      position-one (λ (x : ℕ). key_of x == key) item
      (eq-eqb (key_of item) key (same_Some (key_of item) key about)) in
      subst (λ (xs : List ℕ). (put_in xs key value).0 ≡ item_of key value ∷ []) (sym is)
      (ap (λ (o : Option ℕ). (put_at (item ∷ []) (item_of key value) o).0) place)
]

-- A delete of the key leaves no item.
delete_all : (key : ℕ) (list : List ℕ) → HoldsAtMost kinds.Map key list
    → without list (place_of_key list key) ≡ []
delete_all key list holds = elim holds [
  | inl empty ↦ subst (λ (xs : List ℕ). without xs (place_of_key xs key) ≡ []) (sym empty) refl
  | inr (item, is, about) ↦
      let place : place_of_key (item ∷ []) key ≡ Some 0 =
      position-one (λ (x : ℕ). key_of x == key) item
      (eq-eqb (key_of item) key (same_Some (key_of item) key about)) in
      subst (λ (xs : List ℕ). without xs (place_of_key xs key) ≡ []) (sym is)
      (ap (without (item ∷ [])) place)
]

map_holds : (word key : ℕ) (list : List ℕ) → argument_of word ≡ key
    → HoldsAtMost kinds.Map key list
    → HoldsAtMost kinds.Map key (map_after list (map_operation word)).0
map_holds word key list about holds =
    let here : HoldsAtMost kinds.Map (argument_of word) list =
    subst (λ (k : ℕ). HoldsAtMost kinds.Map k list) (sym about) holds in
    subst (λ (k : ℕ). HoldsAtMost kinds.Map k (map_after list (map_operation word)).0) about
    (map_cases word
    (λ (o : Option MapOperation). HoldsAtMost kinds.Map (argument_of word) (map_after list o).0)
    (λ small.
    let is : key_of (item_of (argument_of word) (extra_of word)) ≡ argument_of word =
    omega (arith, small) in
    inr (
      item_of (argument_of word) (extra_of word),
      put_alone (argument_of word) (extra_of word) list here,
      ap Some is,
    ))
    here (inl (delete_all (argument_of word) list here)) here)

pub map_sets : (word key : ℕ) (list : List ℕ) (item : Option ℕ) → argument_of word ≡ key
    → HoldsAtMost kinds.Map key list → set_by_map (map_operation word) ≡ Some item
    → (map_after list (map_operation word)).0 ≡ option_to_list item
map_sets word key list item about holds =
    let here : HoldsAtMost kinds.Map (argument_of word) list =
    subst (λ (k : ℕ). HoldsAtMost kinds.Map k list) (sym about) holds in
    map_cases word
    (λ (o : Option MapOperation). set_by_map o ≡ Some item
    → (map_after list o).0 ≡ option_to_list item)
    (λ small is. put_alone (argument_of word) (extra_of word) list here
    ∙ ap option_to_list (same_Some (Some (item_of (argument_of word) (extra_of word))) item is))
    (λ is. absurd (none-some item is))
    (λ is. delete_all (argument_of word) list here ∙ ap option_to_list (same_Some None item is))
    (λ is. absurd (none-some item is))

-- ---- sets

-- What holds of each operation of a set holds of the one that a word stands for.
set_cases : (word : ℕ) (P : Option IntSetOperation → Type 0)
    → P (Some (int_set.Add (argument_of word))) → P (Some (int_set.Remove (argument_of word)))
    → P (Some (int_set.Has (argument_of word))) → P None → P (set_operation word)
set_cases word P add remove has none =
    cond_both (is_operation_of word words.add) _ _ P (λ _. add)
    (λ _. cond_both (is_operation_of word words.remove) _ _ P (λ _. remove)
    (λ _. cond_both (is_operation_of word words.has) _ _ P (λ _. has) (λ _. none)))

-- An addition of the value leaves it alone.
add_alone : (value : ℕ) (list : List ℕ) → HoldsAtMost kinds.IntSet value list
    → (added list value).0 ≡ value ∷ []
add_alone value list holds = elim holds [
  | inl empty ↦ subst (λ (xs : List ℕ). (added xs value).0 ≡ value ∷ []) (sym empty) refl
  | inr (item, is, about) ↦
      let same : item ≡ value = same_Some item value about in
      let place : place_of (item ∷ []) value ≡ Some 0 =
      position-one (λ (x : ℕ). x == value) item (eq-eqb item value same) in
      let there : (added (item ∷ []) value).0 ≡ item ∷ [] =
      ap (λ (step : List ℕ × ℕ). step.0)
      (cond-true _ _ _ (ap (λ (o : Option ℕ). is_some o) place)) in
      subst (λ (xs : List ℕ). (added xs value).0 ≡ value ∷ []) (sym is)
      (there ∙ ap (λ (x : ℕ). x ∷ []) same)
]

-- A removal of the value leaves no item.
remove_all : (value : ℕ) (list : List ℕ) → HoldsAtMost kinds.IntSet value list
    → (removed list value).0 ≡ []
remove_all value list holds = elim holds [
  | inl empty ↦ subst (λ (xs : List ℕ). (removed xs value).0 ≡ []) (sym empty) refl
  | inr (item, is, about) ↦
      let place : place_of (item ∷ []) value ≡ Some 0 =
      position-one (λ (x : ℕ). x == value) item
      (eq-eqb item value (same_Some item value about)) in
      subst (λ (xs : List ℕ). (removed xs value).0 ≡ []) (sym is)
      (ap (λ (o : Option ℕ). (taken_out (item ∷ []) o).0) place)
]

set_holds : (word key : ℕ) (list : List ℕ) → argument_of word ≡ key
    → HoldsAtMost kinds.IntSet key list
    → HoldsAtMost kinds.IntSet key (set_after list (set_operation word)).0
set_holds word key list about holds =
    let here : HoldsAtMost kinds.IntSet (argument_of word) list =
    subst (λ (k : ℕ). HoldsAtMost kinds.IntSet k list) (sym about) holds in
    subst (λ (k : ℕ). HoldsAtMost kinds.IntSet k (set_after list (set_operation word)).0) about
    (set_cases word
    (λ (o : Option IntSetOperation).
    HoldsAtMost kinds.IntSet (argument_of word) (set_after list o).0)
    (inr (argument_of word, add_alone (argument_of word) list here, refl))
    (inl (remove_all (argument_of word) list here)) here here)

pub set_sets : (word key : ℕ) (list : List ℕ) (item : Option ℕ) → argument_of word ≡ key
    → HoldsAtMost kinds.IntSet key list → set_by_set (set_operation word) ≡ Some item
    → (set_after list (set_operation word)).0 ≡ option_to_list item
set_sets word key list item about holds =
    let here : HoldsAtMost kinds.IntSet (argument_of word) list =
    subst (λ (k : ℕ). HoldsAtMost kinds.IntSet k list) (sym about) holds in
    set_cases word
    (λ (o : Option IntSetOperation). set_by_set o ≡ Some item
    → (set_after list o).0 ≡ option_to_list item)
    (λ is. add_alone (argument_of word) list here
    ∙ ap option_to_list (same_Some (Some (argument_of word)) item is))
    (λ is. remove_all (argument_of word) list here ∙ ap option_to_list (same_Some None item is))
    (λ is. absurd (none-some item is)) (λ is. absurd (none-some item is))

-- ---- books of one key

-- The argument of each operation of a book of one key is this key.
argument_is_key : (kind : Kind) (word key : ℕ) (reply : Option ℕ) → IsTrue (is_set_or_map kind)
    → key_of_step kind word reply ≡ Some key → argument_of word ≡ key
argument_is_key kinds.IntSet word key reply keyed is = same_Some (argument_of word) key
    (if_some (is_known_word kinds.IntSet word) (Some (argument_of word)) key is).1
argument_is_key kinds.Map word key reply keyed is = same_Some (argument_of word) key
    (if_some (is_known_word kinds.Map word) (Some (argument_of word)) key is).1
argument_is_key kinds.Register word key reply keyed is = absurd (true≢false (sym keyed))
argument_is_key kinds.CasRegister word key reply keyed is = absurd (true≢false (sym keyed))
argument_is_key kinds.Queue word key reply keyed is = absurd (true≢false (sym keyed))
argument_is_key kinds.Stack word key reply keyed is = absurd (true≢false (sym keyed))
argument_is_key kinds.Pqueue word key reply keyed is = absurd (true≢false (sym keyed))
argument_is_key kinds.Counter word key reply keyed is = absurd (true≢false (sym keyed))

next_holds : (kind : Kind) (word key : ℕ) (list : List ℕ) → IsTrue (is_set_or_map kind)
    → argument_of word ≡ key → HoldsAtMost kind key list
    → HoldsAtMost kind key (kind_next kind list word).0
unfolding kind_next
next_holds kinds.IntSet word key list keyed about holds = set_holds word key list about holds
next_holds kinds.Map word key list keyed about holds = map_holds word key list about holds
next_holds kinds.Register word key list keyed about holds = absurd (true≢false (sym keyed))
next_holds kinds.CasRegister word key list keyed about holds = absurd (true≢false (sym keyed))
next_holds kinds.Queue word key list keyed about holds = absurd (true≢false (sym keyed))
next_holds kinds.Stack word key list keyed about holds = absurd (true≢false (sym keyed))
next_holds kinds.Pqueue word key list keyed about holds = absurd (true≢false (sym keyed))
next_holds kinds.Counter word key list keyed about holds = absurd (true≢false (sym keyed))

-- The argument of each operation of a book of one key is this key.
pub argument_in : (kind : Kind) (book : List Page) (key : ℕ) (call : Call)
    → IsOfOneKey kind book key → IsCall book call
    → argument_of (unwrap_or (operation_of book call) 0) ≡ key
argument_in kind book key call one inside =
    argument_is_key kind (unwrap_or (operation_of book call) 0) key
    (option_map (λ r. r.reply) (record_of book call)) one.keyed (one.all call inside)

-- In a book of one key the calls keep the lists that have at most this key.
pub one_key_stays : (kind : Kind) (book : List Page)
    → Keep (kind_next kind) book (HoldsOneKey kind book)
one_key_stays kind book call list inside holds may key one =
    next_holds kind (unwrap_or (operation_of book call) 0) key list one.keyed
    (argument_in kind book key call one inside) (holds key one)

-- Where a part lacks only read-only and unseen calls, a legal order of the book gives one of the
-- part.
pub has_one_of_kind : HasOneWithoutUnseenOfKind
has_one_of_kind kind book names part list is lacks holds legal =
    has_one_without_unseen_among (kind_next kind) book names part (HoldsOneKey kind book) is
    (one_key_stays kind book) lacks list holds legal
