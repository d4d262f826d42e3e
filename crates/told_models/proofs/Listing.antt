-- The steps of a table in a map, and its promises in a set.
use Rattle.std.proofs.Common.{◌≡◌, ◌⊎◌, ℕ, suc, ◌+◌, ◌<◌, ◌≤◌, Bool, true, false, cond, List, [], ◌∷◌, ◌++◌, length, take, get_or, slice_get, Option, None, Some, refl, sym, ap, subst, ◌∙◌, inl, inr, true≢false, arith}
use Rattle.std.specs.Prelude.{◌||◌}
use Rattle.std.specs.List.{list_any}
use Rattle.std.specs.Map.{lookup}
use Rattle.std.specs.Ordering.{is_eq}
use Rattle.std.specs.BTreeMap.{BTreeMap, get}
use Rattle.std.specs.BTreeSet.{BTreeSet, contains}
use Rattle.std.proofs.lemmas.Bool.{cases_Bool, cond-true, cond-false}
use Rattle.std.proofs.lemmas.Bool.Decides.{nat_tests}
use Rattle.std.proofs.lemmas.List.{take_more}
use Rattle.std.proofs.lemmas.List.Folds.{list_any-append}
use Rattle.std.proofs.lemmas.Option.{none-some, slice_get_within, get_or_from_slice_get}
use Rattle.list_laws.proofs.Options.{cases_Option}
use Rattle.told_models.specs.declared.table.Transition.{Transition}
use Rattle.told_models.specs.Table.{Table, is_same_pair, pair_order, told_step, HasToldStep}

pub pair_same : (a b : ℕ × ℕ) → is_eq (pair_order a b) ≡ is_same_pair a b
pair_same a b = grind (arith, nat_tests)

pair_parts : (a b : ℕ × ℕ) → is_eq (pair_order a b) ≡ true → (a.0 ≡ b.0) × (a.1 ≡ b.1)
pair_parts a b same = grind (arith, nat_tests)

pair_itself : (a : ℕ × ℕ) → is_eq (pair_order a a) ≡ true
pair_itself a = grind (arith, nat_tests)

-- a map with one more told step
module _ (table : Table) (old new : BTreeMap (ℕ × ℕ) Transition) (state op : ℕ)
    (transition : Transition) (told : told_step table state op ≡ Some transition)
    (put : (pair : ℕ × ℕ) → get pair_order new pair
    ≡ cond (is_eq (pair_order (state, op) pair)) (Some transition) (get pair_order old pair)) where
  pub put_here : get pair_order new (state, op) ≡ told_step table state op
  put_here = put (state, op)
      ∙ cond-true (is_eq (pair_order (state, op) (state, op))) (Some transition)
      (get pair_order old (state, op)) (pair_itself (state, op)) ∙ sym told

  -- at each pair the map has what was told there, or what it had before
  pub put_there : (other word : ℕ) → (get pair_order new (other, word) ≡ told_step table other word)
      ⊎ (get pair_order new (other, word) ≡ get pair_order old (other, word))
  put_there other word = elim (cases_Bool (is_eq (pair_order (state, op) (other, word)))) [
    | inl same ↦
        let parts = pair_parts (state, op) (other, word) same in
        inl (subst (λ (s : ℕ). get pair_order new (s, word) ≡ told_step table s word) parts.0
        (subst (λ (o : ℕ). get pair_order new (state, o) ≡ told_step table state o) parts.1
        put_here))
    | inr apart ↦ inr (put (other, word)
        ∙ cond-false (is_eq (pair_order (state, op) (other, word))) (Some transition)
        (get pair_order old (other, word)) apart)
  ]

  pub put_kept : (other word : ℕ) → get pair_order old (other, word) ≡ told_step table other word
      → get pair_order new (other, word) ≡ told_step table other word
  put_kept other word was = elim (put_there other word) [
    | inl is ↦ is
    | inr same ↦ same ∙ was
  ]

  pub put_own : (other word : ℕ) → HasToldStep table old other word
      → HasToldStep table new other word
  put_own other word own step has = elim (put_there other word) [
    | inl is ↦ sym is ∙ has
    | inr same ↦ own step (sym same ∙ has)
  ]

-- a map that has each told step, and no others
pub has_steps : (table : Table) (map : BTreeMap (ℕ × ℕ) Transition)
    → ((state op : ℕ) → HasToldStep table map state op)
    → ((state op : ℕ) (transition : Transition) → told_step table state op ≡ Some transition
    → get pair_order map (state, op) ≡ told_step table state op)
    → (state op : ℕ) → get pair_order map (state, op) ≡ told_step table state op
has_steps table map own all state op = elim (cases_Option (told_step table state op)) [
  | inr told ↦ all state op told.0 told.1
  | inl untold ↦ elim (cases_Option (get pair_order map (state, op))) [
    | inr has ↦ absurd (none-some has.0 (sym untold ∙ own state op has.0 has.1))
    | inl has_none ↦ has_none ∙ sym untold
  ]
]

-- a set with the first so many of some promises, and one more
pub promised_more : (promises : List (ℕ × ℕ)) (old new : BTreeSet (ℕ × ℕ)) (k : ℕ) (next : ℕ × ℕ)
    → slice_get promises k ≡ Some next
    → ((pair : ℕ × ℕ) → contains pair_order new pair
    ≡ cond (is_eq (pair_order next pair)) true (contains pair_order old pair))
    → ((pair : ℕ × ℕ) → contains pair_order old pair
    ≡ list_any (is_same_pair pair) (take k promises))
    → (pair : ℕ × ℕ) → contains pair_order new pair
    ≡ list_any (is_same_pair pair) (take (k + 1) promises)
promised_more promises old new k next at put were pair =
    put pair ∙ ap (cond (is_eq (pair_order next pair)) true) (were pair)
    ∙ either (is_eq (pair_order next pair)) (list_any (is_same_pair pair) (take k promises))
    (is_same_pair pair next) (turned next pair)
    ∙ sym (list_any-append (is_same_pair pair) (take k promises) (next ∷ []))
    ∙ sym (ap (list_any (is_same_pair pair)) (take_more promises k next
    (slice_get_within promises k next at)
    ∙ ap (λ (last : ℕ × ℕ). take k promises ++ last ∷ [])
    (get_or_from_slice_get promises k next next at)))
  where
    turned : (a b : ℕ × ℕ) → is_eq (pair_order a b) ≡ is_same_pair b a
    turned a b = grind (arith, nat_tests)

    either : (a b c : Bool) → a ≡ c → cond a true b ≡ b || (c || false)
    either true true true same = refl
    either true false true same = refl
    either false true false same = refl
    either false false false same = refl
    either true b false same = absurd (true≢false same)
    either false b true same = absurd (true≢false (sym same))
