-- Which levels are named above which.
use Rattle.std.proofs.Common.{◌≡◌, ℕ, zero, suc, ◌+◌, ◌<◌, ◌⊎◌, ◌↔◌, ◌&&◌, ◌==◌, ◌∙◌, Bool, true, false, true≢false, List, [], ◌∷◌, ◌++◌, length, map, get_or, slice_set, Some, inl, inr, refl, sym, ap, subst, slice_get}
use Rattle.std.specs.List.{list_any}
use Rattle.std.proofs.lemmas.Bool.{cases_eq, eqb-true, eq-eqb}
use Rattle.std.proofs.lemmas.List.{length_push, map_push, map-set, get_or-set_same, get_or-set_other}
use Rattle.std.proofs.lemmas.Option.{same_Some}
use Rattle.list_laws.proofs.Places.{slice_get-push_old, slice_get-push_cases}
use Rattle.level_refutations.specs.declared.above.Above.{Above}
use Rattle.level_refutations.specs.declared.above.Base.{Base}
use Rattle.level_refutations.specs.Closed.{IsOneOf}
use Rattle.level_refutations.specs.Stored.{lists_of, AreEven, IsNamed, Names}
use Rattle.level_refutations.proofs.Sets.{in_more, once_more}

-- whether two bases are the same
abbrev pub is_same_base : Base → Base → Bool
is_same_base a b = (a.value == b.value) && (a.below == b.below)

both : (a b : Bool) → (a && b) ≡ true → (a ≡ true) × (b ≡ true)
both true b h = (refl, h)
both false b h = absurd (true≢false (sym h))

pub same_base : (a b : Base) → is_same_base a b ≡ true → a ≡ b
same_base a b h =
    let parts = both (a.value == b.value) (a.below == b.below) h in
    let made : ℕ → ℕ → Base = λ v l. record { value = v; below = l } in
    ap (λ (v : ℕ). made v a.below) (eqb-true a.value b.value parts.0)
    ∙ ap (made b.value) (eqb-true a.below b.below parts.1)

pub base_alike : (a : Base) → is_same_base a a ≡ true
base_alike a = ap (λ (c : Bool). c && (a.below == a.below)) (eq-eqb a.value a.value refl)
    ∙ eq-eqb a.below a.below refl

-- a list with one more empty list has the same lists
empty_more : (lists : List (List ℕ)) (k : ℕ) → get_or (lists ++ [] ∷ []) k [] ≡ get_or lists k []
empty_more [] zero = refl
empty_more [] (suc k) = refl
empty_more (x ∷ xs) zero = refl
empty_more (x ∷ xs) (suc k) = empty_more xs k

past_all : (lists : List (List ℕ)) → get_or lists (length lists) [] ≡ []
past_all [] = refl
past_all (x ∷ xs) = past_all xs

-- A base without levels names none.
pub placed_names : (keys : List Base) (lists : List (List ℕ)) (base : Base) (v l m : ℕ)
    → length keys ≡ length lists
    → IsNamed (keys ++ base ∷ []) (lists ++ [] ∷ []) v l m ↔ IsNamed keys lists v l m
placed_names keys lists base v l m long = (
  λ named.
      let one = subst (λ (xs : List ℕ). IsOneOf xs m) (empty_more lists named.0) named.2 in
      elim (slice_get-push_cases keys base named.0 (record { value = v; below = l }) named.1) [
        | inl old ↦ (named.0, old, one)
        | inr last ↦
            let none : get_or lists named.0 [] ≡ [] =
            ap (λ (k : ℕ). get_or lists k []) (last.0 ∙ long) ∙ past_all lists in
            let never = subst (λ (xs : List ℕ). IsOneOf xs m) none one in
            absurd (no_one m never)
      ],
  λ named. (
    named.0,
    slice_get-push_old keys base named.0 _ named.1,
    subst (λ (xs : List ℕ). IsOneOf xs m) (sym (empty_more lists named.0)) named.2,
  ),
)
  where
    no_one : (m : ℕ) → IsOneOf [] m → ⊥
    no_one m one = absurd cc

-- A base is placed: it goes last, with an empty list.
pub record IsPlaced (old new : Above) (base : Base) : Type 0 where
  pub new_base : list_any (is_same_base base) old.bases.keys ≡ false
  pub keys : new.bases.keys ≡ old.bases.keys ++ base ∷ []
  pub lists : lists_of new ≡ lists_of old ++ [] ∷ []

pub placed_even : (old new : Above) (base : Base) → IsPlaced old new base → AreEven old
    → AreEven new
placed_even old new base placed even = record {
  long = ap (λ (ks : List Base). length ks) placed.keys ∙ (length_push old.bases.keys base
      ∙ (ap (λ (n : ℕ). n + 1) even.long ∙ (sym (length_push (lists_of old) [])
      ∙ ap (λ (ls : List (List ℕ)). length ls) (sym placed.lists))));
  once = λ i j x at_i at_j. once_more is_same_base same_base base_alike old.bases.keys base
      even.once placed.new_base i j x
      (subst (λ (ks : List Base). slice_get ks i ≡ Some x) placed.keys at_i)
      (subst (λ (ks : List Base). slice_get ks j ≡ Some x) placed.keys at_j);
}

pub placed_as : (old new : Above) (base : Base) → IsPlaced old new base → AreEven old
    → (v l m : ℕ) → Names new v l m ↔ Names old v l m
placed_as old new base placed even v l m =
    subst (λ (ks : List Base). IsNamed ks (lists_of new) v l m ↔ Names old v l m) (sym placed.keys)
    (subst (λ (ls : List (List ℕ)). IsNamed (old.bases.keys ++ base ∷ []) ls v l m
    ↔ Names old v l m) (sym placed.lists)
    (placed_names old.bases.keys (lists_of old) base v l m even.long))

-- A level that is added to the list of a base is named by it besides.
pub added_names : (keys : List Base) (lists : List (List ℕ)) (index : ℕ) (base : Base)
    (level v l m : ℕ) → slice_get keys index ≡ Some base → index < length lists
    → IsNamed keys (slice_set lists index (get_or lists index [] ++ level ∷ [])) v l m
    ↔ (IsNamed keys lists v l m ⊎ ((v ≡ base.value) × (l ≡ base.below) × (m ≡ level)))
added_names keys lists index base level v l m at inside =
    let more : List ℕ = get_or lists index [] ++ level ∷ [] in
    let here : get_or (slice_set lists index more) index [] ≡ more =
    get_or-set_same lists index more [] inside in (
      λ named. elim (cases_eq named.0 index) [
        | inl same ↦
            let one = subst (λ (xs : List ℕ). IsOneOf xs m)
            (ap (λ (k : ℕ). get_or (slice_set lists index more) k []) same ∙ here) named.2 in
            let is : record { value = v; below = l } ≡ base =
            same_Some (record { value = v; below = l }) base
            (sym named.1 ∙ (ap (slice_get keys) same ∙ at)) in
            elim ((in_more (get_or lists index []) level m).0 one) [
              | inl old ↦ inl (index, ap (slice_get keys) (sym same) ∙ named.1, old)
              | inr last ↦
                  inr (ap (λ (b : Base). b.value) is, ap (λ (b : Base). b.below) is, last)
            ]
        | inr apart ↦ inl (
          named.0,
          named.1,
          subst (λ (xs : List ℕ). IsOneOf xs m)
              (get_or-set_other lists index named.0 more [] apart) named.2,
        )
      ],
      λ named. elim named [
        | inl old ↦ elim (cases_eq old.0 index) [
          | inl same ↦
              let one = subst (λ (k : ℕ). IsOneOf (get_or lists k []) m) same old.2 in (
                index,
                ap (slice_get keys) (sym same) ∙ old.1,
                subst (λ (xs : List ℕ). IsOneOf xs m)
                    (sym here) ((in_more (get_or lists index []) level m).1 (inl one)),
              )
          | inr apart ↦ (
            old.0,
            old.1,
            subst (λ (xs : List ℕ). IsOneOf xs m)
                (sym (get_or-set_other lists index old.0 more [] apart)) old.2,
          )
        ]
        | inr new ↦
            let made : ℕ → ℕ → Base = λ v l. record { value = v; below = l } in
            let is : base ≡ made v l =
            ap (λ (x : ℕ). made x base.below) (sym new.0) ∙ ap (made v) (sym new.1) in (
              index,
              at ∙ ap (λ (b : Base). Some b) is,
              subst (λ (xs : List ℕ). IsOneOf xs m)
                  (sym here) ((in_more (get_or lists index []) level m).1 (inr new.2)),
            )
      ],
    )

-- The base at an index names what its list has.
pub names_at : (above : Above) (base : Base) (index : ℕ) (listed : List ℕ) → AreEven above
    → slice_get above.bases.keys index ≡ Some base → get_or (lists_of above) index [] ≡ listed
    → (m : ℕ) → IsOneOf listed m ↔ Names above base.value base.below m
names_at above base index listed even at is m = (
  λ one. (index, at, subst (λ (xs : List ℕ). IsOneOf xs m) (sym is) one),
  λ named.
      let same : named.0 ≡ index = even.once named.0 index base named.1 at in
      subst (λ (xs : List ℕ). IsOneOf xs m)
      (ap (λ (k : ℕ). get_or (lists_of above) k []) same ∙ is) named.2,
)

-- the lists of vectors with one more, which is empty
pub lists_more : {V : Type 0} (items : V → List ℕ) (vs ws : List V) (v : V)
    → ws ≡ vs ++ v ∷ [] → items v ≡ [] → map items ws ≡ map items vs ++ [] ∷ []
lists_more {V} items vs ws v is none = ap (λ (xs : List V). map items xs) is ∙ (map_push items vs v
    ∙ ap (λ (l : List ℕ). map items vs ++ l ∷ []) none)

-- the lists of vectors of which one is changed
pub lists_set : {V : Type 0} (items : V → List ℕ) (vs : List V) (i : ℕ) (v : V) (l : List ℕ)
    → items v ≡ l → map items (slice_set vs i v) ≡ slice_set (map items vs) i l
lists_set {V} items vs i v l is = map-set items vs i v
    ∙ ap (λ (x : List ℕ). slice_set (map items vs) i x) is

-- a list of vectors has as many lists
pub lists_long : {V : Type 0} (items : V → List ℕ) (vs : List V)
    → length (map items vs) ≡ length vs
lists_long items [] = refl
lists_long items (v ∷ vs) = ap suc (lists_long items vs)
