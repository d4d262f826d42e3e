-- The calls of one caller in an order of all calls, where no call of the caller is left out and
-- each comes after its earlier ones.
use Rattle.std.proofs.Common.{◌≡◌, ℕ, zero, suc, ◌<◌, Bool, true, false, cond, ◌==◌, List, [], ◌∷◌, length, map, take, get_or, Some, slice_get, refl, sym, ap, ◌∙◌, subst, inl, inr, arith, eq-eqb}
use Rattle.std.specs.Prelude.{AllPairs, Contains}
use Rattle.std.specs.List.{filter, range_with_len}
use Rattle.std.specs.Option.{option_map}
use Rattle.std.proofs.lemmas.Bool.{cases_lt, cond-true, eqb-true}
use Rattle.std.proofs.lemmas.List.{length-map, length-take}
use Rattle.std.proofs.lemmas.List.Elements.{All-contains, All-filter, All-contains_itself, filter_passes}
use Rattle.std.proofs.lemmas.List.FromFn.{length-range_with_len, get_or-range_with_len}
use Rattle.std.proofs.lemmas.List.Kept.{AllPairs-filter}
use Rattle.std.proofs.lemmas.Option.{same_Some, none-some, slice_get_past, slice_get_within, slice_get-get_or, slice_get-map, get_or_from_slice_get}
use Rattle.list_laws.proofs.Prefixes.{slice_get-take_within, same_from_places}
use Rattle.list_laws.proofs.Options.{map_some}
use Rattle.list_laws.proofs.Ordered.{IsMember, IsOrderedBy, IsOrderedBy-same}
use Rattle.world_core.specs.History.{Done, call_of}
use Rattle.world_laws.proofs.LegalOrders.{stands, contained}

-- an element that passes a test is in the list that the test keeps
kept_by_filter : {X : Type 0} (p : X → Bool) (xs : List X) (k : ℕ) (x : X) → p x ≡ true
    → slice_get xs k ≡ Some x → IsMember (filter p xs) x
kept_by_filter p [] k x passes at = absurd (none-some x at)
kept_by_filter p (y ∷ ys) zero x passes at =
    let same : y ≡ x = same_Some y x at in
    let here : filter p (y ∷ ys) ≡ y ∷ filter p ys =
    cond-true (p y) (y ∷ filter p ys) (filter p ys) (ap p same ∙ passes) in
    (0, ap (λ (zs : List _). slice_get zs 0) here ∙ ap Some same)
kept_by_filter p (y ∷ ys) (suc k) x passes at =
    let there = kept_by_filter p ys k x passes at in
    elim (p y) as (λ b. IsMember (cond b (y ∷ filter p ys) (filter p ys)) x) [
      | true ↦ (suc there.0, there.1)
      | false ↦ there
    ]

-- the number at place k of the numbers below m is k
range_at : (m k x : ℕ) → slice_get (range_with_len 0 m) k ≡ Some x → (x ≡ k) × (k < m)
range_at m k x at =
    let low : k < m =
    omega (arith, slice_get_within (range_with_len 0 m) k x at, length-range_with_len 0 m) in (
      omega (
        arith,
        get_or_from_slice_get (range_with_len 0 m) k x 0 at,
        get_or-range_with_len 0 m k 0 low,
      ),
      low,
    )

range_has : (m k : ℕ) → k < m → slice_get (range_with_len 0 m) k ≡ Some k
range_has m k low =
    let one : get_or (range_with_len 0 m) k 0 ≡ k =
    omega (arith, get_or-range_with_len 0 m k 0 low) in
    slice_get-get_or (range_with_len 0 m) k 0 (omega (arith, low, length-range_with_len 0 m))
    ∙ ap Some one

-- rising numbers below m, of which none is left out, are all numbers below m
all_below : (xs : List ℕ) (m : ℕ) → IsOrderedBy (λ (a b : ℕ). a < b) xs
    → ((k x : ℕ) → slice_get xs k ≡ Some x → x < m) → ((x : ℕ) → x < m → IsMember xs x)
    → xs ≡ range_with_len 0 m
all_below xs m rises few all =
    let less : ℕ → ℕ → Type 0 = λ a b. a < b in
    IsOrderedBy-same less xs (range_with_len 0 m) rises
    (λ j k x y at bt before. let a = range_at m j x at in let b = range_at m k y bt in
    omega (arith, a.0, b.0, before))
    (λ x y at bt a b. omega (arith, a, b)) (λ x y at bt a b. omega (arith, a, b))
    (λ x there. (x, range_has m x (few there.0 x there.1)))
    (λ x there. let a = range_at m there.0 x there.1 in all x (omega (arith, a.0, a.1)))

-- The calls of a caller in an order.
abbrev pub own_in : ℕ → List Done → List Done
own_in i order = filter (λ (d : Done). d.call.caller == i) order

-- Of two calls of a caller in an order the one with the lower number comes first.
abbrev pub RisesFor : ℕ → List Done → Type 0
RisesFor i order = AllPairs
    (λ (d e : Done). d.call.caller ≡ i → e.call.caller ≡ i → d.call.number < e.call.number) order

-- An order has just the first m calls of a caller, in their order, each with its operation.
pub record HasFirstCalls (order : List Done) (i m : ℕ) (operations : List ℕ) : Type 0 where
  pub rises : RisesFor i order
  pub few : (d : Done) → Contains order d → d.call.caller ≡ i → d.call.number < m
  pub all : (k : ℕ) → k < m → (d : Done) × Contains order d × (d.call ≡ call_of i k)
  pub asks : (d : Done) → Contains order d → d.call.caller ≡ i
      → slice_get operations d.call.number ≡ Some d.operation

module _ (order : List Done) (i m : ℕ) (operations : List ℕ)
    (h : HasFirstCalls order i m operations) where
  abbrev is_own : Done → Bool
  is_own d = d.call.caller == i

  abbrev number : Done → ℕ
  number d = d.call.number

  abbrev own : List Done
  own = own_in i order

  in_order : (d : Done) → Contains own d → Contains order d × (d.call.caller ≡ i)
  in_order d there = (
    All-contains (Contains order) own d
        (All-filter is_own (Contains order) order (All-contains_itself order)) there,
    eqb-true d.call.caller i
        (All-contains (λ (e : Done). is_own e ≡ true) own d (filter_passes is_own order) there),
  )

  at_place : (k x : ℕ) → slice_get (map number own) k ≡ Some x → (d : Done)
      × (slice_get own k ≡ Some d) × (d.call.number ≡ x)
  at_place k x at = map_some (slice_get own k) number x (sym (slice_get-map number own k) ∙ at)

  rising : IsOrderedBy (λ (a b : ℕ). a < b) (map number own)
  rising j k x y at bt less =
      let d = at_place j x at in
      let e = at_place k y bt in
      let apart = AllPairs-filter
      (λ (d e : Done). d.call.caller ≡ i → e.call.caller ≡ i → d.call.number < e.call.number) is_own
      order h.rises j k d.0 less (slice_get_within own k e.0 e.1) in
      let below : d.0.call.number < e.0.call.number =
      subst
      (λ (c : Done). d.0.call.caller ≡ i → c.call.caller ≡ i → d.0.call.number < c.call.number)
      (get_or_from_slice_get own k e.0 d.0 e.1)
      (subst (λ (c : Done). c.call.caller ≡ i → (get_or own k d.0).call.caller ≡ i → c.call.number
      < (get_or own k d.0).call.number) (get_or_from_slice_get own j d.0 d.0 d.1) apart)
      (in_order d.0 (contained own j d.0 d.1)).1 (in_order e.0 (contained own k e.0 e.1)).1 in
      omega (arith, below, d.2, e.2)

  numbers_are : map number own ≡ range_with_len 0 m
  numbers_are =
      all_below (map number own) m rising
      (λ k x at.
      let d = at_place k x at in
      let there = in_order d.0 (contained own k d.0 d.1) in
      let low = h.few d.0 there.0 there.1 in
      omega (arith, low, d.2))
      (λ x low.
      let d = h.all x low in
      let mine : is_own d.0 ≡ true = ap (λ c. c.caller == i) d.2 ∙ eq-eqb i i refl in
      let there = kept_by_filter is_own order d.1.0 d.0 mine (stands order d.0 d.1) in (
        there.0,
        slice_get-map number own there.0 ∙ ap (option_map number) there.1
            ∙ ap (λ c. Some c.number) d.2,
      ))

  -- call k of the caller is at place k of its calls in the order
  pub own_at : (k : ℕ) → k < m → (d : Done) × (slice_get own k ≡ Some d) × Contains order d
      × (d.call.caller ≡ i) × (d.call.number ≡ k)
  own_at k low =
      let d = at_place k k (ap (λ (xs : List ℕ). slice_get xs k) numbers_are ∙ range_has m k low) in
      let there = in_order d.0 (contained own k d.0 d.1) in
      (d.0, d.1, there.0, there.1, d.2)

  pub own_length : length own ≡ m
  own_length = sym (length-map own number) ∙ ap (λ (xs : List ℕ). length xs) numbers_are
      ∙ length-range_with_len 0 m

  -- the operations of the caller's calls in the order are its first operations
  pub own_operations : map (λ (d : Done). d.operation) own ≡ take m operations
  own_operations =
      let op : Done → ℕ = λ d. d.operation in
      same_from_places (map op own) (take m operations) (λ k. elim (cases_lt k m) [
        | inl low ↦
            let d = own_at k low in
            slice_get-map op own k
            ∙ ap (option_map op) d.1
            ∙ sym (h.asks d.0 d.2 d.3)
            ∙ ap (slice_get operations) d.4
            ∙ sym (slice_get-take_within m operations k low)
        | inr past ↦
            slice_get_past (map op own) k (omega (arith, past, length-map own op, own_length))
            ∙ sym
            (slice_get_past (take m operations) k (omega (arith, past, length-take m operations)))
      ])
