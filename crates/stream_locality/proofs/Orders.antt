-- Orders of the calls of a key, in the part of the key and in the whole stream.
use Rattle.std.proofs.Common.{◌≡◌, ℕ, zero, suc, ◌<◌, ◌∙◌, Bool, true, nat_eq, List, [], ◌∷◌, filter, map, get_or, slice_get, Option, Some, refl, sym, ap, ap₂, subst, inl, inr, arith}
use Rattle.std.proofs.lemmas.Bool.{cases_Bool, eqb-true, eq-eqb, cases_order}
use Rattle.std.proofs.lemmas.Option.{none-some, same_Some}
use Rattle.book_base.specs.SeqSpec.{SeqSpec}
use Rattle.book_base.specs.Sequential.{IsRunFrom, IsLegalRun}
use Rattle.streams.specs.Stream.{StreamEvent, IsCalledAt, Returns, StreamPrecedes}
use Rattle.streams.specs.StreamOrder.{StreamPlace, word_of_event, stream_step, IsAmong, IsLegalStreamOrder, HasLegalStreamOrder}
use Rattle.smaller_book.specs.Part.{count_below}
use Rattle.smaller_book.proofs.Counts.{count_below-at}
use Rattle.smaller_book.proofs.Filtering.{filter-kept, filter-gone}
use Rattle.locality.specs.Locality.{IsProduct, steps_of_key}
use Rattle.locality.proofs.Running.{runs_of_products}
use Rattle.locality.proofs.Sorting.{filter-index, filter-index_back}
use Rattle.locality.proofs.Gathering.{filter-map}
use Rattle.locality.proofs.Renaming.{map_at, at_map}
use Rattle.stream_locality.specs.StreamParts.{IsStreamOfKey}
use Rattle.stream_locality.proofs.Parts.{same_op, call_was, call_is, returns_is, returns_was, precedes_is, precedes_was, place_once}

-- An order of the calls of a stream with a key: it has those that return with their replies, keeps
-- precedence, and is a run of an object.
pub record IsOrderOfKey (key : ℕ → ℕ) (k : ℕ) (whole : List StreamEvent) (spec : SeqSpec)
    (order : List StreamPlace) : Type 0 where
  pub calls : (j : ℕ) (place : StreamPlace) → slice_get order j ≡ Some place
      → (process : ℕ) × (op : ℕ) × IsCalledAt whole place.call process op × (key op ≡ k)
  pub once : (i j : ℕ) (a b : StreamPlace) → slice_get order i ≡ Some a
      → slice_get order j ≡ Some b → a.call ≡ b.call → i ≡ j
  pub returned : (call end reply : ℕ) (h : Returns whole call end reply) → key h.op ≡ k
      → IsAmong order (record { call = call; reply = reply })
  pub run : IsLegalRun spec (map (stream_step whole) order)
  pub precedence : (i j : ℕ) (a b : StreamPlace) → slice_get order i ≡ Some a
      → slice_get order j ≡ Some b → StreamPrecedes whole a.call b.call → i < j

-- the word of a call that is at a place
pub word_at : (stream : List StreamEvent) (place : StreamPlace) (process op : ℕ)
    → IsCalledAt stream place.call process op → (stream_step stream place).0 ≡ op
word_at stream place process op at = ap word_of_event at

-- ---- from the part to the whole stream, and back

-- a place with its call renamed
abbrev pub renamed : (ℕ → ℕ) → StreamPlace → StreamPlace
renamed name place = record { call = name place.call; reply = place.reply }

-- places have the same steps under their new names where these are of the same events
renamed_steps : (one other : List StreamEvent) (name : ℕ → ℕ) (order : List StreamPlace)
    → ((j : ℕ) (place : StreamPlace) → slice_get order j ≡ Some place
    → slice_get other (name place.call) ≡ slice_get one place.call)
    → map (stream_step other) (map (renamed name) order) ≡ map (stream_step one) order
renamed_steps one other name [] same = refl
renamed_steps one other name (place ∷ order) same =
    let first : stream_step other (renamed name place) ≡ stream_step one place =
    ap (λ (o : Option StreamEvent). (word_of_event o, place.reply)) (same 0 place refl) in
    let join : ℕ × ℕ → List (ℕ × ℕ) → List (ℕ × ℕ) = λ s ss. s ∷ ss in
    ap₂ join first (renamed_steps one other name order (λ j p at. same (suc j) p at))

module _ (key : ℕ → ℕ) (k : ℕ) (whole : List StreamEvent) (places : List ℕ)
    (part : List StreamEvent) (spec : SeqSpec)
    (is : IsStreamOfKey key k whole places part) where
  -- A legal order of the part is an order of the calls of the key.
  pub order_was : (order : List StreamPlace) → IsLegalStreamOrder spec part order
      → IsOrderOfKey key k whole spec (map (renamed (λ j. get_or places j 0)) order)
  order_was order legal =
      let name : ℕ → ℕ = λ j. get_or places j 0 in
      let old : (j : ℕ) (place : StreamPlace)
      → slice_get (map (renamed name) order) j ≡ Some place
      → (from : StreamPlace) × (slice_get order j ≡ Some from) × (renamed name from ≡ place) =
      λ j place at. map_at (renamed name) order j place at in
      let called : (j : ℕ) (place : StreamPlace) → slice_get order j ≡ Some place
      → (process : ℕ) × (op : ℕ) × IsCalledAt part place.call process op =
      λ j place at. legal.calls place (j, at) in
      record {
        calls = λ j place at.
            let from = old j place at in
            let there = called j from.0 from.1 in
            let mine = call_was key k whole places part is from.0.call there.0 there.1 there.2 in (
              there.0,
              there.1,
              subst (λ (p : StreamPlace). IsCalledAt whole p.call there.0 there.1) from.2 mine.1,
              mine.2,
            );
        once = λ i j a b at bt same.
            let from = old i a at in
            let to = old j b bt in
            let first = called i from.0 from.1 in
            let second = called j to.0 to.1 in
            let equal : from.0.call ≡ to.0.call =
            place_once key k whole places part is from.0.call to.0.call
            (call_was key k whole places part is from.0.call first.0 first.1 first.2).0
            (call_was key k whole places part is to.0.call second.0 second.1 second.2).0
            (ap (λ (p : StreamPlace). p.call) from.2
            ∙ (same ∙ sym (ap (λ (p : StreamPlace). p.call) to.2))) in
            legal.once i j from.0 to.0 from.1 to.1 equal;
        returned = λ call end reply h same.
            let there = returns_is key k whole places part is call end reply h same in
            let mine = legal.returned there.0 there.1 reply there.6 in
            let here : StreamPlace = record { call = there.0; reply = reply } in (
              mine.0,
              at_map (renamed name) order mine.0 here mine.1
                  ∙ ap (λ (n : ℕ). Some (record { call = n; reply = reply })) there.4,
            );
        run = subst (IsLegalRun spec) (sym (renamed_steps part whole name order (λ j place at.
            let there = called j place at in
            (call_was key k whole places part is place.call there.0 there.1 there.2).1
            ∙ sym there.2))) legal.run;
        precedence = λ i j a b at bt before.
            let from = old i a at in
            let to = old j b bt in
            let first = called i from.0 from.1 in
            let second = called j to.0 to.1 in
            let there : StreamPrecedes whole (name from.0.call) (name to.0.call) =
            subst (λ (p : StreamPlace). StreamPrecedes whole (name from.0.call) p.call)
            (sym to.2)
            (subst (λ (p : StreamPlace). StreamPrecedes whole p.call b.call) (sym from.2) before)
            in
            legal.precedence i j from.0 to.0 from.1 to.1
            (precedes_is key k whole places part is from.0.call to.0.call first.0 first.1
            second.0 second.1 first.2 second.2 there);
      }

  -- the place in the part of a call of the key
  named : (call process op : ℕ) → IsCalledAt whole call process op → key op ≡ k
      → (get_or places (count_below places call) 0 ≡ call)
      × IsCalledAt part (count_below places call) process op
  named call process op at same =
      let there = call_is key k whole places part is call process op at same in
      let number : count_below places call ≡ there.0 =
      ap (count_below places) (sym there.2) ∙ count_below-at places there.0 is.rising there.1 in (
        ap (λ (n : ℕ). get_or places n 0) number ∙ there.2,
        subst (λ (n : ℕ). IsCalledAt part n process op) (sym number) there.3,
      )

  -- An order of the calls of the key gives a legal order of the part.
  pub order_is : (order : List StreamPlace) → IsOrderOfKey key k whole spec order
      → HasLegalStreamOrder spec part
  order_is order of_key =
      let name : ℕ → ℕ = count_below places in
      let old : (j : ℕ) (place : StreamPlace)
      → slice_get (map (renamed name) order) j ≡ Some place
      → (from : StreamPlace) × (slice_get order j ≡ Some from) × (renamed name from ≡ place) =
      λ j place at. map_at (renamed name) order j place at in
      let mine : (j : ℕ) (place : StreamPlace) → slice_get order j ≡ Some place
      → (process : ℕ) × (op : ℕ) × (get_or places (name place.call) 0 ≡ place.call)
      × IsCalledAt part (name place.call) process op × IsCalledAt whole place.call process op =
      λ j place at.
      let there = of_key.calls j place at in
      let here = named place.call there.0 there.1 there.2 there.3 in
      (there.0, there.1, here.0, here.1, there.2) in (
        map (renamed name) order,
        record {
          calls = λ place (j, at).
              let from = old j place at in
              let there = mine j from.0 from.1 in (
                there.0,
                there.1,
                subst (λ (p : StreamPlace). IsCalledAt part p.call there.0 there.1) from.2 there.3,
              );
          once = λ i j a b at bt same.
              let from = old i a at in
              let to = old j b bt in
              let equal : from.0.call ≡ to.0.call =
              sym (mine i from.0 from.1).2
              ∙ (ap (λ (n : ℕ). get_or places n 0) (ap (λ (p : StreamPlace). p.call) from.2
              ∙ (same ∙ sym (ap (λ (p : StreamPlace). p.call) to.2)))
              ∙ (mine j to.0 to.1).2) in
              of_key.once i j from.0 to.0 from.1 to.1 equal;
          returned = λ call end reply h.
              let there = returns_was key k whole places part is call end reply h in
              let own = call_was key k whole places part is call h.process h.op h.called in
              let same : key there.op ≡ k =
              ap key (same_op whole (get_or places call 0) there.process there.op h.process h.op
              there.called own.1)
              ∙ own.2 in
              let found = of_key.returned (get_or places call 0) (get_or places end 0) reply there
              same in
              let here : StreamPlace = record { call = get_or places call 0; reply = reply } in (
                found.0,
                at_map (renamed name) order found.0 here found.1
                    ∙ ap (λ (n : ℕ). Some (record { call = n; reply = reply }))
                    (count_below-at places call is.rising own.0),
              );
          run = subst (IsLegalRun spec) (sym (renamed_steps whole part name order (λ j place at.
              let there = mine j place at in there.3 ∙ sym there.4))) of_key.run;
          precedence = λ i j a b at bt before.
              let from = old i a at in
              let to = old j b bt in
              let second = mine j to.0 to.1 in
              let there : StreamPrecedes part (name from.0.call) (name to.0.call) =
              subst (λ (p : StreamPlace). StreamPrecedes part (name from.0.call) p.call)
              (sym to.2)
              (subst (λ (p : StreamPlace). StreamPrecedes part p.call b.call) (sym from.2) before)
              in
              let whole_before = precedes_was key k whole places part is (name from.0.call)
              (name to.0.call) second.0 second.1 second.3 there in
              of_key.precedence i j from.0 to.0 from.1 to.1
              (subst (λ (n : ℕ). StreamPrecedes whole n to.0.call) (mine i from.0 from.1).2
              (subst (λ (n : ℕ). StreamPrecedes whole (get_or places (name from.0.call) 0) n)
              second.2 whole_before));
        },
      )

-- ---- from the whole stream's order to those of its keys

-- two items of a list are there in this order
abbrev AreInOrder : {X : Type 0} → List X → X → X → Type 0
AreInOrder {X} xs x y = (k : ℕ) × (l : ℕ) × (k < l) × (slice_get xs k ≡ Some x)
    × (slice_get xs l ≡ Some y)

in_order_longer : {X : Type 0} (z : X) (xs : List X) (x y : X) → AreInOrder xs x y
    → AreInOrder (z ∷ xs) x y
in_order_longer z xs x y (k, l, less, at, bt) = (suc k, suc l, omega (arith, less), at, bt)

-- items after a first one are in the order in which a shorter list has them
in_order_first : {X : Type 0} (z : X) (few all : List X) (x y : X)
    → ((i j : ℕ) → i < j → slice_get few i ≡ Some x → slice_get few j ≡ Some y
    → AreInOrder all x y)
    → ((j : ℕ) → slice_get few j ≡ Some y → (l : ℕ) × (slice_get all l ≡ Some y))
    → (i j : ℕ) → i < j → slice_get (z ∷ few) i ≡ Some x → slice_get (z ∷ few) j ≡ Some y
    → AreInOrder (z ∷ all) x y
in_order_first z few all x y pairs one i zero less at bt = absurd (omega (arith, less))
in_order_first z few all x y pairs one zero (suc j) less at bt =
    let there = one j bt in (0, suc there.0, omega arith, at, there.1)
in_order_first z few all x y pairs one (suc i) (suc j) less at bt =
    in_order_longer z all x y (pairs i j (omega (arith, less)) at bt)

-- Two items that a filter keeps are in the list in the same order.
filter-indices_back : {X : Type 0} (p : X → Bool) (xs : List X) (i j : ℕ) (x y : X) → i < j
    → slice_get (filter p xs) i ≡ Some x → slice_get (filter p xs) j ≡ Some y
    → AreInOrder xs x y
filter-indices_back p [] i j x y less at bt = absurd (none-some x at)
filter-indices_back {X} p (z ∷ zs) i j x y less at bt = elim (cases_Bool (p z)) [
  | inl kept ↦
      in_order_first z (filter p zs) zs x y
      (λ k l before first second. filter-indices_back p zs k l x y before first second)
      (λ l second. filter-index_back p zs l y second) i j less
      (ap (λ (us : List X). slice_get us i) (sym (filter-kept p z zs kept)) ∙ at)
      (ap (λ (us : List X). slice_get us j) (sym (filter-kept p z zs kept)) ∙ bt)
  | inr gone ↦
      in_order_longer z zs x y (filter-indices_back p zs i j x y less
      (ap (λ (us : List X). slice_get us i) (sym (filter-gone p z zs gone)) ∙ at)
      (ap (λ (us : List X). slice_get us j) (sym (filter-gone p z zs gone)) ∙ bt))
]

first_passes : {X : Type 0} (p : X → Bool) (z : X) (few : List X) (x : X) → p z ≡ true
    → ((i : ℕ) → slice_get few i ≡ Some x → p x ≡ true) → (i : ℕ)
    → slice_get (z ∷ few) i ≡ Some x → p x ≡ true
first_passes p z few x kept rest zero at = ap p (sym (same_Some z x at)) ∙ kept
first_passes p z few x kept rest (suc i) at = rest i at

-- what a filter keeps passes
filter-index_passes : {X : Type 0} (p : X → Bool) (xs : List X) (i : ℕ) (x : X)
    → slice_get (filter p xs) i ≡ Some x → p x ≡ true
filter-index_passes p [] i x at = absurd (none-some x at)
filter-index_passes {X} p (z ∷ zs) i x at = elim (cases_Bool (p z)) [
  | inl kept ↦ first_passes p z (filter p zs) x kept
      (λ j there. filter-index_passes p zs j x there) i
      (ap (λ (us : List X). slice_get us i) (sym (filter-kept p z zs kept)) ∙ at)
  | inr gone ↦ filter-index_passes p zs i x
      (ap (λ (us : List X). slice_get us i) (sym (filter-gone p z zs gone)) ∙ at)
]

-- Of a legal order of a product, the places of a key are an order of the calls of this key.
pub order_of_key : (key : ℕ → ℕ) (list_of : ℕ → List ℕ → List ℕ) (objects : ℕ → SeqSpec)
    (product : SeqSpec) (k : ℕ) (whole : List StreamEvent) (order : List StreamPlace)
    → IsProduct key list_of objects product → IsLegalStreamOrder product whole order
    → IsOrderOfKey key k whole (objects k)
    (filter (λ place. nat_eq (key (stream_step whole place).0) k) order)
order_of_key key list_of objects product k whole order is legal =
    let p : StreamPlace → Bool = λ place. nat_eq (key (stream_step whole place).0) k in
    record {
      calls = λ j place at.
          let there = filter-index_back p order j place at in
          let called = legal.calls place there in
          let same : key (stream_step whole place).0 ≡ k =
          eqb-true (key (stream_step whole place).0) k (filter-index_passes p order j place at) in (
            called.0,
            called.1,
            called.2,
            ap key (sym (word_at whole place called.0 called.1 called.2)) ∙ same,
          );
      once = λ i j a b at bt same. elim (cases_order i j) [
        | inl equal ↦ equal
        | inr (inl less) ↦
            let there = filter-indices_back p order i j a b less at bt in
            absurd (omega (arith, there.2, legal.once there.0 there.1 a b there.3 there.4 same))
        | inr (inr more) ↦
            let there = filter-indices_back p order j i b a more bt at in
            absurd
            (omega (arith, there.2, legal.once there.0 there.1 b a there.3 there.4 (sym same)))
      ];
      returned = λ call end reply h same.
          let place : StreamPlace = record { call = call; reply = reply } in
          let there = legal.returned call end reply h in
          filter-index p order there.0 place there.1 (eq-eqb (key (stream_step whole place).0) k
          (ap key (word_at whole place h.process h.op h.called) ∙ same));
      run =
          let steps = map (stream_step whole) order in
          let own = (runs_of_products key list_of objects product product.init steps is).0
          legal.run k in
          let same : steps_of_key key k steps ≡ map (stream_step whole) (filter p order) =
          filter-map (λ (s : ℕ × ℕ). nat_eq (key s.0) k) (stream_step whole) order in
          subst (λ (ss : List (ℕ × ℕ)). IsLegalRun (objects k) ss) same
          (subst (λ (l : List ℕ). IsRunFrom (objects k).next l (steps_of_key key k steps))
          (is.init k) own);
      precedence = λ i j a b at bt before. elim (cases_order i j) [
        | inl equal ↦
            let same : a ≡ b = same_Some a b (sym at
            ∙ (ap (λ (n : ℕ). slice_get (filter p order) n) equal ∙ bt)) in
            let there = filter-index_back p order i a at in
            absurd (omega (
              arith,
              legal.precedence there.0 there.0 a a there.1 there.1
                  (subst (λ (q : StreamPlace). StreamPrecedes whole a.call q.call) (sym same) before),
            ))
        | inr (inl less) ↦ less
        | inr (inr more) ↦
            let there = filter-indices_back p order j i b a more bt at in
            absurd
            (omega (arith, there.2, legal.precedence there.1 there.0 a b there.4 there.3 before))
      ];
    }
