-- A legal order of the part of a key, as an order of the book's calls with this key.
use Rattle.std.proofs.Common.{◌≡◌, ℕ, suc, ◌<◌, ◌≤◌, ◌∙◌, List, [], ◌∷◌, length, map, get_or, slice_get, slice_index, Option, Some, unwrap_or, refl, sym, ap, ap₂, subst, inl, inr, arith}
use Rattle.std.specs.Prelude.{option_map}
use Rattle.std.specs.Option.{IsSomeAnd}
use Rattle.std.proofs.lemmas.Bool.{cases_lt, cases_order}
use Rattle.std.proofs.lemmas.Option.{same_Some, slice_get-map, slice_get_within}
use Rattle.list_laws.proofs.Options.{map_some}
use Rattle.book_base.specs.declared.call.Call.{Call}
use Rattle.book_base.specs.declared.call.Place.{Place}
use Rattle.book_base.specs.declared.call.Record.{Record}
use Rattle.book_base.specs.SeqSpec.{SeqSpec}
use Rattle.book_base.specs.Book.{Page, IsCall, IsAnswered, IsValid, operation_of, record_of, Precedes}
use Rattle.book_base.specs.Sequential.{IsLegalRun}
use Rattle.book_base.specs.Order.{call_at, step_at, IsLegalOrder}
use Rattle.legal_orders.proofs.LegalOrder.{same_call, same_place, answer_stands}
use Rattle.smaller_book.specs.Part.{numbers_of, AreRising, original, IsPart, KeepsAnswers}
use Rattle.smaller_book.proofs.Counts.{below_from_counted}
use Rattle.smaller_book.proofs.Following.{some_that, record_was}
use Rattle.locality.specs.Locality.{IsPartOfKey}
use Rattle.locality.proofs.Restricting.{word_is}

-- An item of a mapped list is the image of the item at its index.
pub map_at : {X Y : Type 0} (f : X → Y) (xs : List X) (k : ℕ) (y : Y)
    → slice_get (map f xs) k ≡ Some y → (x : X) × (slice_get xs k ≡ Some x) × (f x ≡ y)
map_at f xs k y at = map_some (slice_get xs k) f y (sym (slice_get-map f xs k) ∙ at)

-- The image of a list's item stands at the item's index.
pub at_map : {X Y : Type 0} (f : X → Y) (xs : List X) (k : ℕ) (x : X) → slice_get xs k ≡ Some x
    → slice_get (map f xs) k ≡ Some (f x)
at_map f xs k x at = slice_get-map f xs k ∙ ap (option_map f) at

-- In a rising list no number is less than one before it.
rising-le : (xs : List ℕ) (j k : ℕ) → AreRising xs → j ≤ k → k < length xs
    → get_or xs j 0 ≤ get_or xs k 0
rising-le xs j k rising le inside = elim (cases_lt j k) [
  | inl less ↦ omega (arith, rising j k less inside)
  | inr more ↦
      let same : j ≡ k = omega (arith, le, more) in
      omega (arith, ap (λ (n : ℕ). get_or xs n 0) same)
]

-- In a rising list each number stands once.
rising_once : (xs : List ℕ) (j k : ℕ) → AreRising xs → j < length xs → k < length xs
    → get_or xs j 0 ≡ get_or xs k 0 → j ≡ k
rising_once xs j k rising below inside same = elim (cases_order j k) [
  | inl e ↦ e
  | inr apart ↦ elim apart [
    | inl less ↦ absurd (omega (arith, rising j k less inside, same))
    | inr more ↦ absurd (omega (arith, rising k j more below, same))
  ]
]

-- In a part that keeps answers, a call precedes another one where the calls that they were do in
-- the book.
pub precedes_in_part : (book : List Page) (names : List (List ℕ)) (part : List Page)
    → IsPart book names part → KeepsAnswers book names part → (a b : Call) → IsCall part a
    → IsCall part b → Precedes book (original names a) (original names b) → Precedes part a b
precedes_in_part book names part is keeps a b there inside p =
    let xs : List ℕ = numbers_of names b.caller in
    elim p [
      | inl answered ↦
          let known = some_that (record_of book (original names a))
          (λ (r : Record). get_or r.view b.caller 0 ≤ get_or xs b.number 0) answered in
          let small = answer_stands part a
          (keeps a there (slice_get_within _ (original names a).number known.0 known.1)) in
          let whole = record_was book names part is a small.0 small.1 in
          let same : known.0 ≡ whole.0 =
          same_Some known.0 whole.0 (sym known.1 ∙ whole.1) in
          let few : get_or small.0.view b.caller 0 ≤ b.number =
          elim (cases_lt b.number (get_or small.0.view b.caller 0)) [
            | inl more ↦
                let below : get_or xs b.number 0 < get_or whole.0.view b.caller 0 =
                below_from_counted xs (get_or whole.0.view b.caller 0) b.number
                (omega (arith, more, whole.2.view b.caller)) in
                absurd (omega (
                  arith,
                  below,
                  known.2,
                  ap (λ (r : Record). get_or r.view b.caller 0) same,
                ))
            | inr le ↦ le
          ] in
          inl (subst (λ o. IsSomeAnd o (λ (r : Record). get_or r.view b.caller 0 ≤ b.number))
          (sym small.1) few)
      | inr own ↦
          inr (
            own.0,
            elim (cases_lt a.number b.number) [
              | inl less ↦ less
              | inr le ↦
                  let room : a.number < length xs = omega (
                    arith,
                    there,
                    is.calls a.caller,
                    ap (λ (i : ℕ). length (numbers_of names i)) own.0,
                  ) in
                  absurd (omega (
                    arith,
                    rising-le xs b.number a.number (is.rising b.caller) le room,
                    own.1,
                    ap (λ (i : ℕ). get_or (numbers_of names i) a.number 0) own.0,
                  ))
            ],
          )
    ]

-- Two calls of a part that were one call of the book are one call.
pub original_once : (book : List Page) (names : List (List ℕ)) (part : List Page)
    → IsPart book names part → (a b : Call) → IsCall part a → IsCall part b
    → original names a ≡ original names b → a ≡ b
original_once book names part is a b there inside same =
    let caller : a.caller ≡ b.caller = ap (λ (c : Call). c.caller) same in
    let xs : List ℕ = numbers_of names b.caller in
    let number : get_or (numbers_of names a.caller) a.number 0 ≡ get_or xs b.number 0 =
    ap (λ (c : Call). c.number) same in
    let room : a.number < length xs = omega (
      arith,
      there,
      is.calls a.caller,
      ap (λ (i : ℕ). length (numbers_of names i)) caller,
    ) in
    let equal : get_or xs a.number 0 ≡ get_or xs b.number 0 =
    ap (λ (i : ℕ). get_or (numbers_of names i) a.number 0) (sym caller) ∙ number in
    same_call a b caller (rising_once xs a.number b.number (is.rising b.caller) room
    (omega (arith, inside, is.calls b.caller)) equal)

-- The place in the book that a place of a part was.
abbrev pub place_was : List (List ℕ) → Place → Place
place_was names place = record {
  caller = place.caller;
  number = slice_index (numbers_of names place.caller) place.number;
  reply = place.reply;
}

-- The places of an order of a part have the steps that they had in the book.
same_steps : (book : List Page) (names : List (List ℕ)) (part : List Page)
    → IsPart book names part → (order : List Place)
    → ((j : ℕ) (place : Place) → slice_get order j ≡ Some place → IsCall part (call_at place))
    → map (step_at book) (map (place_was names) order) ≡ map (step_at part) order
same_steps book names part is [] calls = refl
same_steps book names part is (place ∷ order) calls =
    let made : Option ℕ → ℕ × ℕ = λ o. (unwrap_or o 0, place.reply) in
    let first : step_at book (place_was names place) ≡ step_at part place =
    ap made (sym (is.operations (call_at place) (calls 0 place refl))) in
    let join : ℕ × ℕ → List (ℕ × ℕ) → List (ℕ × ℕ) = λ s ss. s ∷ ss in
    ap₂ join first (same_steps book names part is order (λ j p at. calls (suc j) p at))

-- An order of the book's calls with a key: it has their answered calls with the recorded replies,
-- keeps precedence, and is a run of an object.
pub record IsOrderOfKey (key : ℕ → ℕ) (k : ℕ) (book : List Page) (spec : SeqSpec)
    (order : List Place) : Type 0 where
  pub calls : (j : ℕ) (place : Place) → slice_get order j ≡ Some place
      → IsCall book (call_at place)
  pub keys : (j : ℕ) (place : Place) → slice_get order j ≡ Some place
      → key (step_at book place).0 ≡ k
  pub once : (i j : ℕ) (a b : Place) → slice_get order i ≡ Some a → slice_get order j ≡ Some b
      → call_at a ≡ call_at b → i ≡ j
  pub answered : (call : Call) (r : Record) → record_of book call ≡ Some r
      → key (unwrap_or (operation_of book call) 0) ≡ k → (j : ℕ) × (slice_get order j
      ≡ Some (record { caller = call.caller; number = call.number; reply = r.reply }))
  pub run : IsLegalRun spec (map (step_at book) order)
  pub precedence : (i j : ℕ) (a b : Place) → slice_get order i ≡ Some a
      → slice_get order j ≡ Some b → Precedes book (call_at a) (call_at b) → i < j

module _ (key : ℕ → ℕ) (k : ℕ) (book : List Page) (names : List (List ℕ)) (part : List Page)
    (spec : SeqSpec) (valid : IsValid book) (of_key : IsPartOfKey key k book names part)
    (order : List Place) (legal : IsLegalOrder spec part order) where
  in_part : (j : ℕ) (place : Place) → slice_get order j ≡ Some place → IsCall part (call_at place)
  in_part j place at = legal.calls j (call_at place) (place, at, refl)

  -- a call of the part has the operation word of the call that it was
  word_was : (call : Call) → IsCall part call → operation_of book (original names call)
      ≡ Some (unwrap_or (operation_of part call) 0)
  word_was call inside =
      sym (of_key.is_part.operations call inside) ∙ word_is part call inside

  was_call : (call : Call) → IsCall part call → IsCall book (original names call)
  was_call call inside = slice_get_within _ (original names call).number
      (unwrap_or (operation_of part call) 0) (word_was call inside)

  has_key : (call : Call) → IsCall part call
      → key (unwrap_or (operation_of book (original names call)) 0) ≡ k
  has_key call inside =
      let word : ℕ = unwrap_or (operation_of part call) 0 in
      let known : operation_of book (original names call) ≡ Some word = word_was call inside in
      let room : call.number < length (numbers_of names call.caller) =
      omega (arith, inside, of_key.is_part.calls call.caller) in
      ap (λ (o : Option ℕ). key (unwrap_or o 0)) known
      ∙ (of_key.calls (original names call) word known).0 (call.number, room, refl)

  -- the part's answer to a call has the reply of the answer to the call that it was
  same_reply : (there call : Call) (r small : Record) → original names there ≡ call
      → record_of book call ≡ Some r → record_of part there ≡ Some small → small.reply ≡ r.reply
  same_reply there call r small was known at =
      let whole = record_was book names part of_key.is_part there small at in
      let mine : record_of book (original names there) ≡ Some r =
      ap (record_of book) was ∙ known in
      let same : whole.0 ≡ r = same_Some whole.0 r (sym whole.1 ∙ mine) in
      whole.2.reply ∙ ap (λ (x : Record). x.reply) same

  -- a call of the part stands in the order of what its calls were as the call that it was
  stands_as : (i n m a b : ℕ) → slice_index (numbers_of names i) m ≡ n → a ≡ b
      → (j : ℕ) × (slice_get order j ≡ Some (record { caller = i; number = m; reply = a }))
      → (j : ℕ) × (slice_get (map (place_was names) order) j
      ≡ Some (record { caller = i; number = n; reply = b }))
  stands_as i n m a b number reply (j, at) =
      let here : Place = record { caller = i; number = m; reply = a } in
      let there : Place = record { caller = i; number = n; reply = b } in
      let same : place_was names here ≡ there =
      same_place (place_was names here) there refl number reply in
      (j, at_map (place_was names) order j here at ∙ ap Some same)

  answered_there : (call : Call) (r : Record) → record_of book call ≡ Some r
      → key (unwrap_or (operation_of book call) 0) ≡ k → (j : ℕ)
      × (slice_get (map (place_was names) order) j
      ≡ Some (record { caller = call.caller; number = call.number; reply = r.reply }))
  answered_there call r known same =
      let early : IsAnswered book call = slice_get_within _ call.number r known in
      let is_call : IsCall book call = omega (arith, early, valid.answers call.caller) in
      let named = (of_key.calls call (unwrap_or (operation_of book call) 0)
      (word_is book call is_call)).1 same in
      let there : Call = record { caller = call.caller; number = named.0 } in
      let was : original names there ≡ call =
      same_call (original names there) call refl named.2 in
      let inside : IsCall part there =
      omega (arith, named.1, of_key.is_part.calls call.caller) in
      let answer : IsAnswered part there =
      of_key.answers there inside (omega (arith, early, named.2)) in
      let small = answer_stands part there answer in
      stands_as call.caller call.number named.0 small.0.reply r.reply named.2
      (same_reply there call r small.0 was known small.1) (legal.answered there small.0 small.1)

  -- A legal order of the part of a key is an order of the book's calls with this key.
  pub order_was : IsOrderOfKey key k book spec (map (place_was names) order)
  order_was = record {
    calls = λ j place at.
        let there = map_at (place_was names) order j place at in
        subst (λ (p : Place). IsCall book (call_at p)) there.2
        (was_call (call_at there.0) (in_part j there.0 there.1));
    keys = λ j place at.
        let there = map_at (place_was names) order j place at in
        subst (λ (p : Place). key (step_at book p).0 ≡ k) there.2
        (has_key (call_at there.0) (in_part j there.0 there.1));
    once = λ i j a b at bt same.
        let first = map_at (place_was names) order i a at in
        let second = map_at (place_was names) order j b bt in
        let equal : call_at first.0 ≡ call_at second.0 =
        original_once book names part of_key.is_part (call_at first.0) (call_at second.0)
        (in_part i first.0 first.1) (in_part j second.0 second.1)
        (ap call_at first.2 ∙ (same ∙ sym (ap call_at second.2))) in
        legal.once i j (call_at second.0) (first.0, first.1, equal) (second.0, second.1, refl);
    answered = answered_there;
    run = subst (IsLegalRun spec) (sym (same_steps book names part of_key.is_part order in_part))
        legal.run;
    precedence = λ i j a b at bt p.
        let first = map_at (place_was names) order i a at in
        let second = map_at (place_was names) order j b bt in
        let before : Precedes book (original names (call_at first.0))
        (original names (call_at second.0)) =
        subst (λ (x : Place). Precedes book (original names (call_at first.0)) (call_at x))
        (sym second.2)
        (subst (λ (x : Place). Precedes book (call_at x) (call_at b)) (sym first.2) p) in
        legal.precedence i j (call_at first.0) (call_at second.0) (first.0, first.1, refl)
        (second.0, second.1, refl)
        (precedes_in_part book names part of_key.is_part of_key.answers (call_at first.0)
        (call_at second.0) (in_part i first.0 first.1) (in_part j second.0 second.1) before);
  }
