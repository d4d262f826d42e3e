-- The rule of sets and maps: a key that is found was put in before.
use Rattle.std.proofs.Common.{◌≡◌, ◌≢◌, ◌⊎◌, ◌∙◌, ℕ, zero, suc, ◌<◌, ◌≤◌, Bool, true, false, List, [], length, take, get_or, unwrap_or, Option, Some, None, refl, sym, ap, inl, inr, slice_get, arith}
use Rattle.std.proofs.lemmas.Bool.{cases_Bool, cases_eq, false≢true, both_ways}
use Rattle.std.proofs.lemmas.Option.{same_Some, none-some, slice_get-get_or, slice_get_within}
use Rattle.list_laws.proofs.Options.{cases_Option}
use Rattle.book_base.specs.declared.call.Call.{Call}
use Rattle.book_base.specs.declared.call.Place.{Place}
use Rattle.book_base.specs.declared.call.Record.{Record}
use Rattle.book_base.specs.SeqSpec.{spec_from}
use Rattle.book_base.specs.Book.{Page, IsCall, operation_of, record_of, Precedes}
use Rattle.book_base.specs.Order.{call_at, StandsAt, step_at, IsLegalOrder, HasLegalOrder}
use Rattle.book_base.specs.Reaching.{list_after_run}
use Rattle.legal_orders.proofs.Runs.{step_of_run}
use Rattle.legal_orders.proofs.Orders.{steps_of, step_stands, place_of_step}
use Rattle.legal_orders.specs.Deals as deals
use Rattle.seq_objects.specs.declared.kind.Kind.{Kind}
use Rattle.broken_rules.specs.Deeds.{key_of_word, puts_key, finds_key, has_found, deal_on_key, deal_by_word, deal_by_key}
use Rattle.broken_rules.proofs.Standing.{reply_of_place}
use Rattle.broken_rules.proofs.KeyedObjects.{FindsWhatIsPut}

-- an option is this key, or it isn't
pub cases_key : (o : Option ℕ) (k : ℕ) → (o ≡ Some k) ⊎ (o ≢ Some k)
cases_key None k = inr (λ e. none-some k e)
cases_key (Some j) k = elim (cases_eq j k) [
  | inl same ↦ inl (ap Some same)
  | inr other ↦ inr (λ e. other (same_Some j k e))
]

-- an operation that is read as a take has a key, and found it
pub found_parts : (o : Option ℕ) (found puts : Bool) (k : ℕ) → deal_on_key o found puts ≡ deals.Took k
    → (o ≡ Some k) × (found ≡ true)
found_parts None found puts k e = absurd cc
found_parts (Some j) true puts k e = ((let same : j ≡ k = cc in ap Some same), refl)
found_parts (Some j) false true k e = absurd cc
found_parts (Some j) false false k e = absurd cc

-- an operation that found its key is answered
pub found_record : (kind : Kind) (word : ℕ) (o : Option Record) → has_found kind word o ≡ true
    → (r : Record) × (o ≡ Some r) × (finds_key kind word r.reply ≡ true)
found_record kind word None e = absurd (false≢true e)
found_record kind word (Some r) e = (r, refl, e)

module _ (kind : Kind) (key : ℕ → Option ℕ) (part : ℕ → List ℕ → List ℕ)
    (next : List ℕ → ℕ → List ℕ × ℕ) (book : List Page)
    (is : FindsWhatIsPut kind key part next) where
  -- while no item has a key, no operation on it finds it
  pub unfound : (list : List ℕ) (word k : ℕ) → key word ≡ Some k → part k list ≡ []
      → finds_key kind word (next list word).1 ≡ false
  unfound list word k same empty =
      ap (finds_key kind word) (is.keyed.reply list [] word k same (empty ∙ sym (is.none k)))
      ∙ is.lacks word k same

  -- until a put of a key comes in a legal order, no item has the key
  lacks_key : (order : List Place) → IsLegalOrder (spec_from [] next) book order
      → (k m : ℕ) → ((j : ℕ) (call : Call) → StandsAt order j call → IsCall book call
      → deal_by_key kind book call ≡ deals.Put k → m < j)
      → (n : ℕ) → n ≤ m → n ≤ length (steps_of book order)
      → part k (list_after_run next [] (take n (steps_of book order))) ≡ []
  lacks_key order legal k m late zero below inside = is.none k
  lacks_key order legal k m late (suc n) below inside =
      let steps : List (ℕ × ℕ) = steps_of book order in
      let step : ℕ × ℕ = get_or steps n (0, 0) in
      let at : slice_get steps n ≡ Some step =
      slice_get-get_or steps n (0, 0) (omega (arith, inside)) in
      let here : List ℕ = list_after_run next [] (take n steps) in
      let ran = step_of_run next [] steps n step legal.run at in
      let before : part k here ≡ [] =
      lacks_key order legal k m late n (omega (arith, below)) (omega (arith, inside)) in
      ap (part k) ran.1 ∙ elim (cases_key (key step.0) k) as
      (λ _. part k (next here step.0).0 ≡ []) [
        | inr other ↦ is.keyed.others here step.0 k other ∙ before
        | inl same ↦ elim (cases_Bool (puts_key step.0)) as
            (λ _. part k (next here step.0).0 ≡ []) [
              | inr no_put ↦
                  is.keyed.own here [] step.0 k same (before ∙ sym (is.none k))
                  ∙ is.leaves step.0 k same no_put
              | inl puts ↦
                  let place = place_of_step book order n step at in
                  let call : Call = call_at place.0 in
                  let stands : StandsAt order n call = (place.0, place.1, refl) in
                  let made : IsCall book call = legal.calls n call stands in
                  let word : ℕ = unwrap_or (operation_of book call) 0 in
                  let op : word ≡ step.0 = ap (λ (s : ℕ × ℕ). s.0) place.2 in
                  let lacking : finds_key kind word place.0.reply ≡ false
                  = ap (λ (s : ℕ × ℕ). finds_key kind s.0 s.1) place.2
                  ∙ (ap (finds_key kind step.0) (sym ran.0)
                  ∙ unfound here step.0 k same before) in
                  let missed : has_found kind word (record_of book call) ≡ false =
                  elim (cases_Option (record_of book call)) [
                    | inl none ↦ ap (has_found kind word) none
                    | inr answer ↦
                        ap (has_found kind word) answer.1
                        ∙ (ap (finds_key kind word)
                        (reply_of_place (spec_from [] next) book order legal n
                        place.0 place.1 answer.0 answer.1) ∙ lacking)
                  ] in
                  let keyed : key_of_word kind word ≡ Some k =
                  is.keys word ∙ (ap key op ∙ same) in
                  let put : deal_by_word kind book call word ≡ deals.Put k
                  = ap (λ (o : Option ℕ). deal_on_key o (has_found kind word (record_of book call))
                  (puts_key word)) keyed
                  ∙ (ap (λ (b : Bool). deal_on_key (Some k) b (puts_key word)) missed
                  ∙ ap (λ (b : Bool). deal_on_key (Some k) false b) (ap puts_key op ∙ puts)) in
                  absurd (omega (arith, late n call stands made put, below))
            ]
      ]

  -- A key that is found is put in by a call that comes before: not each of its puts comes after.
  pub found_unput : (k : ℕ) (finder : Call) → deal_by_key kind book finder ≡ deals.Took k
      → ((call : Call) → IsCall book call → deal_by_key kind book call ≡ deals.Put k
      → Precedes book finder call) → ¬ HasLegalOrder (spec_from [] next) book
  found_unput k finder finds follow h =
      let order = h.0 in
      let legal = h.1 in
      let steps = steps_of book order in
      let word : ℕ = unwrap_or (operation_of book finder) 0 in
      let parts = found_parts (key_of_word kind word) (has_found kind word (record_of book finder))
      (puts_key word) k finds in
      let r = found_record kind word (record_of book finder) parts.1 in
      let place : Place =
      record { caller = finder.caller; number = finder.number; reply = r.0.reply } in
      let m = legal.answered finder r.0 r.1 in
      let at : slice_get steps m.0 ≡ Some (step_at book place) =
      step_stands book order m.0 place m.1 in
      let here : List ℕ = list_after_run next [] (take m.0 steps) in
      let ran = step_of_run next [] steps m.0 (step_at book place) legal.run at in
      let inside = slice_get_within steps m.0 (step_at book place) at in
      let empty : part k here ≡ [] =
      lacks_key order legal k m.0 (λ j call stands made puts.
      legal.precedence m.0 j finder call (place, m.1, refl) stands (follow call made puts)) m.0
      (omega arith) (omega (arith, inside)) in
      let same : key word ≡ Some k = sym (is.keys word) ∙ parts.0 in
      both_ways (finds_key kind word r.0.reply)
      (ap (finds_key kind word) (sym ran.0) ∙ unfound here word k same empty) r.2
