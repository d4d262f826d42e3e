-- The rule of sets and maps: a key that is there is found.
use Rattle.std.proofs.Common.{◌≡◌, ◌≢◌, ◌⊎◌, ◌∙◌, ℕ, suc, ◌<◌, ◌≤◌, Bool, true, false, List, [], length, take, get_or, unwrap_or, Option, Some, None, refl, sym, ap, subst, inl, inr, slice_get, arith}
use Rattle.std.proofs.lemmas.Bool.{cases_Bool, false≢true, both_ways}
use Rattle.std.proofs.lemmas.Option.{slice_get-get_or, slice_get_within}
use Rattle.list_laws.proofs.Options.{cases_Option}
use Rattle.book_base.specs.declared.call.Call.{Call}
use Rattle.book_base.specs.declared.call.Place.{Place}
use Rattle.book_base.specs.declared.call.Record.{Record}
use Rattle.book_base.specs.SeqSpec.{SeqSpec, spec_from}
use Rattle.book_base.specs.Book.{Page, IsCall, operation_of, record_of, Precedes}
use Rattle.book_base.specs.Order.{call_at, StandsAt, step_at, IsLegalOrder, HasLegalOrder}
use Rattle.book_base.specs.Reaching.{list_after_run}
use Rattle.legal_orders.proofs.Runs.{step_of_run}
use Rattle.legal_orders.proofs.Orders.{steps_of, step_stands, place_of_step}
use Rattle.legal_orders.specs.Deals as deals
use Rattle.seq_objects.specs.declared.kind.Kind.{Kind}
use Rattle.broken_rules.specs.Deeds.{key_of_word, puts_key, finds_key, has_found, takes_key_out, misses_key, has_missed, deal_on_key, deal_by_key, absence_by_word, absence_by}
use Rattle.broken_rules.proofs.Stepping.{carried}
use Rattle.broken_rules.proofs.Standing.{reply_of_place, preceding_comes_first}
use Rattle.broken_rules.proofs.KeyedObjects.{FindsWhatIsPut, KeepsWhatIsPut}
use Rattle.broken_rules.proofs.Keys.{cases_key, found_parts, found_record, unfound}

-- an operation that is read as a put has a key, and puts it in
put_parts : (o : Option ℕ) (found puts : Bool) (k : ℕ) → deal_on_key o found puts ≡ deals.Put k
    → (o ≡ Some k) × (puts ≡ true)
put_parts None found puts k e = absurd cc
put_parts (Some j) true puts k e = absurd cc
put_parts (Some j) false true k e = ((let same : j ≡ k = cc in ap Some same), refl)
put_parts (Some j) false false k e = absurd cc

-- an operation that missed its key is answered
missed_record : (kind : Kind) (word : ℕ) (o : Option Record) → has_missed kind word o ≡ true
    → (r : Record) × (o ≡ Some r) × (misses_key kind word r.reply ≡ true)
missed_record kind word None e = absurd (false≢true e)
missed_record kind word (Some r) e = (r, refl, e)

module _ (kind : Kind) (key : ℕ → Option ℕ) (part : ℕ → List ℕ → List ℕ)
    (next : List ℕ → ℕ → List ℕ × ℕ) (book : List Page)
    (finds : FindsWhatIsPut kind key part next) (keeps : KeepsWhatIsPut kind key part next)
    (order : List Place) (legal : IsLegalOrder (spec_from [] next) book order)
    (k q m : ℕ) (inside : m ≤ length (steps_of book order))
    (outside : (j : ℕ) (call : Call) → StandsAt order j call → IsCall book call
    → absence_by kind book call ≡ deals.Put k → (j < q) ⊎ (m < j)) where
  -- an item has the key at a moment
  abbrev IsThere : ℕ → Type 0
  IsThere n = part k (list_after_run next [] (take n (steps_of book order))) ≢ []

  -- a step between the two moments leaves the key in
  kept : (n : ℕ) → q ≤ n → n < m → IsThere n → IsThere (suc n)
  kept n low high there =
      let steps : List (ℕ × ℕ) = steps_of book order in
      let step : ℕ × ℕ = get_or steps n (0, 0) in
      let at : slice_get steps n ≡ Some step =
      slice_get-get_or steps n (0, 0) (omega (arith, inside, high)) in
      let here : List ℕ = list_after_run next [] (take n steps) in
      let ran = step_of_run next [] steps n step legal.run at in
      subst (λ (xs : List ℕ). part k xs ≢ []) (sym ran.1) (elim (cases_key (key step.0) k) as
      (λ _. part k (next here step.0).0 ≢ []) [
        | inr other ↦ λ none. there (sym (finds.keyed.others here step.0 k other) ∙ none)
        | inl same ↦ elim (cases_Bool (takes_key_out kind step.0)) as
            (λ _. part k (next here step.0).0 ≢ []) [
              | inr keep ↦ keeps.keeps here step.0 k same keep there
              | inl takes ↦
                  let place = place_of_step book order n step at in
                  let call : Call = call_at place.0 in
                  let stands : StandsAt order n call = (place.0, place.1, refl) in
                  let made : IsCall book call = legal.calls n call stands in
                  let word : ℕ = unwrap_or (operation_of book call) 0 in
                  let op : word ≡ step.0 = ap (λ (s : ℕ × ℕ). s.0) place.2 in
                  let told : misses_key kind word place.0.reply ≡ false
                  = ap (λ (s : ℕ × ℕ). misses_key kind s.0 s.1) place.2
                  ∙ (ap (misses_key kind step.0) (sym ran.0)
                  ∙ keeps.tells here step.0 k same there) in
                  let missed : has_missed kind word (record_of book call) ≡ false =
                  elim (cases_Option (record_of book call)) [
                    | inl none ↦ ap (has_missed kind word) none
                    | inr answer ↦
                        ap (has_missed kind word) answer.1
                        ∙ (ap (misses_key kind word)
                        (reply_of_place (spec_from [] next) book order legal n
                        place.0 place.1 answer.0 answer.1) ∙ told)
                  ] in
                  let keyed : key_of_word kind word ≡ Some k =
                  finds.keys word ∙ (ap key op ∙ same) in
                  let put : absence_by_word kind book call word ≡ deals.Put k
                  = ap (λ (o : Option ℕ). deal_on_key o (has_missed kind word (record_of book call))
                  (takes_key_out kind word)) keyed
                  ∙ (ap (λ (b : Bool). deal_on_key (Some k) b (takes_key_out kind word)) missed
                  ∙ ap (λ (b : Bool). deal_on_key (Some k) false b)
                  (ap (takes_key_out kind) op ∙ takes)) in
                  elim (outside n call stands made put) [
                    | inl before ↦ absurd (omega (arith, before, low))
                    | inr after ↦ absurd (omega (arith, after, high))
                  ]
            ]
      ])

  -- a key that is there at a moment between the two stays there
  stays : (b : ℕ) → q ≤ b → IsThere b → b ≤ m → IsThere m
  stays b low there le =
      carried IsThere b m (λ n from high. kept n (omega (arith, low, from)) high) there m le
      (omega arith)

module _ (kind : Kind) (key : ℕ → Option ℕ) (part : ℕ → List ℕ → List ℕ)
    (next : List ℕ → ℕ → List ℕ × ℕ) (book : List Page)
    (finds : FindsWhatIsPut kind key part next)
    (keeps : KeepsWhatIsPut kind key part next) where
  -- A key that a call puts in or finds is found by a later call: not each call that may take it out
  -- comes before the first call or after the later one.
  pub key_missed : (k : ℕ) (first second : Call)
      → (deal_by_key kind book first ≡ deals.Put k) ⊎ (deal_by_key kind book first ≡ deals.Took k)
      → absence_by kind book second ≡ deals.Took k → Precedes book first second
      → ((call : Call) → IsCall book call → absence_by kind book call ≡ deals.Put k
      → Precedes book call first ⊎ Precedes book second call)
      → ¬ HasLegalOrder (spec_from [] next) book
  key_missed k first second leaves misses precedes outside h =
      let spec : SeqSpec = spec_from [] next in
      let order = h.0 in
      let legal = h.1 in
      let steps = steps_of book order in
      let word : ℕ = unwrap_or (operation_of book second) 0 in
      let parts = found_parts (key_of_word kind word)
      (has_missed kind word (record_of book second)) (takes_key_out kind word) k misses in
      let r = missed_record kind word (record_of book second) parts.1 in
      let place : Place =
      record { caller = second.caller; number = second.number; reply = r.0.reply } in
      let m = legal.answered second r.0 r.1 in
      let stands : StandsAt order m.0 second = (place, m.1, refl) in
      let at : slice_get steps m.0 ≡ Some (step_at book place) =
      step_stands book order m.0 place m.1 in
      let here : List ℕ = list_after_run next [] (take m.0 steps) in
      let ran = step_of_run next [] steps m.0 (step_at book place) legal.run at in
      let within = slice_get_within steps m.0 (step_at book place) at in
      let q = preceding_comes_first spec book first second precedes order legal m.0 stands in
      let beside : (j : ℕ) (call : Call) → StandsAt order j call → IsCall book call
      → absence_by kind book call ≡ deals.Put k → (j < q.0) ⊎ (m.0 < j) =
      λ j call standing made takes. elim (outside call made takes) [
        | inl before ↦ inl (legal.precedence j q.0 call first standing q.2 before)
        | inr after ↦ inr (legal.precedence m.0 j second call stands standing after)
      ] in
      let own : Place = q.2.0 in
      let asked : ℕ = unwrap_or (operation_of book first) 0 in
      let own_at : slice_get steps q.0 ≡ Some (step_at book own) =
      step_stands book order q.0 own q.2.1 in
      let start : List ℕ = list_after_run next [] (take q.0 steps) in
      let began = step_of_run next [] steps q.0 (step_at book own) legal.run own_at in
      let op : (step_at book own).0 ≡ asked =
      ap (λ (c : Call). unwrap_or (operation_of book c) 0) q.2.2 in
      let le : m.0 ≤ length steps = omega (arith, within) in
      let there : part k here ≢ [] = elim leaves [
        | inl put ↦
            let of = put_parts (key_of_word kind asked)
            (has_found kind asked (record_of book first)) (puts_key asked) k put in
            let same : key asked ≡ Some k = sym (finds.keys asked) ∙ of.0 in
            let now : part k (next start asked).0 ≢ [] = keeps.puts start asked k same of.1 in
            let after : part k (list_after_run next [] (take (suc q.0) steps)) ≢ [] =
            λ none. now (ap (λ (w : ℕ). part k (next start w).0) (sym op)
            ∙ (sym (ap (part k) began.1) ∙ none)) in
            stays kind key part next book finds keeps order legal k q.0 m.0 le beside
            (suc q.0) (omega arith) after (omega (arith, q.1))
        | inr took ↦
            let of = found_parts (key_of_word kind asked)
            (has_found kind asked (record_of book first)) (puts_key asked) k took in
            let same : key asked ≡ Some k = sym (finds.keys asked) ∙ of.0 in
            let s = found_record kind asked (record_of book first) of.1 in
            let known : record_of book (call_at own) ≡ Some s.0 =
            ap (record_of book) q.2.2 ∙ s.1 in
            let reply : s.0.reply ≡ own.reply =
            reply_of_place spec book order legal q.0 own q.2.1 s.0 known in
            let before : part k start ≢ [] = λ none. both_ways (finds_key kind asked s.0.reply)
            (ap (finds_key kind asked) (reply ∙ sym began.0)
            ∙ (ap (λ (w : ℕ). finds_key kind asked (next start w).1) op
            ∙ unfound kind key part next book finds start asked k same none)) s.2 in
            stays kind key part next book finds keeps order legal k q.0 m.0 le beside
            q.0 (omega arith) before (omega (arith, q.1))
      ] in
      let same : key word ≡ Some k = sym (finds.keys word) ∙ parts.0 in
      both_ways (misses_key kind word r.0.reply)
      (ap (misses_key kind word) (sym ran.0) ∙ keeps.tells here word k same there) r.2
