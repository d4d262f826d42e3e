-- The rules of maps: a value that is shown for a key was put in before, and not written over.
use Rattle.std.proofs.Common.{◌≡◌, ◌⊎◌, ◌∙◌, ℕ, zero, suc, ◌+◌, ◌-◌, ◌<◌, ◌≤◌, true, List, [], ◌∷◌, length, take, get_or, unwrap_or, Option, Some, None, is_some, refl, sym, ap, subst, inl, inr, slice_get, arith}
use Rattle.std.proofs.lemmas.Option.{slice_get-get_or, slice_get_within}
use Rattle.list_laws.proofs.Options.{some_from_is_some}
use Rattle.book_base.specs.declared.call.Call.{Call}
use Rattle.book_base.specs.declared.call.Place.{Place}
use Rattle.book_base.specs.declared.call.Record.{Record}
use Rattle.book_base.specs.SeqSpec.{SeqSpec}
use Rattle.book_base.specs.Book.{Page, IsCall, operation_of, record_of, Precedes}
use Rattle.book_base.specs.Order.{call_at, StandsAt, step_at, IsLegalOrder, HasLegalOrder}
use Rattle.book_base.specs.Reaching.{list_after_run}
use Rattle.legal_orders.proofs.Runs.{step_of_run}
use Rattle.legal_orders.proofs.Orders.{steps_of, step_stands, place_of_step}
use Rattle.seq_objects.specs.declared.kind.Kind.TheVariants as kinds
use Rattle.seq_objects.specs.declared.map.MapOperation.{MapOperation}
use Rattle.seq_objects.specs.MapSteps.{item_of, map_operation}
use Rattle.seq_objects.specs.Objects.{kind_next, kind_spec}
use Rattle.kind_search.specs.Keys.{key_in_map, map_key, map_part}
use Rattle.broken_rules.specs.Entries.{asked_of, entry_in, entry_at, entry_shown, shown_by, shown_at, ShowsEntry, entry_put, PutsEntry, excludes, ExcludesEntry}
use Rattle.broken_rules.specs.MapRuns.{KeysAreHeldOnce}
use Rattle.broken_rules.proofs.Standing.{reply_of_place, preceding_comes_first}
use Rattle.broken_rules.proofs.OneEntry.{HasOne, Lacks, after, one_after, shown_is_there, lacks_after, lacks_excluded, entry_value, no_item}

-- a map's specification
abbrev spec : SeqSpec
spec = kind_spec kinds.Map

same_after : (list : List ℕ) (word : ℕ) → kind_next kinds.Map list word ≡ after list word
unfolding kind_next
same_after list word = refl

-- A map holds each key once.
kept_once : (k : ℕ) (list : List ℕ) (steps : List (ℕ × ℕ)) → HasOne k list
    → HasOne k (list_after_run (kind_next kinds.Map) list steps)
kept_once k list [] one = one
kept_once k list (step ∷ rest) one =
    let next : HasOne k (kind_next kinds.Map list step.0).0
    = subst (λ (r : List ℕ × ℕ). HasOne k r.0) (sym (same_after list step.0))
    (one_after list step.0 k one) in
    kept_once k (kind_next kinds.Map list step.0).0 rest next

pub keys_are_held_once : KeysAreHeldOnce
keys_are_held_once steps key = elim (kept_once key [] steps (inl refl)) [
  | inl none ↦ omega (arith, ap length none)
  | inr held ↦ omega (arith, ap length held.1)
]

-- a call that shows an entry has a key and a record, and its reply shows the entry
pub record Shown (book : List Page) (call : Call) : Type 0 where
  pub k : ℕ
  pub r : Record
  pub key : key_in_map (asked_of book call) ≡ Some k
  pub answered : record_of book call ≡ Some r
  pub shows : entry_in k r.reply ≡ Some (shown_at book call)

shown_record : (book : List Page) (call : Call) (k : ℕ) (o : Option Record)
    → record_of book call ≡ o → key_in_map (asked_of book call) ≡ Some k
    → is_some (entry_at k o) ≡ true → Shown book call
shown_record book call k None is key e = absurd cc
shown_record book call k (Some r) is key e =
    let some = some_from_is_some (entry_in k r.reply) e in
    let shown : shown_by book call ≡ entry_in k r.reply =
    ap (λ (o : Option ℕ). entry_shown o (record_of book call)) key ∙ ap (entry_at k) is in
    record {
      k = k;
      r = r;
      key = key;
      answered = is;
      shows = some.1 ∙ ap Some (sym (ap (λ (o : Option ℕ). unwrap_or o 0) (shown ∙ some.1)));
    }

shown_key : (book : List Page) (call : Call) (o : Option ℕ) → key_in_map (asked_of book call) ≡ o
    → is_some (entry_shown o (record_of book call)) ≡ true → Shown book call
shown_key book call None is e = absurd cc
shown_key book call (Some k) is e = shown_record book call k (record_of book call) refl is e

shown : (book : List Page) (call : Call) → ShowsEntry book call → Shown book call
shown book call shows = shown_key book call (key_in_map (asked_of book call)) refl shows

module _ (book : List Page) (order : List Place) (legal : IsLegalOrder spec book order) where
  abbrev steps : List (ℕ × ℕ)
  steps = steps_of book order

  abbrev state : ℕ → List ℕ
  state n = list_after_run (kind_next kinds.Map) [] (take n steps)

  -- the step of each place, with what it makes of the list
  stepped : (n : ℕ) (step : ℕ × ℕ) → slice_get steps n ≡ Some step
      → ((after (state n) step.0).1 ≡ step.1) × (state (suc n) ≡ (after (state n) step.0).0)
  stepped n step at =
      let ran = step_of_run (kind_next kinds.Map) [] steps n step legal.run at in
      let same = same_after (state n) step.0 in (
        sym (ap (λ (r : List ℕ × ℕ). r.1) same) ∙ ran.0,
        ran.1 ∙ ap (λ (r : List ℕ × ℕ). r.0) same,
      )

  -- after each prefix of the order at most one item has a key
  always_one : (k n : ℕ) → n ≤ length steps → HasOne k (state n)
  always_one k zero inside = inl refl
  always_one k (suc n) inside =
      let step : ℕ × ℕ = get_or steps n (0, 0) in
      let at : slice_get steps n ≡ Some step =
      slice_get-get_or steps n (0, 0) (omega (arith, inside)) in
      subst (HasOne k) (sym (stepped n step at).1)
      (one_after (state n) step.0 k (always_one k n (omega (arith, inside))))

  -- while no put of an entry comes, the entry isn't there
  still_lacks : (k v from gap m : ℕ) → Lacks k (item_of k v) (state from)
      → ((j : ℕ) (call : Call) → StandsAt order j call → IsCall book call
      → PutsEntry book (item_of k v) call → from ≤ j → j < m → ⊥)
      → from + gap ≤ m → m ≤ length steps → Lacks k (item_of k v) (state (from + gap))
  still_lacks k v from zero m start never below inside =
      let same : from ≡ from + 0 = omega arith in
      subst (λ (n : ℕ). Lacks k (item_of k v) (state n)) same start
  still_lacks k v from (suc gap) m start never below inside =
      let n : ℕ = from + gap in
      let next : suc n ≡ from + suc gap = omega arith in
      let step : ℕ × ℕ = get_or steps n (0, 0) in
      let at : slice_get steps n ≡ Some step =
      slice_get-get_or steps n (0, 0) (omega (arith, below, inside)) in
      let before = still_lacks k v from gap m start never (omega (arith, below)) inside in
      let place = place_of_step book order n step at in
      let call : Call = call_at place.0 in
      let stands : StandsAt order n call = (place.0, place.1, refl) in
      let word : unwrap_or (operation_of book call) 0 ≡ step.0 =
      ap (λ (s : ℕ × ℕ). s.0) place.2 in
      subst (λ (i : ℕ). Lacks k (item_of k v) (state i)) next
      (subst (Lacks k (item_of k v)) (sym (stepped n step at).1)
      (lacks_after (state n) step.0 k v before (λ put.
      never n call stands (legal.calls n call stands)
      (ap entry_put (ap map_operation word ∙ put)) (omega arith) (omega (arith, below)))))

  pub lacks_at : (k v from n m : ℕ) → Lacks k (item_of k v) (state from)
      → ((j : ℕ) (call : Call) → StandsAt order j call → IsCall book call
      → PutsEntry book (item_of k v) call → from ≤ j → j < m → ⊥)
      → from ≤ n → n ≤ m → m ≤ length steps → Lacks k (item_of k v) (state n)
  lacks_at k v from n m start never low high inside =
      let same : from + (n - from) ≡ n = omega (arith, low) in
      subst (λ (i : ℕ). Lacks k (item_of k v) (state i)) same
      (still_lacks k v from (n - from) m start never (omega (arith, low, high)) inside)

  -- a call that shows an entry finds it there
  there_at : (call : Call) (it : Shown book call) (m : ℕ) (place : Place)
      → slice_get order m ≡ Some place → call_at place ≡ call → place.reply ≡ it.r.reply
      → map_part it.k (state m) ≡ shown_at book call ∷ []
  there_at call it m place stands is reply =
      let at : slice_get steps m ≡ Some (step_at book place) =
      step_stands book order m place stands in
      let word : ℕ = (step_at book place).0 in
      let key : map_key word ≡ Some it.k
      = ap (λ (c : Call). key_in_map (asked_of book c)) is ∙ it.key in
      let replied : (after (state m) word).1 ≡ it.r.reply =
      (stepped m (step_at book place) at).0 ∙ reply in
      let inside = slice_get_within steps m (step_at book place) at in
      shown_is_there (state m) word it.k (shown_at book call)
      (always_one it.k m (omega (arith, inside))) key (ap (entry_in it.k) replied ∙ it.shows)

-- A map's book where a call shows a value for a key, and each other call that puts it in comes
-- after, has no legal order.
pub value_unput : (book : List Page) (one : Call) → ShowsEntry book one
    → ((call : Call) → IsCall book call → PutsEntry book (shown_at book one) call
    → (call ≡ one) ⊎ Precedes book one call)
    → ¬ HasLegalOrder spec book
value_unput book one shows follow h =
    let order = h.0 in
    let legal = h.1 in
    let it = shown book one shows in
    let m = legal.answered one it.r it.answered in
    let place : Place =
    record { caller = one.caller; number = one.number; reply = it.r.reply } in
    let at = step_stands book order m.0 place m.1 in
    let inside = slice_get_within (steps_of book order) m.0 (step_at book place) at in
    let there = there_at book order legal one it m.0 place m.1 refl refl in
    let entry = entry_value it.k it.r.reply (shown_at book one) it.shows in
    let v : ℕ = entry.0 in
    let lacks = lacks_at book order legal it.k v 0 m.0 m.0
    (inl refl, no_item (map_part it.k []) (item_of it.k v) refl)
    (λ j call stands made puts low below.
    elim (follow call made (puts ∙ ap Some entry.1)) [
      | inl same ↦
          let here : j ≡ m.0 = legal.once j m.0 one (subst (StandsAt order j) same stands)
          (place, m.1, refl) in
          absurd (omega (arith, here, below))
      | inr after_it ↦
          let late : m.0 < j = legal.precedence m.0 j one call (place, m.1, refl) stands after_it in
          absurd (omega (arith, late, below))
    ]) (omega arith) (omega arith) (omega (arith, inside)) in
    lacks.1 (there ∙ ap (λ (x : ℕ). x ∷ []) (sym entry.1))

-- A map's book has no legal order where a call shows a value for a key, which isn't there after an
-- earlier call, and each other call that puts it in comes before the earlier call or after the call
-- that shows it.
pub value_overwritten : (book : List Page) (first second : Call) → Precedes book first second
    → ShowsEntry book second → ExcludesEntry book (shown_at book second) first
    → ((call : Call) → IsCall book call → PutsEntry book (shown_at book second) call
    → (call ≡ second) ⊎ (Precedes book call first ⊎ Precedes book second call))
    → ¬ HasLegalOrder spec book
value_overwritten book first second precedes shows excluded outside h =
    let order = h.0 in
    let legal = h.1 in
    let steps : List (ℕ × ℕ) = steps_of book order in
    let it = shown book second shows in
    let m = legal.answered second it.r it.answered in
    let place : Place =
    record { caller = second.caller; number = second.number; reply = it.r.reply } in
    let at = step_stands book order m.0 place m.1 in
    let inside = slice_get_within steps m.0 (step_at book place) at in
    let there = there_at book order legal second it m.0 place m.1 refl refl in
    let entry = entry_value it.k it.r.reply (shown_at book second) it.shows in
    let v : ℕ = entry.0 in
    let q = preceding_comes_first spec book first second precedes order legal m.0
    (place, m.1, refl) in
    let own : Place = q.2.0 in
    let own_at : slice_get steps q.0 ≡ Some (step_at book own) =
    step_stands book order q.0 own q.2.1 in
    let ran = stepped book order legal q.0 (step_at book own) own_at in
    let word : ℕ = (step_at book own).0 in
    let asked : asked_of book first ≡ map_operation word =
    ap (asked_of book) (sym q.2.2) in
    let said : excludes (item_of it.k v) (map_operation word) (record_of book first) ≡ true
    = sym (ap (λ (o : Option MapOperation).
    excludes (item_of it.k v) o (record_of book first)) asked)
    ∙ (ap (λ (e : ℕ). excludes e (asked_of book first) (record_of book first)) entry.1
    ∙ excluded) in
    let start : Lacks it.k (item_of it.k v) (state book order legal (suc q.0))
    = subst (Lacks it.k (item_of it.k v)) (sym ran.1)
    (lacks_excluded (state book order legal q.0) word it.k v (record_of book first) entry.2
    (λ r answered.
    let known : record_of book (call_at own) ≡ Some r = ap (record_of book) q.2.2 ∙ answered in
    reply_of_place spec book order legal q.0 own q.2.1 r known ∙ sym ran.0) said
    (always_one book order legal it.k q.0 (omega (arith, q.1, inside)))) in
    let lacks = lacks_at book order legal it.k v (suc q.0) m.0 m.0 start
    (λ j call stands made puts low below.
    elim (outside call made (puts ∙ ap Some entry.1)) [
      | inl same ↦
          let here : j ≡ m.0 = legal.once j m.0 second (subst (StandsAt order j) same stands)
          (place, m.1, refl) in
          absurd (omega (arith, here, below))
      | inr rest ↦ elim rest [
        | inl before ↦
            let early : j < q.0 = legal.precedence j q.0 call first stands q.2 before in
            absurd (omega (arith, early, low))
        | inr after_it ↦
            let late : m.0 < j =
            legal.precedence m.0 j second call (place, m.1, refl) stands after_it in
            absurd (omega (arith, late, below))
      ]
    ]) (omega (arith, q.1)) (omega arith) (omega (arith, inside)) in
    lacks.1 (there ∙ ap (λ (x : ℕ). x ∷ []) (sym entry.1))
