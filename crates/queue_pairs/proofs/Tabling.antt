-- Tables that are made call by call, and least values.
use Rattle.std.proofs.Common.{◌≡◌, ℕ, zero, suc, ◌+◌, ◌<◌, ◌≤◌, ◌⊎◌, ◌∙◌, Bool, true, false, List, [], ◌∷◌, ◌++◌, length, min, get_or, Option, Some, None, refl, sym, ap, subst, inl, inr, slice_get, arith, length-append}
use Rattle.std.proofs.lemmas.Bool.{cases_lt, cases_eq, true≢false}
use Rattle.std.proofs.lemmas.Option.{none-some, slice_get_past}
use Rattle.list_laws.proofs.Places.{slice_get-push_old, slice_get-push_last, slice_get-push_cases}
use Rattle.book_base.specs.declared.call.Call.{Call}
use Rattle.book_base.specs.Book.{Page, calls_of, IsCall}
use Rattle.book_base.proofs.ViewLemmas.{same_call}
use Rattle.legal_orders.specs.Container.{Reading}
use Rattle.legal_orders.specs.Deals as deals
use Rattle.legal_orders.specs.Deals.{deal_of}
use Rattle.legal_orders.proofs.Dealing.{call_by_deal}
use Rattle.queue_pairs.specs.declared.TheConstants.{NEVER}
use Rattle.queue_pairs.specs.declared.table.QueueDeal.{QueueDeal}
use Rattle.queue_pairs.specs.declared.table.QueueDeal.TheVariants as did
use Rattle.queue_pairs.specs.declared.table.TimedCall.{TimedCall}
use Rattle.queue_pairs.specs.Tables.{known_deal, is_find, IsTimed, IsRowTo, AreRowsTo, AreFindsTo}
use Rattle.queue_pairs.specs.NextEntries.{IsLeastOf}

-- ---- rows

pub row-none : (reading : Reading) (book : List Page) (caller : ℕ)
    → IsRowTo reading book caller 0 []
row-none reading book caller = record { size = refl; calls = λ n t at. absurd (none-some t at) }

pub row-more : (reading : Reading) (book : List Page) (caller below : ℕ) (row : List TimedCall)
    (t : TimedCall) → IsRowTo reading book caller below row
    → IsTimed reading book (record { caller = caller; number = below }) t
    → IsRowTo reading book caller (below + 1) (row ++ t ∷ [])
row-more reading book caller below row t h new = record {
  size = omega (arith, h.size, length-append row (t ∷ []));
  calls = λ n u at. elim (slice_get-push_cases row t n u at) [
    | inl old ↦ h.calls n u old
    | inr last ↦
        let number : below ≡ n = omega (arith, last.0, h.size) in
        subst (λ (k : ℕ). IsTimed reading book (record { caller = caller; number = k }) u) number
        (subst
        (λ (v : TimedCall). IsTimed reading book (record { caller = caller; number = below }) v)
        (sym last.1) new)
  ];
}

pub rows-none : (reading : Reading) (book : List Page) → AreRowsTo reading book 0 []
rows-none reading book = record { size = refl; rows = λ i row at. absurd (none-some row at) }

pub rows-more : (reading : Reading) (book : List Page) (below : ℕ) (rows : List (List TimedCall))
    (row : List TimedCall) → AreRowsTo reading book below rows
    → IsRowTo reading book below (calls_of book below) row
    → AreRowsTo reading book (below + 1) (rows ++ row ∷ [])
rows-more reading book below rows row h new = record {
  size = omega (arith, h.size, length-append rows (row ∷ []));
  rows = λ i other at. elim (slice_get-push_cases rows row i other at) [
    | inl old ↦ h.rows i other old
    | inr last ↦
        let number : below ≡ i = omega (arith, last.0, h.size) in
        subst (λ (k : ℕ). IsRowTo reading book k (calls_of book k) other) number
        (subst (λ (r : List TimedCall). IsRowTo reading book below (calls_of book below) r)
        (sym last.1) new)
  ];
}

-- ---- takes that find nothing

pub finds-none : (reading : Reading) (book : List Page) → AreFindsTo reading book 0 0 []
finds-none reading book = record {
  right = λ k t at. absurd (none-some t at);
  all = λ e before nothing. elim before [
    | inl lt ↦ absurd (omega (arith, lt))
    | inr same ↦ absurd (omega (arith, same.1))
  ];
}

-- one more call, which finds nothing
pub finds-more : (reading : Reading) (book : List Page) (caller below : ℕ) (finds : List TimedCall)
    (t : TimedCall) → AreFindsTo reading book caller below finds
    → IsTimed reading book (record { caller = caller; number = below }) t
    → known_deal t.deal ≡ deals.FoundNothing
    → AreFindsTo reading book caller (below + 1) (finds ++ t ∷ [])
finds-more reading book caller below finds t h new nothing = record {
  right = λ k u at. elim (slice_get-push_cases finds t k u at) [
    | inl old ↦ h.right k u old
    | inr last ↦
        let here : IsTimed reading book t.call t =
        subst (λ (c : Call). IsTimed reading book c t) (sym new.call) new in
        subst (λ (v : TimedCall). IsTimed reading book v.call v
        × (deal_of reading book v.call ≡ deals.FoundNothing)) (sym last.1)
        (here, sym here.deal ∙ nothing)
  ];
  all = λ e before is. elim (cases_eq e.caller caller) [
    | inl own ↦
        elim (cases_eq e.number below) [
          | inl number ↦
              let call : t.call ≡ e = new.call
              ∙ same_call (record { caller = caller; number = below }) e (sym own) (sym number) in
              (length finds, t, slice_get-push_last finds t, call)
          | inr apart ↦
              let less : e.number < below = elim before [
                | inl lt ↦ omega (arith, lt, own)
                | inr same ↦ omega (arith, same.1, apart)
              ] in
              let there = h.all e (inr (own, less)) is in
              (there.0, there.1, slice_get-push_old finds t there.0 there.1 there.2, there.3)
        ]
    | inr apart ↦
        let less : e.caller < caller = elim before [
          | inl lt ↦ lt
          | inr same ↦ absurd (apart same.0)
        ] in
        let there = h.all e (inl less) is in
        (there.0, there.1, slice_get-push_old finds t there.0 there.1 there.2, there.3)
  ];
}

-- one more call that isn't a take that finds nothing adds no entry
pub finds-other : (reading : Reading) (book : List Page) (caller below : ℕ) (finds : List TimedCall)
    → AreFindsTo reading book caller below finds
    → (deal_of reading book (record { caller = caller; number = below }) ≡ deals.FoundNothing → ⊥)
    → AreFindsTo reading book caller (below + 1) finds
finds-other reading book caller below finds h not = record {
  right = h.right;
  all = λ e before is. elim before [
    | inl lt ↦ h.all e (inl lt) is
    | inr same ↦
        elim (cases_eq e.number below) [
          | inl number ↦
              let call : e ≡ record { caller = caller; number = below } =
              same_call e (record { caller = caller; number = below }) same.0 number in
              absurd (not (ap (deal_of reading book) (sym call) ∙ is))
          | inr apart ↦ h.all e (inr (same.0, omega (arith, same.1, apart))) is
        ]
  ];
}

is-find : (d : QueueDeal) → is_find d ≡ true → known_deal d ≡ deals.FoundNothing
is-find (did.Put v) e = absurd cc
is-find (did.Took v) e = absurd cc
is-find did.FoundNothing e = refl
is-find did.OpenTake e = absurd cc
is-find did.Other e = absurd cc

find-is : (d : QueueDeal) → known_deal d ≡ deals.FoundNothing → is_find d ≡ true
find-is (did.Put v) e = absurd cc
find-is (did.Took v) e = absurd cc
find-is did.FoundNothing e = refl
find-is did.OpenTake e = absurd cc
find-is did.Other e = absurd cc

finds-by : (reading : Reading) (book : List Page) (caller below : ℕ) (finds new : List TimedCall)
    (t : TimedCall) (b : Bool) → is_find t.deal ≡ b → AreFindsTo reading book caller below finds
    → IsTimed reading book (record { caller = caller; number = below }) t
    → (is_find t.deal ≡ true → new ≡ finds ++ t ∷ []) → (is_find t.deal ≡ false → new ≡ finds)
    → AreFindsTo reading book caller (below + 1) new
finds-by reading book caller below finds new t true e h timed added kept =
    subst (AreFindsTo reading book caller (below + 1)) (sym (added e))
    (finds-more reading book caller below finds t h timed (is-find t.deal e))
finds-by reading book caller below finds new t false e h timed added kept =
    subst (AreFindsTo reading book caller (below + 1)) (sym (kept e))
    (finds-other reading book caller below finds h
    (λ nothing. true≢false (sym (find-is t.deal (timed.deal ∙ nothing)) ∙ e)))

-- one more call, whatever it does
pub finds-step : (reading : Reading) (book : List Page) (caller below : ℕ)
    (finds new : List TimedCall) (t : TimedCall) → AreFindsTo reading book caller below finds
    → IsTimed reading book (record { caller = caller; number = below }) t
    → (is_find t.deal ≡ true → new ≡ finds ++ t ∷ []) → (is_find t.deal ≡ false → new ≡ finds)
    → AreFindsTo reading book caller (below + 1) new
finds-step reading book caller below finds new t =
    finds-by reading book caller below finds new t (is_find t.deal) refl

-- once all calls of a caller are looked at, the entries are those of all callers up to this one
pub finds-caller : (reading : Reading) (book : List Page) (caller : ℕ) (finds : List TimedCall)
    → AreFindsTo reading book caller (calls_of book caller) finds
    → AreFindsTo reading book (caller + 1) 0 finds
finds-caller reading book caller finds h = record {
  right = h.right;
  all = λ e before is. elim before [
    | inr same ↦ absurd (omega (arith, same.1))
    | inl lt ↦
        elim (cases_lt e.caller caller) [
          | inl less ↦ h.all e (inl less) is
          | inr ge ↦
              let own : e.caller ≡ caller = omega (arith, lt, ge) in
              let call : IsCall book e = call_by_deal reading book e
              (λ other. let wrong : deals.FoundNothing ≡ deals.Other = sym is ∙ other in cc) in
              let inside : e.number < calls_of book caller =
              subst (λ (i : ℕ). e.number < calls_of book i) own call in
              h.all e (inr (own, inside)) is
        ]
  ];
}

-- ---- the first from a number on

-- where a search of a row from some number on finds nothing, it finds nothing past the row's end
-- either
pub past-none : (row : List TimedCall) (from : ℕ) (find : Option TimedCall → Option TimedCall)
    → find None ≡ None
    → ((k : ℕ) → from ≤ k → k < length row → find (slice_get row k) ≡ None)
    → (n : ℕ) → from ≤ n → find (slice_get row n) ≡ None
past-none row from find none before n low =
    elim (cases_lt n (length row)) [
      | inl inside ↦ before n low inside
      | inr past ↦ ap find (slice_get_past row n past) ∙ none
    ]

-- ---- least values

pub least-none : (values : ℕ → ℕ) → IsLeastOf values 0 NEVER
least-none values = record { least = λ k lt. absurd (omega arith); some = inl refl }

pub least-more : (values : ℕ → ℕ) (below least value : ℕ) → IsLeastOf values below least
    → value ≡ values below → IsLeastOf values (below + 1) (min least value)
least-more values below least value h is = record {
  least = λ k lt. elim (cases_eq k below) [
    | inl same ↦ let here : values k ≡ value = ap values same ∙ sym is in omega arith
    | inr apart ↦ let low : least ≤ values k = h.least k (omega arith) in omega arith
  ];
  some = elim (cases_lt value least) [
    | inl less ↦
        inr (below, omega arith, (let small : min least value ≡ value = omega arith in small ∙ is))
    | inr ge ↦
        let same : min least value ≡ least = omega arith in
        elim h.some [
          | inl never ↦ inl (same ∙ never)
          | inr there ↦ inr (there.0, omega (arith, there.1), same ∙ there.2)
        ]
  ];
}
