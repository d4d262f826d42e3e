-- A legal order of a book from those of the parts of its keys, merged. The size of a place is the
-- moment of its call, where this is answered.
use Rattle.std.proofs.Common.{◌≡◌, ℕ, suc, ◌<◌, ◌≤◌, ◌∙◌, List, [], map, get_or, slice_get, slice_index, sum_by, Option, Some, unwrap_or, refl, sym, ap, subst, inl, inr, arith}
use Rattle.std.specs.Prelude.{option_map}
use Rattle.std.proofs.lemmas.Bool.{cases_lt, cases_order}
use Rattle.std.proofs.lemmas.List.Sums.{get_or-le-sum_by}
use Rattle.std.proofs.lemmas.Option.{same_Some, slice_get_within, unwrap_or-slice_get}
use Rattle.list_laws.proofs.Options.{map_some}
use Rattle.book_base.specs.declared.call.Call.{Call}
use Rattle.book_base.specs.declared.call.Place.{Place}
use Rattle.book_base.specs.declared.call.Record.{Record}
use Rattle.book_base.specs.SeqSpec.{SeqSpec}
use Rattle.book_base.specs.Cut.{Holds}
use Rattle.book_base.specs.Book.{Page, page_of, answers_of, IsCall, IsAnswered, IsValid, operation_of, record_of, Precedes}
use Rattle.book_base.specs.Order.{call_at, step_at, StandsAt, HasLegalOrder}
use Rattle.book_base.specs.Pruning.{HasOneOpen}
use Rattle.book_base.proofs.PageLemmas.{caller_from_call}
use Rattle.legal_orders.proofs.LegalOrder.{answer_stands}
use Rattle.queue_pairs.specs.Moments.{moment_of}
use Rattle.queue_pairs.proofs.Moments.{later_moment, held_unless_preceded}
use Rattle.smaller_book.proofs.Following.{some_that}
use Rattle.locality.specs.Locality.{IsProduct, Locality}
use Rattle.locality.proofs.Restricting.{legal_wholes_have_legal_parts}
use Rattle.locality.proofs.Sorting.{ranks_rise}
use Rattle.locality.proofs.Ranking.{IsRankedAt, sized_is_ranked}
use Rattle.locality.proofs.Merged.{ranked_of, merged, merged-sorted, from_merged, in_merged, before_in_key, merged_run}
use Rattle.locality.proofs.Renaming.{map_at, at_map, place_was, IsOrderOfKey, order_was}

-- ---- keys

-- More than the key of each operation word of a book.
abbrev key_bound : (ℕ → ℕ) → List Page → ℕ
key_bound key book = suc (sum_by (λ (page : Page). sum_by key page.operations) book)

-- the key of a call's operation word is below this bound
below_bound : (key : ℕ → ℕ) (book : List Page) (call : Call) → IsCall book call
    → key (unwrap_or (operation_of book call) 0) < key_bound key book
below_bound key book call inside =
    let words : List ℕ = (page_of book call.caller).operations in
    let own : key (get_or words call.number 0) ≤ sum_by key words =
    get_or-le-sum_by key words call.number 0 inside in
    let all : sum_by key words ≤ sum_by (λ (page : Page). sum_by key page.operations) book =
    get_or-le-sum_by (λ (page : Page). sum_by key page.operations) book call.caller
    (record { operations = []; records = [] })
    (caller_from_call book call.caller call.number inside) in
    omega (arith, own, all, ap key (unwrap_or-slice_get words call.number 0))

-- ---- the merged order

-- The moment of a place's call, where it is answered.
abbrev moment_at : List Page → Place → Option ℕ
moment_at book place = option_map moment_of (record_of book (call_at place))

module _ (key : ℕ → ℕ) (book : List Page) (objects : ℕ → SeqSpec) (orders : ℕ → List Place)
    (valid : IsValid book) (one_open : HasOneOpen book)
    (are : (k : ℕ) → IsOrderOfKey key k book (objects k) (orders k)) where
  own : (k j : ℕ) (place : Place) → slice_get (orders k) j ≡ Some place
      → key (step_at book place).0 ≡ k
  own k j place at = (are k).keys j place at

  abbrev bound : ℕ
  bound = key_bound key book

  -- the ranked places of all keys, sorted by rank
  abbrev all : List (ℕ × Place)
  all = merged key (step_at book) (moment_at book) orders bound own

  abbrev tag : ℕ × Place → ℕ
  tag y = key (step_at book y.1).0

  -- a merged place is in the order of its key, with its rank
  from_all : (j : ℕ) (y : ℕ × Place) → slice_get all j ≡ Some y
      → (i : ℕ)
      × (slice_get (ranked_of key (step_at book) (moment_at book) orders bound own (tag y)) i
      ≡ Some y)
      × IsRankedAt (moment_at book) (orders (tag y)) i y
  from_all j y at = from_merged key (step_at book) (moment_at book) orders bound own j y at

  -- The view of an answered call holds a ranked place's call, and its moment is the rank.
  record IsHeld (y : ℕ × Place) : Type 0 where
    by : Call
    answer : Record
    known : record_of book by ≡ Some answer
    holds : Holds answer.view (call_at y.1)
    moment : moment_of answer ≡ y.0

  held : (j : ℕ) (y : ℕ × Place) → slice_get all j ≡ Some y → IsHeld y
  held j y at =
      let there = from_all j y at in
      let mine = there.2 in
      let last = mine.1 in
      let by : Call = call_at last.item in
      let found = map_some (record_of book by) moment_of y.0 last.sized in
      record {
        by = by;
        answer = found.0;
        known = found.1;
        holds = held_unless_preceded book by (call_at y.1) found.0 found.1 (λ before. omega (
          arith,
          (are (tag y)).precedence last.index there.0 last.item y.1 last.at mine.0 before,
          last.from,
        ));
        moment = found.2;
      }

  -- the rank of an answered call is at most its moment
  rank-le : (j : ℕ) (y : ℕ × Place) (r : Record) → slice_get all j ≡ Some y
      → record_of book (call_at y.1) ≡ Some r → y.0 ≤ moment_of r
  rank-le j y r at known =
      let there = from_all j y at in
      let mine = there.2 in
      let least = sized_is_ranked (moment_at book) (orders (tag y)) there.0 y.1 (moment_of r)
      mine.0 (ap (option_map moment_of) known) in
      let same : ◌≡◌ {A = ℕ × Place} (least.0, y.1) y =
      same_Some (least.0, y.1) y (sym least.1 ∙ there.1) in
      omega (arith, least.2, ap (λ (z : ℕ × Place). z.0) same)

  -- an answered call stands before each call that its view doesn't hold
  stands_before : (j k : ℕ) (y z : ℕ × Place) (r : Record) → slice_get all j ≡ Some y
      → slice_get all k ≡ Some z → record_of book (call_at y.1) ≡ Some r
      → slice_index r.view z.1.caller ≤ z.1.number → j < k
  stands_before j k y z r at bt known lacks =
      let other = held k z bt in
      let later : moment_of r < moment_of other.answer =
      later_moment book (call_at y.1) other.by r other.answer (call_at z.1) valid known
      other.known lacks other.holds in
      elim (cases_lt j k) [
        | inl less ↦ less
        | inr le ↦ absurd (omega (
          arith,
          ranks_rise all k j z y
              (merged-sorted key (step_at book) (moment_at book) orders bound own) le bt at,
          rank-le j y r at known,
          later,
          other.moment,
        ))
      ]

  -- an unanswered call that stands in the merged order is its caller's first unanswered one
  number-le : (k : ℕ) (z : ℕ × Place) → slice_get all k ≡ Some z
      → z.1.number ≤ answers_of book z.1.caller
  number-le k z at =
      let other = held k z at in
      omega (arith, other.holds, one_open other.by other.answer z.1.caller other.known)

  -- each earlier call of its caller is answered, and its view doesn't hold it
  earlier_answered : (k : ℕ) (z : ℕ × Place) (a : Call) → slice_get all k ≡ Some z
      → a.caller ≡ z.1.caller → a.number < z.1.number
      → (r : Record) × (record_of book a ≡ Some r)
      × (slice_index r.view z.1.caller ≤ z.1.number)
  earlier_answered k z a at same less =
      let early : IsAnswered book a = omega (
        arith,
        less,
        number-le k z at,
        ap (λ (i : ℕ). answers_of book i) same,
      ) in
      let known = answer_stands book a early in (
        known.0,
        known.1,
        omega (
          arith,
          valid.own a known.0 known.1,
          ap (λ (i : ℕ). get_or known.0.view i 0) same,
          less,
        ),
      )

  -- a call stands before each one that it precedes
  keeps_precedence : (j k : ℕ) (y z : ℕ × Place) → slice_get all j ≡ Some y
      → slice_get all k ≡ Some z → Precedes book (call_at y.1) (call_at z.1) → j < k
  keeps_precedence j k y z at bt p = elim p [
    | inl answered ↦
        let known = some_that (record_of book (call_at y.1))
        (λ (r : Record). get_or r.view z.1.caller 0 ≤ z.1.number) answered in
        stands_before j k y z known.0 at bt known.1 known.2
    | inr own ↦
        let known = earlier_answered k z (call_at y.1) bt own.0 own.1 in
        stands_before j k y z known.0 at bt known.1 known.2
  ]

  -- the order of the book
  abbrev order : List Place
  order = map (λ (y : ℕ × Place). y.1) all

  stands_as : (j : ℕ) (call : Call) → StandsAt order j call
      → (y : ℕ × Place) × (slice_get all j ≡ Some y) × (call_at y.1 ≡ call)
  stands_as j call (place, at, is) =
      let there = map_at (λ (y : ℕ × Place). y.1) all j place at in
      (there.0, there.1, ap call_at there.2 ∙ is)

  -- each answered call stands in the order with its recorded reply
  answered_stands : (call : Call) (r : Record) → record_of book call ≡ Some r → (j : ℕ)
      × (slice_get order j
      ≡ Some (record { caller = call.caller; number = call.number; reply = r.reply }))
  answered_stands call r known =
      let k : ℕ = key (unwrap_or (operation_of book call) 0) in
      let early : IsAnswered book call = slice_get_within _ call.number r known in
      let is_call : IsCall book call = omega (arith, early, valid.answers call.caller) in
      let place : Place =
      record { caller = call.caller; number = call.number; reply = r.reply } in
      let found = (are k).answered call r known refl in
      let mine = sized_is_ranked (moment_at book) (orders k) found.0 place (moment_of r) found.1
      (ap (option_map moment_of) known) in
      let there = in_merged key (step_at book) (moment_at book) orders bound own k found.0
      (mine.0, place) (below_bound key book call is_call) mine.1 in
      (there.0, at_map (λ (y : ℕ × Place). y.1) all there.0 (mine.0, place) there.1)

  -- before a call stand all earlier calls of its caller
  earlier_stands : (k : ℕ) (z : ℕ × Place) (a : Call) → slice_get all k ≡ Some z
      → a.caller ≡ z.1.caller → a.number < z.1.number
      → (j : ℕ) × (j < k) × StandsAt order j a
  earlier_stands k z a at same less =
      let known = earlier_answered k z a at same less in
      let found = answered_stands a known.0 known.1 in
      let place : Place =
      record { caller = a.caller; number = a.number; reply = known.0.reply } in
      let stands : StandsAt order found.0 a = (place, found.1, refl) in
      let there = stands_as found.0 a stands in
      let answer : record_of book (call_at there.0.1) ≡ Some known.0 =
      ap (record_of book) there.2 ∙ known.1 in
      (found.0, stands_before found.0 k there.0 z known.0 there.1 at answer known.2, stands)

  -- no call stands at two places
  stands_once : (j k : ℕ) (y z : ℕ × Place) → slice_get all j ≡ Some y
      → slice_get all k ≡ Some z → call_at y.1 ≡ call_at z.1 → j < k → ⊥
  stands_once j k y z at bt same less =
      let keys : tag y ≡ tag z =
      ap (λ (c : Call). key (unwrap_or (operation_of book c) 0)) same in
      let kept = before_in_key key (step_at book) (moment_at book) orders bound own j k y z at bt
      keys less in
      omega (arith, (are (tag z)).once kept.0 kept.1 y.1 z.1 kept.3 kept.4 same, kept.2)

  merged_is_legal : (list_of : ℕ → List ℕ → List ℕ) (product : SeqSpec)
      → IsProduct key list_of objects product → HasLegalOrder product book
  merged_is_legal list_of product is = (
    order,
    record {
      calls = λ k call stands.
          let there = stands_as k call stands in
          let mine = from_all k there.0 there.1 in
          subst (IsCall book) there.2
          ((are (tag there.0)).calls mine.0 there.0.1 mine.2.0);
      once = λ j k call first second.
          let y = stands_as j call first in
          let z = stands_as k call second in
          elim (cases_order j k) [
            | inl e ↦ e
            | inr apart ↦ elim apart [
              | inl less ↦ absurd
                  (stands_once j k y.0 z.0 y.1 z.1 (y.2 ∙ sym z.2) less)
              | inr more ↦ absurd
                  (stands_once k j z.0 y.0 z.1 y.1 (z.2 ∙ sym y.2) more)
            ]
          ];
      earlier = λ k call stands number less.
          let z = stands_as k call stands in
          let a : Call = record { caller = call.caller; number = number } in
          let below : number < z.0.1.number =
          omega (arith, less, ap (λ (c : Call). c.number) z.2) in
          earlier_stands k z.0 a z.1 (sym (ap (λ (c : Call). c.caller) z.2)) below;
      answered = answered_stands;
      run = merged_run key (step_at book) (moment_at book) orders bound own list_of objects product
          is (λ k. (are k).run);
      precedence = λ j k a b first second p.
          let y = stands_as j a first in
          let z = stands_as k b second in
          keeps_precedence j k y.0 z.0 y.1 z.1
          (subst (λ (c : Call). Precedes book (call_at y.0.1) c) (sym z.2)
          (subst (λ (c : Call). Precedes book c b) (sym y.2) p));
    },
  )

pub locality : Locality
locality key list_of objects product book names parts is valid one_open of_keys = (
  λ legal k. legal_wholes_have_legal_parts key list_of objects product k book (names k) (parts k)
      is (of_keys k) legal,
  λ legal. merged_is_legal key book objects (λ k. map (place_was (names k)) (legal k).0) valid
      one_open (λ k. order_was key k book (names k) (parts k) (objects k) valid (of_keys k)
      (legal k).0 (legal k).1) list_of product is,
)
