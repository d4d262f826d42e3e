-- The first fault of a place, test by test.
use Rattle.std.proofs.Common.{◌≡◌, ◌≢◌, ℕ, zero, suc, ◌+◌, ◌-◌, ◌<◌, ◌≤◌, List, get_or, Some, refl, sym, ap, subst, slice_get, arith}
use Rattle.std.proofs.lemmas.Option.{slice_get_within}
use Rattle.book_base.specs.declared.call.Call.{Call}
use Rattle.book_base.specs.declared.call.Record.{Record as Answer}
use Rattle.book_base.specs.declared.call.Place.{Place}
use Rattle.book_base.specs.SeqSpec.{SeqSpec}
use Rattle.book_base.specs.Cut.{Holds}
use Rattle.book_base.specs.Book.{Page, IsCall, record_of, Precedes}
use Rattle.book_base.specs.Order.{call_at, StandsAt}
use Rattle.order_check.specs.declared.fault.OrderFault.{OrderFault}
use Rattle.order_check.specs.declared.fault.OrderFault.TheVariants.{Unknown, Twice, Skipped, Late, Record}
use Rattle.order_check.specs.Fault.{FailsTest, place_of, turn_of, step_of}
use Rattle.order_check.specs.Standing.{IsStanding, IsFirstAt}
use Rattle.order_check.proofs.Faults.{stands_here, same_stands}
use Rattle.order_check.proofs.Placing.{PassesTest, first_at, late_ties}

-- each call that stands at a place is the book's, where the call that the place names is
known : (book : List Page) (order : List Place) (p : ℕ) (place : Place) → slice_get order p
    ≡ Some place → IsCall book (call_at place) → (c : Call) → StandsAt order p c → IsCall book c
known book order p place at is c here = subst (IsCall book)
    (same_stands order p (call_at place) c (stands_here order p place at) here) is

-- the call at a place stands at no earlier place, where the cut of the earlier places doesn't hold
-- the call that the place names
once : (book : List Page) (order : List Place) (p : ℕ) (standing : List ℕ) (place : Place)
    → IsStanding book order p standing → slice_get order p ≡ Some place
    → get_or standing place.caller 0 ≤ place.number → (j : ℕ) (c : Call) → StandsAt order p c
    → j < p → StandsAt order j c → ⊥
once book order p standing place h at out j c here less bt =
    let held : Holds standing (call_at place) = subst (Holds standing)
    (sym (same_stands order p (call_at place) c (stands_here order p place at) here))
    (h.stands j c less bt) in
    absurd (omega (arith, held, out))

-- the previous call of a caller stands at an earlier place, where the call at the place is the
-- caller's next one after the cut of the earlier places
in_turn : (book : List Page) (order : List Place) (p : ℕ) (standing : List ℕ) (place : Place)
    → IsStanding book order p standing → slice_get order p ≡ Some place
    → place.number ≡ get_or standing place.caller 0 → (c : Call) → StandsAt order p c → (n : ℕ)
    → n + 1 ≡ c.number
    → (j : ℕ) × (j < p) × StandsAt order j (record { caller = c.caller; number = n })
in_turn book order p standing place h at number c here n e =
    let one : c ≡ call_at place =
    same_stands order p c (call_at place) here (stands_here order p place at) in
    let it : Call = record { caller = c.caller; number = n } in
    h.held it (omega (
      arith,
      e,
      number,
      ap (λ (x : Call). x.number) one,
      ap (λ (x : Call). get_or standing x.caller 0) one,
    ))

-- no test of a place has the turn of a test of step 0 and a lower step than this one
alone : (spec : SeqSpec) (book : List Page) (order : List Place) (p : ℕ) (fault : OrderFault)
    → step_of fault ≡ 0 → (other : OrderFault) → place_of order other ≡ p → turn_of other
    ≡ turn_of fault → step_of other < step_of fault → FailsTest spec book order other → ⊥
alone spec book order p fault one other here turn less failed =
    absurd (omega (arith, one, less))

-- where the call at a place isn't the book's, `Unknown` is the place's first fault
pub unknown_first : (spec : SeqSpec) (book : List Page) (order : List Place) (p : ℕ) (place : Place)
    → slice_get order p ≡ Some place → (IsCall book (call_at place) → ⊥)
    → IsFirstAt spec book order p (Unknown p)
unknown_first spec book order p place at unknown =
    first_at spec book order p (Unknown p) (slice_get_within order p place at)
    (call_at place, stands_here order p place at, unknown) refl
    (λ s less. absurd (omega (arith, less))) (alone spec book order p (Unknown p) refl)

-- a place whose call is the book's passes the first test
passes_one : (spec : SeqSpec) (book : List Page) (order : List Place) (p : ℕ) (place : Place)
    → slice_get order p ≡ Some place → IsCall book (call_at place) → (s : ℕ) → s < 1
    → PassesTest spec book order p s
passes_one spec book order p place at is zero less = known book order p place at is
passes_one spec book order p place at is (suc s) less = absurd (omega arith)

-- where the call at a place is the book's, and the cut of the earlier places holds it, `Twice` is
-- the place's first fault
pub twice_first : (spec : SeqSpec) (book : List Page) (order : List Place) (p : ℕ)
    (standing : List ℕ) (place : Place) → IsStanding book order p standing
    → slice_get order p ≡ Some place → IsCall book (call_at place)
    → place.number < get_or standing place.caller 0 → IsFirstAt spec book order p (Twice p)
twice_first spec book order p standing place h at is held =
    let before = h.held (call_at place) held in
    first_at spec book order p (Twice p) (slice_get_within order p place at)
    (call_at place, stands_here order p place at, before.0, before.1, before.2) refl
    (passes_one spec book order p place at is) (alone spec book order p (Twice p) refl)

-- a place passes the first two tests where its call is the book's, and the cut of the earlier
-- places doesn't hold it
passes_two : (spec : SeqSpec) (book : List Page) (order : List Place) (p : ℕ) (standing : List ℕ)
    (place : Place) → IsStanding book order p standing → slice_get order p ≡ Some place
    → IsCall book (call_at place) → get_or standing place.caller 0 ≤ place.number → (s : ℕ) → s < 2
    → PassesTest spec book order p s
passes_two spec book order p standing place h at is out zero less =
    known book order p place at is
passes_two spec book order p standing place h at is out (suc zero) less =
    once book order p standing place h at out
passes_two spec book order p standing place h at is out (suc (suc s)) less =
    absurd (omega arith)

-- where the call at a place is the book's, and its caller's next one after the cut of the earlier
-- places is an earlier call, `Skipped` is the place's first fault
pub skipped_first : (spec : SeqSpec) (book : List Page) (order : List Place) (p : ℕ)
    (standing : List ℕ) (place : Place) → IsStanding book order p standing
    → slice_get order p ≡ Some place → IsCall book (call_at place)
    → get_or standing place.caller 0 < place.number → IsFirstAt spec book order p (Skipped p)
skipped_first spec book order p standing place h at is more =
    let previous : ℕ = place.number - 1 in
    let it : Call = record { caller = place.caller; number = previous } in
    first_at spec book order p (Skipped p) (slice_get_within order p place at) (
      call_at place,
      stands_here order p place at,
      previous,
      omega (arith, more),
      λ (j : ℕ) (less : j < p) (bt : StandsAt order j it).
          absurd (omega (arith, h.stands j it less bt, more)),
    ) refl
    (passes_two spec book order p standing place h at is (omega (arith, more)))
    (alone spec book order p (Skipped p) refl)

-- a place passes the first three tests where its call is the book's, and is its caller's next one
-- after the cut of the earlier places
passes_three : (spec : SeqSpec) (book : List Page) (order : List Place) (p : ℕ) (standing : List ℕ)
    (place : Place) → IsStanding book order p standing → slice_get order p ≡ Some place
    → IsCall book (call_at place) → place.number ≡ get_or standing place.caller 0 → (s : ℕ) → s < 3
    → PassesTest spec book order p s
passes_three spec book order p standing place h at is number zero less =
    known book order p place at is
passes_three spec book order p standing place h at is number (suc zero) less =
    once book order p standing place h at (omega (arith, number))
passes_three spec book order p standing place h at is number (suc (suc zero)) less =
    in_turn book order p standing place h at number
passes_three spec book order p standing place h at is number (suc (suc (suc s))) less =
    absurd (omega arith)

-- where the call at a place is the book's and its caller's next one, and precedes a call at an
-- earlier place, `Late` with the first such place is the place's first fault
pub late_first : (spec : SeqSpec) (book : List Page) (order : List Place) (p q : ℕ)
    (standing : List ℕ) (place : Place) → IsStanding book order p standing
    → slice_get order p ≡ Some place → IsCall book (call_at place)
    → place.number ≡ get_or standing place.caller 0 → q < p → (b : Call) → StandsAt order q b
    → Precedes book (call_at place) b → ((j : ℕ) (other : Call) → j < q → StandsAt order j other
    → Precedes book (call_at place) other → ⊥) → IsFirstAt spec book order p (Late q p)
late_first spec book order p q standing place h at is number less b bt before least =
    let inside = slice_get_within order p place at in
    let here = stands_here order p place at in
    first_at spec book order p (Late q p) inside
    (call_at place, b, here, bt, less, before) refl
    (passes_three spec book order p standing place h at is number)
    (late_ties spec book order p q (call_at place) inside here least)

-- a place passes the first four tests where its call is the book's, is its caller's next one after
-- the cut of the earlier places, and precedes no call at an earlier place
passes_four : (spec : SeqSpec) (book : List Page) (order : List Place) (p : ℕ) (standing : List ℕ)
    (place : Place) → IsStanding book order p standing → slice_get order p ≡ Some place
    → IsCall book (call_at place) → place.number ≡ get_or standing place.caller 0
    → ((j : ℕ) (b : Call) → j < p → StandsAt order j b → Precedes book (call_at place) b → ⊥)
    → (s : ℕ) → s < 4 → PassesTest spec book order p s
passes_four spec book order p standing place h at is number in_time zero less =
    known book order p place at is
passes_four spec book order p standing place h at is number in_time (suc zero) less =
    once book order p standing place h at (omega (arith, number))
passes_four spec book order p standing place h at is number in_time (suc (suc zero)) less =
    in_turn book order p standing place h at number
passes_four spec book order p standing place h at is number in_time
    (suc (suc (suc zero))) less = λ (j : ℕ) (a b : Call) (here : StandsAt order p a) (fewer : j < p)
    (bt : StandsAt order j b) (prec : Precedes book a b).
    in_time j b fewer bt (subst (λ (x : Call). Precedes book x b)
    (same_stands order p a (call_at place) here (stands_here order p place at)) prec)
passes_four spec book order p standing place h at is number in_time
    (suc (suc (suc (suc s)))) less = absurd (omega arith)

-- where the call at a place is the book's and its caller's next one, precedes no call at an earlier
-- place, and has another recorded reply than the place, `Record` is the place's first fault
pub record_first : (spec : SeqSpec) (book : List Page) (order : List Place) (p : ℕ)
    (standing : List ℕ) (place : Place) (r : Answer) → IsStanding book order p standing
    → slice_get order p ≡ Some place → IsCall book (call_at place)
    → place.number ≡ get_or standing place.caller 0
    → ((j : ℕ) (b : Call) → j < p → StandsAt order j b → Precedes book (call_at place) b → ⊥)
    → record_of book (call_at place) ≡ Some r → r.reply ≢ place.reply
    → IsFirstAt spec book order p (Record p r.reply place.reply)
record_first spec book order p standing place r h at is number in_time answered other =
    first_at spec book order p (Record p r.reply place.reply)
    (slice_get_within order p place at) (place, r, at, answered, refl, refl, other) refl
    (passes_four spec book order p standing place h at is number in_time)
    (alone spec book order p (Record p r.reply place.reply) refl)
