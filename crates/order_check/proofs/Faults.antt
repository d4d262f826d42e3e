-- Laws of the tests that a list of places may fail.
use Rattle.std.proofs.Common.{◌≡◌, ℕ, zero, suc, ◌<◌, ◌⊎◌, ◌∙◌, List, [], ◌∷◌, length, map, Some, refl, sym, ap, subst, inl, inr, slice_get, arith}
use Rattle.std.proofs.lemmas.Bool.{cases_lt}
use Rattle.std.proofs.lemmas.Option.{same_Some, none-some, slice_get_within}
use Rattle.book_base.specs.declared.call.Call.{Call}
use Rattle.book_base.specs.declared.call.Record.{Record as Answer}
use Rattle.book_base.specs.declared.call.Place.{Place}
use Rattle.book_base.specs.SeqSpec.{SeqSpec, spec_from}
use Rattle.book_base.specs.Book.{Page, record_of}
use Rattle.book_base.specs.Sequential.{IsRunFrom}
use Rattle.book_base.specs.Order.{call_at, StandsAt, step_at}
use Rattle.book_base.specs.Next.{list_after}
use Rattle.legal_orders.proofs.LegalOrder.{answer_stands}
use Rattle.order_check.specs.declared.fault.OrderFault.{OrderFault}
use Rattle.order_check.specs.declared.fault.OrderFault.TheVariants.{Unknown, Twice, Skipped, Late, Record, Run, Missing}
use Rattle.order_check.specs.Fault.{reply_after_places, FailsTest, place_of, turn_of, step_of}
use Rattle.order_check.specs.Laws.{LegalOrdersFailNoTest, FirstFaultsAreOne}

-- in a run the reply of each step is the one that the object gives after the operations before it
pub reply_in_run : (next : List ℕ → ℕ → List ℕ × ℕ) (book : List Page) (list : List ℕ)
    (order : List Place) → IsRunFrom next list (map (step_at book) order)
    → (k : ℕ) (place : Place) → slice_get order k ≡ Some place
    → reply_after_places (spec_from list next) book order k place ≡ place.reply
reply_in_run next book list [] run k place at = absurd (none-some place at)
reply_in_run next book list (x ∷ xs) run zero place at =
    subst (λ (y : Place). (next list (step_at book y).0).1 ≡ y.reply) (same_Some x place at) run.0
reply_in_run next book list (x ∷ xs) run (suc k) place at =
    reply_in_run next book (list_after book next list x) xs run.1 k place at

-- steps of which each has the reply that the object gives are a run
pub run_from_replies : (next : List ℕ → ℕ → List ℕ × ℕ) (book : List Page) (list : List ℕ)
    (order : List Place)
    → ((k : ℕ) (place : Place) → slice_get order k ≡ Some place
    → reply_after_places (spec_from list next) book order k place ≡ place.reply)
    → IsRunFrom next list (map (step_at book) order)
run_from_replies next book list [] given = tt
run_from_replies next book list (x ∷ xs) given = (
  given 0 x refl,
  run_from_replies next book (list_after book next list x) xs
      (λ (k : ℕ) (place : Place) (at : slice_get xs k ≡ Some place). given (suc k) place at),
)

-- the place that reading past the end would give
abbrev pub no_place : Place
no_place = record { caller = 0; number = 0; reply = 0 }

-- the call of the place at an index is in the order at this index
pub stands_here : (order : List Place) (k : ℕ) (place : Place) → slice_get order k ≡ Some place
    → StandsAt order k (call_at place)
stands_here order k place at = (place, at, refl)

-- an order has one call at an index
pub same_stands : (order : List Place) (k : ℕ) (a b : Call) → StandsAt order k a
    → StandsAt order k b → a ≡ b
same_stands order k a b (p, at, is) (q, bt, js) = let same : p ≡ q = same_Some p q (sym at ∙ bt) in
    sym is ∙ (ap call_at same ∙ js)

pub legal_orders_fail_no_test : LegalOrdersFailNoTest
legal_orders_fail_no_test spec book order h (Unknown p) f = f.2 (h.calls p f.0 f.1)
legal_orders_fail_no_test spec book order h (Twice p) f =
    absurd (omega (arith, h.once f.2 p f.0 f.4 f.1, f.3))
legal_orders_fail_no_test spec book order h (Skipped p) f =
    let before = h.earlier p f.0 f.1 f.2 (omega (arith, f.3)) in f.4 before.0 before.1 before.2
legal_orders_fail_no_test spec book order h (Late q p) f =
    absurd (omega (arith, h.precedence p q f.0 f.1 f.2 f.3 f.5, f.4))
legal_orders_fail_no_test spec book order h (Record p wanted found) f =
    let place : Place = f.0 in
    let r : Answer = f.1 in
    let there = h.answered (call_at place) r f.3 in
    let k : ℕ = there.0 in
    let other : Place = record { caller = place.caller; number = place.number; reply = r.reply } in
    let one : k ≡ p =
    h.once k p (call_at place) (other, there.1, refl) (stands_here order p place f.2) in
    let same : other ≡ place =
    same_Some other place (sym there.1 ∙ (ap (slice_get order) one ∙ f.2)) in
    f.6 (f.4 ∙ (ap (λ (x : Place). x.reply) same ∙ sym f.5))
legal_orders_fail_no_test spec book order h (Run p wanted found) f =
    f.4 (f.2 ∙ (reply_in_run spec.next book spec.init order h.run p f.0 f.1 ∙ sym f.3))
legal_orders_fail_no_test spec book order h (Missing caller number) f =
    let call : Call = record { caller = caller; number = number } in
    let known = answer_stands book call f.0 in
    let there = h.answered call known.0 known.1 in
    f.1 there.0 (record { caller = caller; number = number; reply = known.0.reply }, there.1, refl)

-- the object gives equal places at one index the same reply
same_run : (spec : SeqSpec) (book : List Page) (order : List Place) (p q : ℕ) (a b : Place) → p ≡ q
    → a ≡ b → reply_after_places spec book order p a ≡ reply_after_places spec book order q b
same_run spec book order p q a b place same =
    ap (λ (k : ℕ). reply_after_places spec book order k a) place
    ∙ ap (λ (x : Place). reply_after_places spec book order q x) same

-- an order has one place at an index
same_place_at : (order : List Place) (p q : ℕ) (a b : Place) → p ≡ q → slice_get order p ≡ Some a
    → slice_get order q ≡ Some b → a ≡ b
same_place_at order p q a b place at bt = same_Some a b (sym at ∙ (ap (slice_get order) place ∙ bt))

-- two faults that the list has are equal, where they are of one place within the list, and of one
-- turn and step
same_inside : (spec : SeqSpec) (book : List Page) (order : List Place) (e f : OrderFault)
    → place_of order e < length order → FailsTest spec book order e → FailsTest spec book order f
    → place_of order e ≡ place_of order f → turn_of e ≡ turn_of f → step_of e ≡ step_of f → e ≡ f
same_inside spec book order (Unknown p) (Unknown q) inside a b place turn step =
    ap (λ (k : ℕ). Unknown k) place
same_inside spec book order (Twice p) (Twice q) inside a b place turn step =
    ap (λ (k : ℕ). Twice k) place
same_inside spec book order (Skipped p) (Skipped q) inside a b place turn step =
    ap (λ (k : ℕ). Skipped k) place
same_inside spec book order (Late i p) (Late j q) inside a b place turn step =
    ap (λ (k : ℕ). Late k p) step ∙ ap (λ (k : ℕ). Late j k) place
same_inside spec book order (Record p w x) (Record q v y) inside a b place turn step =
    let one : a.0 ≡ b.0 = same_place_at order p q a.0 b.0 place a.2 b.2 in
    let answer : a.1 ≡ b.1 =
    same_Some a.1 b.1 (sym a.3 ∙ (ap (λ (k : Place). record_of book (call_at k)) one ∙ b.3)) in
    let wanted : w ≡ v = a.4 ∙ (ap (λ (r : Answer). r.reply) answer ∙ sym b.4) in
    let found : x ≡ y = a.5 ∙ (ap (λ (k : Place). k.reply) one ∙ sym b.5) in
    ap (λ (k : ℕ). Record k w x) place
    ∙ (ap (λ (k : ℕ). Record q k x) wanted ∙ ap (λ (k : ℕ). Record q v k) found)
same_inside spec book order (Run p w x) (Run q v y) inside a b place turn step =
    let one : a.0 ≡ b.0 = same_place_at order p q a.0 b.0 place a.1 b.1 in
    let wanted : w ≡ v = a.2 ∙ (same_run spec book order p q a.0 b.0 place one ∙ sym b.2) in
    let found : x ≡ y = a.3 ∙ (ap (λ (k : Place). k.reply) one ∙ sym b.3) in
    ap (λ (k : ℕ). Run k w x) place
    ∙ (ap (λ (k : ℕ). Run q k x) wanted ∙ ap (λ (k : ℕ). Run q v k) found)
same_inside spec book order e f inside a b place turn step =
    absurd (omega (arith, inside, place, turn))

-- the place of a fault is within the list, unless the fault is a missing call
pub placed : (spec : SeqSpec) (book : List Page) (order : List Place) (e : OrderFault)
    → FailsTest spec book order e → (place_of order e < length order)
    ⊎ (e ≡ Missing (turn_of e) (step_of e))
placed spec book order (Unknown p) f = inl (slice_get_within order p f.1.0 f.1.1)
placed spec book order (Twice p) f = inl (slice_get_within order p f.1.0 f.1.1)
placed spec book order (Skipped p) f = inl (slice_get_within order p f.1.0 f.1.1)
placed spec book order (Late q p) f = inl (slice_get_within order p f.2.0 f.2.1)
placed spec book order (Record p wanted found) f = inl (slice_get_within order p f.0 f.2)
placed spec book order (Run p wanted found) f = inl (slice_get_within order p f.0 f.1)
placed spec book order (Missing caller number) f = inr refl

-- two faults that the list has with one place, turn and step are equal
same_fault : (spec : SeqSpec) (book : List Page) (order : List Place) (e f : OrderFault)
    → FailsTest spec book order e → FailsTest spec book order f
    → place_of order e ≡ place_of order f → turn_of e ≡ turn_of f → step_of e ≡ step_of f → e ≡ f
same_fault spec book order e f a b place turn step =
    elim (placed spec book order e a) [
      | inl inside ↦ same_inside spec book order e f inside a b place turn step
      | inr missing ↦ elim (placed spec book order f b) [
        | inl inside ↦
            sym (same_inside spec book order f e inside b a (sym place) (sym turn) (sym step))
        | inr also ↦ missing ∙ (ap (λ (k : ℕ). Missing k (step_of e)) turn
            ∙ (ap (λ (k : ℕ). Missing (turn_of f) k) step ∙ sym also))
      ]
    ]

-- a list has at most one first fault, since of two tests one is tried first, unless their places,
-- turns and steps are the same
pub first_faults_are_one : FirstFaultsAreOne
first_faults_are_one spec book order e f h k =
    elim (cases_lt (place_of order e) (place_of order f)) [
      | inl less ↦ absurd (k.first e (inl less) h.fails)
      | inr not_before ↦ elim (cases_lt (place_of order f) (place_of order e)) [
        | inl less ↦ absurd (h.first f (inl less) k.fails)
        | inr not_after ↦
            let place : place_of order e ≡ place_of order f = omega arith in
            elim (cases_lt (turn_of e) (turn_of f)) [
              | inl less ↦ absurd (k.first e (inr (place, inl less)) h.fails)
              | inr no_sooner ↦ elim (cases_lt (turn_of f) (turn_of e)) [
                | inl less ↦ absurd (h.first f (inr (sym place, inl less)) k.fails)
                | inr no_later ↦
                    let turn : turn_of e ≡ turn_of f = omega arith in
                    elim (cases_lt (step_of e) (step_of f)) [
                      | inl less ↦ absurd (k.first e (inr (place, inr (turn, less))) h.fails)
                      | inr not_less ↦ elim (cases_lt (step_of f) (step_of e)) [
                        | inl less ↦
                            absurd (h.first f (inr (sym place, inr (sym turn, less))) k.fails)
                        | inr not_more ↦ same_fault spec book order e f h.fails k.fails place
                            turn (omega arith)
                      ]
                    ]
              ]
            ]
      ]
    ]
