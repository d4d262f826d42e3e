-- A sequential object's sets are single calls: its legal set orders are its legal orders.
use Rattle.std.proofs.Common.{◌≡◌, ℕ, ◌+◌, ◌≤◌, ◌↔◌, List, [], ◌∷◌, length, get_or, set, map, Some, refl, sym, ap, subst, arith}
use Rattle.std.proofs.lemmas.List.{length-replicate}
use Rattle.std.proofs.lemmas.Option.{same_Some, none-some}
use Rattle.book_base.specs.declared.call.Place.{Place}
use Rattle.book_base.specs.SeqSpec.{SeqSpec}
use Rattle.book_base.specs.Book.{Page}
use Rattle.book_base.specs.Order.{step_at, HasLegalOrder}
use Rattle.book_base.specs.Next.{raised, list_after, MayStandNext, Continues}
use Rattle.legal_orders.proofs.LegalOrder.{legal_order_from_continues, continues_from_legal_order}
use Rattle.set_order.specs.Serving.{served_alone}
use Rattle.set_order.specs.SetOrder.{replies_of, HasLegalSetOrder}
use Rattle.set_order.specs.Search.{no_calls, raised_by, MayStandTogether, SetsContinue}
use Rattle.set_order.proofs.Leading.{zeros}
use Rattle.set_order.proofs.SetOrders.{legal_order_from_continue, continue_from_legal_order}

-- a set that a sequential object serves is one call
record IsOneCall (book : List Page) (next : List ℕ → ℕ → List ℕ × ℕ) (cut list : List ℕ)
    (places : List Place) (after : List ℕ) : Type 0 where
  place : Place
  alone : places ≡ place ∷ []
  may : MayStandNext book next cut list place
  after_is : after ≡ list_after book next list place
  cut_is : raised_by cut places ≡ raised cut place.caller

one_call : (next : List ℕ → ℕ → List ℕ × ℕ) (book : List Page) (cut list : List ℕ)
    (places : List Place) (after : List ℕ)
    → MayStandTogether (served_alone next) book cut list places after
    → IsOneCall book next cut list places after
one_call next book cut list [] after h = absurd (let some = h.some in omega arith)
one_call next book cut list (place ∷ []) after h =
    let op : ℕ = (step_at book place).0 in
    let both =
    same_Some ((next list op).0, (next list op).1 ∷ []) (after, place.reply ∷ []) h.served_so in
    record {
      place = place;
      alone = refl;
      may = record {
        may_come = h.each.0.may_come;
        recorded = h.each.0.recorded;
        reply = ap (λ (x : List ℕ × List ℕ). get_or x.1 0 0) both;
      };
      after_is = sym (ap (λ (x : List ℕ × List ℕ). x.0) both);
      cut_is = ap (λ (n : ℕ). set cut place.caller (n + 1)) h.each.0.may_come.next;
    }
one_call next book cut list (place ∷ other ∷ places) after h =
    absurd (none-some (after, replies_of (place ∷ other ∷ places)) h.served_so)

calls_from_sets : (next : List ℕ → ℕ → List ℕ × ℕ) (book : List Page) (cut list : List ℕ)
    (sets : List (List Place)) → SetsContinue (served_alone next) book cut list sets
    → (order : List Place) × Continues book next cut list order
calls_from_sets next book cut list [] h = ([], h)
calls_from_sets next book cut list (places ∷ sets) h =
    let one = one_call next book cut list places h.0 h.1 in
    let rest = calls_from_sets next book (raised_by cut places) h.0 sets h.2 in
    let later : Continues book next (raised cut one.place.caller)
    (list_after book next list one.place) rest.0 =
    subst
    (λ (c : List ℕ). Continues book next c (list_after book next list one.place) rest.0) one.cut_is
    (subst (λ (l : List ℕ). Continues book next (raised_by cut places) l rest.0)
    one.after_is rest.1) in
    (one.place ∷ rest.0, (one.may, later))

-- a call that may come next is a set of one call that may come next
call_alone : (next : List ℕ → ℕ → List ℕ × ℕ) (book : List Page) (cut list : List ℕ) (place : Place)
    → MayStandNext book next cut list place
    → MayStandTogether (served_alone next) book cut list (place ∷ [])
    (list_after book next list place)
call_alone next book cut list place may = record {
  some = omega arith;
  by_caller = (omega arith, tt);
  each = (record { may_come = may.may_come; recorded = may.recorded }, tt);
  served_so = ap (λ (n : ℕ). Some ((next list (step_at book place).0).0, n ∷ [])) may.reply;
}

sets_from_calls : (next : List ℕ → ℕ → List ℕ × ℕ) (book : List Page) (cut list : List ℕ)
    (order : List Place) → Continues book next cut list order
    → SetsContinue (served_alone next) book cut list (map (λ place. place ∷ []) order)
sets_from_calls next book cut list [] h = h
sets_from_calls next book cut list (place ∷ order) h =
    let at : raised cut place.caller ≡ raised_by cut (place ∷ []) =
    ap (λ (n : ℕ). set cut place.caller (n + 1)) (sym h.0.may_come.next) in (
      list_after book next list place,
      call_alone next book cut list place h.0,
      sets_from_calls next book (raised_by cut (place ∷ [])) (list_after book next list place) order
          (subst
          (λ (c : List ℕ). Continues book next c (list_after book next list place) order) at h.1),
    )

-- For a sequential object, a book has a legal set order exactly where it has a legal order.
pub alone_law : (spec : SeqSpec) (book : List Page)
    → HasLegalSetOrder spec.init (served_alone spec.next) book ↔ HasLegalOrder spec book
alone_law spec book =
    let long : length (no_calls book) ≡ length book = length-replicate (length book) 0 in
    let wide : length book ≤ length (no_calls book) = omega arith in (
      λ (legal : HasLegalSetOrder spec.init (served_alone spec.next) book).
          let calls =
          calls_from_sets spec.next book (no_calls book) spec.init legal.0
          (continue_from_legal_order spec.init
          (served_alone spec.next) book (no_calls book) legal.0 wide (zeros book) legal.1) in (
            calls.0,
            legal_order_from_continues book spec (no_calls book) calls.0 wide
                (zeros book) calls.1,
          ),
      λ (legal : HasLegalOrder spec book).
          let sets : List (List Place) = map (λ place. place ∷ []) legal.0 in (
            sets,
            legal_order_from_continue spec.init (served_alone spec.next) book
                (no_calls book) sets wide
                (zeros book)
                (sets_from_calls spec.next book (no_calls book) spec.init legal.0
                (continues_from_legal_order
                book spec (no_calls book) legal.0 wide (zeros book) legal.1)),
          ),
    )

-- The list after the operation of a set of one fits a capacity that the list after each set fits
-- that a sequential object serves.
pub alone_room : (next : List ℕ → ℕ → List ℕ × ℕ) (list ops : List ℕ) (room : ℕ)
    → length ops ≡ 1
    → ((after replies : List ℕ) → served_alone next list ops ≡ Some (after, replies)
    → length after ≤ room) → length (next list (get_or ops 0 0)).0 ≤ room
alone_room next list [] room one fits = absurd (omega (arith, one))
alone_room next list (op ∷ []) room one fits = fits (next list op).0 ((next list op).1 ∷ []) refl
alone_room next list (op ∷ other ∷ ops) room one fits = absurd (omega (arith, one))
