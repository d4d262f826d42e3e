-- Twins, and unanswered calls that leave the list as it is: which places needn't be tried after a
-- cut.
use Rattle.std.proofs.Common.{◌≡◌, ℕ, zero, suc, ◌<◌, ◌∙◌, ◌⊎◌, ◌↔◌, Bool, IsTrue, IsFalse, List, [], ◌∷◌, length, get_or, Option, Some, unwrap_or, refl, sym, ap, subst, inl, inr, arith}
use Rattle.std.specs.List.{AllByRecursion, insert, remove}
use Rattle.std.proofs.lemmas.Bool.{cases_lt, cases_eq}
use Rattle.std.proofs.lemmas.List.{get_or_read}
use Rattle.book_base.specs.declared.call.Call.{Call}
use Rattle.book_base.specs.declared.call.Place.{Place}
use Rattle.book_base.specs.declared.call.Record.{Record}
use Rattle.book_base.specs.Cut.{IsWithin}
use Rattle.book_base.specs.Book.{Page, IsValid, IsCall, IsAnswered, answers_of, operation_of, record_of}
use Rattle.book_base.specs.Order.{call_at, step_at}
use Rattle.book_base.specs.Next.{list_after, MayStandNext, Continues}
use Rattle.book_base.specs.Pruning.{HasOneOpen, ViewsAreWithin}
use Rattle.legal_orders.proofs.LegalOrder.{same_call, answer_stands}
use Rattle.legal_orders.specs.Twins.{IsTwin, DoesTheSame}
use Rattle.legal_orders.proofs.Exchanging.{twin_serves}
use Rattle.legal_orders.proofs.Omitting.{idle_may_be_left_out}
use Rattle.frontier_check.specs.declared.choice.Choice.{Choice}
use Rattle.frontier_check.specs.Search.{IsAmong, places_of, GoesOnBy, IsOneMore}
use Rattle.frontier_check.specs.Twin.{HasOperationOf, ServesFor, IsKeptOf, IsAdded, IsExchanged}
use Rattle.search_hints.proofs.Least.{views_comparable}
use Rattle.frontier_check.proofs.Choosing.{same_next, among-insert_old, among-insert_new, all-insert, more-kept, more-insert}

-- choices by index, and what holds of all their places

-- What holds of the places of all choices holds of that at an index.
pub all-read : (P : Place → Type 0) (choices : List Choice) (k : ℕ) (d : Choice)
    → AllByRecursion P (places_of choices) → k < length choices → P (get_or choices k d).place
all-read P [] k d all inside = absurd (omega arith)
all-read P (first ∷ choices) zero d all inside = all.0
all-read P (first ∷ choices) (suc k) d all inside = all-read P choices k d all.1 (omega arith)

all-at : (P : Place → Type 0) (choices : List Choice) (k : ℕ) (at : Choice)
    → AllByRecursion P (places_of choices) → k < length choices → at ≡ get_or choices k at
    → P at.place
all-at P choices k at all inside is =
    subst (λ (c : Choice). P c.place) (sym is) (all-read P choices k at all inside)

-- Where the operation that is read of the choice at an index is that of a new place's call, the
-- call of that choice is one of the book with that operation.
pub twin_found : (book : List Page) (choices : List Choice) (k : ℕ) (d twin : Choice) (new : Place)
    (got other : Call) (op one : ℕ)
    → AllByRecursion (λ place. IsCall book (call_at place)) (places_of choices) → k < length choices
    → got ≡ call_at (get_or choices k d).place → other ≡ call_at new
    → operation_of book got ≡ Some op → operation_of book other ≡ Some one → op ≡ one
    → twin ≡ get_or choices k twin → HasOperationOf book new twin.place
twin_found book choices k d twin new got other op one calls inside got_is other_is got_does
    other_does same is =
    let read : call_at twin.place ≡ got =
    ap (λ (c : Choice). call_at c.place) (get_or_read choices k twin inside is d) ∙ sym got_is in (
      all-at (λ place. IsCall book (call_at place)) choices k twin calls inside is,
      ap (operation_of book) read ∙ (got_does
          ∙ (ap (λ (o : ℕ). Some o) same ∙ (sym other_does ∙ ap (operation_of book) other_is))),
    )

all-remove : (P : Place → Type 0) (choices : List Choice) (k : ℕ)
    → AllByRecursion P (places_of choices) → AllByRecursion P (places_of (remove choices k))
all-remove P [] zero all = all
all-remove P [] (suc k) all = all
all-remove P (first ∷ choices) zero all = all.1
all-remove P (first ∷ choices) (suc k) all = (all.0, all-remove P choices k all.1)

among-remove : (choices : List Choice) (k : ℕ) (at : Choice) (place : Place)
    → at ≡ get_or choices k at → IsAmong place (places_of choices)
    → (place ≡ at.place) ⊎ IsAmong place (places_of (remove choices k))
among-remove [] k at place is h = absurd h
among-remove (first ∷ choices) zero at place is h = elim h [
  | inl here ↦ inl (here ∙ ap (λ (c : Choice). c.place) (sym is))
  | inr there ↦ inr there
]
among-remove (first ∷ choices) (suc k) at place is h = elim h [
  | inl here ↦ inr (inl here)
  | inr there ↦ elim (among-remove choices k at place is there) [
    | inl it ↦ inl it
    | inr later ↦ inr (inr later)
  ]
]

-- places that may come next in an order are places of calls of the book
pub all_calls : (book : List Page) (next : List ℕ → ℕ → List ℕ × ℕ) (cut list : List ℕ)
    (places : List Place) → AllByRecursion (MayStandNext book next cut list) places
    → AllByRecursion (λ place. IsCall book (call_at place)) places
all_calls book next cut list [] all = all
all_calls book next cut list (place ∷ places) all =
    (all.0.may_come.is_call, all_calls book next cut list places all.1)

-- twins

-- Of two answered calls of one operation in a valid book the second serves for the first, where the
-- view of the first isn't within that of the second.
pub serves-second : (book : List Page) (a b : Call) (r s : Record) (answer : Bool) → IsValid book
    → operation_of book a ≡ operation_of book b → IsAnswered book b
    → record_of book a ≡ Some r → record_of book b ≡ Some s → IsTrue answer ↔ IsWithin r.view s.view
    → IsFalse answer → ServesFor book b a
serves-second book a b r s answer valid same answered at there says untrue = record {
  same = sym same;
  sooner = inl (
    answered,
    views_comparable book a b valid (λ (h : ViewsAreWithin book a b).
        absurd (let yes : IsTrue answer = says.1 (h r s at there) in cc)),
  );
}

-- Where the places of two calls of one operation may come next in an order at a list, and the view
-- of the first, which is answered, is within that of the second: the second is answered with the
-- reply of the first, or is unanswered and the object gives this reply.
does_the_same : (book : List Page) (next : List ℕ → ℕ → List ℕ × ℕ) (cut list : List ℕ)
    (a b : Place) (r : Record) → MayStandNext book next cut list a
    → MayStandNext book next cut list b
    → operation_of book (call_at a) ≡ operation_of book (call_at b)
    → record_of book (call_at a) ≡ Some r → ViewsAreWithin book (call_at a) (call_at b)
    → DoesTheSame book next list (call_at a) r (call_at b)
does_the_same book next cut list a b r ha hb same at views =
    let gives : (next list (step_at book a).0).1 ≡ r.reply = ha.reply ∙ sym (ha.recorded r at) in
    elim (cases_lt b.number (answers_of book b.caller)) [
      | inl answered ↦
          let there = answer_stands book (call_at b) answered in
          let word : (next list (step_at book b).0).1 ≡ (next list (step_at book a).0).1 =
          ap (λ (o : Option ℕ). (next list (unwrap_or o 0)).1) (sym same) in
          inl
          (there.0, there.1, hb.recorded there.0 there.1 ∙ (sym hb.reply ∙ (word ∙ gives)), views)
      | inr free ↦ inr (λ answered. absurd (omega arith), gives)
    ]

-- In a book with one open, where places that begin with a place continue an order, some that begin
-- with another one do, which may come next in an order and whose call serves for the call at the
-- first.
pub twin_goes_on : (book : List Page) (next : List ℕ → ℕ → List ℕ × ℕ) (cut list : List ℕ)
    (a b : Place) (rest : List Place) → length cut ≡ length book → IsValid book → HasOneOpen book
    → MayStandNext book next cut list a → ServesFor book (call_at a) (call_at b)
    → Continues book next cut list (b ∷ rest)
    → (other : List Place) × Continues book next cut list (a ∷ other)
twin_goes_on book next cut list a b rest wide valid one ha serves goes =
    elim (cases_eq a.caller b.caller) [
      | inl same ↦
          let is : a ≡ b = same_next book next cut list a b ha goes.0 same in
          (rest, subst (λ (p : Place). Continues book next cut list (p ∷ rest)) (sym is) goes)
      | inr apart ↦
          let twin : IsTwin book next cut list (call_at a) (call_at b) = record {
            apart = apart;
            first = ha.may_come;
            second = goes.0.may_come;
            same = serves.same;
            serves = elim serves.sooner [
              | inl first ↦
                  let there = answer_stands book (call_at a) first.0 in
                  inl (
                    there.0,
                    there.1,
                    does_the_same book next cut list a b there.0 ha goes.0 serves.same
                        there.1 first.1,
                  )
              | inr neither ↦ inr neither
            ];
          } in
          let found = twin_serves book next cut list (call_at a) b rest
          (omega (arith, wide)) valid one twin goes in
          let placed : Place = record { caller = a.caller; number = a.number; reply = b.reply } in
          let is : placed ≡ a = same_next book next cut list placed a found.1.0 ha refl in
          (found.0, subst (λ (p : Place). Continues book next cut list (p ∷ found.0)) is found.1)
    ]

-- In a book with one open, where places that begin with one of two places continue an order, some
-- that begin with the kept one do.
kept_goes_on : (book : List Page) (next : List ℕ → ℕ → List ℕ × ℕ) (cut list : List ℕ)
    (a b kept : Place) → length cut ≡ length book → IsValid book → HasOneOpen book
    → MayStandNext book next cut list a → MayStandNext book next cut list b → IsKeptOf book a b kept
    → (place : Place) (rest : List Place) → (place ≡ a) ⊎ (place ≡ b)
    → Continues book next cut list (place ∷ rest)
    → (other : List Place) × Continues book next cut list (kept ∷ other)
kept_goes_on book next cut list a b kept wide valid one ha hb is place rest which goes =
    let at : Place → List Place → Type 0 = λ p ps. Continues book next cut list (p ∷ ps) in
    elim is [
      | inl first ↦
          let found : (other : List Place) × at a other = elim which [
            | inl here ↦ (rest, subst (λ (p : Place). at p rest) here goes)
            | inr there ↦ twin_goes_on book next cut list a b rest wide valid one ha first.1
                (subst (λ (p : Place). at p rest) there goes)
          ] in
          (found.0, subst (λ (p : Place). at p found.0) (sym first.0) found.1)
      | inr second ↦
          let found : (other : List Place) × at b other = elim which [
            | inl here ↦ twin_goes_on book next cut list b a rest wide valid one hb second.1
                (subst (λ (p : Place). at p rest) here goes)
            | inr there ↦ (rest, subst (λ (p : Place). at p rest) there goes)
          ] in
          (found.0, subst (λ (p : Place). at p found.0) (sym second.0) found.1)
    ]

may_stand-kept : (book : List Page) (next : List ℕ → ℕ → List ℕ × ℕ) (cut list : List ℕ)
    (a b kept : Place) → MayStandNext book next cut list a → MayStandNext book next cut list b
    → IsKeptOf book a b kept → MayStandNext book next cut list kept
may_stand-kept book next cut list a b kept ha hb is = elim is [
  | inl first ↦ subst (λ (p : Place). MayStandNext book next cut list p) (sym first.0) ha
  | inr second ↦ subst (λ (p : Place). MayStandNext book next cut list p) (sym second.0) hb
]

-- One more caller is considered where its choice and an old one are exchanged for the one of them
-- that serves for the other.
more-exchanged : (book : List Page) (next : List ℕ → ℕ → List ℕ × ℕ) (cut list : List ℕ)
    (old : List Choice) (new : Choice) (items : List Choice) → length cut ≡ length book
    → IsValid book → AllByRecursion (MayStandNext book next cut list) (places_of old)
    → MayStandNext book next cut list new.place → IsExchanged book old new items
    → IsOneMore book next cut list new.place.caller (places_of old) (places_of items)
more-exchanged book next cut list old new items wide valid sound may x =
    let to : ℕ = x.exchanged.0 in
    let left : List Choice = remove old x.at in
    let twin_may : MayStandNext book next cut list x.twin.place =
    all-at (MayStandNext book next cut list) old x.at x.twin sound x.inside x.there in
    let goes_on = kept_goes_on book next cut list x.twin.place new.place x.kept.place wide valid
    x.one_open twin_may may x.serves in
    let by_kept : (place : Place) (rest : List Place) → (place ≡ x.twin.place) ⊎ (place ≡ new.place)
    → Continues book next cut list (place ∷ rest)
    → GoesOnBy book next cut list (places_of (insert left to x.kept))
    = λ place rest which goes. let found = goes_on place rest which goes in
    (x.kept.place, found.0, among-insert_new left to x.kept, found.1) in
    subst (λ (cs : List Choice). IsOneMore book next cut list new.place.caller (places_of old)
    (places_of cs)) (sym x.exchanged.1)
    (record {
      sound = all-insert (MayStandNext book next cut list) left to x.kept (may_stand-kept book next
          cut list x.twin.place new.place x.kept.place twin_may may x.serves)
          (all-remove (MayStandNext book next cut list) old x.at sound);
      served = λ (place : Place) (rest : List Place) among goes.
          elim (among-remove old x.at x.twin place x.there among) [
            | inl is ↦ by_kept place rest (inl is) goes
            | inr there ↦ (place, rest, among-insert_old left to x.kept place there, goes)
          ];
      own = λ (place : Place) (rest : List Place) by goes. inl (by_kept place rest
          (inr (same_next book next cut list place new.place goes.0 may by)) goes);
    })

-- One more caller is considered where its choice is inserted among the others, or it and an old one
-- are exchanged for the one of them that serves for the other.
pub considered-choice : (book : List Page) (next : List ℕ → ℕ → List ℕ × ℕ) (cut list : List ℕ)
    (old items : List Choice) (new : Choice) → length cut ≡ length book → IsValid book
    → AllByRecursion (MayStandNext book next cut list) (places_of old)
    → MayStandNext book next cut list new.place → IsAdded old new items
    ⊎ IsExchanged book old new items
    → IsOneMore book next cut list new.place.caller (places_of old) (places_of items)
considered-choice book next cut list old items new wide valid sound may which = elim which [
  | inl added ↦
      subst (λ (cs : List Choice). IsOneMore book next cut list new.place.caller (places_of old)
      (places_of cs)) (sym added.1) (more-insert book next cut list old added.0 new sound may)
  | inr exchanged ↦ more-exchanged book next cut list old new items wide valid sound may exchanged
]

-- In a book with one open, the places to be tried stay as they are when a caller is considered
-- whose next call is unanswered and leaves the list as it is.
pub considered-idle : (book : List Page) (next : List ℕ → ℕ → List ℕ × ℕ) (cut list : List ℕ)
    (places : List Place) (call : Call) (op : ℕ) → length cut ≡ length book → HasOneOpen book
    → AllByRecursion (MayStandNext book next cut list) places → call.number
    ≡ get_or cut call.caller 0 → operation_of book call ≡ Some op → (IsAnswered book call → ⊥)
    → (next list op).0 ≡ list → IsOneMore book next cut list call.caller places places
considered-idle book next cut list places call op wide one sound number known free leaves =
    more-kept book next cut list call.caller places sound
    (λ (place : Place) (rest : List Place) (by : place.caller ≡ call.caller)
    (goes : Continues book next cut list (place ∷ rest)).
    let same : call_at place ≡ call = same_call (call_at place) call by
    (goes.0.may_come.next ∙ (ap (λ (i : ℕ). get_or cut i 0) by ∙ sym number)) in
    let stays : list_after book next list place ≡ list =
    ap (λ (o : Option ℕ). (next list (unwrap_or o 0)).0) (ap (operation_of book) same ∙ known)
    ∙ leaves in
    inr (idle_may_be_left_out book next cut list place rest (omega (arith, wide)) one
    (λ (answered : IsAnswered book (call_at place)).
    free (subst (λ (c : Call). IsAnswered book c) same answered)) stays goes))
