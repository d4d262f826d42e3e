-- Which places are to be tried after a cut and at a list, such that where any places continue an
-- order from there, some that begin with one of these do.
use Rattle.std.proofs.Common.{◌≡◌, ℕ, zero, suc, ◌+◌, ◌<◌, ◌≤◌, ◌∙◌, List, [], ◌∷◌, ◌++◌, length, get_or, Option, Some, unwrap_or, refl, sym, ap, subst, inl, inr, arith}
use Rattle.std.specs.List.{AllByRecursion, insert}
use Rattle.std.proofs.lemmas.Bool.{cases_lt}
use Rattle.std.proofs.lemmas.Option.{same_Some}
use Rattle.book_base.specs.declared.call.Call.{Call}
use Rattle.book_base.specs.declared.call.Place.{Place}
use Rattle.book_base.specs.declared.call.Record.{Record}
use Rattle.book_base.specs.Book.{Page, operation_of, record_of}
use Rattle.book_base.specs.Order.{call_at, step_at}
use Rattle.book_base.specs.Reaching.{Leaves}
use Rattle.book_base.proofs.PageLemmas.{caller_from_call}
use Rattle.book_base.specs.Next.{next_call, raised, list_after, HoldsAnswered, MayComeNext, MayStandNext, Continues}
use Rattle.legal_orders.proofs.LegalOrder.{same_call, same_place}
use Rattle.legal_orders.specs.Standing.{MayStandAtOnce, answered_place, word_of}
use Rattle.legal_orders.proofs.Exchange.{goes_on_with_it}
use Rattle.frontier_check.specs.declared.choice.Choice.{Choice}
use Rattle.search_hints.specs.declared.marked_callers.MarkedCallers.{MarkedCallers}
use Rattle.book_base.specs.Pruning.{IsLeast, IsDeadEnd, StandsAtOnce}
use Rattle.search_hints.specs.Marks.{IsMarked, MarksSuffice}
use Rattle.frontier_check.specs.Search.{IsAmong, places_of, AreServedBy, IsOneMore, AreChosen, IsOpen, IsServed, GoesOnBy}

-- a place among the places of some choices, with one more choice inserted

-- An old place is still among the places.
pub among-insert_old : (choices : List Choice) (i : ℕ) (new : Choice) (place : Place)
    → IsAmong place (places_of choices) → IsAmong place (places_of (insert choices i new))
among-insert_old [] i new place h = absurd h
among-insert_old (first ∷ choices) zero new place h = inr h
among-insert_old (first ∷ choices) (suc i) new place h = elim h [
  | inl here ↦ inl here
  | inr there ↦ inr (among-insert_old choices i new place there)
]

-- The place of the inserted choice is among the places.
pub among-insert_new : (choices : List Choice) (i : ℕ) (new : Choice)
    → IsAmong new.place (places_of (insert choices i new))
among-insert_new [] zero new = inl refl
among-insert_new [] (suc i) new = inl refl
among-insert_new (first ∷ choices) zero new = inl refl
among-insert_new (first ∷ choices) (suc i) new = inr (among-insert_new choices i new)

-- What holds of all old places and of the new one holds of all places.
pub all-insert : (P : Place → Type 0) (choices : List Choice) (i : ℕ) (new : Choice) → P new.place
    → AllByRecursion P (places_of choices) → AllByRecursion P (places_of (insert choices i new))
all-insert P [] zero new p all = (p, all)
all-insert P [] (suc i) new p all = (p, all)
all-insert P (first ∷ choices) zero new p all = (p, all)
all-insert P (first ∷ choices) (suc i) new p all = (all.0, all-insert P choices i new p all.1)

-- some choices and a last one, with the place of the last one put first

among-last : (choices : List Choice) (last : Choice) (place : Place)
    → IsAmong place (places_of (choices ++ last ∷ []))
    → IsAmong place (last.place ∷ places_of choices)
among-last [] last place h = h
among-last (first ∷ choices) last place h = elim h [
  | inl here ↦ inr (inl here)
  | inr there ↦ elim (among-last choices last place there) [
    | inl it ↦ inl it
    | inr later ↦ inr (inr later)
  ]
]

all-last : (P : Place → Type 0) (choices : List Choice) (last : Choice)
    → AllByRecursion P (places_of (choices ++ last ∷ []))
    → AllByRecursion P (last.place ∷ places_of choices)
all-last P [] last all = all
all-last P (first ∷ choices) last all = let rest = all-last P choices last all.1 in
    (rest.0, (all.0, rest.1))

-- What is to be tried by choices stays so with the place of the last choice put first.
pub open-last : (book : List Page) (next : List ℕ → ℕ → List ℕ × ℕ) (cut list : List ℕ) (choices : List Choice) (last : Choice)
    → IsOpen book next cut list (places_of (choices ++ last ∷ []))
    → IsOpen book next cut list (last.place ∷ places_of choices)
open-last book next cut list choices last h = record {
  unended = h.unended;
  sound = all-last (MayStandNext book next cut list) choices last h.sound;
  covered = λ rest goes. let found = h.covered rest goes in
      (found.0, found.1, among-last choices last found.0 found.2, found.3);
}

-- Two places of one caller that may come next in an order after a cut and at a list are equal.
pub same_next : (book : List Page) (next : List ℕ → ℕ → List ℕ × ℕ) (cut list : List ℕ)
    (a b : Place) → MayStandNext book next cut list a → MayStandNext book next cut list b
    → a.caller ≡ b.caller → a ≡ b
same_next book next cut list a b ha hb caller =
    let number : a.number ≡ b.number =
    ha.may_come.next ∙ (ap (λ (i : ℕ). get_or cut i 0) caller ∙ sym hb.may_come.next) in
    let call : call_at a ≡ call_at b = same_call (call_at a) (call_at b) caller number in
    same_place a b caller number (sym ha.reply
    ∙ (ap (λ (c : Call). (next list (unwrap_or (operation_of book c) 0)).1) call ∙ hb.reply))

-- Where the first of the places to be tried leads to a dead end, the others are what is to be
-- tried.
pub open-rest : (book : List Page) (next : List ℕ → ℕ → List ℕ × ℕ) (cut list : List ℕ) (place : Place) (places : List Place)
    → IsDeadEnd book next (raised cut place.caller) (list_after book next list place)
    → IsOpen book next cut list (place ∷ places) → IsOpen book next cut list places
open-rest book next cut list place places dead h = record {
  unended = h.unended;
  sound = h.sound.1;
  covered = λ (rest : List Place) (goes : Continues book next cut list rest).
      let found = h.covered rest goes in
      elim found.2 [
        | inl same ↦ absurd (dead found.1 (subst (λ (p : Place). Continues book next
            (raised cut p.caller) (list_after book next list p) found.1) same found.3.1))
        | inr there ↦ (found.0, found.1, there, found.3)
      ];
}

-- A cut and a list at which no place is to be tried are a dead end.
pub dead_end : (book : List Page) (next : List ℕ → ℕ → List ℕ × ℕ) (cut list : List ℕ)
    → IsOpen book next cut list [] → IsDeadEnd book next cut list
dead_end book next cut list h rest goes = absurd (h.covered rest goes).2

-- callers considered one after another

-- No caller is below 0, and so no place is to be chosen for one.
pub chosen-start : (book : List Page) (next : List ℕ → ℕ → List ℕ × ℕ) (cut list : List ℕ)
    (marks : MarkedCallers) → AreChosen book next cut list marks 0 []
chosen-start book next cut list marks = record {
  sound = tt;
  covered = λ (place : Place) (rest : List Place) (below : place.caller < 0) marked goes.
      absurd (omega arith);
}

-- Where the places are chosen for the callers below a number, and become new ones by this caller's
-- next call, the new ones are chosen for the callers below the next number.
pub chosen-next : (book : List Page) (next : List ℕ → ℕ → List ℕ × ℕ) (cut list : List ℕ)
    (marks : MarkedCallers) (caller : ℕ) (old new : List Place)
    → AreChosen book next cut list marks caller old → IsOneMore book next cut list caller old new
    → AreChosen book next cut list marks (caller + 1) new
chosen-next book next cut list marks caller old new h more = record {
  sound = more.sound;
  covered = λ (place : Place) (rest : List Place) (below : place.caller < caller + 1)
      (marked : IsMarked marks place.caller) (goes : Continues book next cut list (place ∷ rest)).
      elim (cases_lt place.caller caller) [
        | inl early ↦ elim (h.covered place rest early marked goes) [
          | inl found ↦ inl (more.served found.0 found.1 found.2 found.3)
          | inr shorter ↦ inr shorter
        ]
        | inr here ↦ more.own place rest (omega arith) goes
      ];
}

-- the places serve for themselves
served_same : (book : List Page) (next : List ℕ → ℕ → List ℕ × ℕ) (cut list : List ℕ)
    (places : List Place) → AreServedBy book next cut list places places
served_same book next cut list places place rest among goes = (place, rest, among, goes)

-- The places stay as they are when one more caller is considered, where they already serve for that
-- caller's next call.
pub more-kept : (book : List Page) (next : List ℕ → ℕ → List ℕ × ℕ) (cut list : List ℕ) (caller : ℕ)
    (places : List Place) → AllByRecursion (MayStandNext book next cut list) places
    → ((place : Place) (rest : List Place) → place.caller ≡ caller → Continues book next cut list
    (place ∷ rest) → IsServed book next cut list places (length rest))
    → IsOneMore book next cut list caller places places
more-kept book next cut list caller places sound own =
    record { sound = sound; served = served_same book next cut list places; own = own }

-- One more caller is considered where its choice is inserted among the others.
pub more-insert : (book : List Page) (next : List ℕ → ℕ → List ℕ × ℕ) (cut list : List ℕ)
    (choices : List Choice) (i : ℕ) (new : Choice)
    → AllByRecursion (MayStandNext book next cut list) (places_of choices)
    → MayStandNext book next cut list new.place
    → IsOneMore book next cut list new.place.caller (places_of choices)
    (places_of (insert choices i new))
more-insert book next cut list choices i new sound may = record {
  sound = all-insert (MayStandNext book next cut list) choices i new may sound;
  served = λ (place : Place) (rest : List Place) among goes.
      (place, rest, among-insert_old choices i new place among, goes);
  own = λ (place : Place) (rest : List Place) (by : place.caller ≡ new.place.caller)
      (goes : Continues book next cut list (place ∷ rest)).
      let same : place ≡ new.place = same_next book next cut list place new.place goes.0 may by in
      inl (
        place,
        rest,
        subst (λ (p : Place). IsAmong p (places_of (insert choices i new))) (sym same)
            (among-insert_new choices i new),
        goes,
      );
}

-- A place may come next in an order where its call may come next, the object gives its reply at the
-- list, and that reply is the recorded one where the call is answered.
pub may_stand-from_step : (book : List Page) (next : List ℕ → ℕ → List ℕ × ℕ) (cut list : List ℕ)
    (place : Place) (op : ℕ) → MayComeNext book cut (call_at place)
    → operation_of book (call_at place) ≡ Some op
    → ((r : Record) → record_of book (call_at place) ≡ Some r → r.reply ≡ place.reply)
    → place.reply ≡ (next list op).1
    → MayStandNext book next cut list place
may_stand-from_step book next cut list place op may known recorded gives = record {
  may_come = may;
  recorded = recorded;
  reply = ap (λ (o : Option ℕ). (next list (unwrap_or o 0)).1) known ∙ sym gives;
}

-- Where a place of a caller may come next in an order, the reply that the object gives to the
-- caller's next call is the recorded one, if that call is answered.
pub recorded-from_may : (book : List Page) (next : List ℕ → ℕ → List ℕ × ℕ) (cut list : List ℕ)
    (caller op reply : ℕ) (place : Place)
    → operation_of book (next_call cut caller) ≡ Some op → reply ≡ (next list op).1
    → place.caller ≡ caller → MayStandNext book next cut list place
    → (r : Record) → record_of book (next_call cut caller) ≡ Some r → r.reply ≡ reply
recorded-from_may book next cut list caller op reply place known gives by may r there =
    let same : call_at place ≡ next_call cut caller = same_call (call_at place)
    (next_call cut caller) by (may.may_come.next ∙ ap (λ (i : ℕ). get_or cut i 0) by) in
    let asked : (next list (step_at book place).0).1 ≡ (next list op).1 =
    ap (λ (o : Option ℕ). (next list (unwrap_or o 0)).1) (ap (operation_of book) same ∙ known) in
    may.recorded r (ap (record_of book) same ∙ there) ∙ (sym may.reply ∙ (asked ∙ sym gives))

-- Where the next call of a caller after a cut has the least view, it is an answered call that the
-- cut lacks, and the cut doesn't hold all answered calls.
pub unended-from_least : (book : List Page) (cut : List ℕ) (first : ℕ)
    → IsLeast book cut (length book) first → HoldsAnswered book cut → ⊥
unended-from_least book cut first least all = let held : get_or cut first 0 < get_or cut first 0 =
    all (next_call cut first) least.answered in absurd (omega arith)

-- where no more than this many places continue an order, some that begin with a chosen place do
goes_on-by : (book : List Page) (next : List ℕ → ℕ → List ℕ × ℕ) (cut list : List ℕ)
    (marks : MarkedCallers)
    (places : List Place) → MarksSuffice book next cut list marks
    → AreChosen book next cut list marks (length book) places → (few : ℕ) (rest : List Place)
    → length rest ≤ few → Continues book next cut list rest → GoesOnBy book next cut list places
goes_on-by book next cut list marks places suffice h zero rest short goes = let by =
    suffice rest goes in absurd (omega (arith, by.4))
goes_on-by book next cut list marks places suffice h (suc few) rest short goes =
    let by = suffice rest goes in
    elim (h.covered by.0 by.1
    (caller_from_call book by.0.caller by.0.number by.3.0.may_come.is_call) by.2 by.3) [
      | inl found ↦ found
      | inr shorter ↦ goes_on-by book next cut list marks places suffice h few shorter.0
          (omega (arith, by.4, shorter.2)) shorter.1
    ]

-- Where the next call of a caller has the least view, the marks suffice, and places are chosen for
-- the marked ones of all callers of the book, these places are what is to be tried.
pub open-from_chosen : (book : List Page) (next : List ℕ → ℕ → List ℕ × ℕ) (cut list : List ℕ) (marks : MarkedCallers) (first : ℕ) (places : List Place) → IsLeast book cut (length book) first
    → MarksSuffice book next cut list marks
    → AreChosen book next cut list marks (length book) places → IsOpen book next cut list places
open-from_chosen book next cut list marks first places least suffice h = record {
  unended = unended-from_least book cut first least;
  sound = h.sound;
  covered = λ rest goes.
      goes_on-by book next cut list marks places suffice h (length rest) rest (omega arith) goes;
}

-- A place that may be taken at once is all that is to be tried, where the next call of a caller has
-- the least view.
pub open-from_once : (book : List Page) (next : List ℕ → ℕ → List ℕ × ℕ) (cut list : List ℕ) (first : ℕ) (place : Place) → IsLeast book cut (length book) first
    → StandsAtOnce book next cut list place → IsOpen book next cut list (place ∷ [])
open-from_once book next cut list first place least h = record {
  unended = unended-from_least book cut first least;
  sound = (h.may_stand, tt);
  covered = λ rest goes. let found = h.goes_on rest goes in (place, found.0, inl refl, found.1);
}

-- The place of an answered call that may come next may be taken at once, where the object gives its
-- recorded reply and the operation is read-only with it.
pub at_once : (book : List Page) (next : List ℕ → ℕ → List ℕ × ℕ) (cut list : List ℕ)
    (place : Place) (r : Record) (op : ℕ) → length cut ≡ length book
    → MayComeNext book cut (next_call cut place.caller) → place.number ≡ get_or cut place.caller 0
    → record_of book (call_at place) ≡ Some r → operation_of book (call_at place) ≡ Some op
    → r.reply ≡ place.reply → (next list op).1 ≡ place.reply → Leaves next op place.reply
    → StandsAtOnce book next cut list place
at_once book next cut list place r op wide may number known made reply gives leaves =
    let same : call_at place ≡ next_call cut place.caller =
    same_call (call_at place) (next_call cut place.caller) refl number in
    let word : word_of book (call_at place) ≡ op = ap (λ (o : Option ℕ). unwrap_or o 0) made in
    let comes : MayComeNext book cut (call_at place) =
    subst (λ (c : Call). MayComeNext book cut c) (sym same) may in
    let there : answered_place (call_at place) r ≡ place =
    same_place (answered_place (call_at place) r) place refl refl reply in
    let once : MayStandAtOnce book next cut list (call_at place) r = record {
      may_come = comes;
      known = known;
      gives = ap (λ (w : ℕ). (next list w).1) word ∙ (gives ∙ sym reply);
      leaves = subst (λ (w : ℕ). Leaves next w r.reply) (sym word)
          (subst (λ (n : ℕ). Leaves next op n) (sym reply) leaves);
    } in
    record {
      may_stand = may_stand-from_step book next cut list place op comes made
          (λ (s : Record) at. ap (λ (x : Record). x.reply) (same_Some s r (sym at ∙ known)) ∙ reply)
          (sym gives);
      goes_on = λ (rest : List Place) (goes : Continues book next cut list rest).
          let found = goes_on_with_it book next cut list (call_at place) r rest
          (omega (arith, wide)) once goes in (
            found.0,
            subst (λ (p : Place). Continues book next cut list (p ∷ found.0)) there found.1,
          );
    }

-- A place of a caller's next call, which may come next, may come next in an order with the reply
-- that the object gives, where that is the recorded one or the call is unanswered.
pub considered-place : (book : List Page) (next : List ℕ → ℕ → List ℕ × ℕ) (cut list : List ℕ)
    (place : Place) (op : ℕ)
    → place.number ≡ get_or cut place.caller 0 → MayComeNext book cut (next_call cut place.caller)
    → operation_of book (call_at place) ≡ Some op
    → ((r : Record) → record_of book (call_at place) ≡ Some r → r.reply ≡ place.reply)
    → place.reply ≡ (next list op).1
    → MayStandNext book next cut list place
considered-place book next cut list place op number may known recorded gives =
    let same : call_at place ≡ next_call cut place.caller =
    same_call (call_at place) (next_call cut place.caller) refl number in
    let comes : MayComeNext book cut (call_at place) =
    subst (λ (c : Call). MayComeNext book cut c) (sym same) may in
    may_stand-from_step book next cut list place op comes known recorded gives

-- Where the object doesn't give the recorded reply of a caller's next call, the places to be tried
-- stay as they are when this caller is considered.
pub considered-skip : (book : List Page) (next : List ℕ → ℕ → List ℕ × ℕ) (cut list : List ℕ)
    (places : List Place) (call : Call) (op reply : ℕ)
    → AllByRecursion (MayStandNext book next cut list) places
    → call.number ≡ get_or cut call.caller 0
    → operation_of book call ≡ Some op → reply ≡ (next list op).1
    → (((r : Record) → record_of book call ≡ Some r → r.reply ≡ reply) → ⊥)
    → IsOneMore book next cut list call.caller places places
considered-skip book next cut list places call op reply sound number known gives not =
    let same : call ≡ next_call cut call.caller =
    same_call call (next_call cut call.caller) refl number in
    more-kept book next cut list call.caller places sound (λ (place : Place) (rest : List Place)
    (by : place.caller ≡ call.caller) (goes : Continues book next cut list (place ∷ rest)).
    absurd (not (λ (r : Record) (there : record_of book call ≡ Some r).
    recorded-from_may book next cut list call.caller op reply place
    (sym (ap (operation_of book) same) ∙ known) gives by goes.0 r
    (sym (ap (record_of book) same) ∙ there))))

-- The places that are chosen stay as they are when a caller is considered that isn't marked.
pub unmarked-skip : (book : List Page) (next : List ℕ → ℕ → List ℕ × ℕ) (cut list : List ℕ)
    (marks : MarkedCallers) (places : List Place) (caller : ℕ)
    → AreChosen book next cut list marks caller places → (IsMarked marks caller → ⊥)
    → AreChosen book next cut list marks (caller + 1) places
unmarked-skip book next cut list marks places caller h not = record {
  sound = h.sound;
  covered = λ (place : Place) (rest : List Place) (below : place.caller < caller + 1)
      (marked : IsMarked marks place.caller) (goes : Continues book next cut list (place ∷ rest)).
      elim (cases_lt place.caller caller) [
        | inl early ↦ h.covered place rest early marked goes
        | inr here ↦ let at : place.caller ≡ caller = omega arith in
            absurd (not (subst (λ (i : ℕ). IsMarked marks i) at marked))
      ];
}

-- the view of the record of a caller's next call after a cut, found by the number of that call
pub view-of : (book : List Page) (cut : List ℕ) (first number : ℕ) (found : Record) → number
    ≡ get_or cut first 0 → record_of book (record { caller = first; number = number }) ≡ Some found
    → (r : Record) → record_of book (next_call cut first) ≡ Some r → r.view ≡ found.view
view-of book cut first number found is at r there =
    let made : ℕ → Call = λ n. record { caller = first; number = n } in
    ap (λ (x : Record). x.view)
    (same_Some r found (sym there ∙ (sym (ap (λ (n : ℕ). record_of book (made n)) is) ∙ at)))
