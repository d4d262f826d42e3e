-- The sets that are still to be tried after the calls of a cut, and those that lead nowhere from
-- there.
use Rattle.std.proofs.Common.{◌≡◌, ℕ, zero, suc, ◌+◌, ◌^◌, ◌<◌, ◌≤◌, ◌∙◌, List, [], ◌∷◌, ◌++◌, length, map, get_or, take, Option, Some, None, Result, Ok, Err, IfOk, unwrap_or, refl, sym, ap, subst, inl, inr, slice_get, arith}
use Rattle.std.specs.List.{AllByRecursion}
use Rattle.std.specs.Option.{IfSome, IfNone}
use Rattle.std.proofs.lemmas.Bool.{cases_eq, cases_lt}
use Rattle.std.proofs.lemmas.Option.{same_Some, none-some, slice_get_within}
use Rattle.std.proofs.lemmas.List.{length-map, length_push, map-append, map_push, take_more, take_all}
use Rattle.std.proofs.lemmas.List.Elements.{All-from_recursion, All-get_or}
use Rattle.list_laws.proofs.Elements.{AllByRecursion-append}
use Rattle.book_base.proofs.PageLemmas.{caller_from_call}
use Rattle.book_base.specs.declared.call.Call.{Call}
use Rattle.book_base.specs.declared.call.Record.{Record}
use Rattle.book_base.specs.declared.call.Place.{Place}
use Rattle.book_base.specs.Book.{Page, IsCall, calls_of, operation_of, record_of}
use Rattle.book_base.specs.Order.{call_at, step_at}
use Rattle.book_base.specs.Next.{next_call, HoldsAnswered, MayComeNext}
use Rattle.legal_orders.proofs.LegalOrder.{same_place}
use Rattle.set_order.specs.Serving.{ServesTo, NeverRepliesFrom}
use Rattle.set_order.specs.SetOrder.{callers_of, operations_of, replies_of, RiseFrom}
use Rattle.set_order.specs.Search.{raised_by, picked, MayStandIn, MayStandTogether, IsDeadEnd, CannotStand, IsOneCaller, LeadsNowhere, AreCandidates, IsOpen, next_operations, ArePlaced, HasWrongReply}
use Rattle.set_order.proofs.Raising.{all_at, all_so, raised-new, raised-length}
use Rattle.set_order.proofs.SetOrders.{next-from_each}
use Rattle.set_order.proofs.Picking.{picked-each, picked-none, picked-some, picked-few, picked-rise, picked-all}

-- each place has the number of its caller's next call after a cut
abbrev pub HasNumber : List ℕ → Place → Type 0
HasNumber cut place = place.number ≡ get_or cut place.caller 0

pub numbers-from_each : (book : List Page) (cut : List ℕ) (places : List Place)
    → AllByRecursion (MayStandIn book cut) places → AllByRecursion (HasNumber cut) places
numbers-from_each book cut places each =
    all_so (MayStandIn book cut) (HasNumber cut) places (λ place may. may.may_come.next) each

call_is : (cut : List ℕ) (place : Place) → HasNumber cut place
    → call_at place ≡ next_call cut place.caller
call_is cut place number = let made : ℕ → Call =
    λ n. record { caller = place.caller; number = n } in ap made number

-- the operations of places are those of their callers' next calls
pub operations-next : (book : List Page) (cut : List ℕ) (places : List Place)
    → AllByRecursion (HasNumber cut) places
    → operations_of book places ≡ next_operations book cut (callers_of places)
operations-next book cut [] numbers = refl
operations-next book cut (place ∷ places) numbers =
    let first : (step_at book place).0
    ≡ unwrap_or (operation_of book (next_call cut place.caller)) 0 =
    ap (λ (c : Call). unwrap_or (operation_of book c) 0) (call_is cut place numbers.0) in
    let rest = operations-next book cut places numbers.1 in
    cc

-- places with the same callers, numbers and replies are equal
pub same_places : (cut : List ℕ) (a b : List Place) → callers_of a ≡ callers_of b → replies_of a
    ≡ replies_of b → AllByRecursion (HasNumber cut) a → AllByRecursion (HasNumber cut) b → a ≡ b
same_places cut [] [] callers replies numbers others = refl
same_places cut [] (y ∷ b) callers replies numbers others = absurd cc
same_places cut (x ∷ a) [] callers replies numbers others = absurd cc
same_places cut (x ∷ a) (y ∷ b) callers replies numbers others =
    let caller : x.caller ≡ y.caller = cc in
    let reply : x.reply ≡ y.reply = cc in
    let more : callers_of a ≡ callers_of b = cc in
    let further : replies_of a ≡ replies_of b = cc in
    let first : x ≡ y = same_place x y caller
    (numbers.0 ∙ (ap (λ (i : ℕ). get_or cut i 0) caller ∙ sym others.0)) reply in
    let rest : a ≡ b = same_places cut a b more further numbers.1 others.1 in
    cc

-- Of the same callers at most one set may come next, with one list after it.
pub same_set : (served : List ℕ → List ℕ → Option (List ℕ × List ℕ)) (book : List Page)
    (cut list : List ℕ) (a b : List Place) (after other : List ℕ)
    → callers_of a ≡ callers_of b → MayStandTogether served book cut list a after
    → MayStandTogether served book cut list b other → (a ≡ b) × (after ≡ other)
same_set served book cut list a b after other callers ha hb =
    let na = numbers-from_each book cut a ha.each in
    let nb = numbers-from_each book cut b hb.each in
    let ops : operations_of book a ≡ operations_of book b =
    operations-next book cut a na
    ∙ (ap (next_operations book cut) callers ∙ sym (operations-next book cut b nb)) in
    let both = same_Some (after, replies_of a) (other, replies_of b)
    (sym ha.served_so ∙ (ap (served list) ops ∙ hb.served_so)) in (
      same_places cut a b callers (ap (λ (x : List ℕ × List ℕ). x.1) both) na nb,
      ap (λ (x : List ℕ × List ℕ). x.0) both,
    )

-- A set that leads to a dead end leads nowhere.
pub nowhere-from_dead : (served : List ℕ → List ℕ → Option (List ℕ × List ℕ)) (book : List Page)
    (cut list : List ℕ) (places : List Place) (after callers : List ℕ)
    → callers_of places ≡ callers → MayStandTogether served book cut list places after
    → IsDeadEnd served book (raised_by cut places) after
    → LeadsNowhere served book cut list callers
nowhere-from_dead served book cut list places after callers is stands dead other
    list_after same may =
    let one =
    same_set served book cut list places other after list_after (is ∙ sym same) stands may in
    subst (λ (x : List Place). IsDeadEnd served book (raised_by cut x) list_after) one.0
    (subst (λ (l : List ℕ). IsDeadEnd served book (raised_by cut places) l) one.1 dead)

pub nowhere-from_cannot : (served : List ℕ → List ℕ → Option (List ℕ × List ℕ)) (book : List Page)
    (cut list callers : List ℕ)
    → CannotStand served book cut list callers → LeadsNowhere served book cut list callers
nowhere-from_cannot served book cut list callers cannot places after same may =
    absurd (cannot places after same may)

-- one number fewer is left to be tried
pub open-less : (served : List ℕ → List ℕ → Option (List ℕ × List ℕ)) (book : List Page) (cut list callers : List ℕ) (left less : ℕ) → less + 1 ≡ left
    → LeadsNowhere served book cut list (picked left callers)
    → IsOpen served book cut list callers left → IsOpen served book cut list callers less
open-less served book cut list callers left less e nowhere h = record {
  unended = h.unended;
  candidates = h.candidates;
  below = omega (arith, h.below);
  tried = λ (number : ℕ) (above : less < number) (below : number < 2 ^ length callers).
      elim (cases_eq number left) [
        | inl same ↦
            subst (λ (n : ℕ). LeadsNowhere served book cut list (picked n callers))
            (sym same) nowhere
        | inr other ↦ h.tried number (omega arith) below
      ];
}

pub open-start : (served : List ℕ → List ℕ → Option (List ℕ × List ℕ)) (book : List Page) (cut list callers : List ℕ) (left : ℕ) → left + 1 ≡ 2 ^ length callers
    → (HoldsAnswered book cut → ⊥) → AreCandidates book cut callers
    → IsOpen served book cut list callers left
open-start served book cut list callers left whole unended candidates = record {
  unended = unended;
  candidates = candidates;
  below = omega arith;
  tried = λ (number : ℕ) (above : left < number) (below : number < 2 ^ length callers).
      absurd (omega arith);
}

none_picked : (callers part : List ℕ) → 1 ≤ length part → picked 0 callers ≡ part → ⊥
none_picked callers part some e =
    absurd (omega (arith, some, ap (λ (x : List ℕ). length x) (sym (picked-none callers) ∙ e)))

long_enough : (places : List Place) → 1 ≤ length places → 1 ≤ length (callers_of places)
long_enough places some = omega (arith, length-map places (λ (p : Place). p.caller))

-- the callers of a set that may come next are candidates
all_among : (book : List Page) (cut callers : List ℕ) (places : List Place)
    → AreCandidates book cut callers → AllByRecursion (MayStandIn book cut) places
    → AllByRecursion (IsOneCaller callers) (callers_of places)
all_among book cut callers [] h each = tt
all_among book cut callers (place ∷ places) h each = (
  h.all place.caller (subst (λ (c : Call). MayComeNext book cut c)
      (call_is cut place each.0.may_come.next) each.0.may_come),
  all_among book cut callers places h each.1,
)

-- A cut and a list with no number left to be tried are a dead end.
pub dead_end : (served : List ℕ → List ℕ → Option (List ℕ × List ℕ)) (book : List Page)
    (cut list callers : List ℕ) → IsOpen served book cut list callers 0
    → IsDeadEnd served book cut list
dead_end served book cut list callers h [] goes = h.unended goes
dead_end served book cut list callers h (places ∷ sets) goes =
    let may : MayStandTogether served book cut list places goes.0 = goes.1 in
    let pick = picked-each 0 callers 0 (callers_of places) h.candidates.rise may.by_caller
    (all_among book cut callers places h.candidates may.each) in
    elim (cases_eq pick.number 0) [
      | inl none ↦ absurd (none_picked callers (callers_of places) (long_enough places may.some)
          (subst (λ (n : ℕ). picked n callers ≡ callers_of places) none pick.picks))
      | inr some ↦ h.tried pick.number (omega arith) pick.below places goes.0
          (sym pick.picks) may sets goes.2
    ]

place_at : (places : List Place) (at : ℕ) → at < length places
    → (place : Place) × (slice_get places at ≡ Some place)
    × (place.caller ≡ get_or (callers_of places) at 0)
    × (place.reply ≡ get_or (replies_of places) at 0)
place_at [] at inside = absurd (omega arith)
place_at (place ∷ places) zero inside = (place, refl, refl, refl)
place_at (place ∷ places) (suc at) inside = place_at places at (omega arith)

each-from_placed : (book : List Page) (cut : List ℕ) (places : List Place)
    → AllByRecursion (HasNumber cut) places
    → AllByRecursion
    (λ place. (r : Record) → record_of book (call_at place) ≡ Some r → r.reply ≡ place.reply) places
    → AllByRecursion (λ i. MayComeNext book cut (next_call cut i)) (callers_of places)
    → AllByRecursion (MayStandIn book cut) places
each-from_placed book cut [] numbers recorded may = tt
each-from_placed book cut (place ∷ places) numbers recorded may = (
  record {
    may_come =
        subst (λ (c : Call). MayComeNext book cut c) (sym (call_is cut place numbers.0)) may.0;
    recorded = recorded.0;
  },
  each-from_placed book cut places numbers.1 recorded.1 may.1,
)

-- Where the object gives a call another reply than the recorded one, no set of these callers may
-- come next.
pub wrong_reply : (served : List ℕ → List ℕ → Option (List ℕ × List ℕ)) (book : List Page)
    (cut list callers after replies : List ℕ)
    → served list (next_operations book cut callers) ≡ Some (after, replies)
    → HasWrongReply book cut callers replies → CannotStand served book cut list callers
wrong_reply served book cut list callers after replies gives wrong places other same may =
    let numbers = numbers-from_each book cut places may.each in
    let ops : operations_of book places ≡ next_operations book cut callers =
    operations-next book cut places numbers ∙ ap (next_operations book cut) same in
    let both = same_Some (other, replies_of places) (after, replies)
    (sym may.served_so ∙ (ap (served list) ops ∙ gives)) in
    let given : replies_of places ≡ replies = ap (λ (x : List ℕ × List ℕ). x.1) both in
    let long : wrong.at < length places = omega (
      arith,
      wrong.inside,
      ap (λ (x : List ℕ). length x) same,
      length-map places (λ (p : Place). p.caller),
    ) in
    let found = place_at places wrong.at long in
    let place : Place = found.0 in
    let stands = all_at (MayStandIn book cut) places wrong.at place may.each found.1 in
    let caller : place.caller ≡ get_or callers wrong.at 0 =
    found.2 ∙ ap (λ (x : List ℕ). get_or x wrong.at 0) same in
    let reply : place.reply ≡ get_or replies wrong.at 0 =
    found.3 ∙ ap (λ (x : List ℕ). get_or x wrong.at 0) given in
    let call : call_at place ≡ next_call cut (get_or callers wrong.at 0) =
    call_is cut place stands.may_come.next ∙ ap (next_call cut) caller in
    wrong.other (stands.recorded wrong.answer (ap (record_of book) call ∙ wrong.known) ∙ reply)

-- A set of callers' next calls that the object serves with the recorded replies may come next.
pub together-from_placed : (served : List ℕ → List ℕ → Option (List ℕ × List ℕ)) (book : List Page)
    (cut list callers after replies : List ℕ) (places : List Place)
    → served list (next_operations book cut callers) ≡ Some (after, replies)
    → ArePlaced book cut callers replies places → 1 ≤ length callers → RiseFrom 0 callers
    → AllByRecursion (λ i. MayComeNext book cut (next_call cut i)) callers
    → MayStandTogether served book cut list places after
together-from_placed served book cut list callers after replies places gives placed some rise may =
    record {
      some = omega (
        arith,
        some,
        ap (λ (x : List ℕ). length x) placed.callers_are,
        length-map places (λ (p : Place). p.caller),
      );
      by_caller = subst (λ (x : List ℕ). RiseFrom 0 x) (sym placed.callers_are) rise;
      each = each-from_placed book cut places placed.numbers placed.recorded
          (subst (λ (x : List ℕ). AllByRecursion (λ i. MayComeNext book cut (next_call cut i)) x)
          (sym placed.callers_are) may);
      served_so = ap (served list) (operations-next book cut places placed.numbers
          ∙ ap (next_operations book cut) placed.callers_are)
          ∙ (gives ∙ ap (λ (x : List ℕ). Some (after, x)) (sym placed.replies_are));
    }

-- The candidates that were found so far, of the callers below a number.
pub record AreCandidatesBelow (book : List Page) (cut : List ℕ) (below : ℕ)
    (callers : List ℕ) : Type 0 where
  pub rise : RiseFrom 0 callers
  pub small : AllByRecursion (λ i. i < below) callers
  pub may_come : AllByRecursion (λ i. MayComeNext book cut (next_call cut i)) callers
  pub all : (i : ℕ) → i < below → MayComeNext book cut (next_call cut i) → IsOneCaller callers i
  pub few : length callers ≤ below

rise-push : (low : ℕ) (callers : List ℕ) (i : ℕ) → low ≤ i → RiseFrom low callers
    → AllByRecursion (λ j. j < i) callers → RiseFrom low (callers ++ i ∷ [])
rise-push low [] i above rise small = (above, tt)
rise-push low (j ∷ callers) i above rise small =
    (rise.0, rise-push (j + 1) callers i (omega (arith, small.0)) rise.1 small.1)

one_of-old : (callers : List ℕ) (i j : ℕ) → IsOneCaller callers j
    → IsOneCaller (callers ++ i ∷ []) j
one_of-old [] i j h = absurd h
one_of-old (k ∷ callers) i j h = elim h [
  | inl here ↦ inl here
  | inr later ↦ inr (one_of-old callers i j later)
]

one_of-new : (callers : List ℕ) (i : ℕ) → IsOneCaller (callers ++ i ∷ []) i
one_of-new [] i = inl refl
one_of-new (k ∷ callers) i = inr (one_of-new callers i)

pub candidates-more : (book : List Page) (cut : List ℕ) (caller : ℕ) (callers : List ℕ)
    → AreCandidatesBelow book cut caller callers → MayComeNext book cut (next_call cut caller)
    → AreCandidatesBelow book cut (caller + 1) (callers ++ caller ∷ [])
candidates-more book cut caller callers h may = record {
  rise = rise-push 0 callers caller (omega arith) h.rise h.small;
  small = AllByRecursion-append (λ i. i < caller + 1) callers (caller ∷ [])
      (all_so (λ (i : ℕ). i < caller) (λ (i : ℕ). i < caller + 1) callers
      (λ (i : ℕ) (lt : i < caller). omega arith) h.small) (omega arith, tt);
  may_come = AllByRecursion-append (λ i. MayComeNext book cut (next_call cut i)) callers
      (caller ∷ []) h.may_come (may, tt);
  all = λ (i : ℕ) (below : i < caller + 1) (comes : MayComeNext book cut (next_call cut i)).
      elim (cases_lt i caller) [
        | inl early ↦ one_of-old callers caller i (h.all i early comes)
        | inr here ↦ let same : i ≡ caller = omega arith in
            subst (λ (j : ℕ). IsOneCaller (callers ++ caller ∷ []) j) (sym same)
            (one_of-new callers caller)
      ];
  few = omega (arith, h.few, length_push callers caller);
}

pub candidates-skip : (book : List Page) (cut : List ℕ) (caller : ℕ) (callers : List ℕ)
    → AreCandidatesBelow book cut caller callers → (MayComeNext book cut (next_call cut caller) → ⊥)
    → AreCandidatesBelow book cut (caller + 1) callers
candidates-skip book cut caller callers h not_it = record {
  rise = h.rise;
  small = all_so (λ (i : ℕ). i < caller) (λ (i : ℕ). i < caller + 1) callers
      (λ (i : ℕ) (lt : i < caller). omega arith) h.small;
  may_come = h.may_come;
  all = λ (i : ℕ) (below : i < caller + 1) (comes : MayComeNext book cut (next_call cut i)).
      elim (cases_lt i caller) [
        | inl early ↦ h.all i early comes
        | inr here ↦ let same : i ≡ caller = omega arith in
            absurd (not_it (subst (λ (j : ℕ). MayComeNext book cut (next_call cut j)) same comes))
      ];
  few = omega (arith, h.few);
}

-- Once all callers are looked at, all candidates are found.
pub candidates-all : (book : List Page) (cut : List ℕ) (below : ℕ) (callers : List ℕ)
    → below ≡ length book
    → AreCandidatesBelow book cut below callers → AreCandidates book cut callers
candidates-all book cut below callers e h = record {
  rise = h.rise;
  may_come = h.may_come;
  all = λ (i : ℕ) (comes : MayComeNext book cut (next_call cut i)).
      let there : i < length book = caller_from_call book i (get_or cut i 0) comes.is_call in
      let early : i < below = omega (arith, there) in
      h.all i early comes;
}

-- each of the candidates is a caller of the cut
pub caller-within : (cut callers : List ℕ) (at : ℕ) → at < length callers
    → AllByRecursion (λ i. i < length cut) callers → get_or callers at 0 < length cut
caller-within cut callers at inside all = All-get_or (λ i. i < length cut) callers at 0 inside
    (All-from_recursion (λ i. i < length cut) callers all)

-- the number of a candidate's next call is below that of its calls
pub number-within : (book : List Page) (cut callers : List ℕ) (at number : ℕ) → at < length callers
    → number ≡ get_or cut (get_or callers at 0) 0
    → AllByRecursion (λ i. IsCall book (next_call cut i)) callers
    → number < calls_of book (get_or callers at 0)
number-within book cut callers at number inside is all =
    let Made : ℕ → Type 0 = λ i. IsCall book (next_call cut i) in
    subst (λ (n : ℕ). n < calls_of book (get_or callers at 0)) (sym is)
    (All-get_or Made callers at 0 inside (All-from_recursion Made callers all))

-- the operations of callers' next calls, with one more
pub operations-more : (book : List Page) (cut callers : List ℕ) (at number op : ℕ) (ops : List ℕ)
    → ops ≡ next_operations book cut (take at callers)
    → at < length callers → number ≡ get_or cut (get_or callers at 0) 0
    → operation_of book (record { caller = get_or callers at 0; number = number }) ≡ Some op
    → ops ++ op ∷ [] ≡ next_operations book cut (take (at + 1) callers)
operations-more book cut callers at number op ops so inside is known =
    let caller : ℕ = get_or callers at 0 in
    let read : ℕ → ℕ =
    λ n. unwrap_or (operation_of book (record { caller = caller; number = n })) 0 in
    let one : op ≡ read (get_or cut caller 0) =
    sym (ap (λ (o : Option ℕ). unwrap_or o 0) known) ∙ ap read is in
    ap (λ (x : List ℕ). x ++ op ∷ []) so
    ∙ (ap (λ (n : ℕ). next_operations book cut (take at callers) ++ n ∷ []) one
    ∙ (sym (map_push (λ i. unwrap_or (operation_of book (next_call cut i)) 0) (take at callers)
    caller) ∙ ap (next_operations book cut) (sym (take_more callers at 0 inside))))

-- the places of callers' next calls, with one more
pub placed-more : (book : List Page) (cut callers replies : List ℕ) (at number reply : ℕ)
    (places : List Place) → ArePlaced book cut (take at callers) (take at replies) places
    → at < length callers → at < length replies → number ≡ get_or cut (get_or callers at 0) 0
    → reply ≡ get_or replies at 0
    → ((r : Record) → record_of book (record { caller = get_or callers at 0; number = number })
    ≡ Some r → r.reply ≡ reply)
    → ArePlaced book cut (take (at + 1) callers) (take (at + 1) replies)
    (places ++ record { caller = get_or callers at 0; number = number; reply = reply } ∷ [])
placed-more book cut callers replies at number reply places h inside within is gives recorded =
    let place : Place = record { caller = get_or callers at 0; number = number; reply = reply } in
    record {
      callers_are = map-append (λ (p : Place). p.caller) places (place ∷ [])
          ∙ (ap (λ (x : List ℕ). x ++ get_or callers at 0 ∷ []) h.callers_are
          ∙ sym (take_more callers at 0 inside));
      replies_are = map-append (λ (p : Place). p.reply) places (place ∷ [])
          ∙ (ap (λ (x : List ℕ). x ++ reply ∷ []) h.replies_are ∙ (ap
          (λ (n : ℕ). take at replies ++ n ∷ []) gives ∙ sym (take_more replies at 0 within)));
      numbers = AllByRecursion-append (HasNumber cut) places (place ∷ []) h.numbers (is, tt);
      recorded = AllByRecursion-append
          (λ p. (r : Record) → record_of book (call_at p) ≡ Some r → r.reply ≡ p.reply) places
          (place ∷ []) h.recorded (recorded, tt);
    }

-- the places of all callers' next calls
pub placed-all : (book : List Page) (cut callers replies : List ℕ) (at : ℕ) (places : List Place)
    → ArePlaced book cut (take at callers) (take at replies) places
    → length callers ≤ at → length replies ≡ length callers
    → ArePlaced book cut callers replies places
placed-all book cut callers replies at places h past same =
    subst (λ (x : List ℕ). ArePlaced book cut x replies places) (take_all at callers past)
    (subst (λ (x : List ℕ). ArePlaced book cut (take at callers) x places)
    (take_all at replies (omega arith)) h)

pub got : (xs : List ℕ) (k x : ℕ) → slice_get xs k ≡ Some x → get_or xs k 0 ≡ x
got [] k x e = absurd (none-some x e)
got (y ∷ xs) zero x e = same_Some y x e
got (y ∷ xs) (suc k) x e = got xs k x e

wrong_answer : (known : Option Record) (reply : ℕ)
    → (((r : Record) → known ≡ Some r → r.reply ≡ reply) → ⊥) → (r : Record) × (known ≡ Some r)
    × (r.reply ≡ reply → ⊥)
wrong_answer None reply wrong = absurd (wrong (λ r e. absurd (none-some r e)))
wrong_answer (Some answer) reply wrong = (
  answer,
  refl,
  λ same. wrong (λ r e. ap (λ (x : Record). x.reply) (sym (same_Some answer r e)) ∙ same),
)

pub wrong-from_other : (book : List Page) (cut callers replies : List ℕ) (at number reply : ℕ) → at
    < length callers → number ≡ get_or cut (get_or callers at 0) 0 → reply ≡ get_or replies at 0
    → (((r : Record) → record_of book (record { caller = get_or callers at 0; number = number })
    ≡ Some r → r.reply ≡ reply) → ⊥) → HasWrongReply book cut callers replies
wrong-from_other book cut callers replies at number reply inside is gives wrong =
    let made : ℕ → Call = λ n. record { caller = get_or callers at 0; number = n } in
    let found = wrong_answer (record_of book (made number)) reply wrong in
    record {
      at = at;
      inside = inside;
      answer = found.0;
      known = ap (λ (n : ℕ). record_of book (made n)) (sym is) ∙ found.1;
      other = λ same. found.2 (same ∙ sym gives);
    }

pub got_map : {X Y : Type 0} (f : X → Y) (xs : List X) (k : ℕ) (x : X) → slice_get xs k ≡ Some x
    → slice_get (map f xs) k ≡ Some (f x)
got_map f [] k x e = absurd (none-some x e)
got_map f (y ∷ xs) zero x e = ap (λ z. Some (f z)) (same_Some y x e)
got_map f (y ∷ xs) (suc k) x e = got_map f xs k x e

-- A cut and a list at which an answered call outside the cut never gets its recorded reply any more
-- are a dead end.
pub lost_dead : (served : List ℕ → List ℕ → Option (List ℕ × List ℕ)) (book : List Page)
    (call : Call) (op : ℕ) (answer : Record)
    → operation_of book call ≡ Some op → record_of book call ≡ Some answer → (cut list : List ℕ)
    → length book ≤ length cut → get_or cut call.caller 0 ≤ call.number
    → NeverRepliesFrom served list op answer.reply → IsDeadEnd served book cut list
lost_dead served book call op answer known answered cut list wide out never [] goes =
    let held : call.number < get_or cut call.caller 0 =
    goes call (slice_get_within _ call.number answer answered) in
    absurd (omega arith)
lost_dead served book call op answer known answered cut list wide out never (places ∷ sets) goes =
    let may : MayStandTogether served book cut list places goes.0 = goes.1 in
    let next = next-from_each book cut places wide may.by_caller may.each in
    elim (cases_lt call.number (get_or (raised_by cut places) call.caller 0)) [
      | inl held ↦
          let found = raised-new cut places call next out held in
          let place : Place = found.1.0 in
          let is : call_at place ≡ call = found.1.2 in
          let one = all_at (MayStandIn book cut) places found.0 place may.each found.1.1 in
          let asks : (step_at book place).0 ≡ op =
          ap (λ (o : Option ℕ). unwrap_or o 0) (ap (operation_of book) is ∙ known) in
          let gives : place.reply ≡ answer.reply =
          sym (one.recorded answer (ap (record_of book) is ∙ answered)) in
          absurd (never [] list refl (operations_of book places) goes.0
          (replies_of places) found.0 may.served_so
          (got_map (λ (p : Place). (step_at book p).0) places found.0 place found.1.1
          ∙ ap (λ (n : ℕ). Some n) asks)
          (got_map (λ (p : Place). p.reply) places found.0 place found.1.1
          ∙ ap (λ (n : ℕ). Some n) gives))
      | inr later ↦
          let wider : length book ≤ length (raised_by cut places) =
          omega (arith, raised-length cut places) in
          lost_dead served book call op answer known answered
          (raised_by cut places) goes.0 wider later
          (λ (more : List (List ℕ)) (last : List ℕ) (serves : ServesTo served goes.0 more last).
          never (operations_of book places ∷ more) last
          (goes.0, replies_of places, may.served_so, serves))
          sets goes.2
    ]

-- a property of a set that is found follows from another one

pub found_so : {X E : Type 0} (P Q : X → Type 0) (r : Result (Option X) E) → ((x : X) → P x → Q x)
    → IfOk r (λ found. IfSome found P) → IfOk r (λ found. IfSome found Q)
found_so P Q (Ok (Some x)) so h = so x h
found_so P Q (Ok None) so h = tt
found_so P Q (Err e) so h = tt

pub none_so : {X E : Type 0} (P Q : Type 0) (r : Result (Option X) E) → (P → Q)
    → IfOk r (λ found. IfNone found P) → IfOk r (λ found. IfNone found Q)
none_so P Q (Ok (Some x)) so h = tt
none_so P Q (Ok None) so h = so h
none_so P Q (Err e) so h = tt

-- a part of the candidates that a number picks: its callers rise, and their next calls may come
-- next
pub record IsPart (book : List Page) (cut part : List ℕ) : Type 0 where
  pub some : 1 ≤ length part
  pub few : length part ≤ length book
  pub rise : RiseFrom 0 part
  pub may_come : AllByRecursion (λ i. MayComeNext book cut (next_call cut i)) part

pub part-from_open : (served : List ℕ → List ℕ → Option (List ℕ × List ℕ)) (book : List Page)
    (cut list callers : List ℕ) (left : ℕ) → IsOpen served book cut list callers left → 1 ≤ left
    → length callers ≤ length book → IsPart book cut (picked left callers)
part-from_open served book cut list callers left h some few = record {
  some = picked-some left callers some h.below;
  few = omega (arith, few, picked-few left callers);
  rise = picked-rise 0 left callers h.candidates.rise;
  may_come = picked-all
      (λ (i : ℕ). MayComeNext book cut (next_call cut i)) left callers h.candidates.may_come;
}

rise-few : (low high : ℕ) (callers : List ℕ) → low ≤ high → RiseFrom low callers
    → AllByRecursion (λ i. i < high) callers → length callers + low ≤ high
rise-few low high [] le rise small = omega arith
rise-few low high (i ∷ callers) le rise small =
    let above : i + 1 ≤ high = omega (arith, small.0) in
    omega (arith, rise-few (i + 1) high callers above rise.1 small.1, rise.0)

-- there are no more candidates than callers
pub candidates-few : (book : List Page) (cut callers : List ℕ) → AreCandidates book cut callers
    → length callers ≤ length book
candidates-few book cut callers h =
    omega (
      arith,
      rise-few 0 (length book) callers (omega arith) h.rise
          (all_so (λ (i : ℕ). MayComeNext book cut (next_call cut i))
          (λ (i : ℕ). i < length book) callers
          (λ (i : ℕ) (may : MayComeNext book cut (next_call cut i)).
          caller_from_call book i (get_or cut i 0) may.is_call) h.may_come),
    )

-- where the object refuses the operations of callers' next calls, no set of these callers may come
-- next
pub cannot-from_none : (served : List ℕ → List ℕ → Option (List ℕ × List ℕ)) (book : List Page)
    (cut list callers : List ℕ)
    → served list (next_operations book cut callers) ≡ None
    → CannotStand served book cut list callers
cannot-from_none served book cut list callers refused places after same may =
    let numbers = numbers-from_each book cut places may.each in
    let ops : operations_of book places ≡ next_operations book cut callers =
    operations-next book cut places numbers ∙ ap (next_operations book cut) same in
    none-some (after, replies_of places) (sym (ap (served list) ops ∙ refused) ∙ may.served_so)
