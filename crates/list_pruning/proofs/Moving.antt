-- A place that comes before a forced call in some order may come next at once.
use Rattle.std.proofs.Common.{◌≡◌, ◌≢◌, ℕ, ◌+◌, ◌<◌, ◌≤◌, ◌∙◌, List, [], ◌∷◌, map, length, get_or, Some, sym, ap, subst, inl, inr, length-set, arith}
use Rattle.book_base.specs.declared.call.Call.{Call}
use Rattle.book_base.specs.declared.call.Place.{Place}
use Rattle.book_base.specs.declared.call.Record.{Record}
use Rattle.book_base.specs.Book.{Page, IsValid, record_of, Precedes}
use Rattle.book_base.specs.Order.{call_at, step_at}
use Rattle.book_base.specs.Sequential.{IsRunFrom}
use Rattle.book_base.specs.Next.{raised, next_call, MayComeNext, HoldsAnswered, Continues}
use Rattle.book_base.specs.Pruning.{HasOneOpen, IsForced}
use Rattle.legal_orders.proofs.LegalOrder.{raised_same, raised_other, raised_cases, raised_twice, comes_later, same_call, within_cut}
use Rattle.legal_orders.proofs.Forcing.{forced-free, forced-stays}

-- a place's call may come next, and its reply is the recorded one, where the call is answered
abbrev pub MayBeNext : List Page → List ℕ → Place → Type 0
MayBeNext book cut place = MayComeNext book cut (call_at place)
    × ((r : Record) → record_of book (call_at place) ≡ Some r → r.reply ≡ place.reply)

-- The places may come one after another, after the calls of a cut, and then all answered calls have
-- come.
abbrev pub Comes : List Page → List ℕ → List Place → Type 0
Comes book cut [] = HoldsAnswered book cut
Comes book cut (place ∷ rest) = MayBeNext book cut place × Comes book (raised cut place.caller) rest

-- The places may come one after another, and the object gives their replies.
abbrev pub Goes : List Page → (List ℕ → ℕ → List ℕ × ℕ) → List ℕ → List ℕ → List Place → Type 0
Goes book next cut list places = Comes book cut places
    × IsRunFrom next list (map (step_at book) places)

pub goes_from_continues : (book : List Page) (next : List ℕ → ℕ → List ℕ × ℕ) (cut list : List ℕ)
    (rest : List Place) → Continues book next cut list rest → Goes book next cut list rest
goes_from_continues book next cut list [] goes = (goes, tt)
goes_from_continues book next cut list (place ∷ rest) goes =
    let on = goes_from_continues book next (raised cut place.caller)
    (next list (step_at book place).0).0 rest goes.1 in
    (((goes.0.may_come, goes.0.recorded), on.0), (goes.0.reply, on.1))

pub continues_from_goes : (book : List Page) (next : List ℕ → ℕ → List ℕ × ℕ) (cut list : List ℕ)
    (rest : List Place) → Goes book next cut list rest → Continues book next cut list rest
continues_from_goes book next cut list [] goes = goes.0
continues_from_goes book next cut list (place ∷ rest) goes = (
  record { may_come = goes.0.0.0; recorded = goes.0.0.1; reply = goes.1.0 },
  continues_from_goes book next (raised cut place.caller) (next list (step_at book place).0).0 rest
      (goes.0.1, goes.1.1),
)

-- A forced call is still to come after a cut.
pub record Waits (book : List Page) (cut : List ℕ) (c : Place) : Type 0 where
  pub wide : length book ≤ length cut
  pub forced : IsForced book cut c.caller
  pub at : c.number ≡ get_or cut c.caller 0

pub waits_later : (book : List Page) (cut : List ℕ) (c : Place) (i : ℕ) → IsValid book
    → i < length cut → i ≢ c.caller → Waits book cut c → Waits book (raised cut i) c
waits_later book cut c i valid inside apart waits = record {
  wide = omega (arith, waits.wide, length-set cut i (get_or cut i 0 + 1));
  forced = forced-stays book cut c.caller i valid inside
      (λ (e : c.caller ≡ i). apart (sym e)) waits.forced;
  at = waits.at ∙ sym (raised_other cut i c.caller (λ (e : c.caller ≡ i). apart (sym e)));
}

-- While a forced call is still to come, two neighbours may change places where the first isn't of
-- the forced caller.
pub comes_up : (book : List Page) (cut : List ℕ) (c : Place) → IsValid book → HasOneOpen book
    → Waits book cut c → (a b : Place) (rest : List Place) → a.caller ≢ c.caller
    → Comes book cut (a ∷ b ∷ rest) → Comes book cut (b ∷ a ∷ rest)
comes_up book cut c valid one waits a b rest apart comes =
    let inside : a.caller < length cut =
    within_cut book cut (call_at a) waits.wide comes.0.0.is_call in
    let there = comes.1.0.0 in
    let unforced : Precedes book (next_call cut c.caller) (call_at b) → ⊥ =
    λ (before : Precedes book (next_call cut c.caller) (call_at b)).
    let held : get_or cut c.caller 0 < get_or (raised cut a.caller) c.caller 0 =
    there.preceded (next_call cut c.caller) before in
    omega (
      arith,
      held,
      raised_other cut a.caller c.caller (λ (e : c.caller ≡ a.caller). apart (sym e)),
    ) in
    let out : get_or cut a.caller 0 ≤ a.number = omega (arith, comes.0.0.next) in
    let free : Precedes book (call_at a) (call_at b) → ⊥ =
    forced-free book cut c.caller (call_at a) (call_at b) valid one waits.forced out unforced in
    let two : a.caller ≢ b.caller = λ (e : a.caller ≡ b.caller).
    free (inr (
      e,
      omega (
        arith,
        there.next,
        comes.0.0.next,
        raised_same cut a.caller inside,
        ap (λ (i : ℕ). get_or (raised cut a.caller) i 0) e,
      ),
    )) in
    let may : MayComeNext book cut (call_at b) = record {
      is_call = there.is_call;
      next = there.next
          ∙ raised_other cut a.caller b.caller (λ (e : b.caller ≡ a.caller). two (sym e));
      preceded = λ (z : Call) (before : Precedes book z (call_at b)).
          elim (raised_cases cut a.caller z inside (there.preceded z before)) [
            | inl old ↦ old
            | inr new ↦
                absurd (free (subst (λ (k : Call). Precedes book k (call_at b))
                (same_call z (call_at a) new.0 (new.1 ∙ sym comes.0.0.next)) before))
          ];
    } in
    let in_b : b.caller < length cut = within_cut book cut (call_at b) waits.wide there.is_call in (
      (may, comes.1.0.1),
      (
        (comes_later book cut b.caller (call_at a) in_b two comes.0.0, comes.0.1),
        subst (λ (k : List ℕ). Comes book k rest)
            (raised_twice cut a.caller b.caller two) comes.1.1,
      ),
    )

-- While a forced call is still to come, a place may be moved before two others that aren't of the
-- forced caller.
pub comes_up_two : (book : List Page) (cut : List ℕ) (c : Place) → IsValid book → HasOneOpen book
    → Waits book cut c → (x y b : Place) (rest : List Place) → x.caller ≢ c.caller
    → y.caller ≢ c.caller → Comes book cut (x ∷ y ∷ b ∷ rest) → Comes book cut (b ∷ x ∷ y ∷ rest)
comes_up_two book cut c valid one waits x y b rest first second comes =
    let inside : x.caller < length cut =
    within_cut book cut (call_at x) waits.wide comes.0.0.is_call in
    let later = waits_later book cut c x.caller valid inside first waits in
    comes_up book cut c valid one waits x b (y ∷ rest) first
    (comes.0, comes_up book (raised cut x.caller) c valid one later y b rest second comes.1)
