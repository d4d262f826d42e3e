-- An answered read-only call may be moved before all other places that continue an order.
use Rattle.std.proofs.Common.{◌≡◌, ◌≢◌, ℕ, ◌+◌, ◌<◌, ◌≤◌, ◌∙◌, List, [], ◌∷◌, length, get_or, set, Some, sym, ap, subst, inl, inr, length-set, arith}
use Rattle.std.proofs.lemmas.Bool.{cases_eq}
use Rattle.std.proofs.lemmas.Option.{same_Some, slice_get_within}
use Rattle.book_base.specs.declared.call.Call.{Call}
use Rattle.book_base.specs.declared.call.Place.{Place}
use Rattle.book_base.specs.declared.call.Record.{Record}
use Rattle.book_base.specs.Cut.{Holds}
use Rattle.book_base.specs.Book.{Page, record_of, Precedes}
use Rattle.book_base.specs.Order.{call_at}
use Rattle.book_base.specs.Next.{raised, MayComeNext, MayStandNext, list_after, Continues}
use Rattle.legal_orders.proofs.LegalOrder.{raised_twice, comes_later, same_call, within_cut}
use Rattle.book_base.specs.Reaching.{Leaves}
use Rattle.legal_orders.specs.Standing.{answered_place, word_of, GoesOnWithIt}

-- A call may come next, is answered, and its operation is read-only with the recorded reply.
record ReadOnly (book : List Page) (next : List ℕ → ℕ → List ℕ × ℕ) (cut : List ℕ) (call : Call)
    (r : Record) : Type 0 where
  may_come : MayComeNext book cut call
  known : record_of book call ≡ Some r
  leaves : Leaves next (word_of book call) r.reply

-- where such a call is the first place, the rest continues from the same list
its_own_turn : (book : List Page) (next : List ℕ → ℕ → List ℕ × ℕ) (cut list : List ℕ) (call : Call)
    (r : Record) (place : Place) (rest : List Place)
    → ReadOnly book next cut call r → call.caller ≡ place.caller
    → MayStandNext book next cut list place
    → Continues book next (raised cut place.caller) (list_after book next list place) rest
    → Continues book next (raised cut call.caller) list rest
its_own_turn book next cut list call r place rest h caller first later =
    let number : call.number ≡ place.number =
    h.may_come.next ∙ (ap (λ (i : ℕ). get_or cut i 0) caller ∙ sym first.may_come.next) in
    let it : call_at place ≡ call = same_call (call_at place) call (sym caller) (sym number) in
    let reply : r.reply ≡ place.reply = first.recorded r (ap (record_of book) it ∙ h.known) in
    let word : word_of book (call_at place) ≡ word_of book call = ap (word_of book) it in
    let given : (next list (word_of book call)).1 ≡ r.reply =
    ap (λ (w : ℕ). (next list w).1) (sym word) ∙ (first.reply ∙ sym reply) in
    let left : list_after book next list place ≡ list =
    ap (λ (w : ℕ). (next list w).0) word ∙ h.leaves list given in
    subst (λ (l : List ℕ). Continues book next (raised cut call.caller) l rest) left
    (subst (λ (i : ℕ). Continues book next (raised cut i) (list_after book next list place) rest)
    (sym caller) later)

-- Where such a call is taken out of places that continue an order, the others continue it after the
-- call.
goes_on_without : (book : List Page) (next : List ℕ → ℕ → List ℕ × ℕ) (cut list : List ℕ)
    (call : Call) (r : Record) (rest : List Place) → length book ≤ length cut
    → ReadOnly book next cut call r → Continues book next cut list rest → (other : List Place)
    × Continues book next (raised cut call.caller) list other
goes_on_without book next cut list call r [] wide h goes =
    let held : Holds cut call = goes call (slice_get_within _ call.number r h.known) in
    absurd (omega (arith, held, h.may_come.next))
goes_on_without book next cut list call r (place ∷ rest) wide h goes =
    elim (cases_eq call.caller place.caller) [
      | inl same ↦ (rest, its_own_turn book next cut list call r place rest h same goes.0 goes.1)
      | inr apart ↦
          let inside : place.caller < length cut =
          within_cut book cut (call_at place) wide goes.0.may_come.is_call in
          let own : call.caller < length cut = within_cut book cut call wide h.may_come.is_call in
          let wider : length book ≤ length (raised cut place.caller) =
          omega (arith, length-set cut place.caller (get_or cut place.caller 0 + 1)) in
          let later : ReadOnly book next (raised cut place.caller) call r
          = record {
            may_come = comes_later book cut place.caller call inside apart h.may_come;
            known = h.known;
            leaves = h.leaves;
          } in
          let found = goes_on_without book next (raised cut place.caller)
          (list_after book next list place) call r rest wider later goes.1 in
          let first : MayStandNext book next (raised cut call.caller) list place = record {
            may_come = comes_later book cut call.caller (call_at place) own
                (λ e. apart (sym e)) goes.0.may_come;
            recorded = goes.0.recorded;
            reply = goes.0.reply;
          } in (
            place ∷ found.0,
            (
              first,
              subst
                  (λ (c : List ℕ). Continues book next c (list_after book next list place) found.0)
                  (raised_twice cut place.caller call.caller (λ e. apart (sym e))) found.1,
            ),
          )
    ]

pub goes_on_with_it : GoesOnWithIt
goes_on_with_it book next cut list call r rest wide h goes =
    let found = goes_on_without book next cut list call r rest wide
    (record { may_come = h.may_come; known = h.known; leaves = h.leaves }) goes in
    let first : MayStandNext book next cut list (answered_place call r) = record {
      may_come = h.may_come;
      recorded = λ (s : Record) (known : record_of book call ≡ Some s).
          ap (λ (t : Record). t.reply) (same_Some s r (sym known ∙ h.known));
      reply = h.gives;
    } in (
      found.0,
      (
        first,
        subst (λ (l : List ℕ). Continues book next (raised cut call.caller) l found.0)
            (sym (h.leaves list h.gives)) found.1,
      ),
    )
