-- An answered call that changes no list at which it has its reply may be taken before all other
-- places, and then no more places are needed than without.
use Rattle.std.proofs.Common.{◌≡◌, ℕ, ◌+◌, ◌<◌, ◌≤◌, ◌∙◌, List, [], ◌∷◌, length, get_or, Some, sym, ap, subst, inl, inr, length-set, arith}
use Rattle.std.proofs.lemmas.Bool.{cases_eq}
use Rattle.std.proofs.lemmas.Option.{same_Some, slice_get_within}
use Rattle.book_base.specs.declared.call.Call.{Call}
use Rattle.book_base.specs.declared.call.Place.{Place}
use Rattle.book_base.specs.declared.call.Record.{Record}
use Rattle.book_base.specs.Cut.{Holds}
use Rattle.book_base.specs.Book.{Page, record_of}
use Rattle.book_base.specs.Order.{call_at}
use Rattle.book_base.specs.Next.{raised, MayComeNext, MayStandNext, list_after, Continues}
use Rattle.book_base.specs.Reaching.{Leaves}
use Rattle.legal_orders.specs.Standing.{answered_place, word_of, MayStandAtOnce}
use Rattle.legal_orders.proofs.LegalOrder.{raised_twice, comes_later, same_call, within_cut}

module _ (book : List Page) (next : List ℕ → ℕ → List ℕ × ℕ) (call : Call) (r : Record)
    (known : record_of book call ≡ Some r) (leaves : Leaves next (word_of book call) r.reply) where
  -- where the call's place is the first one, it changes nothing
  own_place : (cut list : List ℕ) (place : Place) → MayComeNext book cut call
      → call.caller ≡ place.caller → MayStandNext book next cut list place
      → list_after book next list place ≡ list
  own_place cut list place may caller stands =
      let it : call_at place ≡ call = same_call (call_at place) call (sym caller)
      (stands.may_come.next ∙ (ap (λ (i : ℕ). get_or cut i 0) (sym caller) ∙ sym may.next)) in
      let gives : (next list (word_of book call)).1 ≡ r.reply =
      ap (λ (c : Call). (next list (word_of book c)).1) (sym it)
      ∙ (stands.reply ∙ sym (stands.recorded r (ap (record_of book) it ∙ known))) in
      ap (λ (c : Call). (next list (word_of book c)).0) it ∙ leaves list gives

  -- the other places continue an order after the call
  others_go_on : (cut list : List ℕ) (rest : List Place) → length book ≤ length cut
      → MayComeNext book cut call → Continues book next cut list rest → (other : List Place)
      × Continues book next (raised cut call.caller) list other × (length other < length rest)
  others_go_on cut list [] wide may goes =
      let held : Holds cut call = goes call (slice_get_within _ call.number r known) in
      absurd (omega (arith, held, may.next))
  others_go_on cut list (place ∷ rest) wide may goes =
      elim (cases_eq call.caller place.caller) [
        | inl same ↦ (
          rest,
          subst (λ (l : List ℕ). Continues book next (raised cut call.caller) l rest)
              (own_place cut list place may same goes.0)
              (subst (λ (i : ℕ). Continues book next (raised cut i)
              (list_after book next list place) rest) (sym same) goes.1),
          omega arith,
        )
        | inr apart ↦
            let inside = within_cut book cut (call_at place) wide goes.0.may_come.is_call in
            let own = within_cut book cut call wide may.is_call in
            let found =
            others_go_on (raised cut place.caller) (list_after book next list place) rest
            (omega (arith, wide, length-set cut place.caller (get_or cut place.caller 0 + 1)))
            (comes_later book cut place.caller call inside apart may) goes.1 in (
              place ∷ found.0,
              (
                record {
                  may_come = comes_later book cut call.caller (call_at place) own
                      (λ e. apart (sym e)) goes.0.may_come;
                  recorded = goes.0.recorded;
                  reply = goes.0.reply;
                },
                subst (λ (c : List ℕ). Continues book next c (list_after book next list place)
                    found.0)
                    (raised_twice cut place.caller call.caller (λ e. apart (sym e))) found.1,
              ),
              omega (arith, found.2),
            )
      ]

-- Where places continue an order and a call may be taken at once, fewer places after it do too.
pub goes_on_sooner : (book : List Page) (next : List ℕ → ℕ → List ℕ × ℕ) (cut list : List ℕ)
    (call : Call) (r : Record) (rest : List Place) → length book ≤ length cut
    → MayStandAtOnce book next cut list call r → Continues book next cut list rest
    → (other : List Place) × Continues book next cut list (answered_place call r ∷ other)
    × (length other < length rest)
goes_on_sooner book next cut list call r rest wide h goes =
    let found =
    others_go_on book next call r h.known h.leaves cut list rest wide h.may_come goes in (
      found.0,
      (
        record {
          may_come = h.may_come;
          recorded = λ s known. ap (λ (t : Record). t.reply) (same_Some s r (sym known ∙ h.known));
          reply = h.gives;
        },
        subst (λ (l : List ℕ). Continues book next (raised cut call.caller) l found.0)
            (sym (h.leaves list h.gives)) found.1,
      ),
      found.2,
    )
