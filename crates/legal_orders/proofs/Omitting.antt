-- An unanswered call that doesn't change the object's present list is left out.
use Rattle.std.proofs.Common.{◌≡◌, ◌≢◌, ℕ, ◌+◌, ◌<◌, ◌≤◌, ◌⊎◌, ◌∙◌, List, [], ◌∷◌, length, get_or, set, sym, ap, subst, inl, inr, length-set, arith}
use Rattle.std.proofs.lemmas.Bool.{cases_eq}
use Rattle.book_base.specs.declared.call.Call.{Call}
use Rattle.book_base.specs.declared.call.Place.{Place}
use Rattle.book_base.specs.Cut.{Holds}
use Rattle.book_base.specs.Book.{Page, IsAnswered, Precedes}
use Rattle.book_base.specs.Order.{call_at}
use Rattle.book_base.specs.Next.{raised, MayComeNext, MayStandNext, list_after, Continues}
use Rattle.book_base.specs.Pruning.{HasOneOpen}
use Rattle.legal_orders.proofs.LegalOrder.{raised_same, raised_other, raised_cases, raised_twice, comes_later, same_call, within_cut}
use Rattle.legal_orders.specs.Idle.{IdleMayBeLeftOut}
use Rattle.legal_orders.proofs.Opening.{unanswered-precedes, unanswered-last, held_without}

-- In a book with one open, where places continue an order after an unanswered call, as many or
-- fewer continue it without that call, from the same list.
pub goes_on_without : (book : List Page) (next : List ℕ → ℕ → List ℕ × ℕ) (cut list : List ℕ)
    (b : Call) (rest : List Place) → length book ≤ length cut → HasOneOpen book
    → MayComeNext book cut b → (IsAnswered book b → ⊥)
    → Continues book next (raised cut b.caller) list rest
    → (other : List Place) × Continues book next cut list other × (length other ≤ length rest)
goes_on_without book next cut list b [] wide one may free goes =
    let inb : b.caller < length cut = within_cut book cut b wide may.is_call in (
      [],
      λ (x : Call) (answered : IsAnswered book x).
          held_without book cut b inb may.next free x answered (goes x answered),
      omega arith,
    )
goes_on_without book next cut list b (place ∷ rest) wide one may free goes =
    let inb : b.caller < length cut = within_cut book cut b wide may.is_call in
    let first = goes.0 in
    elim (cases_eq place.caller b.caller) [
      | inl same ↦
          let number : place.number ≡ b.number + 1
          = first.may_come.next ∙ (ap (λ (i : ℕ). get_or (raised cut b.caller) i 0) same
          ∙ (raised_same cut b.caller inb ∙ ap (λ (n : ℕ). n + 1) (sym may.next))) in
          let after : b.number < place.number = omega (arith, number) in (
            [],
            λ (x : Call) (answered : IsAnswered book x).
                held_without book cut b inb may.next free x answered
                (first.may_come.preceded x
                (unanswered-last book b (call_at place) x one free (sym same) after answered)),
            omega arith,
          )
      | inr apart ↦
          let inside : place.caller < length cut =
          within_cut book cut (call_at place) wide first.may_come.is_call in
          let there : MayStandNext book next cut list place = record {
            may_come = record {
              is_call = first.may_come.is_call;
              next = first.may_come.next ∙ raised_other cut b.caller place.caller apart;
              preceded = λ (x : Call) (p : Precedes book x (call_at place)).
                  elim (raised_cases cut b.caller x inb (first.may_come.preceded x p)) [
                    | inl old ↦ old
                    | inr new ↦
                        let is : x ≡ b = same_call x b new.0 (new.1 ∙ sym may.next) in
                        absurd (apart (sym (unanswered-precedes book b (call_at place) free
                        (subst (λ (c : Call). Precedes book c (call_at place)) is p)).0))
                  ];
            };
            recorded = first.recorded;
            reply = first.reply;
          } in
          let wider : length book ≤ length (raised cut place.caller) =
          omega (arith, wide, length-set cut place.caller (get_or cut place.caller 0 + 1)) in
          let on = goes_on_without book next (raised cut place.caller)
          (list_after book next list place) b rest wider one
          (comes_later book cut place.caller b inside (λ e. apart (sym e)) may) free
          (subst (λ (c : List ℕ). Continues book next c (list_after book next list place) rest)
          (raised_twice cut b.caller place.caller (λ e. apart (sym e))) goes.1) in
          (place ∷ on.0, (there, on.1), omega (arith, on.2))
    ]

pub idle_may_be_left_out : IdleMayBeLeftOut
idle_may_be_left_out book next cut list place rest wide one free leaves goes =
    goes_on_without book next cut list (call_at place) rest wide one goes.0.may_come free
    (subst (λ (l : List ℕ). Continues book next (raised cut place.caller) l rest) leaves goes.1)
