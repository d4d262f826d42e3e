-- Which answered call returns next: the first one of the callers' next calls to return.
use Rattle.std.proofs.Common.{◌≡◌, ℕ, ◌+◌, ◌<◌, ◌≤◌, ◌⊎◌, ◌∙◌, List, length, get_or, Option, Some, None, MatchOption, IfSome, IfNone, refl, sym, ap, subst, inl, inr, arith}
use Rattle.std.proofs.lemmas.Bool.{cases_eq, cases_lt}
use Rattle.std.proofs.lemmas.Option.{same_Some}
use Rattle.book_base.specs.declared.call.Call.{Call}
use Rattle.book_base.specs.declared.call.Record.{Record}
use Rattle.book_base.specs.Cut.{Holds, IsWithin}
use Rattle.book_base.specs.Book.{Page, IsAnswered, IsValid, record_of}
use Rattle.book_base.proofs.PageLemmas.{caller_from_answer}
use Rattle.book_base.specs.Next.{next_call}
use Rattle.legal_orders.proofs.LegalOrder.{same_call, answer_stands}
use Rattle.legal_orders.proofs.Precedence.{views_grow}
use Rattle.sketch.specs.declared.event.Event.TheVariants.{Return}
use Rattle.sketch.specs.Sketch.{ComesBefore}
use Rattle.sketch.specs.Drawing.{IsNextOf}

-- one call returns before another
abbrev pub ReturnsBefore : List Page → Call → Call → Type 0
ReturnsBefore book a b = ComesBefore book (Return a) (Return b)

-- The call is next to return of its caller, and before all others that are next of theirs, of the
-- callers below a number.
pub record IsFirstBelow (book : List Page) (returned : List ℕ) (callers : ℕ)
    (call : Call) : Type 0 where
  pub answered : IsAnswered book call
  pub next : IsNextOf returned call
  pub below : call.caller < callers
  pub first : (i : ℕ) → i < callers → IsAnswered book (next_call returned i)
      → (next_call returned i ≡ call) ⊎ ReturnsBefore book call (next_call returned i)

-- the first call to return of the callers below a number, or none where none of them has one
abbrev pub IsFirstUpTo : List Page → List ℕ → ℕ → Option Call → Type 0
IsFirstUpTo book returned callers first =
    MatchOption first ((i : ℕ) → i < callers → IsAnswered book (next_call returned i) → ⊥)
    (IsFirstBelow book returned callers)

-- where a call returns before a second one, and this one before a third, the first returns before
-- the third
pub returns_before_trans : (book : List Page) (a b c : Call) → IsAnswered book b
    → ReturnsBefore book a b → ReturnsBefore book b c → ReturnsBefore book a c
returns_before_trans book a b c is h k r t at ct =
    let known = answer_stands book b is in
    let s : Record = known.0 in
    let ab = h r s at known.1 in
    let bc = k s t known.1 ct in (
      λ (i : ℕ). omega (arith, ab.0 i, bc.0 i),
      λ (back : IsWithin t.view r.view).
          let ba : a.caller < b.caller = ab.1 (λ (i : ℕ). omega (arith, bc.0 i, back i)) in
          let cb : b.caller < c.caller = bc.1 (λ (i : ℕ). omega (arith, back i, ab.0 i)) in
          omega arith,
    )

-- an earlier call of a caller returns before a later one
pub returns_in_turn : (book : List Page) → IsValid book → (a b : Call) → a.caller ≡ b.caller
    → a.number < b.number → ReturnsBefore book a b
returns_in_turn book valid a b caller less r s at bt = (
  views_grow book valid a b r s at bt caller (omega arith),
  λ (back : IsWithin s.view r.view).
      absurd (omega (
        arith,
        less,
        valid.own a r at,
        valid.own b s bt,
        back b.caller,
        ap (λ (i : ℕ). get_or r.view i 0) caller,
      )),
)

-- of the callers' next calls to return the first returns before all answered calls that haven't
-- returned yet
pub first_of_all : (book : List Page) → IsValid book → (returned : List ℕ) (call : Call)
    → IsFirstBelow book returned (length book) call
    → (other : Call) → IsAnswered book other → get_or returned other.caller 0 ≤ other.number
    → (other ≡ call) ⊎ ReturnsBefore book call other
first_of_all book valid returned call h other is out =
    let next : Call = next_call returned other.caller in
    let early : IsAnswered book next = omega (arith, is, out) in
    let here = h.first other.caller (caller_from_answer book other.caller other.number is) early in
    elim (cases_eq (get_or returned other.caller 0) other.number) [
      | inl same ↦
          let one : next ≡ other = same_call next other refl same in
          elim here [
            | inl is_call ↦ inl (sym one ∙ is_call)
            | inr before ↦ inr (subst (λ (c : Call). ReturnsBefore book call c) one before)
          ]
      | inr apart ↦
          let later : ReturnsBefore book next other =
          returns_in_turn book valid next other refl (omega (arith, apart, out)) in
          elim here [
            | inl is_call ↦ inr (subst (λ (c : Call). ReturnsBefore book c other) is_call later)
            | inr before ↦ inr (returns_before_trans book call next other early before later)
          ]
    ]

-- where no caller has a next call to return, no answered call is left to return
pub none_of_all : (book : List Page) (returned : List ℕ)
    → ((i : ℕ) → i < length book → IsAnswered book (next_call returned i) → ⊥)
    → (other : Call) → IsAnswered book other → Holds returned other
none_of_all book returned none other is =
    elim (cases_lt other.number (get_or returned other.caller 0)) [
      | inl held ↦ held
      | inr out ↦ absurd (none other.caller (caller_from_answer book other.caller other.number is)
          (omega (arith, is, out)))
    ]

-- Of two answered calls, in the order of their callers, the first returns before the second where
-- its view is within the other's.
pub earlier_first : (book : List Page) (a b : Call) (r s : Record) → record_of book a ≡ Some r
    → record_of book b ≡ Some s → a.caller < b.caller → IsWithin r.view s.view
    → ReturnsBefore book a b
earlier_first book a b r s at bt less within v w av bw =
    let one : r ≡ v = same_Some r v (sym at ∙ av) in
    let two : s ≡ w = same_Some s w (sym bt ∙ bw) in (
      subst (λ (x : Record). IsWithin v.view x.view) two
          (subst (λ (x : Record). IsWithin x.view s.view) one within),
      λ back. less,
    )

-- Of two answered calls, in the order of their callers, the second returns before the first where
-- the first one's view isn't within the second one's.
pub earlier_second : (book : List Page) → IsValid book → (a b : Call) (r s : Record)
    → record_of book a ≡ Some r → record_of book b ≡ Some s
    → (IsWithin r.view s.view → ⊥) → ReturnsBefore book b a
earlier_second book valid a b r s at bt not v w bv aw =
    let one : r ≡ w = same_Some r w (sym at ∙ aw) in
    let two : s ≡ v = same_Some s v (sym bt ∙ bv) in
    let apart : IsWithin w.view v.view → ⊥ = subst (λ (x : Record). IsWithin w.view x.view → ⊥) two
    (subst (λ (x : Record). IsWithin x.view s.view → ⊥) one not) in (
      elim (valid.comparable b a v w bv aw) [
        | inl within ↦ within
        | inr within ↦ absurd (apart within)
      ],
      λ back. absurd (apart back),
    )

-- one more caller without a call to return doesn't change the first call to return
pub first-more_none : (book : List Page) (returned : List ℕ) (caller : ℕ) (first : Option Call)
    → (IsAnswered book (next_call returned caller) → ⊥)
    → IsFirstUpTo book returned caller first → IsFirstUpTo book returned (caller + 1) first
first-more_none book returned caller None none h =
    λ (i : ℕ) (less : i < caller + 1) (is : IsAnswered book (next_call returned i)).
    elim (cases_eq i caller) [
      | inl same ↦ none (subst (λ (k : ℕ). IsAnswered book (next_call returned k)) same is)
      | inr other ↦ h i (omega (arith, less, other)) is
    ]
first-more_none book returned caller (Some call) none h = record {
  answered = h.answered;
  next = h.next;
  below = omega (arith, h.below);
  first = λ (i : ℕ) (less : i < caller + 1) (is : IsAnswered book (next_call returned i)).
      elim (cases_eq i caller) [
        | inl same ↦
            absurd (none (subst (λ (k : ℕ). IsAnswered book (next_call returned k)) same is))
        | inr other ↦ h.first i (omega (arith, less, other)) is
      ];
}

-- where only one more caller has a call to return, its call is the first
pub first-more_only : (book : List Page) (returned : List ℕ) (caller : ℕ) (call : Call)
    → IsAnswered book call → call ≡ next_call returned caller
    → ((i : ℕ) → i < caller → IsAnswered book (next_call returned i) → ⊥)
    → IsFirstBelow book returned (caller + 1) call
first-more_only book returned caller call is next none = record {
  answered = is;
  next = subst (λ (c : Call). IsNextOf returned c) (sym next) refl;
  below = omega (arith, ap (λ (c : Call). c.caller) next);
  first = λ (i : ℕ) (less : i < caller + 1) (there : IsAnswered book (next_call returned i)).
      elim (cases_eq i caller) [
        | inl same ↦ inl (ap (next_call returned) same ∙ sym next)
        | inr other ↦ absurd (none i (omega (arith, less, other)) there)
      ];
}

-- with one more caller, the first call to return is the old one or the one of the new caller
pub first-more : (book : List Page) (returned : List ℕ) (caller : ℕ) (old call best : Call)
    → IsAnswered book call → call ≡ next_call returned caller
    → IsFirstBelow book returned caller old → ((best ≡ old) × ReturnsBefore book old call)
    ⊎ ((best ≡ call) × ReturnsBefore book call old)
    → IsFirstBelow book returned (caller + 1) best
first-more book returned caller old call best is next h (inl (same, before)) =
    subst (IsFirstBelow book returned (caller + 1)) (sym same) (record {
      answered = h.answered;
      next = h.next;
      below = omega (arith, h.below);
      first = λ (i : ℕ) (less : i < caller + 1) (there : IsAnswered book (next_call returned i)).
          elim (cases_eq i caller) [
            | inl here ↦ inr (subst (λ (c : Call). ReturnsBefore book old c)
                (next ∙ ap (next_call returned) (sym here)) before)
            | inr other ↦ h.first i (omega (arith, less, other)) there
          ];
    })
first-more book returned caller old call best is next h (inr (same, before)) =
    subst (IsFirstBelow book returned (caller + 1)) (sym same) (record {
      answered = is;
      next = subst (λ (c : Call). IsNextOf returned c) (sym next) refl;
      below = omega (arith, ap (λ (c : Call). c.caller) next);
      first = λ (i : ℕ) (less : i < caller + 1) (there : IsAnswered book (next_call returned i)).
          elim (cases_eq i caller) [
            | inl here ↦ inl (ap (next_call returned) here ∙ sym next)
            | inr other ↦ elim (h.first i (omega (arith, less, other)) there) [
              | inl is_old ↦
                  inr (subst (λ (c : Call). ReturnsBefore book call c) (sym is_old) before)
              | inr later ↦
                  inr (returns_before_trans book call old
                  (next_call returned i) h.answered before later)
            ]
          ];
    })

-- of all callers the first call to return is the first of all answered calls that haven't returned
-- yet
pub first_of_all_callers : (book : List Page) → IsValid book
    → (returned : List ℕ) (callers : ℕ) (first : Option Call) → callers ≡ length book
    → IsFirstUpTo book returned callers first
    → IfSome first (λ call. (other : Call) → IsAnswered book other → get_or returned other.caller 0
    ≤ other.number → (other ≡ call) ⊎ ReturnsBefore book call other)
first_of_all_callers book valid returned callers None wide h = tt
first_of_all_callers book valid returned callers (Some call) wide h = first_of_all book valid
    returned call (subst (λ (n : ℕ). IsFirstBelow book returned n call) wide h)

pub none_of_all_callers : (book : List Page) (returned : List ℕ) (callers : ℕ) (first : Option Call)
    → callers ≡ length book → IsFirstUpTo book returned callers first
    → IfNone first ((other : Call) → IsAnswered book other → Holds returned other)
none_of_all_callers book returned callers None wide h =
    none_of_all book returned (λ (i : ℕ) (less : i < length book). h i (omega (arith, wide)))
none_of_all_callers book returned callers (Some call) wide h = tt
