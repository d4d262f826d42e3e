-- From a legal order of a book to one of a part that lacks only read-only and unseen calls.
use Rattle.std.proofs.Common.{◌≡◌, ℕ, ◌<◌, ◌⊎◌, ◌∙◌, List, length, refl, sym, ap, subst, inl, inr, arith}
use Rattle.list_laws.proofs.Places.{get_or-replicate_default}
use Rattle.book_base.specs.declared.call.Call.{Call}
use Rattle.book_base.specs.declared.call.Place.{Place}
use Rattle.book_base.specs.Cut.{Holds}
use Rattle.book_base.specs.Book.{Page, IsCall, IsAnswered, Precedes}
use Rattle.book_base.specs.SeqSpec.{spec_from}
use Rattle.book_base.specs.Order.{call_at, step_at, HasLegalOrder}
use Rattle.book_base.specs.Next.{raised, MayStandNext, list_after}
use Rattle.legal_orders.proofs.LegalOrder.{same_call, raised_same, raised_more, raised_cases}
use Rattle.smaller_book.specs.Part.{IsNamed, IsPart}
use Rattle.smaller_book.specs.ReadOnly.{IsReadOnly}
use Rattle.smaller_book.specs.Unseen.{IsAnyList, Keep, IsBlind, CannotSee, IsUnseenBy, LacksUnseenAmong, HasOneWithoutUnseen}
use Rattle.smaller_book.proofs.Following.{IsFollowedFrom, has_one_in_part_from}

-- A cut is closed: with each call it holds all calls that precede it.
abbrev IsClosed : List Page → List ℕ → Type 0
IsClosed book cut = (call before : Call) → Holds cut call → Precedes book before call
    → Holds cut before

-- A call that the part lacks has set the list, as the last one of the cut that isn't read-only.
record IsSet (next : List ℕ → ℕ → List ℕ × ℕ) (book : List Page) (names : List (List ℕ))
    (holds : List ℕ → Type 0) (cut list : List ℕ) : Type 0 where
  setting : Call
  unseen : (seer : Call) → IsCall book seer → IsNamed names seer
      → CannotSee next book holds setting list seer
  held : Holds cut setting
  last : (other : Call) → ¬ IsReadOnly next book other → Precedes book setting other
      → ¬ Holds cut other

-- The list with all calls of a closed cut is the one with the calls that the part has, or a call
-- that the part lacks has set it; and both lists have the invariant.
record Trails (next : List ℕ → ℕ → List ℕ × ℕ) (book : List Page) (names : List (List ℕ))
    (holds : List ℕ → Type 0) (cut whole few : List ℕ) : Type 0 where
  closed : IsClosed book cut
  lists : (whole ≡ few) ⊎ IsSet next book names holds cut whole
  whole_holds : holds whole
  few_holds : holds few

-- The call that comes next isn't held yet.
not_held : (book : List Page) (next : List ℕ → ℕ → List ℕ × ℕ) (cut list : List ℕ) (place : Place)
    → MayStandNext book next cut list place → ¬ Holds cut (call_at place)
not_held book next cut list place may held = omega (arith, held, may.may_come.next)

-- A call that the cut holds once the next one is in it was held before, or is the next one.
held_cases : (book : List Page) (next : List ℕ → ℕ → List ℕ × ℕ) (cut list : List ℕ)
    (place : Place) (call : Call) → place.caller < length cut
    → MayStandNext book next cut list place → Holds (raised cut place.caller) call
    → Holds cut call ⊎ (call ≡ call_at place)
held_cases book next cut list place call inside may held =
    elim (raised_cases cut place.caller call inside held) [
      | inl before ↦ inl before
      | inr new ↦ inr (same_call call (call_at place) new.0 (new.1 ∙ sym may.may_come.next))
    ]

-- The cut with the next call holds that call.
holds_new : (book : List Page) (next : List ℕ → ℕ → List ℕ × ℕ) (cut list : List ℕ) (place : Place)
    → place.caller < length cut → MayStandNext book next cut list place
    → Holds (raised cut place.caller) (call_at place)
holds_new book next cut list place inside may =
    omega (arith, raised_same cut place.caller inside, may.may_come.next)

holds_more : (cut : List ℕ) (i : ℕ) (call : Call) → i < length cut → Holds cut call
    → Holds (raised cut i) call
holds_more cut i call inside held =
    omega (arith, held, raised_more cut i call.caller inside)

-- A closed cut stays closed with the next call.
closed_on : (book : List Page) (next : List ℕ → ℕ → List ℕ × ℕ) (cut list : List ℕ) (place : Place)
    → place.caller < length cut → IsClosed book cut → MayStandNext book next cut list place
    → IsClosed book (raised cut place.caller)
closed_on book next cut list place inside closed may call before held precedes =
    holds_more cut place.caller before inside
    (elim (held_cases book next cut list place call inside may held) [
      | inl old ↦ closed call before old precedes
      | inr new ↦
          may.may_come.preceded before (subst (λ (c : Call). Precedes book before c) new precedes)
    ])

-- A read-only call that the part lacks leaves the list as another one has set it.
set_still : (next : List ℕ → ℕ → List ℕ × ℕ) (book : List Page) (names : List (List ℕ))
    (holds : List ℕ → Type 0) (cut list : List ℕ) (place : Place) → place.caller < length cut
    → IsReadOnly next book (call_at place) → MayStandNext book next cut list place
    → IsSet next book names holds cut list
    → IsSet next book names holds (raised cut place.caller) list
set_still next book names holds cut list place inside only may set = record {
  setting = set.setting;
  unseen = set.unseen;
  held = holds_more cut place.caller set.setting inside set.held;
  last = λ other writes precedes held.
      elim (held_cases book next cut list place other inside may held) [
        | inl old ↦ set.last other writes precedes old
        | inr new ↦ writes (subst (IsReadOnly next book) (sym new) only)
      ];
}

-- An unseen call that comes next sets the list.
set_anew : (next : List ℕ → ℕ → List ℕ × ℕ) (book : List Page) (names : List (List ℕ))
    (holds : List ℕ → Type 0) (cut list : List ℕ) (place : Place) → place.caller < length cut
    → IsClosed book cut
    → (unseen : IsUnseenBy next book holds (IsNamed names) (call_at place))
    → MayStandNext book next cut list place
    → IsSet next book names holds (raised cut place.caller) unseen.after
set_anew next book names holds cut list place inside closed unseen may = record {
  setting = call_at place;
  unseen = unseen.unseen;
  held = holds_new book next cut list place inside may;
  last = λ other writes precedes held. not_held book next cut list place may
      (elim (held_cases book next cut list place other inside may held) [
        | inl old ↦ closed other (call_at place) old precedes
        | inr new ↦ may.may_come.preceded (call_at place)
            (subst (λ (c : Call). Precedes book (call_at place) c) new precedes)
      ]);
}

-- A call that the part has and that comes next, at a list that a call which the part lacks has set,
-- is blind.
blind_next : (next : List ℕ → ℕ → List ℕ × ℕ) (book : List Page) (names : List (List ℕ))
    (holds : List ℕ → Type 0) (cut list : List ℕ) (place : Place) → IsClosed book cut
    → IsNamed names (call_at place) → MayStandNext book next cut list place
    → IsSet next book names holds cut list → IsBlind next book holds (call_at place)
blind_next next book names holds cut list place closed named may set =
    elim (set.unseen (call_at place) may.may_come.is_call named) [
      | inl blind ↦ blind
      | inr other ↦ absurd (elim other [
        | inl earlier ↦ not_held book next cut list place may
            (closed set.setting (call_at place) set.held earlier)
        | inr later ↦ elim later [
          | inl (between, writes, after, before) ↦
              set.last between writes after (may.may_come.preceded between before)
          | inr differs ↦ differs (λ r known. may.recorded r known ∙ sym may.reply)
        ]
      ])
    ]

-- A call that comes next keeps the invariant.
holds_on : (next : List ℕ → ℕ → List ℕ × ℕ) (book : List Page) (holds : List ℕ → Type 0)
    (cut list : List ℕ) (place : Place) → Keep next book holds → holds list
    → MayStandNext book next cut list place → holds (list_after book next list place)
holds_on next book holds cut list place keep held may =
    keep (call_at place) list may.may_come.is_call held
    (λ r known. may.recorded r known ∙ sym may.reply)

followed : (next : List ℕ → ℕ → List ℕ × ℕ) (book : List Page) (names : List (List ℕ))
    (holds : List ℕ → Type 0) → Keep next book holds → LacksUnseenAmong next book holds names
    → IsFollowedFrom (Trails next book names holds) next book names
followed next book names holds keep lacks = record {
  lacks = λ cut whole few place inside trails may unnamed. record {
    closed = closed_on book next cut whole place inside trails.closed may;
    lists = elim (lacks (call_at place) may.may_come.is_call unnamed) [
      | inl only ↦
          let stays : list_after book next whole place ≡ whole =
          only.1 (next whole (step_at book place).0).1
          (λ r known. may.recorded r known ∙ sym may.reply) whole refl in
          elim trails.lists [
            | inl same ↦ inl (stays ∙ same)
            | inr set ↦
                inr (subst (IsSet next book names holds (raised cut place.caller)) (sym stays)
                (set_still next book names holds cut whole place inside only may set))
          ]
      | inr unseen ↦
          let after : list_after book next whole place ≡ unseen.after =
          unseen.sets whole trails.whole_holds
          (λ r known. may.recorded r known ∙ sym may.reply) in
          inr (subst (IsSet next book names holds (raised cut place.caller)) (sym after)
          (set_anew next book names holds cut whole place inside trails.closed unseen may))
    ];
    whole_holds = holds_on next book holds cut whole place keep trails.whole_holds may;
    few_holds = trails.few_holds;
  };
  has = λ cut whole few place inside trails may named.
      let closed : IsClosed book (raised cut place.caller) =
      closed_on book next cut whole place inside trails.closed may in
      let op : ℕ = (step_at book place).0 in
      let same : ((next few op).0 ≡ (next whole op).0)
      × (IsAnswered book (call_at place) → (next few op).1 ≡ (next whole op).1) =
      elim trails.lists [
        | inl equal ↦ (
          ap (λ (list : List ℕ). (next list op).0) (sym equal),
          λ answered. ap (λ (list : List ℕ). (next list op).1) (sym equal),
        )
        | inr set ↦ blind_next next book names holds cut whole place trails.closed named may set
            few whole trails.few_holds trails.whole_holds
      ] in
      let held : holds (next whole op).0 =
      holds_on next book holds cut whole place keep trails.whole_holds may in
      inl (
        same.1,
        record {
          closed = closed;
          lists = inl (sym same.0);
          whole_holds = held;
          few_holds = subst holds (sym same.0) held;
        },
      );
}

-- Where a part lacks only read-only and unseen calls, a legal order of the book from a list of the
-- invariant gives one of the part.
pub has_one_without_unseen_among : (next : List ℕ → ℕ → List ℕ × ℕ) (book : List Page)
    (names : List (List ℕ)) (part : List Page) (holds : List ℕ → Type 0) → IsPart book names part
    → Keep next book holds → LacksUnseenAmong next book holds names → (list : List ℕ) → holds list
    → HasLegalOrder (spec_from list next) book → HasLegalOrder (spec_from list next) part
has_one_without_unseen_among next book names part holds is keep lacks list held legal =
    has_one_in_part_from (Trails next book names holds) next book names part list list is
    (followed next book names holds keep lacks)
    (record {
      closed = λ call before held precedes.
          absurd (omega (
            arith,
            held,
            get_or-replicate_default {X = ℕ} (length book) call.caller 0,
          ));
      lists = inl refl;
      whole_holds = held;
      few_holds = held;
    }) legal

pub has_one_without_unseen : HasOneWithoutUnseen
has_one_without_unseen next book names part is lacks list legal =
    has_one_without_unseen_among next book names part IsAnyList is (λ call before inside held may. tt)
    lacks list tt legal
