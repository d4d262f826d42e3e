-- Which marks a narrowing keeps, caller by caller; and that the marks of the callers whose next
-- calls have the forced call's key suffice.
use Rattle.std.proofs.Common.{◌≡◌, ◌⊎◌, ◌↔◌, ℕ, ◌+◌, ◌<◌, ◌≤◌, ◌∙◌, List, length, Option, Some, unwrap_or, inl, inr, refl, sym, ap, subst, arith}
use Rattle.std.proofs.lemmas.Bool.{cases_eq}
use Rattle.book_base.specs.declared.call.Call.{Call}
use Rattle.book_base.specs.declared.call.Place.{Place}
use Rattle.search_hints.specs.declared.marked_callers.MarkedCallers.{MarkedCallers}
use Rattle.book_base.specs.Book.{Page, IsValid, IsCall, operation_of}
use Rattle.book_base.specs.Order.{call_at}
use Rattle.book_base.specs.Next.{next_call, MayComeNext}
use Rattle.book_base.specs.Pruning.{HasOneOpen, IsForced}
use Rattle.search_hints.specs.Marks.{IsMarked, MarksAllNext, MarksSuffice}
use Rattle.book_base.proofs.ViewLemmas.{same_call}
use Rattle.book_base.proofs.PageLemmas.{caller_from_call}
use Rattle.legal_orders.specs.Keys.{IsKeyed}
use Rattle.legal_orders.proofs.Bringing.{forced_key_goes_first}
use Rattle.kind_search.specs.Keys.{next_word}

-- Of the marked callers below a number exactly those keep their marks that have a property.
abbrev pub KeptBelow : (ℕ → Type 0) → MarkedCallers → ℕ → MarkedCallers → Type 0
KeptBelow holds old below new = (i : ℕ) → IsMarked new i ↔ ((i < below) × IsMarked old i × holds i)

pub kept-none : (holds : ℕ → Type 0) (old new : MarkedCallers) → ((i : ℕ) → IsMarked new i → ⊥)
    → KeptBelow holds old 0 new
kept-none holds old new none i =
    (λ marked. absurd (none i marked), λ kept. absurd (omega (arith, kept.0)))

pub kept-more : (holds : ℕ → Type 0) (old kept new : MarkedCallers) (caller : ℕ)
    → KeptBelow holds old caller kept → IsMarked old caller → holds caller
    → ((i : ℕ) → IsMarked new i ↔ ((i ≡ caller) ⊎ IsMarked kept i))
    → KeptBelow holds old (caller + 1) new
kept-more holds old kept new caller h marked here more i = (
  λ is. elim ((more i).0 is) [
    | inl same ↦ (
      omega (arith, same),
      subst (λ (j : ℕ). IsMarked old j) (sym same) marked,
      subst (λ (j : ℕ). holds j) (sym same) here,
    )
    | inr was ↦ let k = (h i).0 was in (omega (arith, k.0), k.1, k.2)
  ],
  λ k. elim (cases_eq i caller) [
    | inl same ↦ (more i).1 (inl same)
    | inr apart ↦ (more i).1 (inr ((h i).1 (omega (arith, k.0, apart), k.1, k.2)))
  ],
)

pub kept-skip : (holds : ℕ → Type 0) (old kept : MarkedCallers) (caller : ℕ)
    → KeptBelow holds old caller kept → (IsMarked old caller → holds caller → ⊥)
    → KeptBelow holds old (caller + 1) kept
kept-skip holds old kept caller h not i = (
  λ is. let k = (h i).0 is in (omega (arith, k.0), k.1, k.2),
  λ k. elim (cases_eq i caller) [
    | inl same ↦ absurd
        (not (subst (λ (j : ℕ). IsMarked old j) same k.1) (subst (λ (j : ℕ). holds j) same k.2))
    | inr apart ↦ (h i).1 (omega (arith, k.0, apart), k.1, k.2)
  ],
)

-- a marked caller's next call is a call of the book
pub marked_is_call : (book : List Page) (cut : List ℕ) (marks : MarkedCallers) (i : ℕ)
    → MarksAllNext book cut marks → IsMarked marks i → IsCall book (next_call cut i)
marked_is_call book cut marks i all marked = ((all i).0 marked).is_call

pub kept-all : (book : List Page) (cut : List ℕ) (holds : ℕ → Type 0)
    (old new : MarkedCallers) (below : ℕ)
    → MarksAllNext book cut old → length book ≤ below → KeptBelow holds old below new
    → (i : ℕ) → IsMarked new i ↔ (IsMarked old i × holds i)
kept-all book cut holds old new below all wide h i = (
  λ is. let k = (h i).0 is in (k.1, k.2),
  λ k. let inside : i < length book =
      caller_from_call book i (next_call cut i).number (marked_is_call book cut old i all k.0) in
      (h i).1 (omega (arith, inside, wide), k.0, k.1),
)

-- the forced call is one of the book's, and its caller one of the callers
pub forced_is_call : (book : List Page) (cut : List ℕ) (forced : ℕ) → IsValid book
    → IsForced book cut forced → IsCall book (next_call cut forced)
forced_is_call book cut forced valid is = omega (arith, is.answered, valid.answers forced)

-- a place that may come next is of a marked caller, and has its next call
pub next_is_marked : (book : List Page) (cut : List ℕ) (marks : MarkedCallers) (place : Place)
    → MarksAllNext book cut marks → MayComeNext book cut (call_at place)
    → (call_at place ≡ next_call cut place.caller) × IsMarked marks place.caller
next_is_marked book cut marks place all may =
    let same : call_at place ≡ next_call cut place.caller =
    same_call (call_at place) (next_call cut place.caller) refl may.next in
    (same, (all place.caller).1 (subst (λ (c : Call). MayComeNext book cut c) same may))

-- The marks of those marked callers suffice whose next calls have the forced call's key.
pub keyed_suffice : (key : ℕ → Option ℕ) (part : ℕ → List ℕ → List ℕ)
    (next : List ℕ → ℕ → List ℕ × ℕ) → IsKeyed key part next
    → (book : List Page) (cut list : List ℕ) (forced k : ℕ) (old new : MarkedCallers)
    → length cut ≡ length book → IsValid book → HasOneOpen book
    → IsForced book cut forced → MarksAllNext book cut old
    → key (next_word book cut forced) ≡ Some k
    → ((i : ℕ) → IsMarked new i ↔ (IsMarked old i × (key (next_word book cut i) ≡ Some k)))
    → MarksSuffice book next cut list new
keyed_suffice key part next is book cut list forced k old new wide valid one force all has
    kept rest goes =
    let first = forced_key_goes_first key part next is book cut list forced k rest
    (omega (arith, wide)) valid one force has goes in
    let place : Place = first.0 in
    let marked = next_is_marked book cut old place all first.2.0.may_come in
    let on : key (next_word book cut place.caller) ≡ Some k =
    ap (λ (c : Call). key (unwrap_or (operation_of book c) 0)) (sym marked.0) ∙ first.3 in
    (place, first.1, (kept place.caller).1 (marked.1, on), first.2, omega (arith, first.4))
