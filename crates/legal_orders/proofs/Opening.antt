-- Unanswered calls of a book with one open.
use Rattle.std.proofs.Common.{◌≡◌, ◌≢◌, ℕ, ◌+◌, ◌<◌, ◌≤◌, ◌⊎◌, ◌∙◌, List, length, get_or, Some, sym, ap, subst, inl, inr, arith}
use Rattle.std.proofs.lemmas.Bool.{cases_lt}
use Rattle.std.proofs.lemmas.Option.{slice_get_within}
use Rattle.std.specs.Option.{IsSomeAnd}
use Rattle.list_laws.proofs.Options.{some_from_is_some_and}
use Rattle.book_base.specs.declared.call.Call.{Call}
use Rattle.book_base.specs.declared.call.Record.{Record}
use Rattle.book_base.specs.Cut.{Holds}
use Rattle.book_base.specs.Book.{Page, answers_of, IsAnswered, record_of, Precedes}
use Rattle.book_base.specs.Next.{raised, HoldsAnswered}
use Rattle.book_base.specs.Pruning.{HasOneOpen}
use Rattle.legal_orders.proofs.LegalOrder.{raised_cases, raised_more, same_call, answer_stands}

-- an unanswered call precedes later calls of its caller alone
pub unanswered-precedes : (book : List Page) (b p : Call) → (IsAnswered book b → ⊥)
    → Precedes book b p → (b.caller ≡ p.caller) × (b.number < p.number)
unanswered-precedes book b p free before =
    elim before [
      | inl answered ↦
          let known = some_from_is_some_and (record_of book b)
          (λ (r : Record). get_or r.view p.caller 0 ≤ p.number) answered in
          absurd (free (slice_get_within _ b.number known.0 known.1))
      | inr own ↦ own
    ]

-- Each answered call precedes the calls that come after an unanswered call of its caller.
pub unanswered-last : (book : List Page) (b p x : Call) → HasOneOpen book → (IsAnswered book b → ⊥)
    → b.caller ≡ p.caller → b.number < p.number → IsAnswered book x → Precedes book x p
unanswered-last book b p x one free caller later answered =
    let there = answer_stands book x answered in
    let says : Record → Type 0 = λ r. get_or r.view p.caller 0 ≤ p.number in
    let few : answers_of book b.caller ≤ b.number =
    elim (cases_lt b.number (answers_of book b.caller)) [
      | inl h ↦ absurd (free h)
      | inr h ↦ h
    ] in
    let counts : get_or there.0.view p.caller 0 ≤ answers_of book p.caller + 1 =
    one x there.0 p.caller there.1 in
    let same : answers_of book b.caller ≡ answers_of book p.caller = ap (answers_of book) caller in
    inl (subst (λ o. IsSomeAnd o says) (sym there.1) (omega (arith, few, counts, same, later)))

-- Where a cut with one more call, which is unanswered, holds all answered calls, the cut without
-- this call holds them.
pub held_without : (book : List Page) (cut : List ℕ) (b : Call) → b.caller < length cut
    → b.number ≡ get_or cut b.caller 0 → (IsAnswered book b → ⊥)
    → (x : Call) → IsAnswered book x → Holds (raised cut b.caller) x → Holds cut x
held_without book cut b inside at free x answered held =
    elim (raised_cases cut b.caller x inside held) [
      | inl old ↦ old
      | inr new ↦ absurd (free
          (subst (λ (c : Call). IsAnswered book c) (same_call x b new.0 (new.1 ∙ sym at)) answered))
    ]
