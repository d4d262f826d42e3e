-- The forced call: a call before it in an order may come next at once.
use Rattle.std.proofs.Common.{◌≡◌, ◌≢◌, ℕ, ◌+◌, ◌<◌, ◌≤◌, ◌⊎◌, ◌∙◌, List, [], ◌∷◌, length, get_or, set, Some, refl, sym, ap, subst, inl, inr, arith}
use Rattle.std.proofs.lemmas.Bool.{cases_eq, cases_lt}
use Rattle.std.proofs.lemmas.Option.{same_Some, slice_get_within}
use Rattle.std.specs.Option.{IsSomeAnd}
use Rattle.list_laws.proofs.Options.{some_from_is_some_and}
use Rattle.book_base.specs.declared.call.Call.{Call}
use Rattle.book_base.specs.declared.call.Record.{Record}
use Rattle.book_base.specs.Cut.{Holds, IsWithin}
use Rattle.book_base.specs.Book.{Page, answers_of, IsAnswered, IsValid, record_of, Precedes}
use Rattle.book_base.specs.Next.{raised, next_call, MayComeNext}
use Rattle.book_base.specs.Pruning.{HasOneOpen, ViewsAreWithin, IsForced}
use Rattle.book_base.proofs.PageLemmas.{caller_from_answer}
use Rattle.legal_orders.proofs.LegalOrder.{raised_same, raised_other, raised_cases, same_call, answer_stands}
use Rattle.legal_orders.proofs.Precedence.{views_grow}
use Rattle.legal_orders.proofs.Opening.{unanswered-precedes, unanswered-last}

-- The view of a forced call is within that of each answered call outside the cut.
pub forced-least : (book : List Page) (cut : List ℕ) (forced : ℕ) (x : Call) (r s : Record)
    → IsValid book → IsForced book cut forced
    → record_of book (next_call cut forced) ≡ Some r → record_of book x ≡ Some s
    → get_or cut x.caller 0 ≤ x.number → IsWithin r.view s.view
forced-least book cut forced x r s valid is known found out i =
    let inside : x.number < answers_of book x.caller = slice_get_within _ x.number s found in
    let first : Call = next_call cut x.caller in
    let answered : IsAnswered book first = omega (arith, inside, out) in
    let there = answer_stands book first answered in
    let caller : x.caller < length book = caller_from_answer book x.caller x.number inside in
    let within : get_or r.view i 0 ≤ get_or there.0.view i 0 =
    is.least x.caller caller r there.0 known there.1 i in
    omega (arith, within, views_grow book valid first x there.0 s there.1 found refl out i)

-- In a book with one open, where a call outside the cut precedes another call, the forced call
-- precedes it too.
pub forced-free : (book : List Page) (cut : List ℕ) (forced : ℕ) (p x : Call) → IsValid book
    → HasOneOpen book → IsForced book cut forced
    → get_or cut p.caller 0 ≤ p.number → (Precedes book (next_call cut forced) x → ⊥)
    → Precedes book p x → ⊥
forced-free book cut forced p x valid one is out free before =
    let c : Call = next_call cut forced in
    let there = answer_stands book c is.answered in
    let says : Record → Type 0 = λ r. get_or r.view x.caller 0 ≤ x.number in
    elim (cases_lt p.number (answers_of book p.caller)) [
      | inl answered ↦
          let mine = answer_stands book p answered in
          let within : IsWithin there.0.view mine.0.view =
          forced-least book cut forced p there.0 mine.0 valid is there.1 mine.1 out in
          let late : get_or mine.0.view x.caller 0 ≤ x.number = elim before [
            | inl early ↦ subst (λ o. IsSomeAnd o says) mine.1 early
            | inr own ↦ omega (
              arith,
              valid.own p mine.0 mine.1,
              own.1,
              ap (λ (i : ℕ). get_or mine.0.view i 0) own.0,
            )
          ] in
          free
          (inl (subst (λ o. IsSomeAnd o says) (sym there.1) (omega (arith, late, within x.caller))))
      | inr past ↦
          let not : IsAnswered book p → ⊥ = λ (h : IsAnswered book p). omega (arith, h, past) in
          let own = unanswered-precedes book p x not before in
          free (unanswered-last book p x c one not own.0 own.1 is.answered)
    ]

-- A forced call stays forced when a call of another caller, or an unanswered one, has come.
pub forced-stays : (book : List Page) (cut : List ℕ) (forced i : ℕ) → IsValid book → i < length cut
    → forced ≢ i → IsForced book cut forced → IsForced book (raised cut i) forced
forced-stays book cut forced i valid inside apart is =
    let same : get_or (raised cut i) forced 0 ≡ get_or cut forced 0 =
    raised_other cut i forced apart in
    let call : next_call (raised cut i) forced ≡ next_call cut forced =
    same_call (next_call (raised cut i) forced) (next_call cut forced) refl same in
    record {
      answered = omega (arith, is.answered, same);
      least = λ (other : ℕ) (below : other < length book) (r s : Record)
          (known : record_of book (next_call (raised cut i) forced) ≡ Some r)
          (found : record_of book (next_call (raised cut i) other) ≡ Some s).
          let out : get_or cut other 0 ≤ get_or (raised cut i) other 0 = elim (cases_eq other i) [
            | inl e ↦ omega (
              arith,
              raised_same cut i inside,
              ap (λ (n : ℕ). get_or (raised cut i) n 0) e,
              ap (λ (n : ℕ). get_or cut n 0) e,
            )
            | inr ne ↦ omega (arith, raised_other cut i other ne)
          ] in
          forced-least book cut forced (next_call (raised cut i) other) r s valid is
          (ap (record_of book) (sym call) ∙ known) found out;
    }
