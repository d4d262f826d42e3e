-- Which calls may come next, by precedence: the views of a caller never shrink, so that its first
-- answered call outside a cut precedes a call where any of its calls outside the cut does.
use Rattle.std.proofs.Common.{◌≡◌, ℕ, ◌<◌, ◌≤◌, ◌∙◌, ◌↔◌, List, get_or, Some, refl, sym, ap, subst, inl, inr, arith}
use Rattle.std.proofs.lemmas.Bool.{cases_lt}
use Rattle.std.proofs.lemmas.Option.{same_Some, slice_get_within}
use Rattle.std.specs.Option.{IsSomeAnd}
use Rattle.book_base.specs.declared.call.Call.{Call}
use Rattle.book_base.specs.declared.call.Record.{Record}
use Rattle.book_base.specs.Book.{Page, calls_of, IsCall, IsAnswered, IsValid, record_of, Precedes}
use Rattle.book_base.specs.Next.{next_call, MayComeNext}
use Rattle.list_laws.proofs.Options.{some_from_is_some_and}
pub use Rattle.book_base.proofs.ViewLemmas.{views_grow}
use Rattle.book_base.proofs.ViewLemmas.{answer_stands}

-- a call that precedes a call of the book is a call of the book
pub call_from_precedes : (book : List Page) (a b : Call) → IsValid book → IsCall book b
    → Precedes book a b → IsCall book a
call_from_precedes book a b valid is p =
    elim p [
      | inl answered ↦
          let known = some_from_is_some_and (record_of book a)
          (λ (r : Record). get_or r.view b.caller 0 ≤ b.number) answered in
          let early = slice_get_within _ a.number known.0 known.1 in
          omega (arith, early, valid.answers a.caller)
      | inr own ↦ omega (arith, own.1, is, ap (calls_of book) own.0)
    ]

-- The next call of a caller may come next exactly where no call outside the cut precedes it.
pub may_come_next-precedence : (book : List Page) (cut : List ℕ) (call : Call) → IsValid book
    → IsCall book call → call.number ≡ get_or cut call.caller 0
    → MayComeNext book cut call
    ↔ ((a : Call) → IsCall book a → get_or cut a.caller 0 ≤ a.number → Precedes book a call → ⊥)
may_come_next-precedence book cut call valid is at = (
  λ (may : MayComeNext book cut call) (a : Call) (there : IsCall book a)
      (out : get_or cut a.caller 0 ≤ a.number) (p : Precedes book a call).
      let held : a.number < get_or cut a.caller 0 = may.preceded a p in absurd (omega arith),
  λ (kept : (a : Call) → IsCall book a → get_or cut a.caller 0 ≤ a.number → Precedes book a call →
      ⊥). record {
        is_call = is;
        next = at;
        preceded =
            λ (a : Call) (p : Precedes book a call).
            elim (cases_lt a.number (get_or cut a.caller 0)) [
              | inl held ↦ held
              | inr out ↦ absurd (kept a (call_from_precedes book a call valid is p) out p)
            ];
      },
)

-- A call may come next where it is its caller's next one, and no caller's first call outside the
-- cut is answered and precedes it.
pub may_come_next-from_first : (book : List Page) (cut : List ℕ) (call : Call) → IsValid book
    → IsCall book call → call.number ≡ get_or cut call.caller 0
    → ((i : ℕ) → IsAnswered book (next_call cut i) → Precedes book (next_call cut i) call → ⊥)
    → MayComeNext book cut call
may_come_next-from_first book cut call valid is at none =
    (may_come_next-precedence book cut call valid is at).1 (λ (a : Call) (there : IsCall book a)
    (out : get_or cut a.caller 0 ≤ a.number) (p : Precedes book a call). elim p [
      | inl answered ↦
          let says : Record → Type 0 = λ r. get_or r.view call.caller 0 ≤ call.number in
          let known = some_from_is_some_and (record_of book a) says answered in
          let later : IsSomeAnd (Some known.0) says =
          subst (λ o. IsSomeAnd o says) known.1 answered in
          let first : Call = next_call cut a.caller in
          let within = slice_get_within _ a.number known.0 known.1 in
          let early : IsAnswered book first = omega (arith, within, out) in
          let there = answer_stands book first early in
          let grown =
          views_grow book valid first a there.0 known.0 there.1 known.1 refl out call.caller in
          let before : IsSomeAnd (record_of book first) says =
          subst (λ o. IsSomeAnd o says) (sym there.1) (omega (arith, grown, later)) in
          none a.caller early (inl before)
      | inr own ↦ absurd (omega (arith, own.1, ap (λ (i : ℕ). get_or cut i 0) own.0))
    ])
