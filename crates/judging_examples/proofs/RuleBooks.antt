-- All calls of a small book, one by one, and deals that differ.
use Rattle.std.proofs.Common.{◌≡◌, ◌∙◌, ℕ, zero, suc, ◌<◌, true, List, length, sym, ap, inl, inr, arith}
use Rattle.std.proofs.lemmas.Bool.{true≢false}
use Rattle.book_base.specs.declared.call.Call.{Call}
use Rattle.book_base.specs.Book.{Page, calls_of, IsCall}
use Rattle.book_base.proofs.PageLemmas.{caller_from_call}
use Rattle.legal_orders.specs.Deals as deals
use Rattle.seq_objects.specs.declared.kind.Kind.{Kind}
use Rattle.broken_rules.specs.Deeds.{did, value_by, is_put, is_take, is_nothing}
use Rattle.broken_rules.specs.Demands.{MayTake}
use Rattle.judging_examples.specs.SmallObjects.{call_of}

-- What holds of 0 holds of each number below 1.
pub below_one : (P : ℕ → Type 0) → P 0 → (k : ℕ) → k < 1 → P k
below_one P x zero less = x
below_one P x (suc k) less = absurd (omega (arith, less))

-- What holds of 0 and of 1 holds of each number below 2.
pub below_two : (P : ℕ → Type 0) → P 0 → P 1 → (k : ℕ) → k < 2 → P k
below_two P x y zero less = x
below_two P x y (suc zero) less = y
below_two P x y (suc (suc k)) less = absurd (omega (arith, less))

-- What holds of 0, of 1 and of 2 holds of each number below 3.
pub below_three : (P : ℕ → Type 0) → P 0 → P 1 → P 2 → (k : ℕ) → k < 3 → P k
below_three P x y z zero less = x
below_three P x y z (suc zero) less = y
below_three P x y z (suc (suc zero)) less = z
below_three P x y z (suc (suc (suc k))) less = absurd (omega (arith, less))

by_number : (book : List Page) (P : Call → Type 0) → length book ≡ 2
    → ((k : ℕ) → k < calls_of book 0 → P (call_of 0 k))
    → ((k : ℕ) → k < calls_of book 1 → P (call_of 1 k))
    → (i k : ℕ) → k < calls_of book i → P (call_of i k)
by_number book P n x y zero k less = x k less
by_number book P n x y (suc zero) k less = y k less
by_number book P n x y (suc (suc i)) k less =
    absurd (omega (arith, n, caller_from_call book (suc (suc i)) k less))

-- What holds of the calls of caller 0 and of those of caller 1 holds of all calls of a book of two
-- callers.
pub each_call : (book : List Page) (P : Call → Type 0) → length book ≡ 2
    → ((k : ℕ) → k < calls_of book 0 → P (call_of 0 k))
    → ((k : ℕ) → k < calls_of book 1 → P (call_of 1 k))
    → (call : Call) → IsCall book call → P call
each_call book P n x y call inside = by_number book P n x y call.caller call.number inside

-- Puts that are the same put in the same value.
pub same_put : (v w : ℕ) → deals.Put v ≡ deals.Put w → v ≡ w
same_put v w e = ap value_by e

-- Takes that are the same take the same value.
pub same_take : (v w : ℕ) → deals.Took v ≡ deals.Took w → v ≡ w
same_take v w e = ap value_by e

-- A take isn't a put.
pub take_is_no_put : (v w : ℕ) → deals.Took v ≡ deals.Put w → ⊥
take_is_no_put v w e = true≢false (ap is_take e)

-- A put isn't a take.
pub put_is_no_take : (v w : ℕ) → deals.Put v ≡ deals.Took w → ⊥
put_is_no_take v w e = true≢false (ap is_put e)

-- Deals that are no puts, no takes, or no takes that found nothing.
pub put_is_no_open : (v : ℕ) → deals.Put v ≡ deals.OpenTake → ⊥
put_is_no_open v e = true≢false (ap is_put e)

pub put_is_no_find : (v : ℕ) → deals.Put v ≡ deals.FoundNothing → ⊥
put_is_no_find v e = true≢false (ap is_put e)

pub take_is_no_find : (v : ℕ) → deals.Took v ≡ deals.FoundNothing → ⊥
take_is_no_find v e = true≢false (ap is_take e)

pub other_is_no_put : (v : ℕ) → deals.Other ≡ deals.Put v → ⊥
other_is_no_put v e = true≢false (sym (ap is_put e))

pub other_is_no_take : (v : ℕ) → deals.Other ≡ deals.Took v → ⊥
other_is_no_take v e = true≢false (sym (ap is_take e))

pub other_is_no_find : deals.Other ≡ deals.FoundNothing → ⊥
other_is_no_find e = true≢false (sym (ap is_nothing e))

-- A put doesn't take a value.
pub put_takes_none : (kind : Kind) (book : List Page) (value : ℕ) (call : Call)
    → is_put (did kind book call) ≡ true → MayTake kind book value call → ⊥
put_takes_none kind book value call put may = elim may [
  | inl took ↦ true≢false (sym put ∙ ap is_put took)
  | inr unanswered ↦ true≢false (sym put ∙ ap is_put unanswered)
]

-- A take that finds nothing doesn't take a value.
pub nothing_takes_none : (kind : Kind) (book : List Page) (value : ℕ) (call : Call)
    → is_nothing (did kind book call) ≡ true → MayTake kind book value call → ⊥
nothing_takes_none kind book value call nothing may = elim may [
  | inl took ↦ true≢false (sym nothing ∙ ap is_nothing took)
  | inr unanswered ↦ true≢false (sym nothing ∙ ap is_nothing unanswered)
]

-- A take of one value doesn't take another one.
pub take_of_another : (kind : Kind) (book : List Page) (value other : ℕ) (call : Call)
    → did kind book call ≡ deals.Took other → (other ≡ value → ⊥) → MayTake kind book value call
    → ⊥
take_of_another kind book value other call takes another may = elim may [
  | inl took ↦ another (same_take other value (sym takes ∙ took))
  | inr unanswered ↦ true≢false (sym (ap is_take takes) ∙ ap is_take unanswered)
]
