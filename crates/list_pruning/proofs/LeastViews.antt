-- Calls of which one has no greater view than the other.
use Rattle.std.proofs.Common.{◌≡◌, ℕ, ◌<◌, ◌≤◌, List, Option, Some, IsSomeAnd, get_or, sym, subst, inl, inr, arith}
use Rattle.std.proofs.lemmas.Bool.{cases_lt}
use Rattle.book_base.specs.declared.call.Call.{Call}
use Rattle.book_base.specs.declared.call.Record.{Record}
use Rattle.book_base.specs.Cut.{IsWithin}
use Rattle.book_base.specs.Book.{Page, IsValid, record_of}
use Rattle.book_base.specs.Pruning.{ViewsAreWithin}

-- In a valid book, a view that doesn't hold an answered call is within the view of this call.
pub within_past : (book : List Page) → IsValid book → (take other : Call) (view : List ℕ)
    (r s : Record)
    → record_of book take ≡ Some r → view ≡ r.view → record_of book other ≡ Some s
    → get_or view other.caller 0 ≤ other.number → IsWithin view s.view
within_past book valid take other view r s its same others past =
    elim (valid.comparable take other r s its others) [
      | inl within ↦ subst (λ (w : List ℕ). IsWithin w s.view) (sym same) within
      | inr within ↦ absurd (omega (
        arith,
        within other.caller,
        valid.own other s others,
        subst (λ (w : List ℕ). get_or w other.caller 0 ≤ other.number) same past,
      ))
    ]

-- In a valid book, a call's view is within that of another call, if it is within that view where it
-- holds the other call.
pub least_view : (book : List Page) → IsValid book → (take other : Call) (view : List ℕ)
    → IsSomeAnd (record_of book take) (λ (r : Record). view ≡ r.view)
    → ((s : Record) → record_of book other ≡ Some s → other.number < get_or view other.caller 0
    → IsWithin view s.view)
    → ViewsAreWithin book take other
least_view book valid take other view seen held r s its others =
    let same : view ≡ r.view =
    subst (λ (o : Option Record). IsSomeAnd o (λ (r : Record). view ≡ r.view)) its seen in
    subst (λ (w : List ℕ). IsWithin w s.view) same
    (elim (cases_lt other.number (get_or view other.caller 0)) [
      | inl less ↦ held s others less
      | inr past ↦ within_past book valid take other view r s its same others past
    ])
