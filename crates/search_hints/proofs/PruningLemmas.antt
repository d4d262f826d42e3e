-- Which calls a search has to try.
use Rattle.std.proofs.Common.{◌≡◌, ℕ, ◌<◌, ◌≢◌, Bool, false, List, [], ◌∷◌, length, get_or, set, refl, subst, arith}
use Rattle.std.proofs.lemmas.List.{get_or-set_same, get_or-set_other}
use Rattle.book_base.specs.declared.call.Call.{Call}
use Rattle.search_hints.specs.declared.marked_callers.MarkedCallers.{MarkedCallers}
use Rattle.book_base.specs.Book.{Page}
use Rattle.book_base.specs.Order.{call_at}
use Rattle.book_base.specs.Next.{next_call, MayComeNext}
use Rattle.book_base.specs.Pruning.{IsForced}
use Rattle.search_hints.specs.Marks.{MarksAllNext, MarksSuffice}
use Rattle.book_base.proofs.ViewLemmas.{same_call}

-- Where a caller is forced, marks on all callers whose next calls may come next suffice.
pub all_next_suffice : (book : List Page) (next : List ℕ → ℕ → List ℕ × ℕ) (cut list : List ℕ)
    (forced : ℕ) (marks : MarkedCallers) → IsForced book cut forced
    → MarksAllNext book cut marks → MarksSuffice book next cut list marks
all_next_suffice book next cut list forced marks is all [] goes =
    let held : get_or cut forced 0 < get_or cut forced 0 =
    goes (next_call cut forced) is.answered in absurd (omega arith)
all_next_suffice book next cut list forced marks is all (place ∷ other) goes =
    let same : call_at place ≡ next_call cut place.caller =
    same_call (call_at place) (next_call cut place.caller) refl goes.0.may_come.next in
    let may : MayComeNext book cut (next_call cut place.caller) =
    subst (λ (c : Call). MayComeNext book cut c) same goes.0.may_come in
    (place, other, (all place.caller).1 may, goes, omega arith)
