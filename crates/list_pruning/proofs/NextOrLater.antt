-- Calls that put in a value, before and after a take by what its view holds.
use Rattle.std.proofs.Common.{◌≡◌, ℕ, ◌<◌, ◌≤◌, ◌⊎◌, List, Option, IsSomeAnd, get_or, refl, sym, subst, inl, inr}
use Rattle.std.proofs.lemmas.Bool.{cases_lt}
use Rattle.list_laws.proofs.Options.{some_from_is_some_and}
use Rattle.book_base.specs.declared.call.Call.{Call}
use Rattle.book_base.specs.declared.call.Record.{Record}
use Rattle.search_hints.specs.declared.marked_callers.MarkedCallers.{MarkedCallers}
use Rattle.book_base.specs.Book.{Page, IsValid, Precedes, calls_of, record_of}
use Rattle.book_base.specs.Next.{next_call, MayComeNext}
use Rattle.search_hints.specs.Marks.{IsMarked, MarksAllNext}
use Rattle.book_base.proofs.GrowthLemmas.{below_calls}
use Rattle.book_base.proofs.ViewLemmas.{same_call}

-- In a valid book, a view counts for each caller at most as many calls as the caller has.
pub view_below_calls : (book : List Page) → IsValid book → (take : Call) (view : List ℕ)
    → IsSomeAnd (record_of book take) (λ (r : Record). view ≡ r.view) → (i : ℕ)
    → get_or view i 0 ≤ calls_of book i
view_below_calls book valid take view seen i =
    let says = λ (r : Record). view ≡ r.view in
    let found = some_from_is_some_and (record_of book take) says seen in
    let same : view ≡ found.0.view =
    subst (λ (o : Option Record). IsSomeAnd o says) found.1 seen in
    subst (λ (w : List ℕ). get_or w i 0 ≤ calls_of book i) (sym same)
    (below_calls book found.0.view (valid.within take found.0 found.1) i)

-- A call may come next or a take precedes it, where this call, if the take's view holds it, is a
-- marked caller's next call.
pub next_or_later : (book : List Page) (cut : List ℕ) (take put : Call) (view : List ℕ)
    (marks : MarkedCallers) → MarksAllNext book cut marks
    → IsSomeAnd (record_of book take) (λ (r : Record). view ≡ r.view)
    → (put.number < get_or view put.caller 0
    → IsMarked marks put.caller × (put.number ≡ get_or cut put.caller 0))
    → MayComeNext book cut put ⊎ Precedes book take put
next_or_later book cut take put view marks all seen next =
    let says = λ (r : Record). view ≡ r.view in
    let found = some_from_is_some_and (record_of book take) says seen in
    let same : view ≡ found.0.view =
    subst (λ (o : Option Record). IsSomeAnd o says) found.1 seen in
    elim (cases_lt put.number (get_or view put.caller 0)) [
      | inl held ↦
          let it = next held in
          inl (subst (λ (c : Call). MayComeNext book cut c)
          (sym (same_call put (next_call cut put.caller) refl it.1)) ((all put.caller).0 it.0))
      | inr past ↦
          let misses = λ (r : Record). get_or r.view put.caller 0 ≤ put.number in
          inr (inl (subst (λ (o : Option Record). IsSomeAnd o misses) (sym found.1)
          (subst (λ (w : List ℕ). get_or w put.caller 0 ≤ put.number) same past)))
    ]
