-- Marks on callers: those whose next calls a search is to try, after a cut and at a list.
use Rattle.std.specs.Prelude.{ℕ, ◌<◌, ◌↔◌, false, IsTrue, List, ◌∷◌, length, slice_index_or}
use Rattle.book_base.specs.declared.call.Place.{Place}
use Rattle.book_base.specs.Book.{Page}
use Rattle.book_base.specs.Next.{next_call, MayComeNext, Continues}
use Rattle.search_hints.specs.declared.marked_callers.MarkedCallers.{MarkedCallers}

-- a caller is marked
abbrev pub IsMarked : MarkedCallers → ℕ → Type 0
IsMarked marks i = IsTrue (slice_index_or marks.callers i false)

-- Exactly those callers are marked whose next calls after a cut may come next.
abbrev pub MarksAllNext : List Page → List ℕ → MarkedCallers → Type 0
MarksAllNext book cut marks = (i : ℕ) → IsMarked marks i ↔ MayComeNext book cut (next_call cut i)

-- Marks on callers suffice at a cut and a list: where some places continue an order from there, as
-- many places or fewer that begin with the next call of a marked caller do too.
abbrev pub MarksSuffice : List Page → (List ℕ → ℕ → List ℕ × ℕ) → List ℕ → List ℕ
    → MarkedCallers → Type 0
MarksSuffice book next cut list marks = (rest : List Place) → Continues book next cut list rest
    → (place : Place) × (other : List Place) × IsMarked marks place.caller
    × Continues book next cut list (place ∷ other) × (length other < length rest)

-- each caller that is marked in `few` is marked in `many`
abbrev pub IsMarkedWithin : MarkedCallers → MarkedCallers → Type 0
IsMarkedWithin few many = (i : ℕ) → IsMarked few i → IsMarked many i
