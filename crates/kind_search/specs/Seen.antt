-- What a sight of a book says, by the kind of object that prepares it, and how a kind narrows marks.
use Rattle.std.specs.Prelude.{ℕ, List}
use Rattle.book_base.specs.Book.{Page}
use Rattle.search_hints.specs.declared.sight.Sight.{Sight}
use Rattle.list_pruning.specs.Sights.{ListsValues}
use Rattle.seq_objects.specs.declared.kind.Kind.{Kind}
use Rattle.seq_objects.specs.declared.kind.Kind.TheVariants as kinds
use Rattle.kind_search.specs.Readings.{stack_reading}
use Rattle.kind_search.specs.PqueueReading.{pqueue_reading}
use Rattle.kind_search.specs.RegisterReading.{register_reading}
use Rattle.kind_search.specs.Keys.{set_key, map_key, IsNarrowedToKey}
use Rattle.search_hints.specs.declared.marked_callers.MarkedCallers.{MarkedCallers}

-- The sight that a stack, a priority queue or a register prepares of a book lists for each value
-- all calls that put it in and all answered calls that take it out. A write of a register counts as
-- a put, and a read as a take. Nothing is said of the sights of other kinds.
abbrev pub kind_sees : Kind → List Page → Sight → Type 0
kind_sees kinds.Queue book sight = Unit {0}
kind_sees kinds.Stack book sight = ListsValues stack_reading book sight
kind_sees kinds.Register book sight = ListsValues register_reading book sight
kind_sees kinds.Counter book sight = Unit {0}
kind_sees kinds.IntSet book sight = Unit {0}
kind_sees kinds.Pqueue book sight = ListsValues pqueue_reading book sight
kind_sees kinds.CasRegister book sight = Unit {0}
kind_sees kinds.Map book sight = Unit {0}

-- Marks are narrowed as a kind narrows them: those of a set and a map to the key of the forced call.
-- Nothing is said of the marks of other kinds.
abbrev pub IsNarrowedByKind : Kind → List Page → List ℕ → ℕ → MarkedCallers → MarkedCallers → Type 0
IsNarrowedByKind kinds.Queue book cut forced old new = Unit {0}
IsNarrowedByKind kinds.Stack book cut forced old new = Unit {0}
IsNarrowedByKind kinds.Register book cut forced old new = Unit {0}
IsNarrowedByKind kinds.Counter book cut forced old new = Unit {0}
IsNarrowedByKind kinds.IntSet book cut forced old new =
    IsNarrowedToKey set_key book cut forced old new
IsNarrowedByKind kinds.Pqueue book cut forced old new = Unit {0}
IsNarrowedByKind kinds.CasRegister book cut forced old new = Unit {0}
IsNarrowedByKind kinds.Map book cut forced old new =
    IsNarrowedToKey map_key book cut forced old new
