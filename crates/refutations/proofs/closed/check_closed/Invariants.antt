use Rattle.std.proofs.Common.{◌≡◌, ℕ, ◌<◌, Some, take, slice_get}
use Rattle.refutations.specs.declared.entry.Entry.{Entry}
use Rattle.refutations.specs.Closed.{items_of, IsMade}
use Rattle.refutations.specs.Stored.{AreFit, AreListed}
use Rattle.refutations.proofs.closed.check_closed.Given as goal

abbrev pub invariant-loop-k : goal.invariant-loop-k
invariant-loop-k g l = record {
  fit : AreFit (g.S.SeqObject.spec l.object) l.book l.state.room l.items;
  listed : AreListed l.items
      (items_of (g.S.SeqObject.spec l.object) l.book (take l.k l.entries));
  made : (j : ℕ) (entry : Entry) → j < l.k → slice_get l.entries j ≡ Some entry
      → IsMade l.book (items_of (g.S.SeqObject.spec l.object) l.book (take j l.entries)) entry;
}
