use Rattle.std.proofs.Common.{ℕ, sym, subst, arith}
use Rattle.search_hints.proofs.Least.{may_come-from_least}
use Rattle.frontier_check.specs.Search.{MayGrow}
use Rattle.frontier_check.proofs.search.Search.at_once.Goals as goal

pub read_only-place-requires-clause-fits : goal.read_only-place-requires-clause-fits
read_only-place-requires-clause-fits g c =
    subst (λ (n : ℕ). MayGrow (g.S.SeqObject.spec c.args.self.now.object.now).next
    c.args.here.now.words n) (sym c.loop-caller.invariant) c.requires.fits

pub read_only-place-requires-clause-may : goal.read_only-place-requires-clause-may
read_only-place-requires-clause-may g c =
    may_come-from_least c.args.self.now.book.now c.args.counts.now c.args.first c.loop-caller.caller
    c.args.view.now c.callers-caller-end.ensures.valid c.requires.first c.requires.view
    (omega (arith, c.from.ensures, c.get.ensures))
