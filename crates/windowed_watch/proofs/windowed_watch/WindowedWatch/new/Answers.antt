use Rattle.std.proofs.Common.{◌≤◌, List, [], length, sym, subst, arith}
use Rattle.late_residue.specs.declared.open_call.OpenCall.{OpenCall}
use Rattle.watch_core.specs.declared.TheConstants.{MAX_OPEN}
use Rattle.windowed_watch.proofs.Refusing.{takable_none}
use Rattle.windowed_watch.proofs.windowed_watch.WindowedWatch.new.Goals as goal

pub returns-clause-fresh : goal.returns-clause-fresh
returns-clause-fresh c = record {
  front = c.in_ok-new-2.ensures.fresh [];
  takable = takable_none;
  few = subst (λ (l : List OpenCall). length l ≤ MAX_OPEN) (sym c.in_ok-new-2.ensures.none)
      (omega arith);
  running = λ none. c.in_ok-new.ensures.running;
  final = tt;
}
