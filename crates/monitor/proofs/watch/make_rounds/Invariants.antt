use Rattle.std.proofs.Common.{◌≡◌, None}
use Rattle.row_table.specs.Callers.{who_of}
use Rattle.monitor.specs.Rounds.{HasMadeRounds}
use Rattle.enforcer.specs.Verdicts.{OrderStandsIn}
use Rattle.monitor.specs.Monitors.{caller_of, local_of, kept_by}
use Rattle.monitor.specs.Watching.{IsFresh}
use Rattle.monitor.proofs.watch.make_rounds.Given as goal

abbrev pub invariant-loop-i : goal.invariant-loop-i
invariant-loop-i g l =
    record {
      fresh : IsFresh g.P.Program.meaning l.shared.rows.now l.shared.board.now l.monitor;
      who : who_of (caller_of l.monitor) ≡ who_of (caller_of l.fn.monitor);
      stands : OrderStandsIn (g.S.SeqObject.spec l.shared.sequential.now)
          (kept_by l.monitor) l.standing;
      rounds : HasMadeRounds (g.S.SeqObject.spec l.shared.sequential.now) l.shared.rows.now.callers
          l._i (local_of l.fn.monitor) (local_of l.monitor) None;
    }
