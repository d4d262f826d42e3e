use Rattle.client_calls.specs.Clients.{HasSpent, IsAtWork}
use Rattle.client_calls.specs.Keeping.{IsSameSheet}
use Rattle.run_report.proofs.settling.settle_counted.Given as goal

abbrev pub invariant-loop-call : goal.invariant-loop-call
invariant-loop-call g l =
    record {
      work : IsAtWork g.P.Program.meaning l.shared.rows.now g.E.Ending.says g.E.Ending.object
          (g.A.Asks.fits l.shared.asks.now) g.A.Asks.count l.client;
      same : IsSameSheet g.E.Ending.object l.fn.client.sheet l.client.sheet;
      spent : HasSpent l.allotment l.client;
    }
