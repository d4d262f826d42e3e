use Rattle.std.proofs.Common.{◌+◌}
use Rattle.client_calls.specs.Clients.{phases_by, HasSpent, IsAtWork}
use Rattle.client_calls.specs.Keeping.{IsSameSheet}
use Rattle.client_calls.proofs.client.Client.run.Given as goal

abbrev pub invariant-loop-i : goal.invariant-loop-i
invariant-loop-i g l =
    record {
      spent : HasSpent (phases_by l.fn.self + l._i) l.client;
      work : IsAtWork g.P.Program.meaning l.shared.rows.now g.E.Ending.says g.E.Ending.object
          (g.A.Asks.fits l.shared.asks.now) g.A.Asks.count l.client;
      same : IsSameSheet g.E.Ending.object l.fn.self.sheet l.client.sheet;
    }
