use Rattle.monitor.proofs.monitor.Monitor.new.Goals as goal

pub returns-clause-monitor : goal.returns-clause-monitor
returns-clause-monitor g c meaning r of =
    record {
      resting = record { caller = of; idle = c.requires.idle; stance = c.requires.live };
      gathered = tt;
    }
