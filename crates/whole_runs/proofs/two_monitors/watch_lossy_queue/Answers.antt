use Rattle.whole_runs.proofs.two_monitors.watch_lossy_queue.Goals as goal

pub make_rounds-a-requires-clause-one : goal.make_rounds-a-requires-clause-one
make_rounds-a-requires-clause-one g c κs within =
    record {
      of = c.new-one.ensures.monitor _ c.in_ok-rows.rows c.in_ok-rows.ensures.b.0.caller;
      on = c.new-one.ensures.board;
      none = c.new-one.ensures.nothing.0;
    }

pub make_rounds-a-requires-clause-other : goal.make_rounds-a-requires-clause-other
make_rounds-a-requires-clause-other g c κs within =
    record {
      of = c.new-other.ensures.monitor _ c.in_ok-rows.rows c.in_ok-rows.ensures.c.0.caller;
      on = c.new-other.ensures.board;
      none = c.new-other.ensures.nothing.0;
    }
