use Rattle.std.proofs.Common.{◌∙◌}
use Rattle.watch.proofs.objects.Object.settle.Goals as goal

pub returns-in-Some-clause-right : goal.returns-in-Some-clause-right
returns-in-Some-clause-right c kind asked stream lines w =
    c.in-Some.ensures kind asked stream lines (record {
      received = c.flush.ensures.same stream w.received;
      window_is = w.window_is;
      counted = w.counted;
      kind_is = c.flush.ensures.kind.0 ∙ w.kind_is;
      limit_is = c.flush.ensures.kind.1 ∙ w.limit_is;
      even = w.even;
      older = w.older;
      recent = w.recent;
    })
