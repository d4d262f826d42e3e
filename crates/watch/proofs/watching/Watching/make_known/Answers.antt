use Rattle.std.proofs.Common.{◌∙◌, arith}
use Rattle.watch.proofs.Returning.{ok_then}
use Rattle.watch.proofs.Growing.{one_more}
use Rattle.watch.proofs.watching.Watching.make_known.Goals as goal

pub returns-then-object-len-clause-objects : goal.returns-then-object-len-clause-objects
returns-then-object-len-clause-objects c =
    ok_then c.add.result c.add.ensures.objects
    (λ added asked said names most phase size named watched next.
    let grown = added asked said most phase size named watched in (
      grown.0 ∙ one_more said names c.args.object next
          (omega (arith, c.if-object-len.true, c.len.ensures, size)),
      grown.1,
    ))
