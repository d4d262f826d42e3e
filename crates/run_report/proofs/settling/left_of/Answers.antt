use Rattle.std.proofs.Common.{length, arith}
use Rattle.run_report.proofs.Settled.{unjudged_phases, unjudged_spent}
use Rattle.run_report.proofs.settling.left_of.Goals as goal

pub returns : goal.returns
returns g c =
    let client = c.args.client.now in
    let lines = length client.sheet.lines.items in
    omega (
      arith,
      unjudged_phases lines client.stand c.requires.unjudged,
      unjudged_spent c.args.allotment lines client.stand c.requires.unjudged c.requires.spent,
    )
