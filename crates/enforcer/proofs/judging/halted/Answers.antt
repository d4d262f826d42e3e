use Rattle.enforcer.proofs.judging.halted.Goals as goal

pub returns-clause-caller : goal.returns-clause-caller
returns-clause-caller g c = (
  c.halt.ensures.rows g.P.Program.meaning c.args.rows.now c.requires.rows,
  c.halt.ensures.local.0,
)
