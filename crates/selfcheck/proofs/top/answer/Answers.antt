use Rattle.selfcheck.specs.declared.command.Command.TheVariants.{Verify, Sketch, Order, Upgrade, Sets, Monitor}
use Rattle.selfcheck.proofs.OutputLemmas.{EndsWriting-named, if_seen}
use Rattle.selfcheck.proofs.top.answer.Goals as goal

pub returns-in-Verify-clause-ends : goal.returns-in-Verify-clause-ends
returns-in-Verify-clause-ends g c =
    EndsWriting-named _ Verify _ _ _ _ _ _ c.in-Verify.is
    (c.write_told.ensures.ends Verify _ c.args.bytes.now
    (if_seen Verify _ c.args.bytes.now _ tt c.verify.ensures))

pub returns-in-Sketch-clause-ends : goal.returns-in-Sketch-clause-ends
returns-in-Sketch-clause-ends g c =
    EndsWriting-named _ Sketch _ _ _ _ _ _ c.in-Sketch.is
    (c.write_told-in-Sketch.ensures.ends Sketch _ c.args.bytes.now
    (if_seen Sketch _ c.args.bytes.now _ tt c.draw.ensures))

pub returns-in-Order-clause-ends : goal.returns-in-Order-clause-ends
returns-in-Order-clause-ends g c =
    EndsWriting-named _ Order _ _ _ _ _ _ c.in-Order.is
    (c.write_told-in-Order.ensures.ends Order _ c.args.bytes.now
    (if_seen Order _ c.args.bytes.now _ tt c.order.ensures))

pub returns-in-Upgrade-clause-ends : goal.returns-in-Upgrade-clause-ends
returns-in-Upgrade-clause-ends g c =
    EndsWriting-named _ Upgrade _ _ _ _ _ _ c.in-Upgrade.is
    (c.write_told-in-Upgrade.ensures.ends Upgrade _ c.args.bytes.now
    (if_seen Upgrade _ c.args.bytes.now _ tt c.upgrade.ensures))

pub returns-in-Sets-clause-ends : goal.returns-in-Sets-clause-ends
returns-in-Sets-clause-ends g c =
    EndsWriting-named _ Sets _ _ _ _ _ _ c.in-Sets.is
    (c.write_told-in-Sets.ensures.ends Sets _ c.args.bytes.now
    (if_seen Sets _ c.args.bytes.now _ tt c.sets.ensures))

pub returns-in-Monitor-clause-ends : goal.returns-in-Monitor-clause-ends
returns-in-Monitor-clause-ends g c =
    EndsWriting-named _ (Monitor c.in-Monitor.behaviour) _ _ _ _ _ _ c.in-Monitor.is
    c.monitor_script.ensures.ends
