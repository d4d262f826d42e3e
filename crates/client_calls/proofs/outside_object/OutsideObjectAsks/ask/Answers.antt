use Rattle.client_calls.proofs.outside_object.OutsideObjectAsks.ask.Goals as goal

pub returns-clause-rows : goal.returns-clause-rows
returns-clause-rows g c r served h = c.ask.ensures.caller.rows _ r h
