use Rattle.row_table.specs.Callers.{local_with}
use Rattle.row_gather.proofs.Peeking.{all_stay, alone_one, alone_then, ready_still, has_peeked}
use Rattle.row_gather.proofs.Reading.{joined_peeked}
use Rattle.row_gather.proofs.operations.peek_operation.Goals as goal

pub returns-clause-peeks : goal.returns-clause-peeks
returns-clause-peeks g c =
    let meaning = g.P.Program.meaning in
    let rows = c.args.rows.now in
    let one = alone_one meaning rows _ _ _ _ _ _ _ _ _ c.requires.ready c.peek-low.ensures.caller
    c.peek-low.ensures.event c.peek-low.ensures.stance c.peek-low.ensures.tick in
    let two = alone_one meaning rows _ _ _ _ _ _ _ _ _
    (ready_still meaning rows _ _ _ _ one c.requires.ready) c.peek-high.ensures.caller
    c.peek-high.ensures.event c.peek-high.ensures.stance c.peek-high.ensures.tick in
    alone_then meaning rows _ _ _ _ _ _ one two

pub returns-clause-operation : goal.returns-clause-operation
returns-clause-operation g c =
    let meaning = g.P.Program.meaning in
    let rows = c.args.rows.now in
    let one = alone_one meaning rows _ _ _ _ _ _ _ _ _ c.requires.ready c.peek-low.ensures.caller
    c.peek-low.ensures.event c.peek-low.ensures.stance c.peek-low.ensures.tick in
    let ready = ready_still meaning rows _ _ _ _ one c.requires.ready in
    let two = alone_one meaning rows _ _ _ _ _ _ _ _ _ ready c.peek-high.ensures.caller
    c.peek-high.ensures.event c.peek-high.ensures.stance c.peek-high.ensures.tick in
    joined_peeked (local_with c.peek-high.new.caller) c.args.call c.peek-low.result
    c.peek-high.result c.join.result c.peek-low.type_inv c.peek-high.type_inv c.join.ensures
    (all_stay (local_with c.peek-low.new.caller) (local_with c.peek-high.new.caller) _ _ two.peeks _
    (has_peeked meaning rows c.args.caller.now c.peek-low.new.caller _ c.args.call _ _
    c.requires.ready c.peek-low.ensures.event))
    (has_peeked meaning rows c.peek-low.new.caller c.peek-high.new.caller _ c.args.call _ _ ready
    c.peek-high.ensures.event)
