use Rattle.row_table.specs.Callers.{local_with}
use Rattle.row_gather.proofs.Peeking.{all_stay, alone_one, alone_then, has_peeked}
use Rattle.row_gather.proofs.records.peek_record.Goals as goal

pub returns-clause-peeks : goal.returns-clause-peeks
returns-clause-peeks g c =
    let meaning = g.P.Program.meaning in
    let rows = c.args.rows.now in
    let one = alone_one meaning rows _ _ _ _ _ _ _ _ _ c.requires.ready c.peek-reply.ensures.caller
    c.peek-reply.ensures.event c.peek-reply.ensures.stance c.peek-reply.ensures.tick in
    alone_then meaning rows _ _ _ _ _ _ one c.peek_view-view.ensures.peeks

pub returns-clause-record : goal.returns-clause-record
returns-clause-record g c =
    let meaning = g.P.Program.meaning in
    let rows = c.args.rows.now in
    record {
      reply = all_stay (local_with c.peek-reply.new.caller) (local_with c.peek_view-view.new.caller)
          _ _ c.peek_view-view.ensures.peeks.peeks _ (has_peeked meaning rows c.args.caller.now
          c.peek-reply.new.caller _ c.args.call _ _ c.requires.ready c.peek-reply.ensures.event);
      view = c.peek_view-view.ensures.view;
    }
