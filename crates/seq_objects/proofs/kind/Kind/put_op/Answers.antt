use Rattle.std.proofs.Common.{sym}
use Rattle.seq_objects.specs.EntryView.{shown}
use Rattle.seq_objects.proofs.Spelling.{operation_text-known, operation_text-unknown}
use Rattle.seq_objects.proofs.kind.Kind.put_op.Goals as goal

pub returns-in-Some-clause-ok : goal.returns-in-Some-clause-ok
returns-in-Some-clause-ok c =
    rw (operation_text-known c.args.self c.args.op (shown c.in-Some.entry) (sym c.in-Some.ensures))
    c.put.ensures.ok

pub returns-in-Some-clause-err : goal.returns-in-Some-clause-err
returns-in-Some-clause-err c =
    rw (operation_text-known c.args.self c.args.op (shown c.in-Some.entry) (sym c.in-Some.ensures))
    c.put.ensures.err

pub returns-in-None-clause-ok : goal.returns-in-None-clause-ok
returns-in-None-clause-ok c =
    rw (operation_text-unknown c.args.self c.args.op (sym c.in-None.ensures)) c.put_whole.ensures.ok

pub returns-in-None-clause-err : goal.returns-in-None-clause-err
returns-in-None-clause-err c =
    rw (operation_text-unknown c.args.self c.args.op (sym c.in-None.ensures))
    c.put_whole.ensures.err
