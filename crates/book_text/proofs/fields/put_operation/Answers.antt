use Rattle.book_text.proofs.WrittenLines.{OnOk_then, operation_written}
use Rattle.book_text.proofs.fields.put_operation.Goals as goal

pub returns : goal.returns
returns c =
    OnOk_then c.put_op.result c.put_op.ensures.ok
    (operation_written c.args.out.now.items c.push.new.self.items c.put_op.new.out.items c.args.kind
    c.args.op c.in_ok-push.ensures.items)
