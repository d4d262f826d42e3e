use Rattle.book_text.proofs.WrittenLines.{both_pieces}
use Rattle.std.proofs.Common.{[], ◌∷◌}
use Rattle.seq_objects.specs.Replies.{reply_word}
use Rattle.model_text.proofs.ToldTexts.{line_written}
use Rattle.model_text.proofs.writer.put_told_line.Goals as goal

pub returns-clause-ok : goal.returns-clause-ok
returns-clause-ok c =
    line_written c.args.out.now.items c.put_subject.new.out.items c.put_reply.new.out.items
    c.push-2.new.self.items c.args.line.subject c.args.line.reply c.in_ok-put_subject.ensures.ok
    (both_pieces c.put_subject.new.out.items c.push.new.self.items c.put_reply.new.out.items
    (32 ∷ []) (reply_word c.args.line.reply) c.in_ok-push.ensures.items
    c.in_ok-put_reply.ensures.ok) c.in_ok-push-2.ensures.items
