use Rattle.std.specs.Prelude.{codes}
use Rattle.seq_objects.specs.Replies.{reply_word}
use Rattle.text_fields.specs.Counts.{pair_words}
use Rattle.book_text.proofs.WrittenLines.{answer_written, OnOk_then}
use Rattle.report_text.proofs.writer.put_answer.Goals as goal

pub returns : goal.returns
returns c =
    let r = c.args.answer.now in
    OnOk_then c.put_pairs.result c.put_pairs.ensures (λ pairs.
    answer_written c.args.out.now.items c.push.new.self.items c.put_reply.new.out.items
    c.extend_from_slice.new.self.items c.put_pairs.new.out.items (reply_word r.reply) (codes "view")
    (pair_words 0 r.view)
    c.in_ok-push.ensures.items c.in_ok-put_reply.ensures.ok
    c.in_ok-extend_from_slice.ensures.items pairs)
