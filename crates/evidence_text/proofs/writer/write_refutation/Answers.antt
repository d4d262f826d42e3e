use Rattle.refutation_text.specs.Said.{steps_said, ending_said}
use Rattle.evidence_text.proofs.ReadBack.{written_is_read}
use Rattle.evidence_text.proofs.writer.write_refutation.Goals as goal

pub returns : goal.returns
returns c = written_is_read c.args.kind c.args.book.now (steps_said c.args.steps.now)
    (ending_said c.args.ending.now) c.in_ok-out.out.items c.put_title.new.out.items
    c.put_steps.new.out.items c.put_ending.new.out.items c.in_ok-out.ensures.read
    c.in_ok-put_title.ensures c.in_ok-put_steps.ensures c.in_ok-put_ending.ensures
