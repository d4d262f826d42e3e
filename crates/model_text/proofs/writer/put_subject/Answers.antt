use Rattle.book_text.proofs.WrittenLines.{OnOk_then}
use Rattle.model_text.proofs.ToldTexts.{step_written}
use Rattle.model_text.proofs.writer.put_subject.Goals as goal

pub returns-in_ok-put_model_operation-in-Step-clause-ok :
    goal.returns-in_ok-put_model_operation-in-Step-clause-ok
returns-in_ok-put_model_operation-in-Step-clause-ok c =
    OnOk_then c.put_spaced.result c.put_spaced.ensures
    (step_written c.args.out.now.items c.put_number.new.out.items
    c.put_model_operation-in-Step.new.out.items c.put_spaced.new.out.items c.args.subject
    c.in-Step.state c.in-Step.op c.in-Step.next c.in-Step.is
    c.in_ok-put_number-in-Step.ensures.ok c.in_ok-put_model_operation-in-Step.ensures)
