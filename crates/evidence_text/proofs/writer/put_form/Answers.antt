use Rattle.refutation_text.specs.Said.{ImpossibleLine}
use Rattle.evidence_text.proofs.WrittenLines.{one_if_ok}
use Rattle.evidence_text.proofs.writer.put_form.Goals as goal

pub returns-in-Impossible : goal.returns-in-Impossible
returns-in-Impossible c = rw c.in-Impossible.is (one_if_ok c.put_call_line.result
    c.args.out.now.items c.put_call_line.new.out.items (ImpossibleLine c.in-Impossible.call)
    c.put_call_line.ensures.text c.put_call_line.ensures.may)
