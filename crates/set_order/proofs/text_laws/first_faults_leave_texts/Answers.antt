use Rattle.set_order.proofs.FaultTexts as from
use Rattle.set_order.proofs.text_laws.first_faults_leave_texts.Goals as goal

pub returns : goal.returns
returns c = from.set_book_leaves_texts
