use Rattle.report_text.proofs.ReadTexts.{read_is_written}
use Rattle.report_text.proofs.WrittenTexts.{written_is_read}
use Rattle.report_text.proofs.laws.a_text_is_its_reports_lines.Goals as goal

pub returns : goal.returns
returns c = λ bytes findings. (written_is_read bytes findings, read_is_written bytes findings)
