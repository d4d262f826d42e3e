use Rattle.client_scripts.proofs.ReadTexts.{read_is_written}
use Rattle.client_scripts.proofs.WrittenTexts.{written_is_read}
use Rattle.client_scripts.proofs.laws.a_text_is_its_scripts_lines.Goals as goal

pub returns : goal.returns
returns c =
    λ version bytes plan. (written_is_read version bytes plan, read_is_written version bytes plan)
