use Rattle.report_lines.proofs.Worlds.{worlds_are_lawful}
use Rattle.report_lines.proofs.report_laws.lawful_from_worlds.Goals as goal

pub returns : goal.returns
returns c = worlds_are_lawful
