use Rattle.stream_text.specs.Stream.{TitleDue}
use Rattle.stream_text.proofs.OneWay.{passes_apart, all_once}
use Rattle.stream_text.proofs.laws.lines_say_one_thing.Goals as goal

pub returns-clause-apart : goal.returns-clause-apart
returns-clause-apart c = passes_apart

pub returns-clause-one : goal.returns-clause-one
returns-clause-one c lines a b = all_once TitleDue lines a b
