use Rattle.seq_objects.proofs.Texts.{kind_name-once, kind_name-IsWord}
use Rattle.seq_objects.proofs.laws.one_name_per_kind.Goals as goal

pub returns-clause-name : goal.returns-clause-name
returns-clause-name c = kind_name-once

pub returns-clause-word : goal.returns-clause-word
returns-clause-word c = kind_name-IsWord
