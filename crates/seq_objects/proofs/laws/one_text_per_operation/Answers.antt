use Rattle.seq_objects.proofs.Spelling.{Spells-once}
use Rattle.seq_objects.proofs.Texts.{operation_text-once, operation_words-IsWord}
use Rattle.seq_objects.proofs.laws.one_text_per_operation.Goals as goal

pub returns-clause-text : goal.returns-clause-text
returns-clause-text c = operation_text-once

pub returns-clause-reading : goal.returns-clause-reading
returns-clause-reading c = Spells-once

pub returns-clause-words : goal.returns-clause-words
returns-clause-words c = operation_words-IsWord
