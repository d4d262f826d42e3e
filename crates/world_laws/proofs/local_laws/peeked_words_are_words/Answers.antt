use Rattle.world_laws.proofs.Locals.{peeked_words_are_words, peeked_words_stand}
use Rattle.world_laws.proofs.local_laws.peeked_words_are_words.Goals as goal

pub returns-clause-locals : goal.returns-clause-locals
returns-clause-locals c = peeked_words_are_words

pub returns-clause-runs : goal.returns-clause-runs
returns-clause-runs c = peeked_words_stand
