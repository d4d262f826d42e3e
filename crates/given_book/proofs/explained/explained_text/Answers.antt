use Rattle.given_book.proofs.GivenLemmas.{first_of_explanation, never_refused}
use Rattle.given_book.proofs.explained.explained_text.Goals as goal

pub returns-clause-told : goal.returns-clause-told
returns-clause-told c =
    never_refused c.args.bytes.now c.explained.result c.explained.ensures.refused

pub returns-clause-first : goal.returns-clause-first
returns-clause-first c = first_of_explanation c.args.bytes.now c.explained.result
    c.explained.ensures.explained c.explained.ensures.refused
