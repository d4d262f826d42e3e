use Rattle.given_book.proofs.GivenLemmas.{only_none, only_some, first_of_smaller}
use Rattle.given_book.proofs.smaller.smaller_text.Goals as goal

pub returns-clause-legal : goal.returns-clause-legal
returns-clause-legal c =
    only_none c.args.bytes.now c.written.result c.written.ensures.smaller c.written.ensures.refused

pub returns-clause-illegal : goal.returns-clause-illegal
returns-clause-illegal c =
    only_some c.args.bytes.now c.written.result c.written.ensures.smaller c.written.ensures.refused

pub returns-clause-first : goal.returns-clause-first
returns-clause-first c = first_of_smaller c.args.bytes.now c.written.result
    c.written.ensures.smaller c.written.ensures.refused
