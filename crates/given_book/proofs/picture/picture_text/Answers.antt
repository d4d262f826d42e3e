use Rattle.given_book.proofs.GivenLemmas.{first_of_picture, never_refused}
use Rattle.given_book.proofs.picture.picture_text.Goals as goal

pub returns-clause-drawn : goal.returns-clause-drawn
returns-clause-drawn c = never_refused c.args.bytes.now c.drawn.result c.drawn.ensures.refused

pub returns-clause-first : goal.returns-clause-first
returns-clause-first c =
    first_of_picture c.args.bytes.now c.drawn.result c.drawn.ensures.shown c.drawn.ensures.refused
