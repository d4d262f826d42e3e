use Rattle.text_fields.proofs.HeadTexts.{head_sharp}
use Rattle.book_text.proofs.SharpBooks.{call_sharp, book_sharp}
use Rattle.book_text.proofs.laws.rules_are_sharp.Goals as goal

pub returns-clause-head : goal.returns-clause-head
returns-clause-head g c = λ version title word. head_sharp version title word

pub returns-clause-calls : goal.returns-clause-calls
returns-clause-calls g c = λ version text. call_sharp version (g.T.OpText.operations text)
    (g.met.T.OpText.one_operation text) (g.met.T.OpText.solid_words text)

pub returns-clause-book : goal.returns-clause-book
returns-clause-book g c = λ version. book_sharp version
