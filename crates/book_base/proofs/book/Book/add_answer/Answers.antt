use Rattle.book_base.proofs.RefusalLemmas.{no_test_fails}
use Rattle.book_base.proofs.book.Book.add_answer.Goals as goal

pub returns-in-Ok-clause-refused : goal.returns-in-Ok-clause-refused
returns-in-Ok-clause-refused c fault first = absurd (no_test_fails c.args.self.now c.args.caller
    c.args.view c.in_default.ensures.none fault first.fails)

pub returns-in-Err-clause-refused : goal.returns-in-Err-clause-refused
returns-in-Err-clause-refused c fault first = absurd (no_test_fails c.args.self.now c.args.caller
    c.args.view c.in_default.ensures.none fault first.fails)
