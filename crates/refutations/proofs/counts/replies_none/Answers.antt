use Rattle.std.proofs.Common.{arith}
use Rattle.std.proofs.lemmas.Bool.{ltb-true}
use Rattle.std.proofs.lemmas.Option.{slice_get_within}
use Rattle.book_base.specs.Book.{record_of}
use Rattle.refutations.proofs.Counting.{none_as}
use Rattle.refutations.proofs.counts.replies_none.Goals as goal

pub returns-then-call-answers-clause-none : goal.returns-then-call-answers-clause-none
returns-then-call-answers-clause-none c =
    none_as (record_of c.args.book.now c.args.call) c.reply.result c.reply.ensures

pub returns-else-call-answers-clause-none : goal.returns-else-call-answers-clause-none
returns-else-call-answers-clause-none c = (
  λ e. absurd (omega (arith, ltb-true _ _ e, c.if-call-answers.false)),
  λ it. absurd (omega (
    arith,
    slice_get_within _ c.args.call.number it.0 it.1,
    c.answers.ensures,
    c.if-call-answers.false,
  )),
)
