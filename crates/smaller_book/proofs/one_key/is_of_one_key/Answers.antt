use Rattle.std.proofs.Common.{sym, subst}
use Rattle.std.specs.Prelude.{IfNone}
use Rattle.std.proofs.lemmas.Bool.{true≢false}
use Rattle.book_base.specs.declared.call.Call.{Call}
use Rattle.book_base.specs.Book.{IsCall}
use Rattle.smaller_book.proofs.one_key.is_of_one_key.Goals as goal

pub returns-in-None : goal.returns-in-None
returns-in-None c = (
  λ wrong. absurd (true≢false (sym wrong)),
  λ found.
      let (key, one) = found in
      absurd (subst (λ o. IfNone o ((call : Call) → ¬ IsCall c.args.book.now call)) c.in-None.is
      c.first_call.ensures.none one.some.0 one.some.1),
)
