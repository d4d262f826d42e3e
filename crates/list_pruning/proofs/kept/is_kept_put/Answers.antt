use Rattle.std.proofs.Common.{ℕ, subst, arith}
use Rattle.list_pruning.specs.HoldsLast.{IsUnreadWrite}
use Rattle.list_pruning.proofs.kept.is_kept_put.Goals as goal

pub returns : goal.returns
returns g c is =
    let reading = g.R.Reader.reading c.args.reader.now in
    let caller : ℕ = c.args.caller in (
      omega (arith, c.get-number.ensures, c.answers.ensures, c.if-number-answers.false),
      subst (λ (n : ℕ). IsUnreadWrite reading c.args.book.now c.args.cut.now
          (record { caller = caller; number = n })) c.get-number.ensures (c.puts_kept.ensures is),
    )
