use Rattle.std.proofs.Common.{ℕ, inl, inr, subst, arith}
use Rattle.list_pruning.specs.HoldsLast.{IsUnreadWrite, WritesAnother}
use Rattle.list_pruning.proofs.holds_last.is_needless.Goals as goal

pub returns-then-writes_another : goal.returns-then-writes_another
returns-then-writes_another g c is =
    let reading = g.R.Reader.reading c.args.reader.now in
    let caller : ℕ = c.args.caller in
    inl (
      c.requires.irreplaceable c.if-irreplaceable.true,
      subst (λ (n : ℕ). WritesAnother reading c.args.book.now
          (record { caller = caller; number = n }) c.args.held) c.get-number.ensures
          (c.writes_another.ensures c.if-writes_another.true),
    )

pub returns : goal.returns
returns g c is =
    let reading = g.R.Reader.reading c.args.reader.now in
    let book = c.args.book.now in
    let caller : ℕ = c.args.caller in
    inr (
      λ answered. omega
          (arith, answered, c.get-number.ensures, c.answers.ensures, c.if-number-answers.false),
      subst (λ (n : ℕ). IsUnreadWrite reading book c.args.cut.now
          (record { caller = caller; number = n })) c.get-number.ensures
          (c.is_unread_write.ensures is),
    )
