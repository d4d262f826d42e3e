use Rattle.std.proofs.Common.{◌≡◌, ◌∙◌, sym, ap, inl, inr, slice_get, arith}
use Rattle.std.proofs.lemmas.Bool.{cases_lt}
use Rattle.std.proofs.lemmas.Option.{slice_get_within}
use Rattle.pair_refutations.specs.Tabled.{standings_of}
use Rattle.pair_refutations.proofs.Storing.{stored-there}
use Rattle.pair_refutations.proofs.closed.first_open.Goals as goal

pub loop-number-preserved : goal.loop-number-preserved
loop-number-preserved c n s less at reading book is =
    elim (cases_lt n c.loop-number.number) [
      | inl below ↦ c.loop-number.invariant n s below at reading book is
      | inr not_below ↦
          let same : n ≡ c.loop-number.number = omega (arith, less, not_below) in
          let closed = rw c.in_default.is at c.in_ok-fault.ensures.closed in
          closed s (ap (slice_get (standings_of c.args.standings.now)) (sym same) ∙ at) reading
          book is
    ]

pub returns-clause-closed : goal.returns-clause-closed
returns-clause-closed c number s at reading book is =
    let stored = stored-there c.args.standings.now.all.items number s at in
    let inside = slice_get_within c.args.standings.now.all.items number stored.0 stored.1 in
    c.loop-number.invariant number s
    (omega (arith, inside, c.loop-number-test.false, c.len-number-end.ensures)) at reading book is
