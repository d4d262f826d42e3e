use Rattle.std.proofs.Common.{arith}
use Rattle.std.proofs.lemmas.Bool.{ltb-true, lt-ltb}
use Rattle.refutations.specs.Counting.{IsOfSort}
use Rattle.refutations.proofs.Counting.{more_by_lists}
use Rattle.refutations.proofs.counts.are_more.Goals as goal

pub returns : goal.returns
returns c = λ reading is.
    let sort = IsOfSort reading c.args.book.now c.args.values.now in
    let both = more_by_lists (sort c.args.one) (sort c.args.other) c.in_ok-ones.ones.items
    c.in_ok-others.others.items (c.in_ok-ones.ensures reading is)
    (c.in_ok-others.ensures reading is) in (
      λ e. both.0 (omega (arith, ltb-true _ _ e, c.len.ensures, c.len-2.ensures)),
      λ it. lt-ltb _ _ (omega (arith, both.1 it, c.len.ensures, c.len-2.ensures)),
    )
