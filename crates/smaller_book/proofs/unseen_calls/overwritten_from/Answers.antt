use Rattle.std.proofs.Common.{◌<◌, inl, inr, arith}
use Rattle.std.proofs.lemmas.Bool.{cases_lt, cases_eq}
use Rattle.book_base.proofs.PageLemmas.{caller_from_answer}
use Rattle.smaller_book.proofs.unseen_calls.overwritten_from.Goals as goal

pub loop-other-preserved : goal.loop-other-preserved
loop-other-preserved c = record {
  overwritten = λ number inside most. elim (cases_lt number c.loop-other.from) [
    | inl below ↦ c.overwritten_by.ensures.overwritten number inside
        (omega (arith, most, below, c.min-from.ensures))
    | inr past ↦ c.loop-other.invariant.overwritten number inside (omega (arith, past))
  ];
  all = λ number between inside below overwrites before.
      elim (cases_eq between.caller c.loop-other.other) [
        | inl e ↦ omega (
          arith,
          c.min-from.ensures,
          c.overwritten_by.ensures.all number between inside e overwrites before,
        )
        | inr other ↦ omega (
          arith,
          c.min-from.ensures,
          c.loop-other.invariant.all number between inside (omega (arith, below, other)) overwrites
              before,
        )
      ];
}

pub returns : goal.returns
returns c number inside = (
  c.loop-other.invariant.overwritten number inside,
  λ found.
      let (between, overwrites, before) = found in
      let there : between.caller < c.loop-other.other = omega (
        arith,
        caller_from_answer c.args.book.now between.caller between.number overwrites.answered,
        c.loop-other-test.false,
        c.callers-other-end.ensures.count,
      ) in
      c.loop-other.invariant.all number between inside there overwrites before,
)
