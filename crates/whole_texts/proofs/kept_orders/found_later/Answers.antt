use Rattle.std.proofs.Common.{sym, subst, arith}
use Rattle.frontier_check.specs.Standing.{HasGrown}
use Rattle.whole_texts.proofs.Grown.{grown_by_answer, kept_by_growth}
use Rattle.whole_texts.proofs.kept_orders.found_later.Goals as goal

pub check_after-requires-2 : goal.check_after-requires-2
check_after-requires-2 c = record {
  standing = kept_by_growth _ c.args.book c.add_answer.new.self c.in_ok-standing.standing
      (subst (HasGrown c.args.book) (sym c.in_ok-add_answer.ensures.ok)
      (grown_by_answer c.args.book 0 _ (omega (arith, c.requires.two))))
      c.in_ok-standing.ensures.stands;
}
