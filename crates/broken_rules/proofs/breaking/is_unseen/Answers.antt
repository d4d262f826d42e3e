use Rattle.std.proofs.Common.{◌≡◌, ◌∙◌, sym, ap, subst}
use Rattle.std.proofs.lemmas.Bool.{false≢true, iff_false}
use Rattle.broken_rules.specs.Deeds.{value_by, value_at}
use Rattle.broken_rules.specs.Rules.{SeesAtMost}
use Rattle.broken_rules.proofs.breaking.is_unseen.Goals as goal

pub returns-then-is_same : goal.returns-then-is_same
returns-then-is_same c =
    let kind = c.args.kind in
    let book = c.args.book.now in
    let first = c.args.first in
    let count : c.value-count.result ≡ value_at kind book first =
    c.value-count.ensures ∙ ap value_by c.act_of.ensures in (
      λ yes. (
        c.is_same.ensures.0 c.if-is_same.true,
        subst (SeesAtMost book first) count (c.sees_at_most.ensures.0 yes),
      ),
      λ so. c.sees_at_most.ensures.1 (subst (SeesAtMost book first) (sym count) so.1),
    )

pub returns-else-is_same : goal.returns-else-is_same
returns-else-is_same c = (
  λ e. absurd (false≢true e),
  λ so. absurd (iff_false c.is_same.ensures c.if-is_same.false so.0),
)
