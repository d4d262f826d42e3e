use Rattle.std.proofs.Common.{◌↔◌, true, not, IsTrue, refl, sym, subst}
use Rattle.broken_rules.specs.declared.rule.Relation.{Relation}
use Rattle.broken_rules.specs.Rules.{Related}
use Rattle.broken_rules.proofs.Acts.{not_decides}
use Rattle.broken_rules.proofs.breaking.are_related.Goals as goal

pub returns-in-Same : goal.returns-in-Same
returns-in-Same c =
    subst (λ (r : Relation). IsTrue c.is_same.result ↔ Related c.args.kind c.args.book.now r
    c.args.first c.args.second) (sym c.in-Same.is) c.is_same.ensures

pub returns-in-NeverReplied : goal.returns-in-NeverReplied
returns-in-NeverReplied c =
    subst (λ (r : Relation). IsTrue c.is_never_replied.result ↔ Related c.args.kind c.args.book.now
    r c.args.first c.args.second) (sym c.in-NeverReplied.is) c.is_never_replied.ensures

pub returns-in-Unseen : goal.returns-in-Unseen
returns-in-Unseen c =
    subst (λ (r : Relation). IsTrue c.is_unseen.result ↔ Related c.args.kind c.args.book.now r
    c.args.first c.args.second) (sym c.in-Unseen.is) c.is_unseen.ensures

pub returns-in-Apart : goal.returns-in-Apart
returns-in-Apart c =
    subst (λ (r : Relation). IsTrue (not c.is_same-in-Apart.result)
    ↔ Related c.args.kind c.args.book.now r c.args.first c.args.second) (sym c.in-Apart.is)
    (not_decides c.is_same-in-Apart.ensures)

pub returns-in-Before : goal.returns-in-Before
returns-in-Before c =
    subst (λ (r : Relation). IsTrue c.precedes.result ↔ Related c.args.kind c.args.book.now r
    c.args.first c.args.second) (sym c.in-Before.is) c.precedes.ensures

pub returns-in-TakenByAnother : goal.returns-in-TakenByAnother
returns-in-TakenByAnother c =
    subst (λ (r : Relation). IsTrue (not c.all_meet.result)
    ↔ Related c.args.kind c.args.book.now r c.args.first c.args.second) (sym c.in-TakenByAnother.is)
    (not_decides c.all_meet.ensures)

pub returns-in-MissedAfter : goal.returns-in-MissedAfter
returns-in-MissedAfter c =
    subst (λ (r : Relation). IsTrue c.is_missed_after.result ↔ Related c.args.kind c.args.book.now r
    c.args.first c.args.second) (sym c.in-MissedAfter.is) c.is_missed_after.ensures

pub returns-in-TakenMore : goal.returns-in-TakenMore
returns-in-TakenMore c =
    subst (λ (r : Relation). IsTrue c.is_taken_more.result ↔ Related c.args.kind c.args.book.now r
    c.args.first c.args.second) (sym c.in-TakenMore.is) c.is_taken_more.ensures

pub returns-in-LeftOver : goal.returns-in-LeftOver
returns-in-LeftOver c =
    subst (λ (r : Relation). IsTrue c.is_left_over.result ↔ Related c.args.kind c.args.book.now r
    c.args.first c.args.second) (sym c.in-LeftOver.is) c.is_left_over.ensures

pub returns-in-ShowsEntry : goal.returns-in-ShowsEntry
returns-in-ShowsEntry c =
    subst (λ (r : Relation). IsTrue c.is_shown_alone.result ↔ Related c.args.kind c.args.book.now r
    c.args.first c.args.second) (sym c.in-ShowsEntry.is) c.is_shown_alone.ensures

pub returns-in-Excluded : goal.returns-in-Excluded
returns-in-Excluded c =
    subst (λ (r : Relation). IsTrue c.is_excluded.result ↔ Related c.args.kind c.args.book.now r
    c.args.first c.args.second) (sym c.in-Excluded.is) c.is_excluded.ensures

pub returns-in-BothSwap : goal.returns-in-BothSwap
returns-in-BothSwap c =
    subst (λ (r : Relation). IsTrue c.both_swap.result ↔ Related c.args.kind c.args.book.now r
    c.args.first c.args.second) (sym c.in-BothSwap.is) c.both_swap.ensures

pub returns-in-Any : goal.returns-in-Any
returns-in-Any c =
    subst (λ (r : Relation). IsTrue true ↔ Related c.args.kind c.args.book.now r c.args.first
    c.args.second) (sym c.in-Any.is) (λ e. tt, λ all. refl)
