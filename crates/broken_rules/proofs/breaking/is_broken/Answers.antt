use Rattle.std.proofs.Common.{◌≡◌, ◌∙◌, sym, ap, subst}
use Rattle.std.proofs.lemmas.Bool.{false≢true, both_ways, iff_false}
use Rattle.legal_orders.specs.Deals.{Deal}
use Rattle.broken_rules.specs.declared.demand.Demand.{Demand}
use Rattle.broken_rules.specs.declared.rule.Relation.{Relation}
use Rattle.broken_rules.specs.Deeds.{did, took, deal_of_act}
use Rattle.broken_rules.specs.Demands.{AllMeet}
use Rattle.broken_rules.specs.Rules.{fits, Related}
use Rattle.broken_rules.proofs.breaking.is_broken.Goals as goal

pub returns-then-not-is_kept_by : goal.returns-then-not-is_kept_by
returns-then-not-is_kept_by c = (
  λ e. absurd (false≢true e),
  λ breaks. absurd
      (both_ways c.is_kept_by.result c.if-not-is_kept_by.true (c.is_kept_by.ensures ∙ breaks.kept)),
)

pub returns-then-not-fits : goal.returns-then-not-fits
returns-then-not-fits c =
    let rule = c.args.broken.rule in
    let one : Deal = did c.args.kind c.args.book.now c.args.broken.first in
    let here : c.fits.result ≡ fits rule one (took c.args.kind c.args.book.now c.args.broken.second)
    = c.fits.ensures ∙ (ap (λ (d : Deal). fits rule d (deal_of_act c.taking_of-second.result))
    c.act_of-first.ensures ∙ ap (fits rule one) c.taking_of-second.ensures) in (
      λ e. absurd (false≢true e),
      λ breaks. absurd (both_ways c.fits.result c.if-not-fits.true (here ∙ breaks.fit)),
    )

pub returns-then-not-are_related : goal.returns-then-not-are_related
returns-then-not-are_related c =
    let says : Relation → Type 0 = λ relation.
    Related c.args.kind c.args.book.now relation c.args.broken.first c.args.broken.second in (
      λ e. absurd (false≢true e),
      λ breaks. absurd (iff_false c.are_related.ensures c.if-not-are_related.true
          (subst says (sym c.relation.ensures) breaks.related)),
    )

pub returns-then-not-all_meet : goal.returns-then-not-all_meet
returns-then-not-all_meet c =
    let says : Demand → Type 0 =
    λ demand.
    AllMeet c.args.kind c.args.book.now demand c.args.broken.first c.args.broken.second in (
      λ e. absurd (false≢true e),
      λ breaks. absurd (iff_false c.all_meet.ensures c.if-not-all_meet.true
          (subst says (sym c.puts_demand.ensures) breaks.puts)),
    )

pub returns : goal.returns
returns c =
    let rule = c.args.broken.rule in
    let one : Deal = did c.args.kind c.args.book.now c.args.broken.first in
    let here : c.fits.result ≡ fits rule one (took c.args.kind c.args.book.now c.args.broken.second)
    = c.fits.ensures ∙ (ap (λ (d : Deal). fits rule d (deal_of_act c.taking_of-second.result))
    c.act_of-first.ensures ∙ ap (fits rule one) c.taking_of-second.ensures) in
    let related : Relation → Type 0 = λ relation.
    Related c.args.kind c.args.book.now relation c.args.broken.first c.args.broken.second in
    let meet : Demand → Type 0 = λ demand.
    AllMeet c.args.kind c.args.book.now demand c.args.broken.first c.args.broken.second in (
      λ yes. record {
        first = c.requires.first;
        second = c.requires.second;
        kept = sym c.is_kept_by.ensures ∙ c.if-not-is_kept_by.false;
        fit = sym here ∙ c.if-not-fits.false;
        related =
            subst related c.relation.ensures (c.are_related.ensures.0 c.if-not-are_related.false);
        puts = subst meet c.puts_demand.ensures (c.all_meet.ensures.0 c.if-not-all_meet.false);
        takes = subst meet c.takes_demand.ensures (c.all_meet-2.ensures.0 yes);
      },
      λ breaks. c.all_meet-2.ensures.1 (subst meet (sym c.takes_demand.ensures) breaks.takes),
    )
