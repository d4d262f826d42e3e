use Rattle.std.proofs.Common.{◌≡◌, ◌∙◌, Some, get_or, sym, ap, subst, inl, inr, slice_get, arith}
use Rattle.std.specs.Prelude.{IfNone}
use Rattle.std.proofs.lemmas.Bool.{cases_eq}
use Rattle.std.proofs.lemmas.Option.{same_Some, slice_get-get_or, slice_get_within}
use Rattle.book_base.specs.declared.call.Call.{Call}
use Rattle.broken_rules.specs.declared.rule.Rule.{Rule}
use Rattle.broken_rules.specs.declared.rule.Rule.TheVariants as named
use Rattle.broken_rules.specs.Rules.{Breaks}
use Rattle.broken_rules.proofs.Searching.{with_rule}
use Rattle.broken_rules.proofs.search.first_broken.Goals as goal

pub returns-clause-none : goal.returns-clause-none
returns-clause-none c k broken listed breaks =
    let inside = slice_get_within c.args.rules.now k broken.rule listed in
    c.loop-rule.invariant k broken (omega (arith, inside)) listed breaks

pub loop-rule-preserved : goal.loop-rule-preserved
loop-rule-preserved c k broken below listed breaks =
    let kind = c.args.kind in
    let book = c.args.book.now in
    let rules = c.args.rules.now in
    let index = c.loop-rule.rule-index in
    let here : Rule = get_or rules index named.NeverReplied in
    elim (cases_eq k index) [
      | inr other ↦ c.loop-rule.invariant k broken (omega (arith, below, other)) listed breaks
      | inl same ↦
          let at : slice_get rules index ≡ Some here =
          slice_get-get_or rules index named.NeverReplied c.loop-rule-test.true in
          let rule : broken.rule ≡ here =
          same_Some broken.rule here (sym listed ∙ (ap (slice_get rules) same ∙ at)) in
          let P : Type 0 = (first second : Call)
          → Breaks kind book (record { rule = here; first = first; second = second }) → ⊥ in
          let none : P = subst (λ o. IfNone o P) c.in-None.is c.broken_by.ensures.none in
          none broken.first broken.second (with_rule kind book broken here rule breaks)
    ]
