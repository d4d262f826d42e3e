use Rattle.std.proofs.Common.{◌≡◌, ◌∙◌, List, not, true≢false, Option, Some, get_or, sym, ap, subst, slice_get}
use Rattle.std.proofs.lemmas.Option.{slice_get-get_or}
use Rattle.seq_objects.specs.declared.stack.StackOperation.{StackOperation}
use Rattle.level_refutations.specs.Closed.{Level, bottom, OperationLeads, levels_of}
use Rattle.level_refutations.specs.Stored.{Allows, wide_table}
use Rattle.level_refutations.proofs.table.StoredTable.operation_leads.Goals as goal

pub returns-in-Some : goal.returns-in-Some
returns-in-Some c =
    let wide = wide_table c.args.entries.now c.args.self.now in (
      λ h named at. subst (λ (o : Option StackOperation). OperationLeads wide c.args.level named o
          (Allows c.args.reply) c.args.after.now) (sym c.in-Some.is)
          (c.known_leads.ensures.0 h named at),
      λ all. c.known_leads.ensures.1 (λ named at. subst (λ (o : Option StackOperation).
          OperationLeads wide c.args.level named o (Allows c.args.reply) c.args.after.now)
          c.in-Some.is (all named at)),
    )

pub returns-then-not-allows : goal.returns-then-not-allows
returns-then-not-allows c = (
  λ e named at. subst (λ (o : Option StackOperation). OperationLeads
      (wide_table c.args.entries.now c.args.self.now) c.args.level named o (Allows c.args.reply)
      c.args.after.now) (sym c.in-None.is) (λ may.
      absurd (true≢false (sym (c.allows.ensures.1 may) ∙ c.if-not-allows.true))),
  λ all. ap not c.if-not-allows.true,
)

pub returns-else-not-allows : goal.returns-else-not-allows
returns-else-not-allows c =
    let wide = wide_table c.args.entries.now c.args.self.now in
    let levels : List Level = levels_of c.args.entries.now in
    let here : Level = get_or levels c.args.level bottom in
    let there : slice_get levels c.args.level ≡ Some here =
    slice_get-get_or levels c.args.level bottom c.requires.level in (
      λ h named at. subst (λ (o : Option StackOperation). OperationLeads wide c.args.level named o
          (Allows c.args.reply) c.args.after.now) (sym c.in-None.is)
          (λ may. c.has.ensures.0 h),
      λ all.
          let leads = subst (λ (o : Option StackOperation). OperationLeads wide c.args.level here o
          (Allows c.args.reply) c.args.after.now) c.in-None.is (all here there) in
          c.has.ensures.1 (leads (c.allows.ensures.0 c.if-not-allows.false)),
    )
