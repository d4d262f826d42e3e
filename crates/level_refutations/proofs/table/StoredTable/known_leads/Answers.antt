use Rattle.std.proofs.Common.{◌≡◌, ℕ, ◌∙◌, List, not, true≢false, Option, Some, get_or, sym, ap, subst, slice_get}
use Rattle.std.proofs.lemmas.Option.{slice_get-get_or}
use Rattle.seq_objects.specs.declared.stack.StackOperation.{StackOperation}
use Rattle.level_refutations.specs.Closed.{Level, bottom, OperationLeads, levels_of}
use Rattle.level_refutations.specs.Stored.{Allows, wide_table}
use Rattle.level_refutations.proofs.table.StoredTable.known_leads.Goals as goal

pub get-requires : goal.get-requires
get-requires c = c.requires.levels.even

pub returns-then-not-allows : goal.returns-then-not-allows
returns-then-not-allows c = (
  λ e named at. subst (λ (o : Option StackOperation). OperationLeads
      (wide_table c.args.entries.now c.args.self.now) c.args.level named o (Allows c.args.reply)
      c.args.after.now) (sym (ap (λ (o : StackOperation). Some o) c.in-Push.is)) (λ may.
      absurd (true≢false (sym (c.allows.ensures.1 may) ∙ c.if-not-allows.true))),
  λ all. ap not c.if-not-allows.true,
)

pub returns-else-not-allows : goal.returns-else-not-allows
returns-else-not-allows c =
    let wide = wide_table c.args.entries.now c.args.self.now in
    let levels : List Level = levels_of c.args.entries.now in
    let value : ℕ = c.in-Push.value in
    let here : Level = get_or levels c.args.level bottom in
    let there : slice_get levels c.args.level ≡ Some here =
    slice_get-get_or levels c.args.level bottom c.requires.level in (
      λ h named at. subst (λ (o : Option StackOperation). OperationLeads wide c.args.level named o
          (Allows c.args.reply) c.args.after.now)
          (sym (ap (λ (o : StackOperation). Some o) c.in-Push.is)) (λ may.
          let one = c.has_one.ensures.0 h in (
            one.0,
            (c.requires.levels.named value c.args.level one.0).0 ((c.get.ensures one.0).0 one.1),
            one.2,
          )),
      λ all.
          let leads = subst (λ (o : Option StackOperation). OperationLeads wide c.args.level here o
          (Allows c.args.reply) c.args.after.now)
          (ap (λ (o : StackOperation). Some o) c.in-Push.is) (all here there) in
          let to = leads (c.allows.ensures.0 c.if-not-allows.false) in
          c.has_one.ensures.1 (
            to.0,
            (c.get.ensures to.0).1
                ((c.requires.levels.named value c.args.level to.0).1 to.1),
            to.2,
          ),
    )

pub returns-in-Pop : goal.returns-in-Pop
returns-in-Pop c =
    let wide = wide_table c.args.entries.now c.args.self.now in (
      λ h named at. subst (λ (o : Option StackOperation). OperationLeads wide c.args.level named o
          (Allows c.args.reply) c.args.after.now)
          (sym (ap (λ (o : StackOperation). Some o) c.in-Pop.is))
          (c.pop_leads.ensures.0 h named at),
      λ all. c.pop_leads.ensures.1 (λ named at. subst (λ (o : Option StackOperation).
          OperationLeads wide c.args.level named o (Allows c.args.reply) c.args.after.now)
          (ap (λ (o : StackOperation). Some o) c.in-Pop.is) (all named at)),
    )
