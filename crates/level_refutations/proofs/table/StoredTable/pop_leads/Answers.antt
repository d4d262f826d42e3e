use Rattle.std.proofs.Common.{◌≡◌, ◌∙◌, List, not, true≢false, Some, sym, ap, subst, slice_get}
use Rattle.std.proofs.lemmas.Option.{same_Some}
use Rattle.seq_objects.specs.Replies.{reply_value}
use Rattle.level_refutations.specs.Closed.{Level, bottom, PopLeads, levels_of}
use Rattle.level_refutations.specs.Stored.{Allows, wide_table}
use Rattle.level_refutations.proofs.table.StoredTable.pop_leads.Goals as goal

pub returns-then-not-allows : goal.returns-then-not-allows
returns-then-not-allows c =
    let levels : List Level = levels_of c.args.entries.now in
    let here : Level = record { top = Some c.in-Some.value; below = c.in-Some.below.now } in
    let there : slice_get levels c.args.level ≡ Some here =
    c.in-Some.ensures.level levels c.requires.levels in
    let word : c.wrapping_value_reply.result ≡ reply_value c.in-Some.value =
    c.wrapping_value_reply.ensures ∙ ap reply_value c.from.ensures in (
      λ e named at.
          let same : here ≡ named = same_Some here named (sym there ∙ at) in
          subst (λ (n : Level). PopLeads (wide_table c.args.entries.now c.args.self.now)
          c.args.level n.top n.below (Allows c.args.reply) c.args.after.now) same
          (λ may. absurd (true≢false (sym (c.allows.ensures.1
          (subst (Allows c.args.reply) (sym word) may)) ∙ c.if-not-allows.true))),
      λ all. ap not c.if-not-allows.true,
    )

pub returns-else-not-allows : goal.returns-else-not-allows
returns-else-not-allows c =
    let levels : List Level = levels_of c.args.entries.now in
    let here : Level = record { top = Some c.in-Some.value; below = c.in-Some.below.now } in
    let there : slice_get levels c.args.level ≡ Some here =
    c.in-Some.ensures.level levels c.requires.levels in
    let word : c.wrapping_value_reply.result ≡ reply_value c.in-Some.value =
    c.wrapping_value_reply.ensures ∙ ap reply_value c.from.ensures in (
      λ h named at.
          let same : here ≡ named = same_Some here named (sym there ∙ at) in
          subst (λ (n : Level). PopLeads (wide_table c.args.entries.now c.args.self.now)
          c.args.level n.top n.below (Allows c.args.reply) c.args.after.now) same
          (λ may p below. c.has_all.ensures.0 h p below),
      λ all. c.has_all.ensures.1 (λ p below. all here there (subst (Allows c.args.reply) word
          (c.allows.ensures.0 c.if-not-allows.false)) p below),
    )

pub returns-then-not-allows-2 : goal.returns-then-not-allows-2
returns-then-not-allows-2 c =
    let levels : List Level = levels_of c.args.entries.now in
    let there : slice_get levels c.args.level ≡ Some bottom =
    c.in-None.ensures.bottom levels c.requires.levels c.requires.level in (
      λ e named at.
          let same : bottom ≡ named = same_Some bottom named (sym there ∙ at) in
          subst (λ (n : Level). PopLeads (wide_table c.args.entries.now c.args.self.now)
          c.args.level n.top n.below (Allows c.args.reply) c.args.after.now) same
          (λ may. absurd (true≢false (sym (c.allows-in-None.ensures.1 may)
          ∙ c.if-not-allows-2.true))),
      λ all. ap not c.if-not-allows-2.true,
    )

pub returns-else-not-allows-2 : goal.returns-else-not-allows-2
returns-else-not-allows-2 c =
    let levels : List Level = levels_of c.args.entries.now in
    let there : slice_get levels c.args.level ≡ Some bottom =
    c.in-None.ensures.bottom levels c.requires.levels c.requires.level in (
      λ h named at.
          let same : bottom ≡ named = same_Some bottom named (sym there ∙ at) in
          subst (λ (n : Level). PopLeads (wide_table c.args.entries.now c.args.self.now)
          c.args.level n.top n.below (Allows c.args.reply) c.args.after.now) same
          (λ may. c.has.ensures.0 h),
      λ all. c.has.ensures.1
          (all bottom there (c.allows-in-None.ensures.0 c.if-not-allows-2.false)),
    )
