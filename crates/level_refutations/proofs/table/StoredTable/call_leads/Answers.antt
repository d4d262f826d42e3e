use Rattle.std.proofs.Common.{◌≡◌, ℕ, ◌<◌, ◌≤◌, ◌⊎◌, ◌∙◌, List, length, take, Option, Some, None, refl, sym, ap, subst, inl, inr, arith}
use Rattle.book_base.specs.declared.call.Call.{Call}
use Rattle.book_base.specs.declared.call.Record.{Record}
use Rattle.book_base.specs.Book.{operation_of, record_of, answers_of}
use Rattle.book_base.specs.Next.{raised, next_call}
use Rattle.book_base.proofs.PageLemmas.{caller_from_call}
use Rattle.seq_objects.specs.declared.stack.StackOperation.{StackOperation}
use Rattle.seq_objects.specs.StackSteps.{stack_operation}
use Rattle.std.proofs.lemmas.Option.{same_Some}
use Rattle.std.proofs.lemmas.List.{length-set}
use Rattle.level_refutations.specs.Closed.{AreNodesAt, OperationLeads, MayHaveReply, table_of}
use Rattle.level_refutations.specs.Stored.{Allows, wide_of, wide_table}
use Rattle.level_refutations.proofs.Opening.{leads_as, node_as, replies_as}
use Rattle.level_refutations.proofs.Widening.{count_as, wide_raised}
use Rattle.level_refutations.proofs.table.StoredTable.call_leads.Goals.{then-number-answers, else-number-answers}
use Rattle.level_refutations.proofs.table.StoredTable.call_leads.Goals as goal

pub op-requires : goal.op-requires
op-requires c =
    let n : ℕ = length c.args.book.now in
    let there = caller_from_call c.args.book.now c.args.caller _ c.requires.may.is_call in
    omega (
      arith,
      c.from-number.ensures,
      count_as n c.args.counts.now c.args.caller c.requires.wide there,
      c.requires.may.is_call,
    )

pub raised-requires-clause-few : goal.raised-requires-clause-few
raised-requires-clause-few c =
    let n : ℕ = length c.args.book.now in
    let there = caller_from_call c.args.book.now c.args.caller _ c.requires.may.is_call in
    omega (
      arith,
      count_as n c.args.counts.now c.args.caller c.requires.wide there,
      c.requires.may.is_call,
      c.callers-callers.ensures.small.calls c.args.caller,
    )

pub operation_leads-requires-clause-levels : goal.operation_leads-requires-clause-levels
operation_leads-requires-clause-levels c = c.requires.stored.levels

pub operation_leads-requires-clause-known : goal.operation_leads-requires-clause-known
operation_leads-requires-clause-known c = c.requires.stored.known

pub returns : goal.returns
returns c =
    let book = c.args.book.now in
    let entries = c.args.entries.now in
    let stored = c.args.self.now in
    let counts : List ℕ = c.args.counts.now in
    let n : ℕ = length book in
    let caller : ℕ = c.args.caller in
    let cut : List ℕ = take n counts in
    let call : Call = next_call cut caller in
    let there : caller < n = caller_from_call book caller _ c.requires.may.is_call in
    let number : c.from-number.result ≡ call.number =
    c.from-number.ensures ∙ count_as n counts caller c.requires.wide there in
    let made : ℕ → Call = λ k. record { caller = caller; number = k } in
    let op : ℕ = c.op.result in
    let known : operation_of book call ≡ Some op =
    ap (λ (k : ℕ). operation_of book (made k)) (sym number) ∙ c.op.ensures in
    let reply : Option ℕ = c.if-number-answers.reply in
    let replied : ((r : Record) × (record_of book call ≡ Some r) × (reply ≡ Some r.reply))
    ⊎ ((answers_of book call.caller ≤ call.number) × (reply ≡ None)) =
    elim c.if-number-answers.branch [
      | then-number-answers w ↦ inl (
        w.record.result,
        ap (λ (k : ℕ). record_of book (made k)) (sym number) ∙ w.record.ensures.«record»,
        w.reply-is,
      )
      | else-number-answers w ↦
          inr (omega (arith, number, c.answers.ensures, w.if-number-answers.false), w.reply-is)
    ] in
    let after : c.raised.result ≡ wide_of (raised cut caller) = c.raised.ensures
    ∙ (ap (λ (l : List ℕ). raised l caller) c.requires.wide.1
    ∙ wide_raised cut caller (omega (arith, there, c.requires.wide.0))) in
    let long : length (raised cut caller) ≡ length book =
    length-set cut caller _ ∙ c.requires.wide.0 in
    let operation : c.from_word-operation.result ≡ stack_operation op =
    c.from_word-operation.ensures in
    let wide = wide_table entries stored in
    let table = table_of book entries in
    let at : ℕ → List ℕ → Type 0 =
    λ m l. AreNodesAt stored.cuts.items stored.nodes.items m l in (
      λ h named named_at may asked is_asked.
          let same : op ≡ asked = same_Some op asked (sym known ∙ is_asked) in
          leads_as wide table c.args.level named (stack_operation asked) (Allows reply)
          (MayHaveReply book cut caller) c.raised.result (raised cut caller) refl
          (λ said may_reply. (replies_as book call reply replied said).1 may_reply)
          (λ m node. (node_as book entries stored c.requires.stored m (raised cut caller) long).0
          (subst (at m) after node))
          (subst (λ (o : Option StackOperation). OperationLeads wide c.args.level named o
          (Allows reply) c.raised.result) (operation ∙ ap stack_operation same)
          (c.operation_leads.ensures.0 h named named_at)),
      λ all. c.operation_leads.ensures.1 (λ named named_at.
          subst (λ (o : Option StackOperation). OperationLeads wide c.args.level named o
          (Allows reply) c.raised.result) (sym operation)
          (leads_as table wide c.args.level named (stack_operation op)
          (MayHaveReply book cut caller) (Allows reply) (raised cut caller) c.raised.result refl
          (λ said allowed. (replies_as book call reply replied said).0 allowed)
          (λ m node. subst (at m) (sym after)
          ((node_as book entries stored c.requires.stored m (raised cut caller) long).1 node))
          (all named named_at c.requires.may op known))),
    )
