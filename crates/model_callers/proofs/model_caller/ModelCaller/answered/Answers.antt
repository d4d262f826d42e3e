use Rattle.std.proofs.Common.{◌∙◌, ℕ, refl, ap, subst}
use Rattle.seq_objects.specs.Replies.{reply_value}
use Rattle.row_table.specs.declared.rows.Rows.{Rows}
use Rattle.model_callers.specs.Callers.{rows_of, IsPublishedCall, IsLeftUnjudged}
use Rattle.model_callers.proofs.model_caller.ModelCaller.answered.Goals as goal

pub returns-in-Ok-clause-judging : goal.returns-in-Ok-clause-judging
returns-in-Ok-clause-judging c =
    let call = c.in-Announced.call in
    let done = c.in-Ok.call in
    let published = subst
    (λ (r : Rows _). IsPublishedCall r call c.wrapping_value_reply-reply.result done)
    c.deref.ensures c.in-Ok.ensures.published in (
      call,
      done,
      c.in-Announced.is,
      refl,
      subst (λ (reply : ℕ). IsPublishedCall (rows_of c.args.self) call reply done)
          (c.wrapping_value_reply-reply.ensures ∙ ap reply_value c.from.ensures) published,
    )

pub returns-in-Err-clause-halted : goal.returns-in-Err-clause-halted
returns-in-Err-clause-halted c =
    let call = c.in-Announced.call in
    let left = c.in-Err.caller in
    let unjudged = subst
    (λ (r : Rows _). IsLeftUnjudged r call c.wrapping_value_reply-reply.result left)
    c.deref.ensures c.in-Err.ensures.unjudged in (
      call,
      left,
      c.in-Announced.is,
      refl,
      subst (λ (reply : ℕ). IsLeftUnjudged (rows_of c.args.self) call reply left)
          (c.wrapping_value_reply-reply.ensures ∙ ap reply_value c.from.ensures) unjudged,
    )
