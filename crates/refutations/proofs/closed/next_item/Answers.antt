use Rattle.std.proofs.Common.{◌≡◌, ℕ, ◌<◌, ◌∙◌, length, get_or, Some, sym, ap, arith}
use Rattle.std.proofs.lemmas.Grind.{common_steps}
use Rattle.std.proofs.lemmas.Option.{same_Some, slice_get_within}
use Rattle.book_base.specs.declared.call.Record.{Record}
use Rattle.book_base.specs.Book.{record_of}
use Rattle.book_base.specs.Next.{next_call}
use Rattle.book_base.proofs.PageLemmas.{caller_from_call}
use Rattle.refutations.specs.Stored.{item_of}
use Rattle.refutations.proofs.Leading.{leads-one}
use Rattle.refutations.proofs.closed.next_item.Goals.{else-number-answers-via-then-number-answers+else-record-reply, else-number-answers-via-else-number-answers}
use Rattle.refutations.proofs.closed.next_item.Goals as goal

pub returns-clause-leads : goal.returns-clause-leads
returns-clause-leads g c list =
    let spec = g.S.SeqObject.spec c.args.object.now in
    let book = c.args.book.now in
    let item = item_of c.args.item.now in
    let caller : ℕ = c.args.caller in
    let bound : caller < length c.args.item.now.counts.items =
    (let there = caller_from_call book caller (get_or item.cut caller 0) c.requires.may.is_call in
    omega (arith, c.requires.fits.wide, there)) in
    let number : c.from-number.result ≡ get_or c.args.item.now.counts.items caller 0 =
    grind (arith, common_steps, bound) in
    let recorded : (r : Record) → record_of book (next_call item.cut caller) ≡ Some r
    → r.reply ≡ c.in_ok-after.reply =
    λ r known. elim c.else-number-answers.branch [
      | else-number-answers-via-then-number-answers+else-record-reply w ↦
          ap (λ (x : Record). x.reply) (same_Some r w.record.result (sym known
          ∙ (sym (ap (λ (n : ℕ). record_of book (record { caller = caller; number = n })) number)
          ∙ w.record.ensures.«record»))) ∙ w.if-record-reply.false
      | else-number-answers-via-else-number-answers w ↦
          let early = slice_get_within _ (get_or item.cut caller 0) r known in
          absurd (omega (arith, early, number, c.answers.ensures, w.if-number-answers.false))
    ] in
    leads-one spec book list item caller (item_of c.in_ok-after.after) c.in_ok-after.reply
    c.requires.may c.in_ok-after.ensures.item c.in_ok-after.ensures.reply recorded
