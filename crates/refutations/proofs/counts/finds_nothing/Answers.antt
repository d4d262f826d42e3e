use Rattle.std.proofs.Common.{◌≡◌, ◌∙◌, true, Some, sym}
use Rattle.std.proofs.lemmas.Bool.{false≢true}
use Rattle.std.proofs.lemmas.Option.{none-some}
use Rattle.queue_pairs.specs.Tables.{timed_at, is_find}
use Rattle.queue_pairs.proofs.Entries.{timed-is, timed-there}
use Rattle.refutations.proofs.Counting.{find_as}
use Rattle.refutations.proofs.counts.finds_nothing.Goals as goal

pub returns-then-is_find-clause-finds : goal.returns-then-is_find-clause-finds
returns-then-is_find-clause-finds c = λ reading is.
    let t = c.in-Some.timed in
    let find = c.args.find in
    let known : timed_at c.args.table.now find.caller find.number ≡ Some t
    = sym c.at.ensures ∙ c.in-Some.is in
    let timed =
    timed-is reading c.args.book.now c.args.table.now find.caller find.number t is known in
    let finds : is_find t.deal ≡ true = sym c.is_find.ensures ∙ c.if-is_find.true in (
      λ e. (c.replies_none.ensures.none.0 e, sym timed.deal ∙ (find_as t.deal).0 finds),
      λ it. c.replies_none.ensures.none.1 it.0,
    )

pub returns-else-is_find-clause-finds : goal.returns-else-is_find-clause-finds
returns-else-is_find-clause-finds c = λ reading is.
    let t = c.in-Some.timed in
    let find = c.args.find in
    let known : timed_at c.args.table.now find.caller find.number ≡ Some t
    = sym c.at.ensures ∙ c.in-Some.is in
    let timed =
    timed-is reading c.args.book.now c.args.table.now find.caller find.number t is known in (
      λ e. absurd (cc (e, c.if-is_find.false)),
      λ it. c.is_find.ensures ∙ (find_as t.deal).1 (timed.deal ∙ it.1),
    )

pub returns-in-None-clause-finds : goal.returns-in-None-clause-finds
returns-in-None-clause-finds c = λ reading is. (
  λ e. absurd (false≢true e),
  λ it. let there =
      timed-there reading c.args.book.now c.args.table.now c.args.find is c.requires in
      absurd (none-some there.0 (sym c.in-None.is ∙ c.at.ensures ∙ there.1)),
)
