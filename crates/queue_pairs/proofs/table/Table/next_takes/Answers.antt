use Rattle.std.proofs.Common.{◌≡◌, ◌≢◌, ℕ, ◌<◌, length, Option, None, get_or, sym, ◌∙◌, subst, arith, below_more, get_or-set_same, get_or-set_other}
use Rattle.std.proofs.lemmas.List.{length-replicate, length-set}
use Rattle.book_base.specs.declared.TheConstants.{MAX_CALLERS}
use Rattle.queue_pairs.specs.declared.table.TimedCall.{TimedCall}
use Rattle.queue_pairs.specs.Tables.{take_at, IsFirstFrom}
use Rattle.queue_pairs.proofs.table.Table.next_takes.Goals as goal

pub loop-caller-init : goal.loop-caller-init
loop-caller-init c = record {
  size = length-replicate {A = Option TimedCall} MAX_CALLERS None;
  first = λ k lt. absurd (omega arith);
}

pub loop-caller-preserved : goal.loop-caller-preserved
loop-caller-preserved c =
    let i : ℕ = c.loop-caller.caller in
    let h = c.loop-caller.invariant in
    let first = λ (k : ℕ) (o : Option TimedCall).
    IsFirstFrom (λ n. take_at c.args.self.now k n) (get_or c.args.from.now k 0) o in
    let inside : i < length c.loop-caller.takes = omega (arith, h.size, c.loop-caller-test.true) in
    record {
      size = length-set c.loop-caller.takes i c.next_take.result ∙ h.size;
      first = below_more _ _
          (λ k lt.
          let apart : k ≢ i = omega arith in
          subst (first k)
          (sym (get_or-set_other c.loop-caller.takes i k c.next_take.result None apart))
          (h.first k lt))
          (subst (first i)
          (sym (get_or-set_same c.loop-caller.takes i c.next_take.result None inside))
          c.next_take.ensures);
    }

pub returns : goal.returns
returns c i lt = c.loop-caller.invariant.first i (omega (arith, lt, c.loop-caller-test.false))
