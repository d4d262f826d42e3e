use Rattle.std.proofs.Common.{◌≡◌, ℕ, suc, ◌+◌, ◌∙◌, slice_get, Some, sym, ap, subst, arith}
use Rattle.std.specs.Prelude.{option_map}
use Rattle.std.proofs.lemmas.Option.{slice_get-map, slice_get-get_or}
use Rattle.smaller_book.specs.Numbers.{numbers_in}
use Rattle.refutation_text.specs.Said.{step_said, steps_said}
use Rattle.refutation_text.specs.Steps.{LeaveAfter}
use Rattle.refutation_text.proofs.StepLaws.{after_names}
use Rattle.refutation_text.proofs.part_steps.part_of.Goals as goal

pub after_step-requires : goal.after_step-requires
after_step-requires c = after_names c.args.kind c.args.book (steps_said c.args.steps.now) c.loop-s.s
    (numbers_in c.loop-s.left.numbers.items) c.loop-s.left.book c.loop-s.invariant

pub returns-clause-names : goal.returns-clause-names
returns-clause-names c = after_names c.args.kind c.args.book (steps_said c.args.steps.now)
    c.loop-s.s (numbers_in c.loop-s.left.numbers.items) c.loop-s.left.book c.loop-s.invariant

pub returns-in-Err-clause-fault : goal.returns-in-Err-clause-fault
returns-in-Err-clause-fault c =
    let steps = c.args.steps.now in
    let s = c.loop-s.s in
    let step = c.index-steps-s.result in
    record {
      step = step_said step;
      names = numbers_in c.loop-s.left.numbers.items;
      part = c.loop-s.left.book;
      there = slice_get-map step_said steps s ∙ ap (option_map step_said)
          (slice_get-get_or steps s step (omega arith) ∙ ap Some (sym c.index-steps-s.is));
      before = c.loop-s.invariant;
      fails = rw c.in-Err.is at c.in_ok-next.ensures.fault;
    }

pub loop-s-preserved : goal.loop-s-preserved
loop-s-preserved c =
    let steps = c.args.steps.now in
    let s = c.loop-s.s in
    let step = c.index-steps-s.result in
    let next = c.in-Ok.next in
    let there : slice_get (steps_said steps) s ≡ Some (step_said step) =
    slice_get-map step_said steps s ∙ ap (option_map step_said)
    (slice_get-get_or steps s step (omega arith) ∙ ap Some (sym c.index-steps-s.is)) in
    let leaves = rw c.in-Ok.is at c.in_ok-next.ensures.left in
    let one : suc s ≡ s + 1 = omega arith in
    subst (λ (n : ℕ). LeaveAfter c.args.kind c.args.book (steps_said steps) n
    (numbers_in next.numbers.items) next.book) one (
      step_said step,
      numbers_in c.loop-s.left.numbers.items,
      c.loop-s.left.book,
      there,
      c.loop-s.invariant,
      leaves,
    )
