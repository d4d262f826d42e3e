use Rattle.std.proofs.Common.{◌<◌, sym, subst, arith}
use Rattle.late_residue.specs.Description.{Description}
use Rattle.late_residue.specs.Reached.{description_of, descriptions_of}
use Rattle.late_residue.specs.Meaning.{Serves}
use Rattle.late_residue.proofs.Items.{map-at, not_true}
use Rattle.late_residue.proofs.Handling.{below_next, at_place, item_at, within_items}
use Rattle.late_residue.proofs.closing.serve.Goals as goal

pub loop-k-init : goal.loop-k-init
loop-k-init c j other less = absurd (omega (arith, less))

pub returns-then-serves-clause-some : goal.returns-then-serves-clause-some
returns-then-serves-clause-some c is = (
  description_of c.index-ones-k.result,
  (
    c.loop-k.k,
    map-at description_of c.args.ones.now c.loop-k.k c.index-ones-k.result
        (item_at c.args.ones.now c.loop-k.k c.index-ones-k.result _ c.loop-k-test.true c.index-ones-k.is),
  ),
  c.serves.ensures.0 c.if-serves.true,
)

pub loop-k-preserved : goal.loop-k-preserved
loop-k-preserved c = below_next (λ d. Serves d (description_of c.args.one.now) → ⊥)
    (descriptions_of c.args.ones.now) c.loop-k.k c.loop-k.invariant
    (λ d at serves. not_true c.serves.result c.if-serves.false (c.serves.ensures.1
    (subst (λ (e : Description). Serves e (description_of c.args.one.now))
    (sym (at_place c.args.ones.now c.loop-k.k c.index-ones-k.result d
    (item_at c.args.ones.now c.loop-k.k c.index-ones-k.result _ c.loop-k-test.true c.index-ones-k.is) at)) serves)))

pub returns-clause-none : goal.returns-clause-none
returns-clause-none c is other (j, at) =
    let within = within_items c.args.ones.now j other at in
    let below : j < c.loop-k.k = omega (arith, within, c.loop-k-test.false) in
    c.loop-k.invariant j other below at
