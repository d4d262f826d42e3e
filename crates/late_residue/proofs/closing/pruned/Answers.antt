use Rattle.std.proofs.Common.{◌≡◌, ◌∙◌, ℕ, ◌+◌, ◌-◌, ◌<◌, ◌≤◌, List, length, Some, slice_get, sym, subst, inl, inr, arith}
use Rattle.std.proofs.lemmas.Bool.{cases_lt}
use Rattle.late_residue.specs.declared.reached.Reached.{Reached}
use Rattle.late_residue.specs.Description.{Description}
use Rattle.late_residue.specs.Reached.{Has, description_of, descriptions_of}
use Rattle.late_residue.specs.Meaning.{Means}
use Rattle.late_residue.proofs.Items.{map-at, has-none}
use Rattle.late_residue.proofs.Handling.{meant-grows, at_place, item_at, within_items}
use Rattle.late_residue.proofs.closing.pruned.Goals as goal

pub loop-k-init : goal.loop-k-init
loop-k-init c = record {
  from = λ one has. absurd (has-none one
      (subst (λ (l : List Reached). Has (descriptions_of l) one) c.new-pruned.ensures.items has));
  means = λ j one past is.
      let within = within_items c.args.ones.now j one is in absurd (omega (arith, within, past));
}

pub loop-k-preserved : goal.loop-k-preserved
loop-k-preserved c =
    let ones = c.args.ones.now in
    let r = c.index-ones-ones.result in
    let i = length ones - 1 - c.loop-k.k in
    let within : i < length ones = omega (arith, c.loop-k-test.true) in
    let there = item_at ones i r _ within c.index-ones-ones.is in
    record {
      from = λ one has. elim (c.in_ok-put.ensures.cases one has) [
        | inl old ↦ c.loop-k.invariant.from one old
        | inr is ↦ subst (λ (d : Description). Has (descriptions_of ones) d)
            (sym c.in_ok-copy.ensures ∙ is) (i, map-at description_of ones i r there)
      ];
      means = λ j one past is at means. elim (cases_lt (j + c.loop-k.k) (length ones)) [
        | inl less ↦
            let same : j ≡ i = omega (arith, past, less, c.loop-k-test.true) in
            let here : slice_get (descriptions_of ones) i ≡ Some one =
            subst (λ (n : ℕ). slice_get (descriptions_of ones) n ≡ Some one) same is in
            c.in_ok-put.ensures.means at (subst (λ (d : Description). Means d at)
            (sym (c.in_ok-copy.ensures ∙ at_place ones i r one there here)) means)
        | inr later ↦ meant-grows (descriptions_of c.loop-k.pruned.items)
            (descriptions_of c.put.new.ones.items) c.in_ok-put.ensures.grows at
            (c.loop-k.invariant.means j one later is at means)
      ];
    }

pub returns-clause-means : goal.returns-clause-means
returns-clause-means c at (one, (j, is), means) =
    let whole : length c.args.ones.now ≤ j + c.loop-k.k = omega (arith, c.loop-k-test.false) in
    c.loop-k.invariant.means j one whole is at means

pub returns-clause-from : goal.returns-clause-from
returns-clause-from c = c.loop-k.invariant.from
