use Rattle.std.proofs.Common.{◌≡◌, ℕ, ◌∙◌, get_or, true≢false, refl, subst, inl, inr, sym, arith}
use Rattle.std.proofs.lemmas.Bool.{cases_lt, false≢true}
use Rattle.std.proofs.lemmas.Option.{slice_get-get_or, slice_get_within, get_or_from_slice_get}
use Rattle.level_refutations.specs.Closed.{AreNodesAt}
use Rattle.level_refutations.proofs.table.StoredTable.has_all.Goals as goal

pub loop-k-init : goal.loop-k-init
loop-k-init c j less = absurd (omega (arith, less))

pub returns-then-not-has : goal.returns-then-not-has
returns-then-not-has c =
    let levels = c.args.levels.now in
    let k : ℕ = c.loop-k.k in (
      λ e. absurd (false≢true e),
      λ all. absurd (true≢false (sym (c.has.ensures.1 (all (get_or levels k 0)
          (k, slice_get-get_or levels k 0 c.loop-k-test.true))) ∙ c.if-not-has.true)),
    )

pub loop-k-preserved : goal.loop-k-preserved
loop-k-preserved c j less = elim (cases_lt j c.loop-k.k) [
  | inl before ↦ c.loop-k.invariant j before
  | inr not_before ↦
      let same : c.loop-k.k ≡ j = omega (arith, less, not_before) in
      subst (λ (i : ℕ). AreNodesAt c.args.self.now.cuts.items c.args.self.now.nodes.items
      (get_or c.args.levels.now i 0) c.args.counts.now) same (c.has.ensures.0 c.if-not-has.false)
]

pub returns : goal.returns
returns c = (
  λ e p one.
      let levels = c.args.levels.now in
      let inside = slice_get_within levels one.0 p one.1 in
      subst (λ (m : ℕ). AreNodesAt c.args.self.now.cuts.items c.args.self.now.nodes.items m
      c.args.counts.now) (get_or_from_slice_get levels one.0 p 0 one.1)
      (c.loop-k.invariant one.0 (omega (arith, inside, c.loop-k-test.false))),
  λ all. refl,
)
