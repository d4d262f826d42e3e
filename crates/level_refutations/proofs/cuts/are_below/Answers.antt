use Rattle.std.proofs.Common.{ℕ, ◌<◌, get_or, refl, subst, inl, inr, arith}
use Rattle.std.proofs.lemmas.Bool.{cases_lt, false≢true}
use Rattle.std.proofs.lemmas.Option.{slice_get-get_or, slice_get_within, get_or_from_slice_get}
use Rattle.level_refutations.proofs.cuts.are_below.Goals as goal

pub loop-k-init : goal.loop-k-init
loop-k-init c j less = absurd (omega (arith, less))

pub returns-then-numbers-k : goal.returns-then-numbers-k
returns-then-numbers-k c =
    let numbers = c.args.numbers.now in
    let k : ℕ = c.loop-k.k in (
      λ e. absurd (false≢true e),
      λ below. absurd (omega (
        arith,
        c.if-numbers-k.true,
        below (get_or numbers k 0) (k, slice_get-get_or numbers k 0 c.loop-k-test.true),
      )),
    )

pub loop-k-preserved : goal.loop-k-preserved
loop-k-preserved c j less = elim (cases_lt j c.loop-k.k) [
  | inl before ↦ c.loop-k.invariant j before
  | inr not_before ↦ subst (λ (i : ℕ). get_or c.args.numbers.now i 0 < c.args.bound)
      {x = c.loop-k.k} {y = j} (omega (arith, less, not_before)) c.if-numbers-k.false
]

pub returns : goal.returns
returns c = (
  λ e n one.
      let numbers = c.args.numbers.now in
      let inside = slice_get_within numbers one.0 n one.1 in
      subst (λ (x : ℕ). x < c.args.bound) (get_or_from_slice_get numbers one.0 n 0 one.1)
      (c.loop-k.invariant one.0 (omega (arith, inside, c.loop-k-test.false))),
  λ below. refl,
)
