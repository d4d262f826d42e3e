use Rattle.std.proofs.Common.{◌≡◌, ℕ, get_or, inl, inr, ap, subst, arith}
use Rattle.std.proofs.lemmas.Bool.{cases_lt}
use Rattle.list_pruning.specs.HoldsLast.{IsRead}
use Rattle.list_pruning.specs.LastFirst.{IsKept}
use Rattle.list_pruning.proofs.Stepping.{all_by_index}
use Rattle.list_pruning.proofs.kept.are_kept.Goals as goal

pub loop-k-preserved : goal.loop-k-preserved
loop-k-preserved g c j below read =
    let reading = g.R.Reader.reading c.args.reader.now in
    let k : ℕ = c.loop-k.k in
    elim (cases_lt j k) [
      | inl early ↦ c.loop-k.invariant j early read
      | inr here ↦
          let same : j ≡ k = omega (arith, below, here) in
          let now =
          c.is_read.ensures.1 (subst (λ (v : ℕ). IsRead reading c.args.book.now c.args.cut.now v)
          (ap (λ (n : ℕ). get_or c.args.words.now n 0) same) read) in
          absurd (let untrue = c.if-is_read.false in cc)
    ]

pub returns : goal.returns
returns g c _ =
    all_by_index (IsKept (g.R.Reader.reading c.args.reader.now) c.args.book.now c.args.cut.now)
    c.args.words.now
    (λ (j : ℕ) below. c.loop-k.invariant j (omega (arith, below, c.loop-k-test.false)))
