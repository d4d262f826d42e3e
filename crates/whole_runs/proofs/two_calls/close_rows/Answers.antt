use Rattle.std.proofs.Common.{◌≡◌, ℕ, ◌<◌, ◌∙◌, sym, subst, inl, inr, Some, arith}
use Rattle.std.proofs.lemmas.Bool.{cases_eq}
use Rattle.row_table.specs.Callers.{on_bench, local_with, who_of}
use Rattle.whole_runs.proofs.two_calls.close_rows.Goals as goal

pub close-requires-clause-all : goal.close-requires-clause-all
close-requires-clause-all c i low =
    let few : i < 2 =
    subst (λ (n : ℕ). i < n) (c.back-2.ensures.bench.callers ∙ c.requires.bench.1) low in
    elim (cases_eq i (who_of c.args.b)) [
      | inl is ↦ (
        local_with c.args.b,
        subst (λ (k : ℕ). on_bench c.back-2.new.bench k ≡ Some (local_with c.args.b))
            (sym is) c.back-2.ensures.here.0,
      )
      | inr ne ↦
          let is : i ≡ who_of c.args.a =
          omega (arith, c.requires.a.who, c.requires.b.who, ne, few) in (
            local_with c.args.a,
            (c.back-2.ensures.others i ne).0
                ∙ subst (λ (k : ℕ). on_bench c.back.new.bench k ≡ Some (local_with c.args.a))
                (sym is) c.back.ensures.here.0,
          )
    ]
