use Rattle.std.proofs.Common.{◌≡◌, ℕ, ◌<◌, ◌∙◌, sym, subst, inl, inr, Some, arith}
use Rattle.std.proofs.lemmas.Bool.{cases_eq}
use Rattle.row_table.specs.Callers.{on_bench, local_with, who_of}
use Rattle.whole_runs.proofs.table.close_rows.Goals as goal

pub close-requires-clause-all : goal.close-requires-clause-all
close-requires-clause-all c i low =
    let few : i < 3 =
    subst (λ (n : ℕ). i < n) (c.back-3.ensures.bench.callers ∙ c.requires.bench.1) low in
    elim (cases_eq i (who_of c.args.c)) [
      | inl is ↦ (
        local_with c.args.c,
        subst (λ (k : ℕ). on_bench c.back-3.new.bench k ≡ Some (local_with c.args.c))
            (sym is) c.back-3.ensures.here.0,
      )
      | inr not_c ↦
          elim (cases_eq i (who_of c.args.b)) [
            | inl is ↦ (
              local_with c.args.b,
              (c.back-3.ensures.others i not_c).0
                  ∙ subst (λ (k : ℕ). on_bench c.back-2.new.bench k ≡ Some (local_with c.args.b))
                  (sym is) c.back-2.ensures.here.0,
            )
            | inr not_b ↦
                let is : i ≡ who_of c.args.a = omega
                (arith, c.requires.a.1, c.requires.b.1, c.requires.c.1, not_b, not_c, few) in (
                  local_with c.args.a,
                  (c.back-3.ensures.others i not_c).0 ∙ (c.back-2.ensures.others i not_b).0
                      ∙ subst (λ (k : ℕ). on_bench c.back.new.bench k ≡ Some (local_with c.args.a))
                      (sym is) c.back.ensures.here.0,
                )
          ]
    ]
