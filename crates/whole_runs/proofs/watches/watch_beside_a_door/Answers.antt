use Rattle.std.proofs.Common.{◌≡◌, ℕ, ◌<◌, ◌∙◌, refl, sym, subst, inl, inr, None, Some, arith}
use Rattle.std.proofs.lemmas.Bool.{cases_eq}
use Rattle.world_core.specs.Local.{fresh}
use Rattle.row_table.specs.Callers.{on_bench, local_with, who_of}
use Rattle.whole_runs.proofs.watches.watch_beside_a_door.Goals as goal

pub watch_beside-one-requires-clause-free : goal.watch_beside-one-requires-clause-free
watch_beside-one-requires-clause-free g c κs within =
    let one = c.part-a.ensures.others 1 (λ e. absurd (omega (arith, e))) in
    let other = c.part-a.ensures.others 2 (λ e. absurd (omega (arith, e))) in
    let one_fresh = c.in_ok-rows.ensures.fresh 1 (omega arith) in
    let other_fresh = c.in_ok-rows.ensures.fresh 2 (omega arith) in (
      record {
        local = fresh;
        here = one.0 ∙ one_fresh.0;
        idle = record { announcing = refl; unstaged = refl };
        stance = one.1 ∙ one_fresh.1;
      },
      record {
        local = fresh;
        here = other.0 ∙ other_fresh.0;
        idle = record { announcing = refl; unstaged = refl };
        stance = other.1 ∙ other_fresh.1;
      },
    )

pub back-requires-clause-gone : goal.back-requires-clause-gone
back-requires-clause-gone g c =
    let at_0 = (c.watch_beside-one.ensures.others 0 (λ e. absurd (omega (arith, e)))
    (λ e. absurd (omega (arith, e)))).local ∙ c.part-a.ensures.gone in
    subst (λ (k : ℕ). on_bench c.watch_beside-one.new.bench k ≡ None)
    (sym c.lose_an_item-a.ensures.caller.1) at_0

pub close-requires-clause-all : goal.close-requires-clause-all
close-requires-clause-all g c i low =
    let few : i < 3 =
    subst (λ (n : ℕ). i < n) (c.back.ensures.bench.callers ∙ c.in_ok-rows.ensures.rows.0) low in
    let who = c.lose_an_item-a.ensures.caller.1 in
    let one = c.watch_beside-one.ensures.one fresh
    ((c.part-a.ensures.others 1 (λ e. absurd (omega (arith, e)))).0
    ∙ (c.in_ok-rows.ensures.fresh 1 (omega arith)).0) in
    let other = c.watch_beside-one.ensures.other fresh
    ((c.part-a.ensures.others 2 (λ e. absurd (omega (arith, e)))).0
    ∙ (c.in_ok-rows.ensures.fresh 2 (omega arith)).0) in
    elim (cases_eq i (who_of c.lose_an_item-a.result)) [
      | inl is ↦ (
        local_with c.lose_an_item-a.result,
        subst (λ (k : ℕ). on_bench c.back.new.bench k ≡ Some (local_with c.lose_an_item-a.result))
            (sym is) c.back.ensures.here.0,
      )
      | inr not_0 ↦
          elim (cases_eq i 1) [
            | inl is ↦ (
              one.local,
              (c.back.ensures.others i not_0).0
                  ∙ subst (λ (k : ℕ). on_bench c.watch_beside-one.new.bench k ≡ Some one.local)
                  (sym is) one.here.here,
            )
            | inr not_1 ↦
                let is : i ≡ 2 = omega (arith, who, not_0, not_1, few) in (
                  other.local,
                  (c.back.ensures.others i not_0).0 ∙ subst
                      (λ (k : ℕ). on_bench c.watch_beside-one.new.bench k ≡ Some other.local)
                      (sym is) other.here.here,
                )
          ]
    ]
