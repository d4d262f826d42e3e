use Rattle.std.proofs.Common.{◌≡◌, ◌∙◌, ◌<◌, ◌≤◌, ◌^◌, ℕ, Option, Some, None, sym, rules, arith}
use Rattle.selfcheck.proofs.ArgumentLemmas.{soak_read, soak_too_great}
use Rattle.selfcheck.proofs.arguments.soak_number.Goals as goal

pub returns-in_err-spelled : goal.returns-in_err-spelled
returns-in_err-spelled c =
    let none : ◌≡◌ {A = Option ℕ} c.from_residual.result None = search rules in
    none ∙ soak_read c.args.word.now None tt (λ n few spelled.
    c.in_err-spelled.ensures.none n (omega (arith, few)) (spelled ∙ sym c.as_bytes.ensures.value))

pub returns-then-spelled-le-MOST : goal.returns-then-spelled-le-MOST
returns-then-spelled-le-MOST c =
    let few : c.in_ok-spelled.spelled ≤ 4294967295 = search rules in
    soak_read c.args.word.now (Some c.in_ok-spelled.spelled)
    (c.in_ok-spelled.ensures.found ∙ c.as_bytes.ensures.value, few) tt

pub returns-else-spelled-le-MOST : goal.returns-else-spelled-le-MOST
returns-else-spelled-le-MOST c =
    let great : 4294967295 < c.in_ok-spelled.spelled = search rules in
    let small : c.in_ok-spelled.spelled < 2 ^ 64 = search rules in
    soak_too_great c.args.word.now c.in_ok-spelled.spelled
    (c.in_ok-spelled.ensures.found ∙ c.as_bytes.ensures.value) small great
