use Rattle.std.proofs.Common.{◌≡◌, ◌∙◌, sym, subst, ℕ, arith}
use Rattle.std.proofs.lemmas.Fmt.{decimal_injective}
use Rattle.hunts.specs.Asking.{IsWithin}
use Rattle.hunts.proofs.Changes.{within_word}
use Rattle.hunts.proofs.setting.Setting.number.Goals.{else-least-number-via-then-least-number+else-number-most, else-least-number-via-else-least-number}
use Rattle.hunts.proofs.setting.Setting.number.Goals as goal

pub returns-else-least-number-clause-none : goal.returns-else-least-number-clause-none
returns-else-least-number-clause-none c = λ n within same.
    let found = c.in_ok-number.number in
    let one : n ≡ found = decimal_injective n found (within_word c.args.self n within)
    (omega arith)
    (same ∙ sym c.as_bytes.ensures.value ∙ sym c.in_ok-number.ensures.found) in
    let inside = subst (λ (k : ℕ). IsWithin c.args.self k) one within in
    elim c.else-least-number.branch [
      | else-least-number-via-then-least-number+else-number-most w ↦
          omega (arith, inside.1, w.most.ensures, w.if-number-most)
      | else-least-number-via-else-least-number w ↦
          omega (arith, inside.0, c.least.ensures, w.if-least-number)
    ]
