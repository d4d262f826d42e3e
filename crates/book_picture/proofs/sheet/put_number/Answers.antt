use Rattle.std.proofs.Common.{◌≡◌, ℕ, ◌+◌, ◌-◌, List, ◌++◌, Option, string_bytes, sym, ap, ◌∙◌, arith}
use Rattle.book_picture.specs.Bars.{badge_at, number_text}
use Rattle.book_picture.specs.Groups.{is_plain}
use Rattle.book_picture.specs.Rows.{capped}
use Rattle.book_picture.proofs.PlainTexts.{plain_badge}
use Rattle.book_picture.proofs.sheet.put_number.Goals as goal

-- a badge at the coordinates that are computed for a bar is that bar's
badge_same : (right top x y base number : ℕ) → x ≡ right - 15 → y ≡ capped (top + 15)
    → base ≡ capped (y + 4)
    → badge_at x y base number
    ≡ badge_at (right - 15) (capped (top + 15)) (capped (capped (top + 15) + 4)) number
badge_same right top x y base number e f g =
    ap (λ (n : ℕ). badge_at n y base number) e
    ∙ ap (λ (n : ℕ). badge_at (right - 15) y n number) (g ∙ ap (λ (n : ℕ). capped (n + 4)) f)
    ∙ ap (λ (n : ℕ). badge_at (right - 15) n (capped (capped (top + 15) + 4)) number) f

pub returns-in_ok-write : goal.returns-in_ok-write
unfolding badge_at
returns-in_ok-write c =
    let bar = c.args.bar in
    let x = c.saturating_sub-x.result in
    let y = c.saturating_add-y.result in
    let base = c.saturating_add-base.result in
    let number = c.in-Some.number in
    let same : badge_at x y base number ≡ number_text bar c.args.number =
    badge_same bar.right bar.top x y base number c.saturating_sub-x.ensures
    c.saturating_add-y.ensures c.saturating_add-base.ensures
    ∙ ap (λ (o : Option ℕ). number_text bar o) (sym c.in-Some.is) in
    record {
      plain = ap is_plain (sym same) ∙ plain_badge x y base number (omega arith) (omega arith)
          (omega arith) (omega arith);
      grown = c.in_ok-write.ensures.bytes
          ∙ ap (λ (t : List ℕ). string_bytes c.args.out.now ++ t) same;
    }
