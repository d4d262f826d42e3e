use Rattle.std.proofs.Common.{◌≡◌, ℕ, List, ◌++◌, codes, refl, subst, arith, string_bytes}
use Rattle.book_picture.specs.Bars.{label_text}
use Rattle.book_picture.specs.Groups.{GrowsPlain}
use Rattle.book_picture.specs.Titles.{line_text}
use Rattle.book_picture.proofs.PlainTexts.{on_ok, grows_then, grows_line}
use Rattle.book_picture.proofs.sheet.put_label.Goals as goal

pub returns : goal.returns
returns c =
    let x = c.saturating_add-x.result in
    let first = line_text (codes "call") x c.saturating_add.result c.deref.result.now in
    let second = line_text (codes "call") x c.saturating_add-2.result c.deref-2.result.now in
    let label = c.args.label.now in
    let same : first ++ second
    ≡ label_text c.args.bar label.operation.items label.reply.items = cc (
      c.saturating_add-x.ensures,
      c.saturating_add.ensures,
      c.saturating_add-2.ensures,
      c.deref.ensures.value,
      c.deref-2.ensures.value,
    ) in
    on_ok c.put_line-2.result _ _ c.put_line-2.ensures (λ more.
    subst (λ (t : List ℕ).
    GrowsPlain t (string_bytes c.args.out.now) (string_bytes c.put_line-2.new.out)) same
    (grows_then first second _ _ _
    (grows_line _ _ (codes "call") c.deref.result.now x c.saturating_add.result refl (omega arith)
    (omega arith) c.in_ok-put_line.ensures)
    (grows_line _ _ (codes "call") c.deref-2.result.now x c.saturating_add-2.result refl
    (omega arith) (omega arith) more)))
