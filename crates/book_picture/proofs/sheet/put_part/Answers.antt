use Rattle.std.proofs.Common.{List, ℕ, ap, subst, ◌∙◌, string_bytes}
use Rattle.book_picture.specs.declared.sheet.Bar.{Bar}
use Rattle.book_picture.specs.Bars.{Shown, shown_by, bar_text, drawn_part}
use Rattle.book_picture.specs.Groups.{GrowsPlain}
use Rattle.book_picture.proofs.PlainTexts.{on_ok, grows_nothing}
use Rattle.book_picture.proofs.sheet.put_part.Goals as goal

pub returns-in-Some : goal.returns-in-Some
returns-in-Some c =
    let row = c.args.row.now in
    let interval = c.args.interval.now in
    let shown : Shown = shown_by c.args.label.now c.args.number in
    on_ok c.put_bar.result _ _ c.put_bar.ensures (λ grown.
    subst (λ (t : List ℕ).
    GrowsPlain t (string_bytes c.args.out.now) (string_bytes c.put_bar.new.out))
    (ap (λ (bar : Bar). bar_text bar shown) c.bar_of.ensures
    ∙ ap (drawn_part row interval shown) c.in-Some.ensures.part) grown)

pub returns-in-None : goal.returns-in-None
returns-in-None c =
    let row = c.args.row.now in
    let interval = c.args.interval.now in
    let shown : Shown = shown_by c.args.label.now c.args.number in
    let before = string_bytes c.args.out.now in
    subst (λ (t : List ℕ). GrowsPlain t before before)
    (ap (drawn_part row interval shown) c.in-None.ensures.part) (grows_nothing before)
