use Rattle.std.proofs.Common.{ℕ, List, ◌++◌, codes, decimal, string_bytes, ap, ◌∙◌}
use Rattle.book_picture.specs.Elements.{parts_text}
use Rattle.book_picture.proofs.PlainTexts.{has_no_group}
use Rattle.book_picture.proofs.sheet.PictureSheet.element.Goals as goal

pub class-requires : goal.class-requires
class-requires c = c.requires

pub returns : goal.returns
returns c =
    let call = c.args.interval.now.call in
    let inside = c.in_ok-inside.ensures in
    let parts = parts_text c.args.self.now.rows.now c.args.interval.now inside.0 in
    let element : List ℕ → List ℕ → List ℕ = λ class within. codes "<g id=\"call-"
    ++ (decimal call.caller ++ (codes "-" ++ (decimal call.number ++ (codes "\" class=\""
    ++ (class ++ (codes "\">\n" ++ (within ++ codes "</g>\n"))))))) in
    record {
      shown = inside.0;
      is_shown = inside.1;
      plain = has_no_group parts inside.2;
      text_is = c.in_ok-text.ensures.ok
          ∙ ap (λ (t : List ℕ). element (string_bytes c.in_ok-class.class) t) inside.3
          ∙ ap (λ (t : List ℕ). element t parts) c.in_ok-class.ensures;
    }
