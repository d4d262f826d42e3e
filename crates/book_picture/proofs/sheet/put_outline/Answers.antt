use Rattle.std.proofs.Common.{◌≡◌, ℕ, List, ◌++◌, string_bytes, append_assoc, ap, ◌∙◌, arith}
use Rattle.book_picture.specs.Bars.{outline_at, outline_text, outline_class, outline_close}
use Rattle.book_picture.specs.Groups.{is_plain}
use Rattle.book_picture.proofs.PlainTexts.{plain_outline}
use Rattle.book_picture.proofs.sheet.put_outline.Goals as goal

pub returns : goal.returns
returns c =
    let bar = c.args.bar in
    let start : ℕ = c.start-start.result in
    let turn : ℕ = c.turn-turn.result in
    let bottom : ℕ = c.saturating_add-bottom.result in
    let there : outline_text bar
    ≡ outline_at (outline_class bar) start bar.top turn bottom (outline_close bar) =
    cc (c.start-start.ensures, c.turn-turn.ensures, c.saturating_add-bottom.ensures) in
    let written : outline_at c.class-class.result.now start bar.top turn bottom
    c.close-close.result.now ≡ outline_text bar =
    cc (there, c.class-class.ensures, c.close-close.ensures) in
    let bytes : string_bytes c.write.new.self ≡ string_bytes c.args.out.now
    ++ outline_at c.class-class.result.now start bar.top turn bottom c.close-close.result.now =
    unfold outline_at in simp (c.in_ok-write.ensures.bytes, append_assoc) in
    record {
      plain = ap is_plain there ∙ plain_outline bar start bar.top turn bottom (omega arith)
          (omega arith) (omega arith) (omega arith);
      grown = bytes ∙ ap (λ (t : List ℕ). string_bytes c.args.out.now ++ t) written;
    }
