use Rattle.std.proofs.Common.{◌≡◌, ◌∙◌, ◌++◌, true, false, sym, ap, List, ℕ}
use Rattle.book_text.specs.Fields.{spaced}
use Rattle.book_text.proofs.WrittenLines.{OnOk_then}
use Rattle.model_text.specs.ModelWords.{is_numbered}
use Rattle.model_text.specs.ModelWordLaws.{as_counter}
use Rattle.model_text.proofs.ModelWordTexts.{numbered_written}
use Rattle.model_text.proofs.model_words.put_model_operation.Goals as goal

pub returns-in_ok-extend_from_slice : goal.returns-in_ok-extend_from_slice
returns-in_ok-extend_from_slice c =
    let numbered : is_numbered c.args.op ≡ true = sym c.is_numbered.ensures ∙ c.if-is_numbered.true in
    OnOk_then c.put_spaced.result c.put_spaced.ensures
    (numbered_written c.args.out.now.items c.extend_from_slice.new.self.items
    c.put_spaced.new.out.items c.args.op numbered c.in_ok-extend_from_slice.ensures.items)

pub returns-else-is_numbered : goal.returns-else-is_numbered
returns-else-is_numbered c =
    let nothing : is_numbered c.args.op ≡ false = sym c.is_numbered.ensures ∙ c.if-is_numbered.false in
    OnOk_then c.put_operation.result c.put_operation.ensures (λ e. e ∙ ap
    (λ (ws : List (List ℕ)). c.args.out.now.items ++ spaced ws) (sym (as_counter c.args.op nothing)))
