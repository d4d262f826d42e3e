use Rattle.std.proofs.Common.{ℕ, List, [], ◌∷◌, ◌++◌, Some, sym, ap, ◌∙◌, refl}
use Rattle.std.specs.Prelude.{codes}
use Rattle.text_fields.specs.declared.version.Version.TheVariants.{Second}
use Rattle.text_fields.specs.Counts.{pair_words}
use Rattle.book_text.specs.CallLines.{answer_words}
use Rattle.book_text.specs.Fields.{spaced}
use Rattle.book_text.proofs.WrittenLines.{OnOk_then}
use Rattle.report_lines.specs.declared.line.LineEnd.{LineEnd}
use Rattle.reports.specs.Grammar.{ending_words}
use Rattle.report_text.proofs.Endings.{after_answer, verdict_written}
use Rattle.report_text.proofs.writer.put_ending.Goals as goal

pub returns-in_ok-extend_from_slice-in-Unchecked : goal.returns-in_ok-extend_from_slice-in-Unchecked
returns-in_ok-extend_from_slice-in-Unchecked c =
    let old : List ℕ = c.args.out.now.items in
    let answer : List (List ℕ) = answer_words Second (Some c.in-Unchecked.answer) in
    after_answer old c.put_answer.new.out.items c.extend_from_slice-in-Unchecked.new.self.items
    (codes " unchecked") answer (codes "unchecked" ∷ [])
    c.in_ok-put_answer-in-Unchecked.ensures c.in_ok-extend_from_slice-in-Unchecked.ensures.items
    refl
    ∙ ap (λ (end : LineEnd). old ++ spaced (ending_words end)) (sym c.in-Unchecked.is)

pub returns-in_ok-extend_from_slice-in-Delivered : goal.returns-in_ok-extend_from_slice-in-Delivered
returns-in_ok-extend_from_slice-in-Delivered c =
    OnOk_then c.put_pairs.result c.put_pairs.ensures (λ pairs.
    verdict_written c.args.out.now.items c.put_answer-in-Delivered.new.out.items
    c.extend_from_slice-in-Delivered.new.self.items c.put_pairs.new.out.items (codes "ok")
    (answer_words Second (Some c.in-Delivered.answer))
    (pair_words 0 c.in-Delivered.cut) c.in_ok-put_answer-in-Delivered.ensures
    c.in_ok-extend_from_slice-in-Delivered.ensures.items pairs
    ∙ ap (λ (end : LineEnd). c.args.out.now.items ++ spaced (ending_words end))
    (sym c.in-Delivered.is))

pub returns-in_ok-extend_from_slice-in-Error : goal.returns-in_ok-extend_from_slice-in-Error
returns-in_ok-extend_from_slice-in-Error c =
    OnOk_then c.put_pairs-in-Error.result c.put_pairs-in-Error.ensures (λ pairs.
    verdict_written c.args.out.now.items c.put_answer-in-Error.new.out.items
    c.extend_from_slice-in-Error.new.self.items c.put_pairs-in-Error.new.out.items (codes "error")
    (answer_words Second (Some c.in-Error.answer)) (pair_words 0 c.in-Error.cut)
    c.in_ok-put_answer-in-Error.ensures c.in_ok-extend_from_slice-in-Error.ensures.items pairs
    ∙ ap (λ (end : LineEnd). c.args.out.now.items ++ spaced (ending_words end)) (sym c.in-Error.is))
