use Rattle.std.proofs.Common.{◌++◌, ◌∙◌, sym, ap, List, ℕ}
use Rattle.text_fields.specs.Lines.{words_of}
use Rattle.model_text.specs.declared.told_line.ToldLine.{ToldLine}
use Rattle.model_text.specs.Grammar.{subject_words}
use Rattle.model_text.proofs.SharpModels.{last_test}
use Rattle.model_text.proofs.steps.read_told_line.Goals as goal

pub returns-else-rises_after-clause-refused : goal.returns-else-rises_after-clause-refused
returns-else-rises_after-clause-refused c =
    let line : ToldLine =
    record { subject = c.in-Some.subject; reply = c.in-Some-take_kept.reply } in
    last_test c.args.told.now (words_of c.args.line.now) line (record {
      may = record {
        subject = c.in-Some.ensures.found.0;
        reply = c.in-Some-take_kept.ensures.found.0.0;
      };
      keeps_promises = c.in-Some-take_kept.ensures.found.1;
      text = sym c.new-words.ensures ∙ c.in-Some.ensures.found.1
          ∙ ap (λ (ws : List (List ℕ)). subject_words c.in-Some.subject ++ ws)
          c.in-Some-take_kept.ensures.found.0.1;
    }) (sym c.rises_after.ensures ∙ c.if-rises_after.false)
