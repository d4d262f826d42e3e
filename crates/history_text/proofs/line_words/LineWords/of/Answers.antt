use Rattle.std.proofs.Common.{◌∙◌, List, ℕ, Option, ap, subst, is_some, option_map}
use Rattle.history_text.specs.Words.{plain_of, in_brackets_of}
use Rattle.history_text.specs.Entry.{stage_named, IsMoment}
use Rattle.history_text.proofs.line_words.LineWords.of.Goals as goal

pub returns : goal.returns
returns c = record {
  process = c.said-process.ensures;
  «stage» = c.stage_of.ensures
      ∙ ap (option_map (λ word. stage_named (plain_of word))) c.said-kind.ensures;
  operation = c.plain_word.ensures ∙ ap (option_map plain_of) c.said-name.ensures;
  keyed = c.in_ok-keyed.ensures;
  arguments = c.list_of.ensures ∙ ap (option_map in_brackets_of) c.said-list.ensures;
  whole = c.is_there.ensures ∙ ap is_some c.find-start.ensures;
  time = (let P : Option (List ℕ) → Type 0 = λ o. IsMoment o c.of.result in
      subst P c.find-time.ensures c.of.ensures);
  start = (let P : Option (List ℕ) → Type 0 = λ o. IsMoment o c.of-2.result in
      subst P c.find-start.ensures c.of-2.ensures);
  end = (let P : Option (List ℕ) → Type 0 = λ o. IsMoment o c.of-3.result in
      subst P c.find-end.ensures c.of-3.ensures);
  reply = c.find-reply.ensures;
}
