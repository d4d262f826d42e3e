use Rattle.std.proofs.Common.{List, subst}
use Rattle.told_models.specs.declared.answer.Answer.{Answer}
use Rattle.told_models.specs.Table.{KeepsPromises}
use Rattle.told_models.specs.Answers.{IsRightAnswer}
use Rattle.model_text.specs.declared.told_line.ToldLine.{ToldLine}
use Rattle.model_text.specs.Told.{told_table, TellsAlike}
use Rattle.model_judge.proofs.Alike.{verdict_is_legal, verdict_is_illegal, verdict_is_open}
use Rattle.model_judge.proofs.judging.judge_model.Goals as goal

pub returns-in-Legal-clause-verdict : goal.returns-in-Legal-clause-verdict
returns-in-Legal-clause-verdict c =
    let text = c.in_ok-text.text in
    let table = c.in_ok-table.table in
    let lines = subst (λ (l : List ToldLine). TellsAlike (told_table l) table) c.deref.ensures.value
    c.in_ok-table.ensures in
    let keeps = subst KeepsPromises c.table.view_is c.table.invariant in
    let answer = subst (λ (a : Answer). IsRightAnswer table text.book a) c.in-Legal.is
    c.in_ok-search.ensures in
    verdict_is_legal c.args.bytes.now text.book text.told.items table c.in_ok-text.ensures.found lines
    keeps c.in-Legal.field-0 answer

pub returns-in-Illegal-clause-verdict : goal.returns-in-Illegal-clause-verdict
returns-in-Illegal-clause-verdict c =
    let text = c.in_ok-text.text in
    let table = c.in_ok-table.table in
    let lines = subst (λ (l : List ToldLine). TellsAlike (told_table l) table) c.deref.ensures.value
    c.in_ok-table.ensures in
    let keeps = subst KeepsPromises c.table.view_is c.table.invariant in
    let answer = subst (λ (a : Answer). IsRightAnswer table text.book a) c.in-Illegal.is
    c.in_ok-search.ensures in
    verdict_is_illegal c.args.bytes.now text.book text.told.items table c.in_ok-text.ensures.found
    lines keeps answer

pub returns-clause-verdict : goal.returns-clause-verdict
returns-clause-verdict c =
    let text = c.in_ok-text.text in
    let table = c.in_ok-table.table in
    let lines = subst (λ (l : List ToldLine). TellsAlike (told_table l) table) c.deref.ensures.value
    c.in_ok-table.ensures in
    let keeps = subst KeepsPromises c.table.view_is c.table.invariant in
    let answer = subst (λ (a : Answer). IsRightAnswer table text.book a) c.in-Ask.is
    c.in_ok-search.ensures in
    verdict_is_open c.args.bytes.now text.book text.told.items table c.in_ok-text.ensures.found lines
    keeps c.in-Ask.state c.in-Ask.op answer
