use Rattle.std.proofs.Common.{List, ℕ, ◌∙◌, sym, subst}
use Rattle.row_table.specs.Callers.{local_with}
use Rattle.enforcer.specs.Recorded.{HoldsOwn}
use Rattle.enforcer.specs.States.{cut_seen, record_seen}
use Rattle.enforcer.specs.Judged.{IsRightByPeeks, IsRightOf}
use Rattle.enforcer.proofs.Verdicts.{unmarked_stands, some_outcome, made_from, true_of_made}
use Rattle.enforcer.proofs.guided.judge.Goals as goal

pub judge_seen-requires-clause-stands : goal.judge_seen-requires-clause-stands
judge_seen-requires-clause-stands g c =
    unmarked_stands (g.S.SeqObject.spec c.args.object.now) c.args.gathered.now
    c.kept_places-standing.result c.kept_places-standing.ensures

pub outcome_with-requires : goal.outcome_with-requires
outcome_with-requires g c =
    some_outcome (record_seen c.args.seen) c.record-told.result (cut_seen c.args.seen) c.cut-cut.result
    c.in-Ok.verdict c.judge_seen.new.standing
    (IsRightByPeeks (g.S.SeqObject.spec c.args.object.now) c.args.rows.now.callers
    (local_with c.in-Ok.caller)) c.in-Ok.ensures.gathered

pub returns-in-Ok-clause-stands : goal.returns-in-Ok-clause-stands
returns-in-Ok-clause-stands g c =
    let made = made_from (record_seen c.args.seen) c.record-told.result (cut_seen c.args.seen)
    c.cut-cut.result c.in-Ok.verdict c.judge_seen.new.standing c.outcome_with.result c.record-told.ensures
    c.cut-cut.ensures c.outcome_with.ensures in
    c.in-Ok.ensures.stance ∙ sym made.stance

pub returns-in-Ok-clause-record : goal.returns-in-Ok-clause-record
returns-in-Ok-clause-record g c =
    (made_from (record_seen c.args.seen) c.record-told.result (cut_seen c.args.seen) c.cut-cut.result
    c.in-Ok.verdict c.judge_seen.new.standing c.outcome_with.result c.record-told.ensures c.cut-cut.ensures
    c.outcome_with.ensures).record_is

pub returns-in-Ok-clause-cut : goal.returns-in-Ok-clause-cut
returns-in-Ok-clause-cut g c =
    (made_from (record_seen c.args.seen) c.record-told.result (cut_seen c.args.seen) c.cut-cut.result
    c.in-Ok.verdict c.judge_seen.new.standing c.outcome_with.result c.record-told.ensures c.cut-cut.ensures
    c.outcome_with.ensures).cut_is

pub returns-in-Ok-clause-own : goal.returns-in-Ok-clause-own
returns-in-Ok-clause-own g c =
    let made = made_from (record_seen c.args.seen) c.record-told.result (cut_seen c.args.seen)
    c.cut-cut.result c.in-Ok.verdict c.judge_seen.new.standing c.outcome_with.result c.record-told.ensures
    c.cut-cut.ensures c.outcome_with.ensures in
    subst (λ (x : List ℕ). HoldsOwn x c.in-Ok.caller) (sym made.cut_is) c.in-Ok.ensures.own

pub returns-in-Ok-clause-gathered : goal.returns-in-Ok-clause-gathered
returns-in-Ok-clause-gathered g c =
    true_of_made (record_seen c.args.seen) c.record-told.result (cut_seen c.args.seen) c.cut-cut.result
    c.in-Ok.verdict c.judge_seen.new.standing c.outcome_with.result
    (IsRightByPeeks (g.S.SeqObject.spec c.args.object.now) c.args.rows.now.callers
    (local_with c.in-Ok.caller)) c.record-told.ensures c.cut-cut.ensures c.outcome_with.ensures
    c.in-Ok.ensures.gathered

pub returns-in-Ok-clause-verdict : goal.returns-in-Ok-clause-verdict
returns-in-Ok-clause-verdict g c =
    true_of_made (record_seen c.args.seen) c.record-told.result (cut_seen c.args.seen) c.cut-cut.result
    c.in-Ok.verdict c.judge_seen.new.standing c.outcome_with.result
    (IsRightOf (g.S.SeqObject.spec c.args.object.now) g.P.Program.meaning c.args.rows.now
    c.in-Ok.caller) c.record-told.ensures c.cut-cut.ensures c.outcome_with.ensures c.in-Ok.ensures.verdict

pub returns-in-Ok-clause-kept_book : goal.returns-in-Ok-clause-kept_book
returns-in-Ok-clause-kept_book g c =
    (made_from (record_seen c.args.seen) c.record-told.result (cut_seen c.args.seen) c.cut-cut.result
    c.in-Ok.verdict c.judge_seen.new.standing c.outcome_with.result c.record-told.ensures c.cut-cut.ensures
    c.outcome_with.ensures).kept c.args.rows.now.callers c.judge_seen.new.gathered
    c.in-Ok.ensures.kept_book

pub returns-in-Ok-clause-new_words : goal.returns-in-Ok-clause-new_words
returns-in-Ok-clause-new_words g c =
    (made_from (record_seen c.args.seen) c.record-told.result (cut_seen c.args.seen) c.cut-cut.result
    c.in-Ok.verdict c.judge_seen.new.standing c.outcome_with.result c.record-told.ensures c.cut-cut.ensures
    c.outcome_with.ensures).ticks c.args.rows.now.callers c.args.gathered.now
    c.judge_seen.new.gathered c.args.steps.now c.judge_seen.new.steps c.in-Ok.ensures.new_words
