use Rattle.std.proofs.Common.{subst}
use Rattle.row_table.specs.declared.caller.Caller.{Caller}
use Rattle.row_table.specs.Callers.{local_with}
use Rattle.row_gather.specs.Gathered.{IsGatheredBy}
use Rattle.client_calls.proofs.Kept.{stand_noted}
use Rattle.client_calls.proofs.sheet.Sheet.end_seen.Goals as goal

pub returns-clause-ends : goal.returns-clause-ends
returns-clause-ends g c = (
  c.end-ended.result,
  record {
    still = c.end-ended.ensures.caller;
    progress = c.end-ended.ensures.progress;
    grows = c.end-ended.ensures.grows;
    stands = c.end-ended.ensures.stands;
    error = c.end-ended.ensures.error;
    says_of = c.end-ended.ensures.says;
  },
  c.noted.ensures.noted,
)

pub returns-clause-keeps : goal.returns-clause-keeps
returns-clause-keeps g c = record {
  gathered = subst (λ (d : Caller _). IsGatheredBy (local_with d) c.end-ended.new.gathered)
      (stand_noted c.args.op c.args.self.now.lines.items c.end-ended.result c.noted.new.lines.items
      c.noted.result c.noted.ensures.noted) c.end-ended.ensures.kept;
  stands = c.end-ended.ensures.standing;
}
