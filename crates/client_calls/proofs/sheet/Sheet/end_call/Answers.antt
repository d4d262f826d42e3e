use Rattle.row_table.specs.Callers.{local_with}
use Rattle.enforcer.specs.States.{caller_published, caller_seen}
use Rattle.client_calls.proofs.Kept.{stays_gathered}
use Rattle.client_calls.proofs.Seen.{has_ended}
use Rattle.client_calls.proofs.sheet.Sheet.end_call.Goals as goal

pub returns-clause-ends : goal.returns-clause-ends
returns-clause-ends g c =
    let (e, ended, noted) = c.end_seen.ensures.ends in (
      e,
      has_ended g.P.Program.meaning c.args.rows.now _ c.args.published c.seen-seen.result e
          c.seen-seen.ensures.caller c.seen-seen.ensures.record c.seen-seen.ensures.progress
          c.seen-seen.ensures.grows ended.still ended.progress ended.grows ended.stands
          ended.error ended.says_of,
      noted,
    )

pub end_seen-requires-clause-keeps : goal.end_seen-requires-clause-keeps
end_seen-requires-clause-keeps g c = record {
  gathered = stays_gathered (local_with (caller_published c.args.published))
      (local_with (caller_seen c.seen-seen.result)) c.args.self.now.gathered
      c.seen-seen.ensures.grows c.requires.keeps.gathered;
  stands = c.requires.keeps.stands;
}
