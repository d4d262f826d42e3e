-- A judging ending may be sent to another thread.
use denote.RattleType.{RattleType}
use denote.Param.Send.{IsSend, IsSync, sendable}
use Rattle.std.proofs.Crossing.{crosses}
use Rattle.client_calls.specs.contracts.judging.Judging as judging

pub judging_send : (S : RattleType) (at : _) → IsSync S → IsSend (judging.the_row at S)
judging_send S at s = search (crosses, sendable, s) depth 24
