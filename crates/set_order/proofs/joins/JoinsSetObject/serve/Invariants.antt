use Rattle.std.proofs.Common.{◌≡◌, map, take}
use Rattle.set_order.specs.Joins.{join_reply}
use Rattle.set_order.proofs.joins.JoinsSetObject.serve.Given as goal

abbrev pub invariant-loop-op : goal.invariant-loop-op
invariant-loop-op l = record {
  room : l.replies.room ≡ l.fn.replies.room;
  made : l.replies.words ≡ map (join_reply l.mask) (take l.op-index l.ops);
}
