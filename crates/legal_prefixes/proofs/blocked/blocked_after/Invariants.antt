use Rattle.std.proofs.Common.{◌≡◌, ◌<◌}
use Rattle.book_base.specs.declared.call.Call.{Call}
use Rattle.book_base.specs.Next.{MayComeNext}
use Rattle.legal_prefixes.specs.declared.TheConstants.{LIST_ROOM}
use Rattle.legal_prefixes.specs.Longest.{AreBlocked, IsOneOf}
use Rattle.legal_prefixes.proofs.blocked.blocked_after.Given as goal

abbrev pub invariant-loop-caller : goal.invariant-loop-caller
invariant-loop-caller l = record {
  room : l.here.room ≡ LIST_ROOM;
  sound : AreBlocked l.kind l.book l.prefix.cut l.prefix.words.items l.all.items;
  complete : (call : Call) → call.caller < l.caller → MayComeNext l.book l.prefix.cut call
      → IsOneOf l.all.items call;
}
