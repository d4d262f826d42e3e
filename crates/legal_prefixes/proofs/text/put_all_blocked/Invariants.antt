use Rattle.std.proofs.Common.{◌≡◌, ◌++◌, take, flat_map}
use Rattle.legal_prefixes.specs.Texts.{blocked_line}
use Rattle.legal_prefixes.proofs.text.put_all_blocked.Given as goal

abbrev pub invariant-loop-blocked : goal.invariant-loop-blocked
invariant-loop-blocked l =
    l.out.items ≡ l.initial.out.items ++ flat_map (blocked_line l.kind l.book) (take l.blocked-index l.all)
