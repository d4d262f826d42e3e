use Rattle.std.proofs.Common.{List, sym, subst}
use Rattle.legal_prefixes.specs.declared.blocked.Blocked.{Blocked}
use Rattle.legal_prefixes.specs.Longest.{AddsBlocked}
use Rattle.legal_prefixes.proofs.Blocking.{blocked-push}
use Rattle.legal_prefixes.proofs.blocked.push_blocked.Goals as goal

pub returns-clause-added : goal.returns-clause-added
returns-clause-added c =
    let prefix = c.args.prefix.now in
    subst (λ (new : List Blocked). AddsBlocked c.args.kind c.args.book.now prefix.cut
    prefix.words.items c.args.caller c.args.all.now.items new) (sym c.in_ok-push.ensures.items)
    (blocked-push c.args.kind c.args.book.now prefix.cut prefix.words.items c.args.caller
    c.args.all.now.items c.blocked_call.result c.blocked_call.ensures.call
    c.blocked_call.ensures.blocked)
