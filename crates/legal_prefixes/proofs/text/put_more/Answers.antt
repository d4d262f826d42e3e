use Rattle.std.proofs.Common.{arith}
use Rattle.legal_prefixes.proofs.Joining.{more_joined}
use Rattle.legal_prefixes.proofs.text.put_more.Goals as goal

pub returns-in_ok-extend_from_slice-2 : goal.returns-in_ok-extend_from_slice-2
returns-in_ok-extend_from_slice-2 c =
    more_joined c.args.more c.args.out.now.items c.extend_from_slice.new.self.items
    c.put_number.new.out.items c.extend_from_slice-else-more-eq0.new.self.items
    (λ none. omega (arith, none, c.if-more-eq0.false)) c.in_ok-extend_from_slice.ensures.items
    c.in_ok-put_number.ensures.ok c.in_ok-extend_from_slice-2.ensures.items
