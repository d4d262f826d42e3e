use Rattle.std.proofs.Common.{ℕ, List, codes, append_assoc}
use Rattle.broken_rules.specs.Texts.{two_text, counts_text}
use Rattle.broken_rules.proofs.line.put_left_behind.Goals as goal

pub returns : goal.returns
returns c =
    let one : List ℕ = two_text c.args.first (codes " put ") c.args.value (codes " in, yet ")
    c.args.second (codes " found nothing, after ") in
    let other : List ℕ = counts_text c.args.more (codes " calls had put it in, and only ")
    c.args.fewer (codes " may have taken it\n") in
    cc (
      append_assoc c.args.out.now.items one other,
      c.in_ok-put_two.ensures,
      c.in_ok-put_counts.ensures,
    )
