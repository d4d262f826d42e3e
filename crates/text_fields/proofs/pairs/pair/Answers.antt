use Rattle.std.proofs.Common.{sym, ◌∙◌, arith}
use Rattle.text_fields.proofs.NumberTexts.{pair_split, same_number}
use Rattle.text_fields.proofs.pairs.pair.Goals as goal

pub returns-in_err-j-clause-none : goal.returns-in_err-j-clause-none
returns-in_err-j-clause-none c = rw c.from_residual.ensures (λ j count h.
    let parts =
    pair_split c.args.n c.args.caller.now c.args.count.now j count (omega arith) c.requires h in
    c.in_err-j.ensures.none j (omega (arith, h.caller)) (sym parts.0))

pub returns-in_err-count-clause-none : goal.returns-in_err-count-clause-none
returns-in_err-count-clause-none c = rw c.from_residual-in_err-count.ensures (λ j count h.
    let parts =
    pair_split c.args.n c.args.caller.now c.args.count.now j count (omega arith) c.requires h in
    c.in_err-count.ensures.none count h.small (sym parts.1))

pub returns-then-count-eq0-clause-none : goal.returns-then-count-eq0-clause-none
returns-then-count-eq0-clause-none c = λ j count h.
    let parts =
    pair_split c.args.n c.args.caller.now c.args.count.now j count (omega arith) c.requires h in
    let same = same_number c.in_ok-count.count count (omega arith) h.small
    (c.in_ok-count.ensures.found ∙ parts.1) in
    omega (arith, h.some)

pub returns-else-j-from-clause-none : goal.returns-else-j-from-clause-none
returns-else-j-from-clause-none c = λ j count h.
    let parts =
    pair_split c.args.n c.args.caller.now c.args.count.now j count (omega arith) c.requires h in
    let same = same_number c.in_ok-j.j j (omega arith) (omega (arith, h.caller))
    (c.in_ok-j.ensures.found ∙ parts.0) in
    omega (arith, h.caller)
