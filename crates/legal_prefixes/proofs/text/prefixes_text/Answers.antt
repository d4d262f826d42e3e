use Rattle.std.proofs.Common.{◌<◌, ◌∙◌, List, ◌++◌, length, ap, arith}
use Rattle.legal_prefixes.specs.declared.blocked.Blocked.{Blocked}
use Rattle.legal_prefixes.specs.Texts.{prefix_text}
use Rattle.legal_prefixes.proofs.Adding.{item_has}
use Rattle.legal_prefixes.proofs.Joining.{tells_next}
use Rattle.legal_prefixes.proofs.text.prefixes_text.Goals as goal

pub blocked_after-requires : goal.blocked_after-requires
blocked_after-requires c =
    let below : c.loop-index.index < length c.args.prefixes.now =
    omega (arith, c.loop-index-test.true, c.loop-index.auto.index-end, c.min-index-end.ensures) in
    c.requires.each c.loop-index.index c.index-prefixes-index.result
    (item_has c.args.prefixes.now c.loop-index.index c.index-prefixes-index.result below
    c.index-prefixes-index.is)

pub put_prefix-requires-clause-longest : goal.put_prefix-requires-clause-longest
put_prefix-requires-clause-longest c =
    let below : c.loop-index.index < length c.args.prefixes.now =
    omega (arith, c.loop-index-test.true, c.loop-index.auto.index-end, c.min-index-end.ensures) in
    c.requires.each c.loop-index.index c.index-prefixes-index.result
    (item_has c.args.prefixes.now c.loop-index.index c.index-prefixes-index.result below
    c.index-prefixes-index.is)

pub loop-index-preserved : goal.loop-index-preserved
loop-index-preserved c =
    let below : c.loop-index.index < length c.args.prefixes.now =
    omega (arith, c.loop-index-test.true, c.loop-index.auto.index-end, c.min-index-end.ensures) in
    tells_next c.args.kind c.args.book.now c.args.prefixes.now c.loop-index.index
    c.loop-index.out.items c.put_head.new.out.items c.put_prefix.new.out.items
    c.index-prefixes-index.result c.in_ok-all.all.items c.loop-index.invariant
    (item_has c.args.prefixes.now c.loop-index.index c.index-prefixes-index.result below
    c.index-prefixes-index.is)
    c.in_ok-all.ensures c.in_ok-put_head.ensures
    (c.in_ok-put_prefix.ensures
    ∙ ap (λ (xs : List Blocked). c.put_head.new.out.items
    ++ prefix_text c.args.kind c.args.book.now c.index-prefixes-index.result xs)
    c.deref.ensures.value)
