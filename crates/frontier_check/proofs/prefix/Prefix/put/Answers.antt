use Rattle.std.proofs.Common.{◌≡◌, ◌+◌, ◌∙◌, ℕ, set, ap, sym, arith, rules}
use Rattle.std.specs.Option.{unwrap_or}
use Rattle.book_base.specs.State.{Contents}
use Rattle.book_base.specs.Order.{step_at}
use Rattle.book_base.proofs.ReachingLemmas.{suffices-next}
use Rattle.book_base.specs.Next.{raised, list_after}
use Rattle.frontier_check.specs.declared.prefix.Prefix.{Prefix}
use Rattle.frontier_check.proofs.Following.{putting, put-more, suffices-prefix}
use Rattle.frontier_check.proofs.prefix.Prefix.put.Goals as goal

pub step-reply-requires : goal.step-reply-requires
step-reply-requires g c =
    let object = c.args.object.now in
    let p = putting (g.S.SeqObject.spec object) c.args.book.now
    c.args.self.now c.args.place c.requires.put.stands c.requires.next in
    suffices-next (g.S.SeqObject.spec object).next c.args.self.now.here.words 1
    c.args.self.now.here.room c.op-op.result (omega arith)
    (suffices-prefix (g.S.SeqObject.spec object) c.args.book.now c.args.self.now 1
    c.args.self.now.here.room c.requires.put.stands (omega (arith, p.calls)) c.requires.room)

pub returns-clause-put : goal.returns-clause-put
returns-clause-put g c given =
    let book = c.args.book.now in
    let object = c.args.object.now in
    let spec = g.S.SeqObject.spec object in
    let place = c.args.place in
    let old : Prefix = c.args.self.now in
    let new : Prefix =
    record { places = c.push.new.self; cut = c.set.new.self; here = c.step-reply.new.state } in
    let op : (step_at book place).0 ≡ c.op-op.result = ap (λ o. unwrap_or o 0) c.op-op.ensures in
    let same : c.step-reply.result ≡ place.reply = search (rules, given) in
    let reply : (spec.next old.here.words (step_at book place).0).1 ≡ place.reply =
    ap (λ (o : ℕ). (spec.next old.here.words o).1) op ∙ (sym c.step-reply.ensures.reply ∙ same) in
    let list : new.here.words ≡ list_after book spec.next old.here.words place =
    ap (λ (s : Contents). s.words) c.step-reply.ensures.list
    ∙ sym (ap (λ (o : ℕ). (spec.next old.here.words o).0) op) in
    let cut : new.cut ≡ raised old.cut place.caller =
    c.set.ensures ∙ ap (λ (n : ℕ). set old.cut place.caller (n + 1)) c.requires.next.next in
    put-more spec book old new place c.requires.put c.requires.next reply
    c.in_ok-push.ensures.items cut list
