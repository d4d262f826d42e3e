use Rattle.std.proofs.Common.{◌≡◌, ℕ, ◌+◌, ◌≤◌, ◌∙◌, List, length, sym, ap, subst, arith}
use Rattle.std.specs.Vec.{with_item}
use Rattle.std.proofs.lemmas.Grind.{common_steps}
use Rattle.book_base.specs.State.{Contents}
use Rattle.refutations.specs.declared.stored_item.StoredItem.{StoredItem}
use Rattle.refutations.specs.Closed.{Item, item_after}
use Rattle.refutations.specs.Stored.{item_of, Fits}
use Rattle.refutations.proofs.Fitting.{next_fits, Fits-after}
use Rattle.refutations.proofs.stored_item.StoredItem.after.Goals as goal

pub step-reply-requires : goal.step-reply-requires
step-reply-requires g c =
    let spec = g.S.SeqObject.spec c.args.object.now in
    let words : c.load.new.state.words ≡ c.args.self.now.words.items =
    ap (λ (s : Contents). s.words) c.load.ensures ∙ c.deref.ensures.value in
    let room : c.load.new.state.room ≡ c.args.state.now.room =
    ap (λ (s : Contents). s.room) c.load.ensures in
    subst (λ (l : List ℕ). length (spec.next l c.op.result).0 ≤ c.load.new.state.room) (sym words)
    (subst (λ (n : ℕ). length (spec.next c.args.self.now.words.items c.op.result).0 ≤ n) (sym room)
    (next_fits spec c.args.book.now c.args.state.now.room (item_of c.args.self.now) c.args.caller
    c.callers-callers.ensures.small c.requires.fits c.requires.call c.op.result))

pub returns-clause-fits : goal.returns-clause-fits
returns-clause-fits g c =
    let spec = g.S.SeqObject.spec c.args.object.now in
    let book = c.args.book.now in
    let made : StoredItem = record {
      counts = with_item c.in_ok-counts.counts c.args.caller (c.index_mut.result.now + 1);
      words = c.in_ok-words.words;
    } in
    let same : item_of made ≡ item_after spec book (item_of c.args.self.now) c.args.caller =
    grind (arith, common_steps) in
    let room : c.step-reply.new.state.room ≡ c.args.state.now.room =
    ap (λ (s : Contents). s.room) c.step-reply.ensures.list
    ∙ ap (λ (s : Contents). s.room) c.load.ensures in
    subst (λ (it : Item). Fits spec book c.step-reply.new.state.room it) (sym same)
    (subst (λ (n : ℕ). Fits spec book n (item_after spec book (item_of c.args.self.now)
    c.args.caller)) (sym room)
    (Fits-after spec book c.args.state.now.room (item_of c.args.self.now) c.args.caller
    c.callers-callers.ensures.small c.requires.fits c.requires.call))
