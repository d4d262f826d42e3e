use Rattle.std.proofs.Common.{◌≡◌, ◌+◌, ◌∙◌, List, [], length, sym, ap, subst, slice_get, arith}
use Rattle.std.proofs.lemmas.Bool.{eqb-true, eqb-false}
use Rattle.legal_prefixes.specs.declared.prefix.LegalPrefix.{LegalPrefix}
use Rattle.legal_prefixes.specs.Layers.{IsLayer}
use Rattle.legal_prefixes.proofs.Layering.{no_items, layer_after, all_longest, order_from_layer}
use Rattle.legal_prefixes.proofs.search.longest_prefixes.Goals as goal

pub is_one_whole-requires : goal.is_one_whole-requires
is_one_whole-requires c k prefix has =
    (c.loop-count.invariant.layer.right k prefix
    (sym (ap (λ (xs : List LegalPrefix). slice_get xs k) c.deref.ensures.value) ∙ has)).wide

pub returns-then-is_one_whole : goal.returns-then-is_one_whole
returns-then-is_one_whole c =
    let it = c.is_one_whole.ensures.whole c.if-is_one_whole.true in
    order_from_layer c.args.kind c.args.book.now c.loop-count.count c.loop-count.layer.items
    c.loop-count.invariant.layer (
      it.0,
      it.1,
      sym (ap (λ (xs : List LegalPrefix). slice_get xs it.0) c.deref.ensures.value)
          ∙ it.2,
      it.3,
    )

pub next_layer-requires-clause-layer : goal.next_layer-requires-clause-layer
next_layer-requires-clause-layer c k prefix has =
    c.loop-count.invariant.layer.right k prefix
    (sym (ap (λ (xs : List LegalPrefix). slice_get xs k) c.deref-in-loop-count.ensures.value) ∙ has)

pub loop-count-preserved : goal.loop-count-preserved
loop-count-preserved c = record {
  room = c.next_layer.ensures.room;
  some = omega (
    arith,
    c.in_ok-next.next.ok,
    eqb-false _ 0 (sym c.is_empty.ensures ∙ c.if-is_empty.false),
  );
  layer = layer_after c.args.kind c.args.book.now c.loop-count.count c.loop-count.layer.items
      c.deref.result.now c.deref-in-loop-count.result.now c.in_ok-next.next.items
      c.deref.ensures.value c.deref-in-loop-count.ensures.value c.loop-count.invariant.layer
      (c.is_one_whole.ensures.none c.if-is_one_whole.false) c.in_ok-next.ensures.right
      c.in_ok-next.ensures.apart c.in_ok-next.ensures.all;
}

pub returns-then-is_empty : goal.returns-then-is_empty
returns-then-is_empty c =
    let kind = c.args.kind in
    let book = c.args.book.now in
    let count = c.loop-count.count in
    let next = c.in_ok-next.next.items in
    let short : length next ≡ 0 =
    omega (arith, c.in_ok-next.next.ok, eqb-true _ 0 (sym c.is_empty.ensures ∙ c.if-is_empty.true)) in
    let none : next ≡ [] = no_items next short in
    let after : IsLayer kind book (count + 1) next =
    layer_after kind book count c.loop-count.layer.items c.deref.result.now
    c.deref-in-loop-count.result.now next c.deref.ensures.value c.deref-in-loop-count.ensures.value
    c.loop-count.invariant.layer (c.is_one_whole.ensures.none c.if-is_one_whole.false)
    c.in_ok-next.ensures.right c.in_ok-next.ensures.apart c.in_ok-next.ensures.all in
    all_longest kind book count c.loop-count.layer.items c.loop-count.invariant.layer
    (subst (IsLayer kind book (count + 1)) none after) (omega (arith, c.loop-count-test.true))
    c.loop-count.invariant.some
