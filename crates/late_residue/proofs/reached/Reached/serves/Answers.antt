use Rattle.std.proofs.Common.{◌≡◌, ◌∙◌, true, false, sym}
use Rattle.late_residue.proofs.Items.{not_true}
use Rattle.late_residue.proofs.Views.{held_all, all_held, held_either, either_held, all_in, all_in_either, all_in_same, all_in_either_same}
use Rattle.late_residue.proofs.reached.Reached.serves.Goals as goal

pub returns-then-not-are_held : goal.returns-then-not-are_held
returns-then-not-are_held c =
    let one = c.args.self.now in
    let other = c.args.other.now in
    let is : c.are_held.result ≡ all_in one.placed.items other.placed.items =
    all_in_same c.are_held.result c.deref-3.result.now c.deref-4.result.now one.placed.items
    other.placed.items c.are_held.ensures c.deref-3.ensures.value c.deref-4.ensures.value in (
      λ (e : false ≡ true). absurd cc,
      λ serves. absurd (not_true c.are_held.result c.if-not-are_held.true
          (is ∙ all_held one.placed.items other.placed.items serves.fewer)),
    )

pub returns-then-not-are_held-2 : goal.returns-then-not-are_held-2
returns-then-not-are_held-2 c =
    let one = c.args.self.now in
    let other = c.args.other.now in
    let is : c.are_held-2.result ≡ all_in other.optional.items one.optional.items =
    all_in_same c.are_held-2.result c.deref-5.result.now c.deref-6.result.now other.optional.items
    one.optional.items c.are_held-2.ensures c.deref-5.ensures.value c.deref-6.ensures.value in (
      λ (e : false ≡ true). absurd cc,
      λ serves. absurd (not_true c.are_held-2.result c.if-not-are_held-2.true
          (is ∙ all_held other.optional.items one.optional.items serves.optional)),
    )

pub returns : goal.returns
returns c =
    let one = c.args.self.now in
    let other = c.args.other.now in
    let fewer : c.are_held.result ≡ all_in one.placed.items other.placed.items =
    all_in_same c.are_held.result c.deref-3.result.now c.deref-4.result.now one.placed.items
    other.placed.items c.are_held.ensures c.deref-3.ensures.value c.deref-4.ensures.value in
    let optional : c.are_held-2.result ≡ all_in other.optional.items one.optional.items =
    all_in_same c.are_held-2.result c.deref-5.result.now c.deref-6.result.now other.optional.items
    one.optional.items c.are_held-2.ensures c.deref-5.ensures.value c.deref-6.ensures.value in
    let either : c.are_either.result
    ≡ all_in_either other.placed.items one.placed.items one.optional.items =
    all_in_either_same c.are_either.result c.deref-7.result.now c.deref-8.result.now
    c.deref-9.result.now other.placed.items one.placed.items one.optional.items
    c.are_either.ensures c.deref-7.ensures.value c.deref-8.ensures.value c.deref-9.ensures.value in (
      λ e. record {
        list = sym c.deref.ensures.value
            ∙ (c.are_same.ensures.0 c.if-not-are_same.false ∙ c.deref-2.ensures.value);
        fewer = held_all one.placed.items other.placed.items
            (sym fewer ∙ c.if-not-are_held.false);
        either = held_either other.placed.items one.placed.items one.optional.items
            (sym either ∙ e);
        optional = held_all other.optional.items one.optional.items
            (sym optional ∙ c.if-not-are_held-2.false);
      },
      λ serves. either
          ∙ either_held other.placed.items one.placed.items one.optional.items serves.either,
    )
