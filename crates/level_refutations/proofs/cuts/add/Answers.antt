use Rattle.std.proofs.Common.{ℕ, ◌∙◌, List, length, true≢false, IfOk, IsTrue, IsFalse, sym, subst, arith}
use Rattle.std.proofs.lemmas.Bool.{ltb-true}
use Rattle.level_refutations.specs.declared.entry.LevelEntry.{LevelEntry}
use Rattle.level_refutations.specs.Closed.{AreBelow, IsMade, with_cut}
use Rattle.level_refutations.specs.Stored.{AreCuts}
use Rattle.level_refutations.proofs.Widening.{as_long}
use Rattle.level_refutations.proofs.cuts.add.Goals as goal

pub returns-in-Cut-clause-made : goal.returns-in-Cut-clause-made
returns-in-Cut-clause-made c =
    let book = c.args.book.now in
    subst (λ (e : LevelEntry). IfOk c.add_next.result (λ made. IsTrue made
    → (list : List (List ℕ)) → AreCuts book c.args.cuts.now.items list
    → IsMade book c.args.levels list e × AreCuts book c.add_next.new.cuts.items
    (with_cut book list e))) (sym c.in-Cut.is) c.add_next.ensures.made

pub returns-in-Cut-clause-unmade : goal.returns-in-Cut-clause-unmade
returns-in-Cut-clause-unmade c =
    let book = c.args.book.now in
    subst (λ (e : LevelEntry). IfOk c.add_next.result (λ made. IsFalse made
    → (list : List (List ℕ)) → AreCuts book c.args.cuts.now.items list
    → IsMade book c.args.levels list e → ⊥)) (sym c.in-Cut.is) c.add_next.ensures.unmade

pub returns-in-Level-clause-made : goal.returns-in-Level-clause-made
returns-in-Level-clause-made c e list are =
    let book = c.args.book.now in
    subst (λ (en : LevelEntry). IsMade book c.args.levels list en
    × AreCuts book c.args.cuts.now.items (with_cut book list en)) (sym c.in-Level.is) (
      subst (λ (xs : List ℕ). AreBelow xs c.args.levels) c.deref.ensures.value
          (c.are_below.ensures.0 e),
      are,
    )

pub returns-in-Level-clause-unmade : goal.returns-in-Level-clause-unmade
returns-in-Level-clause-unmade c e list are made =
    let is = subst (IsMade c.args.book.now c.args.levels list) c.in-Level.is made in
    true≢false (sym (c.are_below.ensures.1 (subst (λ (xs : List ℕ). AreBelow xs c.args.levels)
    (sym c.deref.ensures.value) is)) ∙ e)

pub returns-then-level-levels-clause-made : goal.returns-then-level-levels-clause-made
returns-then-level-levels-clause-made c e list are =
    let book = c.args.book.now in
    let long = as_long book c.args.cuts.now.items list are in
    let below : AreBelow c.in-At.numbers.items (length list) = λ n one. omega (
      arith,
      long,
      c.len.ensures,
      subst (λ (xs : List ℕ). AreBelow xs c.len.result) c.deref-then-level-levels.ensures.value
          (c.are_below-then-level-levels.ensures.0 e) n one,
    ) in
    subst (λ (en : LevelEntry). IsMade book c.args.levels list en
    × AreCuts book c.args.cuts.now.items (with_cut book list en)) (sym c.in-At.is)
    ((c.if-level-levels.true, below), are)

pub returns-then-level-levels-clause-unmade : goal.returns-then-level-levels-clause-unmade
returns-then-level-levels-clause-unmade c e list are made =
    let book = c.args.book.now in
    let long = as_long book c.args.cuts.now.items list are in
    let is = subst (IsMade book c.args.levels list) c.in-At.is made in
    let below : AreBelow c.in-At.numbers.items c.len.result =
    λ n one. omega (arith, long, c.len.ensures, is.1 n one) in
    true≢false (sym (c.are_below-then-level-levels.ensures.1
    (subst (λ (xs : List ℕ). AreBelow xs c.len.result)
    (sym c.deref-then-level-levels.ensures.value) below)) ∙ e)

pub returns-else-level-levels-clause-made : goal.returns-else-level-levels-clause-made
returns-else-level-levels-clause-made c e list are =
    absurd (omega (arith, c.if-level-levels.false, ltb-true c.in-At.level c.args.levels e))

pub returns-else-level-levels-clause-unmade : goal.returns-else-level-levels-clause-unmade
returns-else-level-levels-clause-unmade c e list are made =
    let is = subst (IsMade c.args.book.now c.args.levels list) c.in-At.is made in
    omega (arith, c.if-level-levels.false, is.0)
