use Rattle.std.proofs.Common.{◌≡◌, ℕ, ◌∙◌, List, [], ◌∷◌, ◌++◌, length, take, Some, refl, sym, ap, subst, inl, inr, slice_get, arith}
use Rattle.std.proofs.lemmas.Bool.{cases_lt}
use Rattle.std.proofs.lemmas.List.{take_all}
use Rattle.std.proofs.lemmas.Option.{same_Some}
use Rattle.level_refutations.specs.declared.entry.LevelEntry.{LevelEntry}
use Rattle.level_refutations.specs.Closed.{IsMade, cuts_of, levels_of}
use Rattle.level_refutations.specs.Stored.{AreCuts}
use Rattle.level_refutations.proofs.Listing.{read_at}
use Rattle.level_refutations.proofs.Widening.{zeros, first_cuts, cuts_more}
use Rattle.level_refutations.proofs.cuts.cuts_of.Goals as goal

pub loop-k-init : goal.loop-k-init
loop-k-init c = record {
  cuts = first_cuts c.args.book.now c.push.new.self.items c.callers-callers.ensures.small.callers
      (c.in_ok-push.ensures.items
      ∙ ap (λ (l : List (List ℕ)). l ++ zeros 16 ∷ []) c.new-cuts.ensures.items);
  made = λ j made less at. absurd (omega (arith, less));
}

pub returns-then-not-branch-clause-fault : goal.returns-then-not-branch-clause-fault
returns-then-not-branch-clause-fault c =
    let book = c.args.book.now in
    let entries = c.args.entries.now in
    let k : ℕ = c.loop-k.k in
    inl (record {
      k = k;
      number = refl;
      before = c.loop-k.invariant.made;
      unmade = c.index-entries-k.result;
      there = read_at entries k c.index-entries-k.result _ c.loop-k-test.true
          c.index-entries-k.is;
      lacks = λ is. c.in_ok-add.ensures.unmade c.if-not-branch.true
          (cuts_of book (take k entries)) c.loop-k.invariant.cuts
          (subst (λ (n : ℕ). IsMade book n (cuts_of book (take k entries))
          c.index-entries-k.result) (sym c.requires) is);
    })

pub loop-k-preserved : goal.loop-k-preserved
loop-k-preserved c =
    let book = c.args.book.now in
    let entries = c.args.entries.now in
    let k : ℕ = c.loop-k.k in
    let here : LevelEntry = c.index-entries-k.result in
    let before : List (List ℕ) = cuts_of book (take k entries) in
    let at : slice_get entries k ≡ Some here =
    read_at entries k here _ c.loop-k-test.true c.index-entries-k.is in
    let made = c.in_ok-add.ensures.made c.if-not-branch.false before c.loop-k.invariant.cuts in
    let is : IsMade book (length (levels_of entries)) before here =
    subst (λ (n : ℕ). IsMade book n before here) c.requires made.0 in
    record {
      cuts = subst (AreCuts book c.add.new.cuts.items)
          (sym (cuts_more book entries k here at c.loop-k-test.true)) made.1;
      made = λ j one less there. elim (cases_lt j k) [
        | inl below ↦ c.loop-k.invariant.made j one below there
        | inr not_below ↦
            let same : k ≡ j = omega (arith, less, not_below) in
            let is_here : here ≡ one =
            same_Some here one (sym at ∙ (ap (slice_get entries) same ∙ there)) in
            subst (λ (n : ℕ). IsMade book (length (levels_of entries)) (cuts_of book
            (take n entries)) one) same
            (subst (IsMade book (length (levels_of entries)) before) is_here is)
      ];
    }

pub returns-clause-cuts : goal.returns-clause-cuts
returns-clause-cuts c = subst (λ (es : List LevelEntry). AreCuts c.args.book.now
    c.loop-k.cuts.items (cuts_of c.args.book.now es))
    (take_all c.loop-k.k c.args.entries.now c.loop-k-test.false) c.loop-k.invariant.cuts

pub returns-clause-made : goal.returns-clause-made
returns-clause-made c j made less at =
    c.loop-k.invariant.made j made (omega (arith, less, c.loop-k-test.false)) at
