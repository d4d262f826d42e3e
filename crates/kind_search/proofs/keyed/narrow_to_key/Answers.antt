use Rattle.std.proofs.Common.{◌≡◌, ◌∙◌, ◌↔◌, ℕ, Option, Some, sym, subst, arith}
use Rattle.std.proofs.lemmas.Option.{same_Some, none-some}
use Rattle.search_hints.specs.Marks.{IsMarked}
use Rattle.search_hints.proofs.PruningLemmas.{all_next_suffice}
use Rattle.kind_search.specs.Keys.{next_word}
use Rattle.kind_search.proofs.Narrowing.{kept-all, keyed_suffice}
use Rattle.kind_search.proofs.keyed.narrow_to_key.Goals as goal

pub returns-in_default-clause-suffice : goal.returns-in_default-clause-suffice
returns-in_default-clause-suffice g c part next list is =
    all_next_suffice c.args.book.now next c.args.cut.now list c.args.forced c.args.marks
    c.requires.forced c.requires.marks

pub returns-clause-narrowed : goal.returns-clause-narrowed
returns-clause-narrowed g c =
    let book = c.args.book.now in
    let cut = c.args.cut.now in
    let key : ℕ → Option ℕ = g.K.Keyed.key_of c.args.object.now in
    let has : key (next_word book cut c.args.forced) ≡ Some c.in-Some.key =
    sym c.next_key.ensures ∙ c.in-Some.is in
    let kept = kept-all book cut (λ i. key (next_word book cut i) ≡ Some c.in-Some.key) c.args.marks
    c.loop-caller.kept c.loop-caller.caller c.requires.marks
    (omega (arith, c.callers-callers.ensures.count, c.loop-caller-test.false))
    c.loop-caller.invariant in
    record {
      keyed = λ k is i.
          let same : c.in-Some.key ≡ k = same_Some c.in-Some.key k (sym has ∙ is) in
          subst (λ (j : ℕ). IsMarked c.loop-caller.kept i
          ↔ (IsMarked c.args.marks i × (key (next_word book cut i) ≡ Some j))) same (kept i);
      unkeyed = λ none. absurd (none-some c.in-Some.key (sym none ∙ has));
    }

pub returns-clause-suffice : goal.returns-clause-suffice
returns-clause-suffice g c part next list is =
    let book = c.args.book.now in
    let cut = c.args.cut.now in
    let key : ℕ → Option ℕ = g.K.Keyed.key_of c.args.object.now in
    let has : key (next_word book cut c.args.forced) ≡ Some c.in-Some.key =
    sym c.next_key.ensures ∙ c.in-Some.is in
    let kept = kept-all book cut (λ i. key (next_word book cut i) ≡ Some c.in-Some.key) c.args.marks
    c.loop-caller.kept c.loop-caller.caller c.requires.marks
    (omega (arith, c.callers-callers.ensures.count, c.loop-caller-test.false))
    c.loop-caller.invariant in
    keyed_suffice key part next is book cut list c.args.forced c.in-Some.key c.args.marks
    c.loop-caller.kept c.requires.wide c.callers-callers.ensures.valid c.requires.open
    c.requires.forced c.requires.marks has kept
