use Rattle.std.proofs.Common.{◌≡◌, true, sym, ◌∙◌}
use Rattle.given_book.proofs.Ends.{end_rest, never_both, none_before, none_at_all}
use Rattle.given_book.proofs.part.place_of_end.Goals as goal

pub returns-then-has_end_at-clause-found : goal.returns-then-has_end_at-clause-found
returns-then-has_end_at-clause-found c =
    let found = c.has_end_at.ensures.has.0 c.if-has_end_at.true in
    end_rest c.args.bytes.now c.loop-at.at found.0 found.1

pub returns-then-has_end_at-clause-first : goal.returns-then-has_end_at-clause-first
returns-then-has_end_at-clause-first c = c.loop-at.invariant

pub loop-at-preserved : goal.loop-at-preserved
loop-at-preserved c =
    none_before c.args.bytes.now c.loop-at.at c.loop-at.invariant (λ rest has.
    let yes : c.has_end_at.result ≡ true = c.has_end_at.ensures.has.1 (rest, has) in
    never_both (sym c.if-has_end_at.false ∙ yes))

pub returns-clause-none : goal.returns-clause-none
returns-clause-none c =
    λ _. none_at_all c.args.bytes.now c.loop-at.at c.loop-at.invariant c.loop-at-test.false
