use Rattle.std.proofs.Common.{◌≡◌, ◌↔◌, ℕ, ◌⊎◌, List, inl, inr, subst}
use Rattle.std.proofs.lemmas.List.{take_all}
use Rattle.level_refutations.specs.Closed.{IsOneOf}
use Rattle.level_refutations.specs.Stored.{Names}
use Rattle.level_refutations.proofs.Sets.{none_in, in_first}
use Rattle.level_refutations.proofs.above.Above.add_all.Goals as goal

pub loop-k-init : goal.loop-k-init
loop-k-init c = record {
  even = c.requires;
  named = λ v b m. (
    λ old. inl old,
    λ one. elim one [ inl old ↦ old | inr new ↦ absurd (none_in b new.1) ],
  );
}

pub loop-k-preserved : goal.loop-k-preserved
loop-k-preserved c = record {
  even = c.in_ok-add.ensures.even;
  named = λ v b m.
      let first = in_first c.args.below.now c.loop-k.k b c.loop-k-test.true in
      let was = c.loop-k.invariant.named v b m in
      let new = c.in_ok-add.ensures.named v b m in (
        λ one. elim (new.0 one) [
          | inl before ↦ elim (was.0 before) [
            | inl old ↦ inl old
            | inr it ↦ inr (it.0, first.1 (inl it.1), it.2)
          ]
          | inr it ↦ inr (it.0, first.1 (inr it.1), it.2)
        ],
        λ one. elim one [
          | inl old ↦ new.1 (inl (was.1 (inl old)))
          | inr it ↦ elim (first.0 it.1) [
            | inl before ↦ new.1 (inl (was.1 (inr (it.0, before, it.2))))
            | inr last ↦ new.1 (inr (it.0, last, it.2))
          ]
        ],
      );
}

pub returns-clause-named : goal.returns-clause-named
returns-clause-named c v b m =
    subst (λ (l : List ℕ). Names c.loop-k.self v b m ↔ (Names c.args.self.now v b m
    ⊎ ((v ≡ c.args.value) × IsOneOf l b × (m ≡ c.args.level))))
    (take_all c.loop-k.k c.args.below.now c.loop-k-test.false) (c.loop-k.invariant.named v b m)
