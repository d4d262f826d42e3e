use Rattle.std.proofs.Common.{◌≡◌, ◌↔◌, ℕ, ◌⊎◌, take}
use Rattle.level_refutations.specs.Closed.{IsOneOf}
use Rattle.level_refutations.specs.Stored.{AreEven, Names}
use Rattle.level_refutations.proofs.above.Above.add_all.Given as goal

abbrev pub invariant-loop-k : goal.invariant-loop-k
invariant-loop-k l = record {
  even : AreEven l.self;
  named : (v b m : ℕ) → Names l.self v b m ↔ (Names l.fn.self v b m
      ⊎ ((v ≡ l.value) × IsOneOf (take l.k l.below) b × (m ≡ l.level)));
}
