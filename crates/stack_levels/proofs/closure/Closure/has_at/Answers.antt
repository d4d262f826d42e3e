use Rattle.std.proofs.Common.{◌≡◌, Some, refl, subst, slice_get}
use Rattle.stack_levels.specs.declared.table.NodeKey.{NodeKey}
use Rattle.stack_levels.proofs.closure.Closure.has_at.Goals as goal

pub returns-in-Some : goal.returns-in-Some
returns-in-Some g c told =
    let keys = c.args.self.now.table.now.nodes.keys in
    let key : NodeKey = record { level = c.args.level; cut = c.args.cut } in (
      c.in-Some.field-0-0,
      key,
      subst (λ (n : NodeKey). slice_get keys c.in-Some.field-0-0 ≡ Some n) (c.is_same.ensures told)
          c.in-Some.ensures.stored,
      refl,
      (c.args.counts, c.requires.cut, refl),
    )
