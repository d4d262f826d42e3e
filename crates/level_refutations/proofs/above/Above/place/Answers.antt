use Rattle.std.proofs.Common.{◌≡◌, false, ◌∙◌, sym}
use Rattle.std.specs.List.{list_any}
use Rattle.level_refutations.proofs.Sets.{not_true, insert_new}
use Rattle.level_refutations.proofs.Naming.{is_same_base, same_base, base_alike, IsPlaced, placed_even, placed_as, lists_more}
use Rattle.level_refutations.proofs.above.Above.place.Goals as goal

placed : (c : goal.In_ok-push) → IsPlaced c.args.self.now
    (record { bases = c.insert_full.new.self; levels = c.push.new.self }) c.args.base
placed c =
    let new : list_any (is_same_base c.args.base) c.args.self.now.bases.keys ≡ false =
    not_true _ (sym c.in_ok-index.ensures.added ∙ c.if-is_new.true) in
    record {
      new_base = new;
      keys = c.in_ok-index.ensures.keys ∙ insert_new is_same_base same_base base_alike
          c.args.self.now.bases.keys c.args.base new;
      lists = lists_more (λ levels. levels.items) c.args.self.now.levels.items
          c.push.new.self.items c.new.result c.in_ok-push.ensures.items c.new.ensures.items;
    }

pub returns-in_ok-push-clause-even : goal.returns-in_ok-push-clause-even
returns-in_ok-push-clause-even c = placed_even c.args.self.now _ c.args.base (placed c) c.requires

pub returns-in_ok-push-clause-named : goal.returns-in_ok-push-clause-named
returns-in_ok-push-clause-named c v l m =
    placed_as c.args.self.now _ c.args.base (placed c) c.requires v l m
