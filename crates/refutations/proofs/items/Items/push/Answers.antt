use Rattle.refutations.specs.declared.items.Items.{Items}
use Rattle.refutations.proofs.Storing.{IsPut, listed-put, fit-put}
use Rattle.refutations.proofs.items.Items.push.Goals as goal

pub returns-clause-listed : goal.returns-clause-listed
returns-clause-listed c list listed =
    let new : Items =
    record { stored = c.insert_full.new.self; indices = c.push.new.self } in
    let put : IsPut c.args.self.now new c.args.item = record {
      keys = c.in_ok-index.ensures.keys;
      index = c.in_ok-index.index;
      indices = c.in_ok-push.ensures.items;
      kept = c.in_ok-index.ensures.stored.0;
      there = c.in_ok-index.ensures.stored.1;
      same = c.in_ok-index.ensures.stored.2;
    } in
    listed-put c.args.self.now new c.args.item list put listed

pub returns-clause-fit : goal.returns-clause-fit
returns-clause-fit c spec book capacity fit fits =
    let new : Items =
    record { stored = c.insert_full.new.self; indices = c.push.new.self } in
    let put : IsPut c.args.self.now new c.args.item = record {
      keys = c.in_ok-index.ensures.keys;
      index = c.in_ok-index.index;
      indices = c.in_ok-push.ensures.items;
      kept = c.in_ok-index.ensures.stored.0;
      there = c.in_ok-index.ensures.stored.1;
      same = c.in_ok-index.ensures.stored.2;
    } in
    fit-put spec book capacity c.args.self.now new c.args.item put fit fits
