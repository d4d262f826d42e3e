use Rattle.std.proofs.Common.{rules, ◌≡◌}
use Rattle.std.specs.List.{filter}
use Rattle.std.proofs.lemmas.Fn.{filter_same}
use Rattle.late_residue.proofs.Revealing.{place_test, forgotten}
use Rattle.late_residue.proofs.reached.Reached.forget.Goals as goal

pub returns : goal.returns
returns c =
    let test = place_test c.args.call c.args.reply in
    let left : c.retain.new.self.items ≡ filter test c.args.self.now.optional.items =
    filter_same _ test _ (λ x b f' k. search rules) _ _ c.retain.ensures.filtered in
    forgotten c.args.call c.args.reply c.args.self.now.placed.items
    c.args.self.now.optional.items c.retain.new.self.items c.args.self.now.list.items left
