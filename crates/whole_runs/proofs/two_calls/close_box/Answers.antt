use Rattle.std.proofs.Common.{◌≡◌, List, [], ◌∷◌, ◌++◌, if◌then◌else◌, sym, ap, ◌∙◌, subst}
use Rattle.std.specs.Result.{is_ok}
use Rattle.test_objects.specs.declared.log_pass.LogPass.{LogPass}
use Rattle.test_objects.specs.Passes.{ArePassesOf}
use Rattle.whole_runs.proofs.Passes.{both_back}
use Rattle.whole_runs.proofs.two_calls.close_box.Goals as goal

pub close-requires : goal.close-requires
close-requires g c =
    let one : c.push.new.self.items ≡ c.args.passes.items ++ c.args.a ∷ [] =
    c.push.ensures.items ∙ ap
    (λ r. if is_ok r then c.args.passes.items ++ c.args.a ∷ [] else c.args.passes.items)
    c.unwrap.ensures in
    let two : c.push-2.new.self.items ≡ c.push.new.self.items ++ c.args.b ∷ [] =
    c.push-2.ensures.items ∙ ap
    (λ r. if is_ok r then c.push.new.self.items ++ c.args.b ∷ [] else c.push.new.self.items)
    c.unwrap-2.ensures in
    let both : c.push-2.new.self.items ≡ c.args.a ∷ c.args.b ∷ [] =
    two ∙ ap (λ (l : List LogPass). l ++ c.args.b ∷ [])
    (one ∙ ap (λ (l : List LogPass). l ++ c.args.a ∷ []) c.requires.room.0) in
    record {
      passes = subst (λ (l : List LogPass).
          ArePassesOf g.M.Machine.reply_to g.M.Machine.has_seen c.args.object l) (sym both)
          (both_back g.M.Machine.reply_to g.M.Machine.has_seen c.args.object c.args.a c.args.b
          c.requires.two c.requires.a c.requires.b);
    }
