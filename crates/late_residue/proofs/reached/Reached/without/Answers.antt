use Rattle.std.proofs.Common.{◌∙◌, not, ◌==◌, List, map, sym, ap, subst}
use Rattle.std.specs.List.{filter}
use Rattle.late_residue.specs.declared.reached.Placed.{Placed}
use Rattle.late_residue.specs.Reached.{place_of}
use Rattle.late_residue.specs.Placing.{AreOthers}
use Rattle.late_residue.proofs.Views.{without_others}
use Rattle.late_residue.proofs.reached.Reached.without.Goals as goal

pub returns : goal.returns
returns c =
    let call = c.args.call in
    let test = λ (ps : List Placed). filter (λ (p : Placed). not (p.call == call)) ps in
    let placed = c.in_ok-others.ensures ∙ ap test c.deref.ensures.value in
    let optional = c.in_ok-others-2.ensures ∙ ap test c.deref-2.ensures.value in
    record {
      list = c.in_ok-copy_of.ensures ∙ c.deref-3.ensures.value;
      placed = subst (λ (ps : List Placed). AreOthers call (map place_of c.args.self.now.placed.items)
          (map place_of ps)) (sym placed) (without_others c.args.self.now.placed.items call);
      optional = subst (λ (ps : List Placed). AreOthers call
          (map place_of c.args.self.now.optional.items) (map place_of ps)) (sym optional)
          (without_others c.args.self.now.optional.items call);
    }
