use Rattle.std.proofs.Common.{◌≡◌, ℕ, ◌<◌, ◌^◌, List, [], ◌∷◌, ◌++◌, sym, ap, subst, ◌∙◌, arith}
use Rattle.std.specs.List.{AllByRecursion}
use Rattle.list_laws.proofs.Elements.{AllByRecursion-append}
use Rattle.client_scripts.specs.Generator.{value_of, generated_operation, generated_operations}
use Rattle.client_scripts.proofs.Generated.{map_range-push}
use Rattle.client_scripts.proofs.generator.make_operations.Goals as goal

pub loop-k-preserved : goal.loop-k-preserved
loop-k-preserved c =
    let l = c.loop-k in
    let op : ℕ = c.operation.result in
    let number = c.args.number in
    let caller = c.args.caller in
    let kind = c.args.kind in
    let is : op ≡ generated_operation kind (value_of number caller l.k) l.k = c.operation.ensures
    ∙ ap (λ (i : ℕ). generated_operation kind (value_of number i l.k) l.k) c.from.ensures in
    let pushed = c.in_ok-push.ensures.items in
    record {
      ops = pushed ∙ ap (λ (ops : List ℕ). ops ++ op ∷ []) l.invariant.ops
          ∙ ap (λ (o : ℕ). generated_operations number l.k kind caller ++ o ∷ []) is
          ∙ sym (map_range-push (λ k. generated_operation kind (value_of number caller k) k) l.k);
      small = subst (AllByRecursion (λ op. op < 2 ^ 128)) (sym pushed) (AllByRecursion-append
          (λ (o : ℕ). o < 2 ^ 128) l.ops.items (op ∷ []) l.invariant.small (omega arith, tt));
    }
