use Rattle.std.proofs.Common.{◌≡◌, ℕ, ◌<◌, ◌^◌, List, [], ◌∷◌, ◌++◌, map, replicate, Option, None, sym, ap, subst, ◌∙◌, arith}
use Rattle.std.specs.List.{AllByRecursion, range_with_len}
use Rattle.std.proofs.lemmas.List.{map_push, replicate_more}
use Rattle.list_laws.proofs.Elements.{AllByRecursion-append}
use Rattle.seq_objects.specs.declared.kind.Kind.{Kind}
use Rattle.text_fields.specs.declared.version.Version.TheVariants.{Second}
use Rattle.client_scripts.specs.declared.script.CallerScript.{CallerScript}
use Rattle.client_scripts.specs.Plans.{Plan, IsPlan}
use Rattle.client_scripts.specs.Generator.{generated_operations, generated}
use Rattle.client_scripts.specs.ScriptLayout.{operations_in, stops_in, plan_in}
use Rattle.client_scripts.proofs.Generated.{map_range-push, generated_is_plan}
use Rattle.client_scripts.proofs.generator.make_script.Goals as goal

pub loop-caller-preserved : goal.loop-caller-preserved
loop-caller-preserved c =
    let l = c.loop-caller in
    let ops = c.in_ok-make_operations.field-0 in
    let client : CallerScript = record { operations = ops; stop = None } in
    let pushed = c.in_ok-push.ensures.items in
    let f : ℕ → List ℕ = generated_operations c.args.number c.args.calls c.args.kind in
    let held : operations_in c.push.new.self.items
    ≡ operations_in l.clients.items ++ ops.items ∷ [] = ap operations_in pushed
    ∙ map_push (λ (x : CallerScript). x.operations.items) l.clients.items client in
    record {
      operations = held ∙ ap (λ (xs : List (List ℕ)). xs ++ ops.items ∷ []) l.invariant.operations
          ∙ ap (λ (x : List ℕ). map f (range_with_len 0 l.caller) ++ x ∷ [])
          c.in_ok-make_operations.ensures.ok ∙ sym (map_range-push f l.caller);
      stops = ap stops_in pushed ∙ map_push (λ (x : CallerScript). x.stop) l.clients.items client
          ∙ ap (λ (s : List (Option ℕ)). s ++ None ∷ []) l.invariant.stops
          ∙ replicate_more l.caller None;
      small = subst (AllByRecursion (AllByRecursion (λ op. op < 2 ^ 128))) (sym held)
          (AllByRecursion-append (AllByRecursion (λ (op : ℕ). op < 2 ^ 128))
          (operations_in l.clients.items) (ops.items ∷ []) l.invariant.small
          (c.in_ok-make_operations.ensures.small, tt));
    }

made : (kind : Kind) (number calls callers i : ℕ) (clients : List CallerScript) (turns : List ℕ)
    → operations_in clients ≡ map (generated_operations number calls kind) (range_with_len 0 i)
    → stops_in clients ≡ replicate i None
    → turns ≡ [] → i ≡ callers → plan_in kind clients turns ≡ generated number callers calls kind
made kind number calls callers i clients turns operations stops none all =
    let part : List (List ℕ) → List (Option ℕ) → List ℕ → Plan =
    λ ops s ts. record { kind = kind; operations = ops; stops = s; turns = ts } in
    ap (λ (ops : List (List ℕ)). part ops (stops_in clients) turns) operations
    ∙ ap (λ (s : List (Option ℕ)).
    part (map (generated_operations number calls kind) (range_with_len 0 i)) s turns) stops
    ∙ ap
    (part (map (generated_operations number calls kind) (range_with_len 0 i)) (replicate i None))
    none ∙ ap (λ (n : ℕ). generated number n calls kind) all

pub from_parts-requires : goal.from_parts-requires
from_parts-requires c =
    let l = c.loop-caller in
    let kind = c.args.kind in
    let is = made kind c.args.number c.args.calls c.args.callers l.caller l.clients.items
    c.new.result.items l.invariant.operations l.invariant.stops c.new.ensures.items (omega arith) in
    let small = subst (AllByRecursion (AllByRecursion (λ op. op < 2 ^ 128)))
    (ap (λ (p : Plan). p.operations) is) l.invariant.small in
    subst (IsPlan Second) (sym is) (generated_is_plan c.args.number c.args.calls kind c.args.callers
    c.requires.some c.requires.few c.requires.calls small)

pub returns : goal.returns
returns c =
    let l = c.loop-caller in
    c.from_parts.ensures ∙ made c.args.kind c.args.number c.args.calls c.args.callers l.caller
    l.clients.items c.new.result.items l.invariant.operations l.invariant.stops c.new.ensures.items
    (omega arith)
