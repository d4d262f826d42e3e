-- What the clients of a script in memory hold.
use Rattle.std.proofs.Common.{◌≡◌, ℕ, zero, suc, ◌+◌, ◌<◌, List, [], ◌∷◌, ◌++◌, length, get_or, set, replicate, Option, Some, None, refl, sym, ap, subst, ◌∙◌, arith, slice_get}
use Rattle.std.proofs.lemmas.List.{get_or-map, length-map, map-set, map_push}
use Rattle.std.proofs.lemmas.Option.{slice_get_read}
use Rattle.std.proofs.Math.Seq.{map-set_same}
use Rattle.book_base.specs.declared.call.Call.{Call}
use Rattle.seq_objects.specs.declared.kind.Kind.{Kind}
use Rattle.client_scripts.specs.declared.script.CallerScript.{CallerScript}
use Rattle.client_scripts.specs.Plans.{Plan, sizes, operations_of, IsCall}
use Rattle.std.specs.List.{concat}
use Rattle.client_scripts.specs.ScriptRules.{Begun, begin, with_operations, with_stop, plan_with}
use Rattle.client_scripts.specs.ScriptLayout.{operations_in, stops_in, plan_in, told}
use Rattle.client_scripts.proofs.Groups.{grouped-concat, concat-push}

-- the operations of a client are those of its caller
pub operations_at : (clients : List CallerScript) (i : ℕ) (client : CallerScript)
    → i < length clients → client
    ≡ get_or clients i client → get_or (operations_in clients) i [] ≡ client.operations.items
operations_at clients i client lt is =
    get_or-map (λ (c : CallerScript). c.operations.items) clients i client [] lt
    ∙ ap (λ (c : CallerScript). c.operations.items) (sym is)

pub callers_in : (clients : List CallerScript)
    → length (sizes (operations_in clients)) ≡ length clients
callers_in clients = length-map (operations_in clients) (λ (ops : List ℕ). length ops)
    ∙ length-map clients (λ (c : CallerScript). c.operations.items)

-- a caller with calls is one of the clients
caller_of : (clients : List CallerScript) (i k : ℕ)
    → k < length (get_or (operations_in clients) i [])
    → i < length clients
caller_of [] i k h = absurd (omega arith)
caller_of (c ∷ clients) zero k h = omega arith
caller_of (c ∷ clients) (suc i) k h = let lt = caller_of clients i k h in omega arith

pub size_at : (clients : List CallerScript) (i : ℕ) (client : CallerScript) → i < length clients
    → client ≡ get_or clients i client
    → get_or (sizes (operations_in clients)) i 0 ≡ length client.operations.items
size_at clients i client lt is =
    get_or-map (λ (ops : List ℕ). length ops) (operations_in clients) i [] 0
    (omega (arith, length-map clients (λ (c : CallerScript). c.operations.items)))
    ∙ ap (length {A = ℕ}) (operations_at clients i client lt is)

pub operation_at : (kind : Kind) (clients : List CallerScript) (turns : List ℕ) (plan : Plan)
    (call : Call) (client : CallerScript) (op : ℕ) → plan_in kind clients turns ≡ plan
    → IsCall plan call
    → client ≡ get_or clients call.caller client
    → op ≡ get_or client.operations.items call.number op
    → slice_get (operations_of plan call.caller) call.number ≡ Some op
operation_at kind clients turns plan call client op e h is there =
    let held : operations_of (plan_in kind clients turns) call.caller
    ≡ operations_of plan call.caller = ap (λ (p : Plan). operations_of p call.caller) e in
    let inside : call.caller < length clients = caller_of clients call.caller call.number
    (subst (λ (ops : List ℕ). call.number < length ops) (sym held) h) in
    let mine : operations_of plan call.caller ≡ client.operations.items =
    sym held ∙ operations_at clients call.caller client inside is in
    ap (λ (ops : List ℕ). slice_get ops call.number) mine
    ∙ slice_get_read client.operations.items (length client.operations.items) call.number op refl
    (subst (λ (ops : List ℕ). call.number < length ops) mine h) there

-- ---- one client more

pub operations-push : (clients : List CallerScript) (client : CallerScript)
    → concat (operations_in (clients ++ client ∷ []))
    ≡ concat (operations_in clients) ++ client.operations.items
operations-push clients client =
    ap concat (map_push (λ (c : CallerScript). c.operations.items) clients client)
    ∙ concat-push (operations_in clients) client.operations.items

pub sizes-push : (clients : List CallerScript) (client : CallerScript)
    → sizes (operations_in (clients ++ client ∷ []))
    ≡ sizes (operations_in clients) ++ length client.operations.items ∷ []
sizes-push clients client =
    ap sizes (map_push (λ (c : CallerScript). c.operations.items) clients client)
    ∙ map_push (λ (ops : List ℕ). length ops) (operations_in clients) client.operations.items

-- the lines of all calls say the operations that the clients hold
pub told_from : (clients : List CallerScript) (calls : List ℕ)
    → sizes (operations_in clients) ≡ calls
    → stops_in clients ≡ replicate (length calls) None
    → with_operations (begin calls) (concat (operations_in clients)) ≡ told clients 0
told_from clients calls counts stops =
    let made : List ℕ → List (Option ℕ) → Begun = λ cs s.
    record { calls = cs; operations = concat (operations_in clients); stops = s; least = 0 } in
    ap (λ (cs : List ℕ). made cs (replicate (length calls) None)) (sym counts)
    ∙ ap (made (sizes (operations_in clients))) (sym stops)

-- with one more stop the lines say what the clients with this stop hold
pub told-stop : (clients : List CallerScript) (i : ℕ) (client new : CallerScript) (least phases : ℕ)
    → client ≡ get_or clients i client → new.operations ≡ client.operations → new.stop ≡ Some phases
    → with_stop (told clients least) i phases ≡ told (set clients i new) (i + 1)
told-stop clients i client new least phases is same stop =
    let held : operations_in (set clients i new) ≡ operations_in clients
    = map-set_same (λ (c : CallerScript). c.operations.items) clients i new client
    (ap (λ v. v.items) same ∙ ap (λ (c : CallerScript). c.operations.items) is) in
    let stops : stops_in (set clients i new) ≡ set (stops_in clients) i (Some phases) =
    map-set (λ (c : CallerScript). c.stop) clients i new
    ∙ ap (λ (s : Option ℕ). set (stops_in clients) i s) stop in
    let made : List (List ℕ) → List (Option ℕ) → Begun =
    λ ops s. record { calls = sizes ops; operations = concat ops; stops = s; least = i + 1 } in
    ap (λ (ops : List (List ℕ)). made ops (set (stops_in clients) i (Some phases))) (sym held)
    ∙ ap (made (operations_in (set clients i new))) (sym stops)

-- the plan that the lines determine is the one that the clients hold
pub told-plan : (kind : Kind) (clients : List CallerScript) (least : ℕ) (turns : List ℕ)
    → plan_with kind (told clients least) turns ≡ plan_in kind clients turns
told-plan kind clients least turns = ap (λ (ops : List (List ℕ)).
    record { kind = kind; operations = ops; stops = stops_in clients; turns = turns })
    (grouped-concat (operations_in clients))
