use Rattle.std.proofs.Common.{◌≡◌, length, get_or, vec_len, sym, ap, ◌∙◌, arith}
use Rattle.std.proofs.lemmas.Bool.{ltb-true, lt-ltb}
use Rattle.client_scripts.specs.declared.script.CallerScript.{CallerScript}
use Rattle.client_scripts.specs.Plans.{sizes}
use Rattle.client_scripts.specs.ScriptLayout.{operations_in}
use Rattle.client_scripts.proofs.Clients.{size_at, callers_in}
use Rattle.client_scripts.proofs.tail_line.may_stop.Goals as goal

pub returns : goal.returns
returns c =
    let clients = c.args.clients.now in
    let held = c.index-clients-caller.result.operations in
    let size : get_or (sizes (operations_in clients)) c.args.caller 0 ≡ length held.items =
    size_at clients c.args.caller c.index-clients-caller.result c.if-caller-clients.false
    c.index-clients-caller.is in
    let read : c.len.result ≡ vec_len held =
    c.len.ensures ∙ ap (λ (r : CallerScript). vec_len r.operations)
    (sym c.index-clients-caller.is) in
    let count : c.len.result ≡ length held.items = omega (arith, held.ok.0) in
    let callers : length (sizes (operations_in clients)) ≡ length clients = callers_in clients in (
      λ test. let below = ltb-true _ _ test in record {
        rising = omega arith;
        inside = omega arith;
        early = omega arith;
        numbers = (omega arith, (omega arith, tt));
      },
      λ h. lt-ltb _ _ (omega (arith, h.early)),
    )
