use Rattle.std.proofs.Common.{◌≡◌, ◌∙◌, ◌<◌, ◌-◌, List, Some, length, get_or, slice_get, sym, ap, arith, rules}
use Rattle.std.proofs.lemmas.Option.{slice_get-get_or}
use Rattle.queue_pairs.specs.declared.table.TimedCall.{TimedCall}
use Rattle.queue_pairs.proofs.Refuting.{find-refutes}
use Rattle.queue_pairs.proofs.refute.find_refutes.Goals as goal

pub returns : goal.returns
returns c told =
    let find : TimedCall = c.in-Some.find.now in
    let finds : List TimedCall = c.deref.result.now in
    let all : finds ≡ c.args.table.now.finds.items = search rules in
    let inside : c.args.place < length finds = c.in-Some.ensures.lookup.3.0 in
    let same : find ≡ get_or finds c.args.place find = c.in-Some.ensures.lookup.1 in
    let at : slice_get c.args.table.now.finds.items c.args.place ≡ Some find
    = ap (λ (xs : List TimedCall). slice_get xs c.args.place) (sym all)
    ∙ (slice_get-get_or finds c.args.place find inside ∙ ap Some (sym same)) in
    find-refutes c.args.table.now c.args.place (find.span.first - 1) c.args.values.now find at
    (omega arith) (omega arith) (omega arith)
    (c.puts_are_ahead.ensures told)
