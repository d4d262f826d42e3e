use Rattle.std.proofs.Common.{◌≡◌, ℕ, ◌<◌, ◌≤◌, List, [], length, map, Some, None, refl, sym, ◌∙◌, get_or, arith}
use Rattle.queue_pairs.specs.declared.table.TimedCall.{TimedCall}
use Rattle.queue_pairs.specs.Tables.{is_take, only_by, rows_of}
use Rattle.queue_pairs.proofs.Tabling.{past-none}
use Rattle.queue_pairs.proofs.table.Table.next_take.Goals as goal

pub returns-in-Some : goal.returns-in-Some
returns-in-Some c = (
  c.loop-number.number,
  omega (arith, c.loop-number.auto.number),
  sym c.take_at.ensures ∙ c.in-Some.is,
  c.loop-number.invariant,
)

pub returns : goal.returns
returns c =
    let row : List TimedCall = get_or (rows_of c.args.self.now) c.args.caller [] in
    past-none row c.args.from (only_by is_take) refl
    (λ k low inside. c.loop-number.invariant k low
    (omega (arith, inside, c.calls-number-end.ensures, c.loop-number-test.false)))
