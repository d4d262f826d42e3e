use Rattle.std.proofs.Common.{ℕ, List, ◌++◌, map, decimal, sym, ap, ◌∙◌, arith}
use Rattle.std.proofs.lemmas.List.{append-nil}
use Rattle.client_scripts.proofs.Turns.{turn_after, numbers_below}
use Rattle.client_scripts.proofs.tail_line.read_turns.Goals as goal

pub returns-in-None-clause-none : goal.returns-in-None-clause-none
returns-in-None-clause-none c = λ turns h text.
    let read = c.loop-word.turns.items in
    let next = turn_after c.args.n read turns c.in-Some.word.now c.next.new.self
    (sym text ∙ c.loop-word.invariant.text
    ∙ ap (λ (ws : List (List ℕ)). map decimal read ++ ws) c.in-Some.ensures) h.callers in
    c.in-None.ensures.none next.0 next.1 next.2

pub returns-clause-found : goal.returns-clause-found
returns-clause-found c =
    let read = c.loop-word.turns.items in (
      record {
        callers = c.loop-word.invariant.callers;
        numbers = numbers_below c.args.n read (omega arith) c.loop-word.invariant.callers;
      },
      c.loop-word.invariant.text ∙ ap (λ (ws : List (List ℕ)). map decimal read ++ ws)
          c.in_default.ensures.0 ∙ append-nil (map decimal read),
    )
