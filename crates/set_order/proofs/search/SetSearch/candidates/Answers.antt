use Rattle.std.proofs.Common.{◌∙◌, ℕ, ◌+◌, List, sym, ap, subst, arith}
use Rattle.std.proofs.lemmas.Bool.{both_ways}
use Rattle.set_order.proofs.Trying.{AreCandidatesBelow, candidates-more, candidates-skip, candidates-all}
use Rattle.set_order.proofs.search.SetSearch.candidates.Goals as goal
use Rattle.set_order.proofs.search.SetSearch.candidates.Goals.{then-may_come+in_ok-push, else-may_come}

pub loop-caller-preserved : goal.loop-caller-preserved
loop-caller-preserved g c =
    let book = c.args.self.now.book.now in
    let counts = c.args.counts.now in
    let caller = c.loop-caller.caller in
    let callers = c.loop-caller.candidates.items in
    let So : List ℕ → Type 0 = λ xs. AreCandidatesBelow book counts (caller + 1) xs in
    elim c.if-may_come.branch [
      | then-may_come+in_ok-push w ↦
          subst So (sym (ap (λ v. v.items) w.candidates-is ∙ w.in_ok-push.ensures.items))
          (candidates-more book counts caller callers c.loop-caller.invariant
          (c.may_come.ensures.0 w.if-may_come.true))
      | else-may_come w ↦
          subst So (sym (ap (λ v. v.items) w.candidates-is))
          (candidates-skip book counts caller callers c.loop-caller.invariant
          (λ may. both_ways c.may_come.result w.if-may_come.false (c.may_come.ensures.1 may)))
    ]

pub returns-clause-candidates : goal.returns-clause-candidates
returns-clause-candidates g c =
    candidates-all c.args.self.now.book.now c.args.counts.now c.loop-caller.caller
    c.loop-caller.candidates.items
    (omega (arith, c.callers-caller-end.ensures.count)) c.loop-caller.invariant
