use Rattle.std.proofs.Common.{◌≡◌, ◌∙◌, ◌^◌, ◌+◌, [], ℕ, List, length, replicate, refl, sym, ap, subst, rules}
use Rattle.std.proofs.lemmas.Bool.{both_ways}
use Rattle.book_base.specs.declared.call.Place.{Place}
use Rattle.book_base.specs.State.{Contents}
use Rattle.book_base.specs.Next.{HoldsAnswered}
use Rattle.set_order.specs.SetOrder.{IsLegalSetOrder}
use Rattle.set_order.specs.declared.walk.SetWalk.{SetWalk}
use Rattle.set_order.specs.declared.walk.TheConstants.{MOST_CALLS}
use Rattle.set_order.specs.Search.{IsBookCapacity, no_calls, AreCandidates, IsOpen}
use Rattle.set_order.proofs.Trying.{open-start}
use Rattle.set_order.proofs.Leading.{suffices-list, legal-from_leads}
use Rattle.set_order.proofs.Walking.{walk-start, nothing_remembered}
use Rattle.set_order.proofs.search.SetSearch.run.Goals as goal

pub returns-then-holds_answered-clause-found : goal.returns-then-holds_answered-clause-found
returns-then-holds_answered-clause-found g c =
    let book = c.args.self.now.book.now in
    let object = c.args.self.now.object.now in
    let init = g.O.SetObject.init object in
    let served = g.O.SetObject.served object in
    let zeros : c.in_ok-counts.counts.items ≡ replicate c.callers-callers.result 0 = search rules in
    let start : c.deref.result.now ≡ no_calls book = c.deref.ensures.value
    ∙ (zeros ∙ ap (λ (n : ℕ). replicate n 0) c.callers-callers.ensures.count) in
    let all : HoldsAnswered book (no_calls book) = subst (λ (cut : List ℕ). HoldsAnswered book cut)
    start (c.holds_answered.ensures.0 c.if-holds_answered.true) in
    subst (λ (order : List (List Place)). IsLegalSetOrder init served book order)
    (sym c.new.ensures.items)
    (legal-from_leads init served book [] (no_calls book) init (refl, refl) all)

pub reset-requires : goal.reset-requires
reset-requires g c =
    let object = c.args.self.now.object.now in
    suffices-list (g.O.SetObject.served object) (g.O.SetObject.init object) MOST_CALLS
    c.in_ok-here.here.room c.in_ok-here.ensures

pub go_on-requires-clause-walk : goal.go_on-requires-clause-walk
go_on-requires-clause-walk g c =
    let book = c.args.self.now.book.now in
    let object = c.args.self.now.object.now in
    let init = g.O.SetObject.init object in
    let served = g.O.SetObject.served object in
    let counts : List ℕ = c.in_ok-counts.counts.items in
    let zeros : counts ≡ replicate c.callers-callers.result 0 = search rules in
    let start : counts ≡ no_calls book =
    zeros ∙ ap (λ (n : ℕ). replicate n 0) c.callers-callers.ensures.count in
    let walk : SetWalk = record {
      frames = c.new-2.result;
      counts = c.in_ok-counts.counts;
      here = c.reset.new.state;
      callers = c.in_ok-candidates.candidates;
      left = c.greatest-left.result;
      memo = c.new-3.result;
    } in
    let whole : walk.left + 1 ≡ 2 ^ length walk.callers.items =
    c.greatest-left.ensures.whole ∙ ap (λ (x : List ℕ). 2 ^ length x) c.deref-3.ensures.value in
    let unended : HoldsAnswered book counts → ⊥ = λ (all : HoldsAnswered book counts).
    both_ways c.holds_answered.result c.if-holds_answered.false (c.holds_answered.ensures.1
    (subst (λ (cut : List ℕ). HoldsAnswered book cut) (sym c.deref.ensures.value) all)) in
    let candidates : AreCandidates book counts walk.callers.items =
    subst (λ (cut : List ℕ). AreCandidates book cut walk.callers.items) c.deref-2.ensures.value
    c.in_ok-candidates.ensures.candidates in
    let here : IsOpen served book counts walk.here.words walk.callers.items walk.left = open-start
    served book counts walk.here.words walk.callers.items walk.left whole unended candidates in
    walk-start init served book walk c.new-2.ensures.items start
    (ap (λ (s : Contents). s.words) c.reset.ensures)
    (subst (λ (n : ℕ). IsBookCapacity init served n)
    (sym (ap (λ (s : Contents). s.room) c.reset.ensures)) c.in_ok-here.ensures)
    c.new-3.ensures.memo
    (c.new-3.ensures.callers ∙ c.callers-callers.ensures.count)
    (nothing_remembered c.new-3.result c.new-3.ensures.empty) here
