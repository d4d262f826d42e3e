use Rattle.std.proofs.Common.{◌∙◌, [], ◌∷◌, ◌++◌, ◌+◌, ℕ, List, length, refl, sym, ap, subst, arith}
use Rattle.std.proofs.lemmas.List.{length-set}
use Rattle.book_base.specs.declared.call.Place.{Place}
use Rattle.book_base.specs.Order.{IsLegalOrder, call_at}
use Rattle.book_base.specs.Next.{raised, HoldsAnswered}
use Rattle.book_base.specs.Pruning.{IsForced}
use Rattle.search_hints.specs.Marks.{MarksAllNext}
use Rattle.frontier_check.specs.Memo.{Remembers}
use Rattle.told_models.specs.Walking.{order_of}
use Rattle.told_models.proofs.Sufficing.{node_fresh}
use Rattle.told_models.proofs.Walks.{walk_wide, walk_counts, walk_waits, walk_found, walk_enters, counts_raised, counts_lowered, entered_dead, lighter_without, lighter_deeper}
use Rattle.told_models.proofs.walk.Walk.enter.Goals as goal

pub set_count-requires-clause-caller : goal.set_count-requires-clause-caller
set_count-requires-clause-caller c =
    walk_counts c.args.table.now c.args.book.now c.args.self.now (call_at c.args.place) c.requires.walk
    c.requires.enters.may.is_call

pub least_open-requires : goal.least_open-requires
least_open-requires c =
    ap length (c.deref.ensures.value ∙ c.set_count.ensures)
    ∙ (length-set c.args.self.now.counts.items c.args.place.caller (c.args.place.number + 1)
    ∙ walk_wide c.args.table.now c.args.book.now c.args.self.now c.requires.walk)

pub returns-in_default : goal.returns-in_default
returns-in_default c =
    let table = c.args.table.now in
    let h = c.requires.walk in
    let enters = c.requires.enters in
    let book = c.args.book.now in
    let old = c.args.self.now in
    let place = c.args.place in
    let up = counts_raised table book old.counts.items old.state c.args.next place enters in (
      walk_waits table book old c.set_count-in_default.new.counts old.waiting h
          (counts_lowered table book old.counts.items c.set_count.new.counts.items
          c.set_count-in_default.new.counts.items old.state c.args.next place enters
          c.set_count.ensures c.set_count-in_default.ensures) h.here,
      λ spec agrees. subst (λ (order : List Place). IsLegalOrder spec book order)
          (sym (c.in_ok-push.ensures.items ∙ ap (λ (ps : List Place). ps ++ place ∷ [])
          (c.in_ok-order.ensures ∙ ap order_of c.deref-in_default.ensures.value)))
          (walk_found table book old place c.args.next h enters
          (subst (λ (cut : List ℕ). HoldsAnswered book cut)
          (c.deref.ensures.value ∙ (c.set_count.ensures ∙ up)) c.in_default.ensures.none)
          spec agrees),
      omega arith,
    )

pub set_count-requires-then-remembers-clause-caller :
    goal.set_count-requires-then-remembers-clause-caller
set_count-requires-then-remembers-clause-caller c = omega (
  arith,
  ap length c.set_count.ensures,
  length-set c.args.self.now.counts.items c.args.place.caller (c.args.place.number + 1),
  walk_counts c.args.table.now c.args.book.now c.args.self.now (call_at c.args.place) c.requires.walk
      c.requires.enters.may.is_call,
)

pub returns-then-remembers : goal.returns-then-remembers
returns-then-remembers c =
    let table = c.args.table.now in
    let h = c.requires.walk in
    let enters = c.requires.enters in
    let book = c.args.book.now in
    let old = c.args.self.now in
    let place = c.args.place in
    let up = counts_raised table book old.counts.items old.state c.args.next place enters in
    let there : Remembers old.memo (raised old.counts.items place.caller) (c.args.next ∷ []) =
    subst (λ (cut : List ℕ). Remembers old.memo cut (c.args.next ∷ []))
    (c.deref-2.ensures.value ∙ (c.set_count.ensures ∙ up))
    (c.remembers.ensures c.if-remembers.true) in (
      walk_waits table book old c.set_count-then-remembers.new.counts c.without-self.result h
          (counts_lowered table book old.counts.items c.set_count.new.counts.items
          c.set_count-then-remembers.new.counts.items old.state c.args.next place enters
          c.set_count.ensures c.set_count-then-remembers.ensures)
          (entered_dead table book old.counts.items old.state c.args.next old.waiting
          c.without-self.result place c.without-self.ensures h.here enters
          (h.dead (raised old.counts.items place.caller) c.args.next there)),
      tt,
      lighter_without table book old c.without-self.result place.caller h c.requires.waiting
          c.without-self.ensures,
    )

pub next_callers-waiting-requires-clause-wide : goal.next_callers-waiting-requires-clause-wide
next_callers-waiting-requires-clause-wide c =
    ap length (c.deref-3.ensures.value ∙ c.set_count.ensures)
    ∙ (length-set c.args.self.now.counts.items c.args.place.caller (c.args.place.number + 1)
    ∙ walk_wide c.args.table.now c.args.book.now c.args.self.now c.requires.walk)

pub next_callers-waiting-requires-clause-few : goal.next_callers-waiting-requires-clause-few
next_callers-waiting-requires-clause-few c = omega (
  arith,
  ap length (c.deref-3.ensures.value ∙ c.set_count.ensures),
  length-set c.args.self.now.counts.items c.args.place.caller (c.args.place.number + 1),
  walk_wide c.args.table.now c.args.book.now c.args.self.now c.requires.walk,
  c.requires.walk.small.callers,
)

pub returns : goal.returns
returns c =
    let table = c.args.table.now in
    let h = c.requires.walk in
    let enters = c.requires.enters in
    let book = c.args.book.now in
    let old = c.args.self.now in
    let counts = c.set_count.new.counts.items in
    let place = c.args.place in (
      walk_enters table book old _ place c.args.next h c.requires.waiting enters
          c.in_ok-push-2.ensures.items
          (c.set_count.ensures
          ∙ counts_raised table book old.counts.items old.state c.args.next place enters)
          refl
          (node_fresh table book counts c.args.next c.in-Some.first c.next_callers-waiting.result
          (subst (λ (cut : List ℕ). IsForced book cut c.in-Some.first) c.deref.ensures.value
          c.in-Some.ensures.least)
          (subst (λ (cut : List ℕ). MarksAllNext book cut c.next_callers-waiting.result)
          c.deref-3.ensures.value c.next_callers-waiting.ensures)) refl refl,
      tt,
      lighter_deeper table book old place _ c.next_callers-waiting.result h c.requires.waiting
          c.in_ok-push-2.ensures.items,
    )

pub turn_of-requires-clause-wide : goal.turn_of-requires-clause-wide
turn_of-requires-clause-wide c =
    ap length (c.deref-4.ensures.value ∙ c.set_count.ensures)
    ∙ (length-set c.args.self.now.counts.items c.args.place.caller (c.args.place.number + 1)
    ∙ walk_wide c.args.table.now c.args.book.now c.args.self.now c.requires.walk)
