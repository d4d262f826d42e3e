use Rattle.std.proofs.Common.{◌≡◌, ◌≤◌, ◌∙◌, ℕ, List, Some, None, length, sym, ap, subst, arith}
use Rattle.std.proofs.lemmas.List.{length-map}
use Rattle.book_base.specs.declared.call.Place.{Place}
use Rattle.book_base.specs.Book.{Page}
use Rattle.book_base.specs.State.{Contents}
use Rattle.set_order.specs.Search.{picked, next_operations, ArePlaced, HasWrongReply, MayStandTogether, CannotStand}
use Rattle.set_order.proofs.Trying.{together-from_placed, wrong_reply, cannot-from_none, found_so, none_so}
use Rattle.set_order.proofs.Walking.{walk-part, part_fits}
use Rattle.set_order.proofs.search.SetSearch.next_set.Goals as goal

pub operations-requires-clause-inside : goal.operations-requires-clause-inside
operations-requires-clause-inside g c =
    let object = c.args.self.now.object.now in
    let w = walk-part (g.O.SetObject.init object)
    (g.O.SetObject.served object) c.args.self.now.book.now c.args.walk.now c.requires.small
    c.requires.walk c.requires.left in
    (part_fits c.args.self.now.book.now c.args.walk.now.counts.items
    (picked c.args.walk.now.left c.args.walk.now.callers.items) w.wide w.part c.deref-2.result.now
    c.deref-3.result.now
    c.deref-2.ensures.value (c.deref-3.ensures.value
    ∙ (c.in_ok-part.ensures ∙ ap (picked c.args.walk.now.left) c.deref.ensures.value))).inside

pub operations-requires-clause-calls : goal.operations-requires-clause-calls
operations-requires-clause-calls g c =
    let object = c.args.self.now.object.now in
    let w = walk-part (g.O.SetObject.init object)
    (g.O.SetObject.served object) c.args.self.now.book.now c.args.walk.now c.requires.small
    c.requires.walk c.requires.left in
    (part_fits c.args.self.now.book.now c.args.walk.now.counts.items
    (picked c.args.walk.now.left c.args.walk.now.callers.items) w.wide w.part c.deref-2.result.now
    c.deref-3.result.now
    c.deref-2.ensures.value (c.deref-3.ensures.value
    ∙ (c.in_ok-part.ensures ∙ ap (picked c.args.walk.now.left) c.deref.ensures.value))).calls

pub copy_from-requires : goal.copy_from-requires
copy_from-requires g c =
    let object = c.args.self.now.object.now in
    let w = walk-part (g.O.SetObject.init object)
    (g.O.SetObject.served object) c.args.self.now.book.now c.args.walk.now c.requires.small
    c.requires.walk c.requires.left in
    w.here c.args.spare.now.room c.requires.spare

-- how many operations there are
ops_long : (book : List Page) (cut part ops : List ℕ) → ops ≡ next_operations book cut part
    → length ops ≡ length part
ops_long book cut part ops e = ap (λ (x : List ℕ). length x) e ∙ length-map part _

pub serve-requires-clause-some : goal.serve-requires-clause-some
serve-requires-clause-some g c =
    let object = c.args.self.now.object.now in
    let w = walk-part (g.O.SetObject.init object)
    (g.O.SetObject.served object) c.args.self.now.book.now c.args.walk.now c.requires.small
    c.requires.walk c.requires.left in
    let long = ops_long c.args.self.now.book.now c.deref-2.result.now c.deref-3.result.now
    c.deref-4.result.now (c.deref-4.ensures.value ∙ c.in_ok-operations.ensures) in
    omega (
      arith,
      w.part.some,
      long,
      ap (λ (x : List ℕ). length x) (c.deref-3.ensures.value
          ∙ (c.in_ok-part.ensures ∙ ap (picked c.args.walk.now.left) c.deref.ensures.value)),
    )

pub serve-requires-clause-room : goal.serve-requires-clause-room
serve-requires-clause-room g c =
    let object = c.args.self.now.object.now in
    let w = walk-part (g.O.SetObject.init object)
    (g.O.SetObject.served object) c.args.self.now.book.now c.args.walk.now c.requires.small
    c.requires.walk c.requires.left in
    let long = ops_long c.args.self.now.book.now c.deref-2.result.now c.deref-3.result.now
    c.deref-4.result.now (c.deref-4.ensures.value ∙ c.in_ok-operations.ensures) in
    λ after replies is. subst (λ (n : ℕ). length after ≤ n)
    (sym (ap (λ (s : Contents). s.room) c.copy_from.ensures))
    (w.fits c.args.spare.now.room c.requires.spare c.deref-4.result.now after replies
    (long ∙ ap (λ (x : List ℕ). length x) (c.deref-3.ensures.value
    ∙ (c.in_ok-part.ensures ∙ ap (picked c.args.walk.now.left) c.deref.ensures.value)))
    (ap (λ (l : List ℕ). g.O.SetObject.served object l c.deref-4.result.now)
    (sym (ap (λ (s : Contents). s.words) c.copy_from.ensures)) ∙ is))

pub serve-requires-clause-replies : goal.serve-requires-clause-replies
serve-requires-clause-replies g c =
    let object = c.args.self.now.object.now in
    let w = walk-part (g.O.SetObject.init object)
    (g.O.SetObject.served object) c.args.self.now.book.now c.args.walk.now c.requires.small
    c.requires.walk c.requires.left in
    let long = ops_long c.args.self.now.book.now c.deref-2.result.now c.deref-3.result.now
    c.deref-4.result.now (c.deref-4.ensures.value ∙ c.in_ok-operations.ensures) in
    omega (
      arith,
      w.few,
      long,
      ap (λ (x : List ℕ). length x) (c.deref-3.ensures.value
          ∙ (c.in_ok-part.ensures ∙ ap (picked c.args.walk.now.left) c.deref.ensures.value)),
      c.requires.replies,
    )

pub returns-then-not-serve-clause-none : goal.returns-then-not-serve-clause-none
returns-then-not-serve-clause-none g c =
    let object = c.args.self.now.object.now in
    let book = c.args.self.now.book.now in
    let served = g.O.SetObject.served object in
    let cut : List ℕ = c.args.walk.now.counts.items in
    let part : List ℕ = picked c.args.walk.now.left c.args.walk.now.callers.items in
    let ops : c.deref-4.result.now ≡ next_operations book cut part =
    c.deref-4.ensures.value ∙ (c.in_ok-operations.ensures
    ∙ (ap (λ (x : List ℕ). next_operations book x c.deref-3.result.now) c.deref-2.ensures.value
    ∙ ap (next_operations book cut) (c.deref-3.ensures.value
    ∙ (c.in_ok-part.ensures ∙ ap (picked c.args.walk.now.left) c.deref.ensures.value)))) in
    let refused : served c.copy_from.new.self.words c.deref-4.result.now ≡ None =
    c.serve.ensures.refused.0 c.if-not-serve.true in
    cannot-from_none served book cut c.args.walk.now.here.words part
    (ap (served c.args.walk.now.here.words) (sym ops)
    ∙ (ap (λ (l : List ℕ). served l c.deref-4.result.now)
    (sym (ap (λ (s : Contents). s.words) c.copy_from.ensures)) ∙ refused))

pub places-requires-clause-inside : goal.places-requires-clause-inside
places-requires-clause-inside g c =
    let object = c.args.self.now.object.now in
    let w = walk-part (g.O.SetObject.init object)
    (g.O.SetObject.served object) c.args.self.now.book.now c.args.walk.now c.requires.small
    c.requires.walk c.requires.left in
    (part_fits c.args.self.now.book.now c.args.walk.now.counts.items
    (picked c.args.walk.now.left c.args.walk.now.callers.items) w.wide w.part c.deref-5.result.now
    c.deref-6.result.now
    c.deref-5.ensures.value (c.deref-6.ensures.value
    ∙ (c.in_ok-part.ensures ∙ ap (picked c.args.walk.now.left) c.deref.ensures.value))).inside

pub places-requires-clause-calls : goal.places-requires-clause-calls
places-requires-clause-calls g c =
    let object = c.args.self.now.object.now in
    let w = walk-part (g.O.SetObject.init object)
    (g.O.SetObject.served object) c.args.self.now.book.now c.args.walk.now c.requires.small
    c.requires.walk c.requires.left in
    (part_fits c.args.self.now.book.now c.args.walk.now.counts.items
    (picked c.args.walk.now.left c.args.walk.now.callers.items) w.wide w.part c.deref-5.result.now
    c.deref-6.result.now
    c.deref-5.ensures.value (c.deref-6.ensures.value
    ∙ (c.in_ok-part.ensures ∙ ap (picked c.args.walk.now.left) c.deref.ensures.value))).calls

pub places-requires-clause-replies : goal.places-requires-clause-replies
places-requires-clause-replies g c =
    let object = c.args.self.now.object.now in
    let served = g.O.SetObject.served object in
    let long = ops_long c.args.self.now.book.now c.deref-2.result.now c.deref-3.result.now
    c.deref-4.result.now (c.deref-4.ensures.value ∙ c.in_ok-operations.ensures) in
    let each = g.met.O.SetObject.replies_to_each object c.copy_from.new.self.words
    c.deref-4.result.now c.serve.new.state.words c.serve.new.replies.words
    (c.serve.ensures.served c.if-not-serve.false) in
    omega (
      arith,
      long,
      each,
      ap (λ (x : List ℕ). length x) (c.deref-3.ensures.value ∙ sym c.deref-6.ensures.value),
    )

pub returns-clause-some : goal.returns-clause-some
returns-clause-some g c =
    let object = c.args.self.now.object.now in
    let book = c.args.self.now.book.now in
    let served = g.O.SetObject.served object in
    let cut : List ℕ = c.args.walk.now.counts.items in
    let list : List ℕ = c.args.walk.now.here.words in
    let part : List ℕ = picked c.args.walk.now.left c.args.walk.now.callers.items in
    let w = walk-part (g.O.SetObject.init object) served book c.args.walk.now c.requires.small
    c.requires.walk c.requires.left in
    let part_is : c.in_ok-part.part.items ≡ part =
    c.in_ok-part.ensures ∙ ap (picked c.args.walk.now.left) c.deref.ensures.value in
    let ops : c.deref-4.result.now ≡ next_operations book cut part =
    c.deref-4.ensures.value ∙ (c.in_ok-operations.ensures
    ∙ (ap (λ (x : List ℕ). next_operations book x c.deref-3.result.now) c.deref-2.ensures.value
    ∙ ap (next_operations book cut) (c.deref-3.ensures.value ∙ part_is))) in
    let gives : served list (next_operations book cut part)
    ≡ Some (c.serve.new.state.words, c.serve.new.replies.words) =
    ap (served list) (sym ops) ∙ (ap (λ (l : List ℕ). served l c.deref-4.result.now)
    (sym (ap (λ (s : Contents). s.words) c.copy_from.ensures))
    ∙ c.serve.ensures.served c.if-not-serve.false) in
    found_so (ArePlaced book c.deref-5.result.now c.deref-6.result.now c.serve.new.replies.words)
    (λ (set : List Place). MayStandTogether served book cut list set c.serve.new.state.words)
    c.places.result
    (λ (set : List Place) (placed : ArePlaced book c.deref-5.result.now c.deref-6.result.now
    c.serve.new.replies.words set).
    let same : ArePlaced book cut part c.serve.new.replies.words set =
    subst (λ (x : List ℕ). ArePlaced book x part c.serve.new.replies.words set)
    c.deref-5.ensures.value
    (subst (λ (x : List ℕ). ArePlaced book c.deref-5.result.now x c.serve.new.replies.words set)
    (c.deref-6.ensures.value ∙ part_is) placed) in
    together-from_placed served book cut list part c.serve.new.state.words c.serve.new.replies.words
    set gives same w.part.some w.part.rise w.part.may_come)
    c.places.ensures.some

pub returns-clause-none : goal.returns-clause-none
returns-clause-none g c =
    let object = c.args.self.now.object.now in
    let book = c.args.self.now.book.now in
    let served = g.O.SetObject.served object in
    let cut : List ℕ = c.args.walk.now.counts.items in
    let list : List ℕ = c.args.walk.now.here.words in
    let part : List ℕ = picked c.args.walk.now.left c.args.walk.now.callers.items in
    let part_is : c.in_ok-part.part.items ≡ part =
    c.in_ok-part.ensures ∙ ap (picked c.args.walk.now.left) c.deref.ensures.value in
    let ops : c.deref-4.result.now ≡ next_operations book cut part =
    c.deref-4.ensures.value ∙ (c.in_ok-operations.ensures
    ∙ (ap (λ (x : List ℕ). next_operations book x c.deref-3.result.now) c.deref-2.ensures.value
    ∙ ap (next_operations book cut) (c.deref-3.ensures.value ∙ part_is))) in
    let gives : served list (next_operations book cut part)
    ≡ Some (c.serve.new.state.words, c.serve.new.replies.words) =
    ap (served list) (sym ops) ∙ (ap (λ (l : List ℕ). served l c.deref-4.result.now)
    (sym (ap (λ (s : Contents). s.words) c.copy_from.ensures))
    ∙ c.serve.ensures.served c.if-not-serve.false) in
    none_so (HasWrongReply book c.deref-5.result.now c.deref-6.result.now c.serve.new.replies.words)
    (CannotStand served book cut list part) c.places.result
    (λ (wrong : HasWrongReply book c.deref-5.result.now c.deref-6.result.now
    c.serve.new.replies.words).
    let same : HasWrongReply book cut part c.serve.new.replies.words =
    subst (λ (x : List ℕ). HasWrongReply book x part c.serve.new.replies.words)
    c.deref-5.ensures.value
    (subst (λ (x : List ℕ). HasWrongReply book c.deref-5.result.now x c.serve.new.replies.words)
    (c.deref-6.ensures.value ∙ part_is) wrong) in
    wrong_reply served book cut list part c.serve.new.state.words
    c.serve.new.replies.words gives same)
    c.places.ensures.none
