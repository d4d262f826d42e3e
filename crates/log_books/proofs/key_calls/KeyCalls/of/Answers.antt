use Rattle.std.proofs.Common.{◌<◌, ◌∙◌, ℕ, List, IsNone, is_some, get_or, arith, length, take, take_all, subst, sym, ap}
use Rattle.std.proofs.lemmas.Option.{slice_get-get_or}
use Rattle.log_books.specs.Words.{names_of}
use Rattle.log_books.specs.Calls.{AreMadeAt}
use Rattle.log_books.proofs.Making.{left_next, made_next, all_made_on}
use Rattle.log_books.proofs.key_calls.KeyCalls.of.Goals as goal
use Rattle.log_books.proofs.key_calls.KeyCalls.of.Goals.{in-Ok-Some+in_ok-push-in-Ok-Some, in-Ok-None, in-Err-Fault}

pub loop-place-preserved : goal.loop-place-preserved
loop-place-preserved c =
    let options = c.args.options.now in
    let log = c.args.log.now in
    let places = c.args.places.now in
    let i = c.loop-place.place-index in
    let names = names_of c.lined.new.names in
    let low : i < length places = omega (arith, c.loop-place-test.true) in
    let p : ℕ = get_or places i 0 in
    let found = slice_get-get_or log p _ (c.requires i 0 low) in
    record {
      numbered = c.lined.ensures.numbered ∙ c.loop-place.invariant.numbered;
      made = λ none. elim c.match-lined.branch [
        | in-Ok-Some+in_ok-push-in-Ok-Some w ↦ made_next options names log places i
            c.loop-place.calls.items c.match-lined.calls.items _ low
            (all_made_on (names_of c.loop-place.names) names c.lined.ensures.keeps options log
            (take i places) c.loop-place.calls.items
            (c.loop-place.invariant.made (subst IsNone w.fault-is none)))
            (_, found, rw w.in-Ok-Some.field-0-is at w.in-Ok-Some.ensures.made)
            (ap (λ calls. calls.items) w.calls-is ∙ w.in_ok-push-in-Ok-Some.ensures.items)
        | in-Ok-None w ↦ left_next options names log places i c.match-lined.calls.items low
            (subst (λ calls. AreMadeAt options names log (take i places) calls.items)
            (sym w.calls-is)
            (all_made_on (names_of c.loop-place.names) names c.lined.ensures.keeps options log
            (take i places) c.loop-place.calls.items
            (c.loop-place.invariant.made (subst IsNone w.fault-is none))))
            (_, found, rw w.in-Ok-None.field-0-is at w.in-Ok-None.ensures.left_out)
        | in-Err-Fault w ↦ absurd (cc (subst IsNone w.fault-is none))
      ];
    }

pub returns : goal.returns
returns c =
    let none : IsNone c.loop-place.fault = ap is_some c.in_default.is in
    let all = c.loop-place.invariant.made none in (
      c.loop-place.calls.items,
      subst (λ (ps : List ℕ). AreMadeAt c.args.options.now (names_of c.loop-place.names)
          c.args.log.now ps c.loop-place.calls.items)
          (take_all _ c.args.places.now (omega (arith, c.loop-place-test.false))) all,
      c.in_ok-sort_by_key.ensures.permutation,
    )
