use Rattle.std.proofs.Common.{◌≡◌, ◌∙◌, ◌+◌, ◌<◌, ℕ, List, Some, IsNone, is_some, map, length, take, take_all, get_or, slice_get, option_map, arith, ap, refl, subst, sym}
use Rattle.std.proofs.lemmas.Option.{slice_get-get_or, slice_get-map}
use Rattle.list_laws.proofs.Maps.{map-take_more}
use Rattle.history_text.specs.declared.call.LogCall.{LogCall}
use Rattle.log_books.specs.Keys.{KeyAt, key_at, AreAllKeysOf}
use Rattle.log_books.specs.Parts.{AreParts, IsPart}
use Rattle.log_books.proofs.Keying.{within}
use Rattle.log_books.proofs.importing.import.Goals as goal
use Rattle.log_books.proofs.importing.import.Goals.{in-Ok+in_ok-put_part-in-Ok, in-Err-Fault}

pub key_part-requires : goal.key_part-requires
key_part-requires c =
    let keys = c.deref-of_key-items.result.now in
    let item = c.of_key-item.result in
    let i = c.loop-of_key.of_key-index in
    let log = c.deref-2.result.now in
    let low : i < length keys = omega (arith, c.loop-of_key-test.true) in
    let here : slice_get c.in_ok-keys.keys.items i ≡ Some item =
    ap (λ l. slice_get l i) (sym c.deref-of_key-items.ensures.value)
    ∙ slice_get-get_or keys i item low ∙ ap Some (sym c.of_key-item.is) in
    let places = c.in_ok-keys.ensures.keys_of.each i (key_at item)
    (slice_get-map key_at c.in_ok-keys.keys.items i ∙ ap (option_map key_at) here) in
    let same : length log ≡ length c.deref-in-loop-of_key.result.now =
    ap length (c.deref-2.ensures.value ∙ sym c.deref-in-loop-of_key.ensures.value) in
    λ k d inside.
    let there : slice_get item.places.items k ≡ Some (get_or item.places.items k d) =
    slice_get-get_or item.places.items k d inside in
    let below = within (key_at item).key 0 log k (get_or item.places.items k d)
    (ap (λ (l : List ℕ). slice_get l k) (sym places) ∙ there) in
    omega (arith, below, same)

pub loop-of_key-preserved : goal.loop-of_key-preserved
loop-of_key-preserved c = λ none.
    let options = c.args.options.now in
    let log = c.in_ok-log.log.items in
    let keys = c.deref-of_key-items.result.now in
    let item = c.of_key-item.result in
    let i = c.loop-of_key.of_key-index in
    let low : i < length keys = omega (arith, c.loop-of_key-test.true) in
    elim c.match-key_part.branch [
      | in-Ok+in_ok-put_part-in-Ok w ↦
          subst (λ imported. AreParts options log (map key_at (take (i + 1) keys)) imported.has_books
          imported.text.items) (sym w.imported-is)
          (subst (λ (l : List KeyAt). AreParts options log l w.put_part.new.imported.has_books
          w.put_part.new.imported.text.items) (map-take_more key_at keys i item low)
          (w.in_ok-put_part-in-Ok.ensures options log (map key_at (take i keys))
          (key_at (get_or keys i item))
          (subst (λ at. IsPart options log at w.in-Ok.part.has_book w.in-Ok.part.text.items)
          (ap key_at c.of_key-item.is)
          (subst (λ (l : List LogCall). IsPart options l (key_at item) w.in-Ok.part.has_book
          w.in-Ok.part.text.items) c.deref-in-loop-of_key.ensures.value w.in-Ok.ensures))
          (c.loop-of_key.invariant (subst IsNone w.fault-is none))))
      | in-Err-Fault w ↦ absurd (cc (subst IsNone w.fault-is none))
    ]

pub returns : goal.returns
returns c =
    let options = c.args.options.now in
    let entries = c.in_ok-log.ensures.calls.0 in
    let is = c.in_ok-log.ensures.calls.2 in
    let keys = map key_at c.in_ok-keys.keys.items in
    let none : IsNone c.loop-of_key.fault = ap is_some c.in-None.is in
    let text = c.loop-of_key.imported in
    record {
      layout = record { named = c.deref.result; keyed = options.keyed };
      entries = entries;
      keys = keys;
      laid_out = record { named = c.deref.ensures.value; keyed = refl };
      log = c.in_ok-log.ensures.calls.1;
      keyed = subst (λ (l : List LogCall). AreAllKeysOf l keys) (c.deref-2.ensures.value ∙ is)
          c.in_ok-keys.ensures;
      parts = subst (λ (l : List LogCall). AreParts options l keys text.has_books text.text.items) is
          (subst (λ l. AreParts options c.in_ok-log.log.items (map key_at l) text.has_books
          text.text.items)
          (take_all _ c.deref-of_key-items.result.now (omega (arith, c.loop-of_key-test.false))
          ∙ c.deref-of_key-items.ensures.value)
          (c.loop-of_key.invariant none));
    }
