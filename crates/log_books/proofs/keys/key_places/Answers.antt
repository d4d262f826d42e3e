use Rattle.std.proofs.Common.{◌≡◌, ◌<◌, ◌∙◌, ◌++◌, ◌∷◌, [], ℕ, Bool, List, None, Some, map, length, take, take_all, get_or, set, slice_get, bytes_eq, arith, ap, refl, subst, sym, option_map, if◌then◌else◌}
use Rattle.std.specs.Option.{option_eq}
use Rattle.std.proofs.lemmas.List.{take_more, map-append, map-set, length-map}
use Rattle.std.proofs.lemmas.Option.{slice_get-get_or, slice_get-map, slice_get_within}
use Rattle.history_text.specs.declared.call.LogCall.{LogCall}
use Rattle.log_books.specs.Keys.{KeyAt, key_at, key_of, AreAllKeysOf}
use Rattle.log_books.proofs.Keying.{Known, known_at, known_new, known_old, any_mapped, eq_texts, not_true, not_false, key_there, same_keys, all_empty, all_known, none_by, some_by}
use Rattle.log_books.proofs.Writing.{length_taken}
use Rattle.log_books.proofs.keys.key_places.Goals as goal
use Rattle.log_books.proofs.keys.key_places.Goals.{then-is_new+in_ok-vec+in_ok-push, else-is_new+in_ok-push-2, then-is_empty+in_ok-push-3, else-is_empty}

pub loop-place-preserved : goal.loop-place-preserved
loop-place-preserved c =
    let log = c.args.log.now in
    let i = c.loop-place.place in
    let low : i < length log = omega (arith, c.loop-place-test.true) in
    let d : LogCall = record {
      process = None;
      key = None;
      operation = record { ref_ptr = (0, 0); now = [] };
      value = None;
      arguments = None;
      line = 0;
      invoked = 0;
      answer = None;
    } in
    let call = get_or log i d in
    let keys = c.loop-place.known.keys in
    let found = map key_at c.loop-place.found.items in
    elim c.if-is_new.branch [
      | then-is_new+in_ok-vec+in_ok-push w ↦
          let absent = not_true _ (sym c.in_ok-at.ensures.added ∙ w.if-is_new.true) in
          record {
            low = omega (arith, low);
            known = known_at _ _ _ _ _ _ (take_more log i d low)
                (ap (λ l. map (λ key. option_map (λ text. text.now) key) l) (c.in_ok-at.ensures.keys
                ∙ ap (λ (b : Bool). if b then keys else keys ++ call.key ∷ []) absent)
                ∙ map-append _ keys (call.key ∷ []))
                (ap (λ f. map key_at f.items) w.found-is ∙ ap (map key_at) w.in_ok-push.ensures.items
                ∙ map-append key_at c.loop-place.found.items (_ ∷ [])
                ∙ ap (λ (p : List ℕ). found ++ (record { key = key_of call; places = p }) ∷ [])
                (w.in_ok-vec.ensures.items ∙ ap (λ (n : ℕ). n ∷ []) (sym (length_taken log i low))))
                (known_new (take i log) _ found call c.loop-place.invariant.known
                (sym (any_mapped _ _ (option_eq bytes_eq) (eq_texts _) call.key keys) ∙ absent));
          }
      | else-is_new+in_ok-push-2 w ↦
          let present = not_false _ (sym c.in_ok-at.ensures.added ∙ w.if-is_new.false) in
          let same_keys_are : c.insert_full.new.self.keys ≡ keys = c.in_ok-at.ensures.keys
          ∙ ap (λ (b : Bool). if b then keys else keys ++ call.key ∷ []) present in
          let stored = c.in_ok-at.ensures.stored in
          let known = c.loop-place.invariant.known in
          let item = w.index_mut.result.now in
          let there = key_there _ keys found c.in_ok-at.at stored.0 known.paired
          (ap (λ l. slice_get l c.in_ok-at.at) (sym same_keys_are) ∙ stored.1) in
          let few : c.in_ok-at.at < length c.loop-place.found.items =
          subst (λ (n : ℕ). c.in_ok-at.at < n) (length-map c.loop-place.found.items key_at)
          (slice_get_within found c.in_ok-at.at there.0 there.1) in
          let here : slice_get found c.in_ok-at.at ≡ Some (key_at item) =
          slice_get-map key_at c.loop-place.found.items c.in_ok-at.at
          ∙ ap (option_map key_at) (slice_get-get_or c.loop-place.found.items c.in_ok-at.at item few
          ∙ ap Some (sym w.index_mut.ensures.value)) in
          let is : there.0 ≡ key_at item = cc (sym there.1 ∙ here) in
          let same : (key_at item).key ≡ key_of call =
          ap KeyAt.key (sym is) ∙ there.2
          ∙ sym (same_keys (key_of call) _ (sym (eq_texts _ call.key stored.0) ∙ stored.2)) in
          record {
            low = omega (arith, low);
            known = known_at _ _ _ _ _ _ (take_more log i d low) (ap (λ l. map (λ key. option_map (λ text. text.now) key) l) same_keys_are)
                (ap (λ f. map key_at f.items) w.found-is
                ∙ map-set key_at c.loop-place.found.items c.in_ok-at.at _
                ∙ ap (λ (p : List ℕ). set found c.in_ok-at.at (record { key = (key_at item).key; places = p }))
                (w.in_ok-push-2.ensures.items
                ∙ ap (λ (n : ℕ). item.places.items ++ n ∷ []) (sym (length_taken log i low))))
                (known_old (take i log) _ found call c.in_ok-at.at (key_at item) known here same);
          }
    ]

pub returns : goal.returns
returns c =
    let log = c.args.log.now in
    let all : take c.loop-place.place log ≡ log =
    take_all _ log (omega (arith, c.loop-place-test.false)) in
    let texts = map (λ key. option_map (λ text. text.now) key) c.loop-place.known.keys in
    let keys = map key_at c.loop-place.found.items in
    let known : Known log texts keys =
    known_at _ log texts texts keys keys (sym all) refl refl c.loop-place.invariant.known in
    elim c.if-is_empty.branch [
      | then-is_empty+in_ok-push-3 w ↦
          all_empty log texts keys _ known
          (none_by log (sym c.is_empty.ensures ∙ w.if-is_empty.true))
          (λ none. ap (λ f. map key_at f.items) w.found-is
          ∙ ap (map key_at) w.in_ok-push-3.ensures.items
          ∙ map-append key_at c.loop-place.found.items (_ ∷ [])
          ∙ ap (λ (l : List KeyAt). l ++ (record { key = None; places = w.new.result.items }) ∷ []) none
          ∙ ap (λ (p : List ℕ). (record { key = None; places = p }) ∷ []) w.new.ensures.items)
      | else-is_empty w ↦
          subst (λ f. AreAllKeysOf log (map key_at f.items)) (sym w.found-is)
          (all_known log texts keys known
          (some_by log (sym c.is_empty.ensures ∙ w.if-is_empty.false)))
    ]
