-- What a description means after a put has returned was left by the return.
use Rattle.std.proofs.Common.{◌≡◌, ◌≢◌, ◌⊎◌, ◌∙◌, ℕ, List, [], ◌∷◌, ◌++◌, map, length, None, refl, sym, ap, subst, inl, inr, append_assoc}
use Rattle.std.specs.Prelude.{◌↔◌}
use Rattle.std.proofs.lemmas.Bool.{cases_eq}
use Rattle.std.proofs.lemmas.Option.{none-some}
use Rattle.legal_orders.specs.Container.{Puts}
use Rattle.streams.specs.Stream.{StreamEvent}
use Rattle.streams.specs.StreamOrder.{StreamPlace, IsAmong}
use Rattle.seq_objects.specs.Replies.{reply_done}
use Rattle.residue_laws.specs.Residue.{Configuration}
use Rattle.residue_laws.specs.Step.{IsWithout}
use Rattle.residue_laws.proofs.Appending.{map-both}
use Rattle.residue_laws.proofs.Placing.{among-cons, among-first, among-later}
use Rattle.late_residue.specs.declared.open_call.OpenCall.{OpenCall}
use Rattle.late_residue.specs.Reached.{Has}
use Rattle.late_residue.specs.Known.{MayHaveReply}
use Rattle.late_residue.specs.LateOnes.{AreOpen}
use Rattle.late_residue.proofs.Items.{has-none, has-left, has-right, has-cases, has-cons, has-map}
use Rattle.pool_residue.specs.declared.container.Container.{Container}
use Rattle.pool_residue.specs.Items.{Item, effect_of, AreInOrder, AreDistinct, values_of}
use Rattle.pool_residue.specs.Description.{Description, TakenPut, IsOpenPut, IsTakenAs, AreTakenAs, MeansBy, Means}
use Rattle.pool_residue.specs.Steps.{IsPicked, MayBeOf, IsPutReturned}
use Rattle.pool_residue.specs.Pooled.{IsOfStream}
use Rattle.pool_residue.proofs.Distinct.{distinct-insert, distinct-right, distinct-same, has-other, has-more, has-there}
use Rattle.pool_residue.proofs.Removing.{not_put}
use Rattle.pool_residue.proofs.Taking.{held_apart}
use Rattle.pool_residue.proofs.Allowing.{taken_open}
use Rattle.pool_residue.proofs.Relabelling.{put_for, put_for-other, put_for-old, values-same, put_for-value, map-new, has-from, distinct-changed}
use Rattle.pool_residue.proofs.Pairing.{pairs-cut, pairs-join, pairs-again}
use Rattle.pool_residue.proofs.Returning.{new_goes, goes_to_same, order-changed, item_before, item_after, it_is_open}

module _ (container : Container) (stream : List StreamEvent) (calls more : List OpenCall)
    (are : AreOpen stream calls) (one after : Description)
    (of : IsOfStream container stream one) (call : OpenCall) (has : Has calls call) (value : ℕ)
    (puts : effect_of container call.op ≡ Puts value) (may : MayHaveReply call reply_done)
    (others : (other : OpenCall) → (Has more other ↔ Has calls other × (other.call ≢ call.call)))
  where
    abbrev old : Item
    old = item_before container stream calls more are one after of call has value puts may others

    abbrev ended : Item
    ended = item_after container stream calls more are one after of call has value puts may others

    old_open : IsOpenPut container calls old
    old_open = it_is_open container stream calls more are one after of call has value puts may others

    was_open : (item : Item) → IsOpenPut container more item
        → IsOpenPut container calls item × (item.call ≢ call.call)
    was_open item put = (
      record {
        one = put.one;
        is_open = ((others put.one).0 put.is_open).0;
        call = put.call;
        value = put.value;
        reply = put.reply;
        end = put.end;
      },
      λ same. ((others put.one).0 put.is_open).1 (put.call ∙ same),
    )

    -- A configuration before the return is meant, of which the return leaves this one.
    pub record WasLeft (left_at : Configuration) : Type 0 where
      pub at : Configuration
      pub meant : Means container calls one at
      pub there : IsAmong at.placed (record { call = call.call; reply = reply_done })
      pub without : IsWithout call.call at left_at

    module _ (left_at : Configuration) (inside out : List Item)
        (means : MeansBy container more after inside out left_at)
        (placed_is : after.placed ≡ one.placed) (optional_is : after.optional ≡ one.optional) where
      abbrev it : StreamPlace
      it = record { call = call.call; reply = reply_done }

      -- no place of what is left is that of the call
      module _ (held_other : (item : Item) → Has after.held item
          → Has one.held item ⊎ (item ≡ ended)) where
        place_apart : (place : StreamPlace) → IsAmong left_at.placed place → place.call ≢ call.call
        place_apart place among = elim (means.either place among) [
          | inl placed ↦ not_put container stream calls are one of place old
              (of.placed place (subst (λ (l : List StreamPlace). IsAmong l place) placed_is placed))
              old_open
          | inr (inl optional) ↦ not_put container stream calls are one of place old
              (of.optional place
              (subst (λ (l : List StreamPlace). IsAmong l place) optional_is optional)) old_open
          | inr (inr (item, has_item, end, is)) ↦ subst (λ (p : StreamPlace). p.call ≢ call.call) is
              (elim (has-cases out inside item has_item) [
                | inl taken ↦ (was_open item
                    (taken_open container more after.taken out means.outside item taken)).1
                | inr in_list ↦ elim (means.items item in_list) [
                  | inl held ↦ elim (held_other item held) [
                    | inl was ↦ held_apart container stream calls are one of item old was old_open
                    | inr last ↦ absurd (none-some (length stream)
                        (sym end ∙ ap (λ (i : Item). i.end) last))
                  ]
                  | inr put ↦ (was_open item put).1
                ]
              ])
        ]

        abbrev before : Configuration
        before = record { placed = it ∷ left_at.placed; list = left_at.list }

        was_left : (first taken : List Item) → AreDistinct (taken ++ first)
            → ((item : Item) → Has one.held item → Has first item)
            → ((item : Item) → Has first item → Has one.held item ⊎ IsOpenPut container calls item)
            → AreInOrder container first → AreTakenAs container calls one.taken taken
            → values_of first ≡ values_of inside
            → ((item : Item) → Has (taken ++ first) item → item.end ≡ None
            → (item ≡ old) ⊎ Has (out ++ inside) item)
            → Has (taken ++ first) old
            → ((item : Item) → Has (out ++ inside) item → item.end ≡ None
            → Has (taken ++ first) item) → WasLeft left_at
        was_left first taken distinct held items order outside values from old_there to = record {
          at = before;
          meant = (
            first,
            taken,
            record {
              distinct = distinct;
              held = held;
              items = items;
              order = order;
              outside = outside;
              list = means.list ∙ sym values;
              placed = λ place among. among-later it left_at.placed place (means.placed place
                  (subst (λ (l : List StreamPlace). IsAmong l place) (sym placed_is) among));
              puts = λ place (item, has_item, end, is). elim (from item has_item end) [
                | inl same ↦ among-first it left_at.placed place
                    (ap (λ (i : Item). record { call = i.call; reply = reply_done }) (sym same) ∙ is)
                | inr still ↦ among-later it left_at.placed place
                    (means.puts place (item, still, end, is))
              ];
              either = λ place among. elim (among-cons it left_at.placed place among) [
                | inl is ↦ inr (inr (old, old_there, refl, is))
                | inr was ↦ elim (means.either place was) [
                  | inl placed ↦ inl
                      (subst (λ (l : List StreamPlace). IsAmong l place) placed_is placed)
                  | inr (inl optional) ↦ inr (inl
                      (subst (λ (l : List StreamPlace). IsAmong l place) optional_is optional))
                  | inr (inr (item, has_item, end, is)) ↦
                      inr (inr (item, to item has_item end, end, is))
                ]
              ];
              once = λ a b one_among two_among same. elim (among-cons it left_at.placed a one_among) [
                | inl is ↦ elim (among-cons it left_at.placed b two_among) [
                  | inl also ↦ sym is ∙ also
                  | inr later ↦ absurd (place_apart b later
                      (sym same ∙ sym (ap (λ (p : StreamPlace). p.call) is)))
                ]
                | inr early ↦ elim (among-cons it left_at.placed b two_among) [
                  | inl also ↦ absurd (place_apart a early
                      (same ∙ sym (ap (λ (p : StreamPlace). p.call) also)))
                  | inr later ↦ means.once a b early later same
                ]
              ];
            },
          );
          there = (0, refl);
          without = (
            λ place. (
              λ among. (among-later it left_at.placed place among, place_apart place among),
              λ (among, apart). elim (among-cons it left_at.placed place among) [
                | inl is ↦ absurd (apart (sym (ap (λ (p : StreamPlace). p.call) is)))
                | inr later ↦ later
              ],
            ),
            refl,
          );
        }

      -- ---- the item was one of those that are taken

      was_taken : (m : TakenPut) → MayBeOf ended m → IsPicked one.taken m after.taken
          → after.held ≡ one.held → WasLeft left_at
      was_taken m of_it picked held_is =
          let c = pairs-cut container more picked.before picked.after out
          (subst (λ (l : List TakenPut). AreTakenAs container more l out) picked.others
          means.outside) in
          let back : (p : TakenPut) (x : Item) → IsTakenAs container more p x
          → IsTakenAs container calls p x = λ p x is. record {
            is_open = (was_open x is.is_open).0;
            value = is.value;
            before = is.before;
          } in
          let new : (item : Item) → Has (out ++ inside) item → item.call ≢ old.call =
          λ item has_item. elim (has-cases out inside item has_item) [
            | inl taken ↦ (was_open item
                (taken_open container more after.taken out means.outside item taken)).1
            | inr in_list ↦ elim (means.items item in_list) [
              | inl held ↦ held_apart container stream calls are one of item old
                  (subst (λ (l : List Item). Has l item) held_is held) old_open
              | inr put ↦ (was_open item put).1
            ]
          ] in
          let parted : out ++ inside ≡ c.left ++ (c.right ++ inside) =
          ap (λ (l : List Item). l ++ inside) c.is ∙ append_assoc c.left c.right inside in
          let whole : (c.left ++ old ∷ c.right) ++ inside ≡ c.left ++ old ∷ (c.right ++ inside) =
          append_assoc c.left (old ∷ c.right) inside in
          was_left (λ item held. inl (subst (λ (l : List Item). Has l item) held_is held))
          inside (c.left ++ old ∷ c.right)
          (subst AreDistinct (sym whole) (distinct-insert c.left (c.right ++ inside) old
          (subst AreDistinct parted means.distinct)
          (λ item has_item. new item (subst (λ (l : List Item). Has l item) (sym parted) has_item))))
          (λ item held. means.held item (subst (λ (l : List Item). Has l item) (sym held_is) held))
          (λ item in_list. elim (means.items item in_list) [
            | inl held ↦ inl (subst (λ (l : List Item). Has l item) held_is held)
            | inr put ↦ inr (was_open item put).0
          ])
          means.order
          (subst (λ (l : List TakenPut). AreTakenAs container calls l (c.left ++ old ∷ c.right))
          (sym picked.whole)
          (pairs-join container calls picked.before (m ∷ picked.after) c.left (old ∷ c.right)
          (pairs-again container more calls picked.before c.left c.first back) (
            record { is_open = old_open; value = sym of_it.0; before = of_it.1 },
            pairs-again container more calls picked.after c.right c.last back,
          )))
          refl
          (λ item has_item end. elim (has-other c.left (c.right ++ inside) old item
          (subst (λ (l : List Item). Has l item) whole has_item)) [
            | inl is ↦ inl (sym is)
            | inr other ↦ inr (subst (λ (l : List Item). Has l item) (sym parted) other)
          ])
          (subst (λ (l : List Item). Has l old) (sym whole)
          (has-there c.left (c.right ++ inside) old))
          (λ item has_item end. subst (λ (l : List Item). Has l item) (sym whole)
          (has-more c.left (c.right ++ inside) old item
          (subst (λ (l : List Item). Has l item) parted has_item)))

      -- ---- the item is held

      was_held_there : after.held ≡ one.held ++ ended ∷ [] → after.taken ≡ one.taken
          → WasLeft left_at
      was_held_there held_is taken_is =
          let f : Item → Item = put_for ended old in
          let kinds : (item : Item) → Has after.held item → Has one.held item ⊎ (item ≡ ended) =
          λ item held. elim (has-cases one.held (ended ∷ []) item
          (subst (λ (l : List Item). Has l item) held_is held)) [
            | inl was ↦ inl was
            | inr last ↦ elim (has-cons ended [] item last) [
              | inl is ↦ inr (sym is)
              | inr none ↦ absurd (has-none item none)
            ]
          ] in
          let ended_there : Has inside ended = means.held ended
          (subst (λ (l : List Item). Has l ended) (sym held_is) (has-there one.held [] ended)) in
          let is_it : (item : Item) → Has inside item → item.call ≡ ended.call → item ≡ ended =
          λ item in_list same. distinct-same (out ++ inside) means.distinct item ended
          (has-right out inside item in_list) (has-right out inside ended ended_there) same in
          let taken_apart : (item : Item) → Has out item → item.call ≢ ended.call =
          λ item taken. (was_open item
          (taken_open container more after.taken out means.outside item taken)).1 in
          was_left kinds (map f inside) out
          (subst (λ (l : List Item). AreDistinct (l ++ map f inside))
          (map-new ended old out taken_apart)
          (subst AreDistinct (map-both f out inside)
          (distinct-changed ended old (out ++ inside) means.distinct (λ item has_item apart. apart))))
          (λ item held. subst (Has (map f inside))
          (put_for-other ended old item
          (held_apart container stream calls are one of item old held old_open))
          (has-map f inside item (means.held item
          (subst (λ (l : List Item). Has l item) (sym held_is)
          (has-left one.held (ended ∷ []) item held)))))
          (λ item in_list.
          let found = has-from f inside item in_list in
          elim (cases_eq found.0.call ended.call) [
            | inl same ↦ inr (subst (IsOpenPut container calls)
                (sym (put_for-old ended old found.0 same) ∙ found.2) old_open)
            | inr apart ↦
                let is = sym (put_for-other ended old found.0 apart) ∙ found.2 in
                elim (means.items found.0 found.1) [
                  | inl held ↦ elim (kinds found.0 held) [
                    | inl was ↦ inl (subst (Has one.held) is was)
                    | inr last ↦ absurd (apart (ap (λ (i : Item). i.call) last))
                  ]
                  | inr put ↦ inr (subst (IsOpenPut container calls) is
                      (was_open found.0 put).0)
                ]
          ])
          (order-changed container ended old inside inside (λ item h. h)
          (distinct-right out inside means.distinct) is_it
          (record {
            after = λ item in_list must. new_goes container old ended item refl refl must;
            before = λ item in_list must. goes_to_same container item old ended refl refl must;
          }) means.order)
          (subst (λ (l : List TakenPut). AreTakenAs container calls l out) taken_is
          (pairs-again container more calls after.taken out means.outside
          (λ p x is. record {
            is_open = (was_open x is.is_open).0;
            value = is.value;
            before = is.before;
          })))
          (values-same f inside (λ item in_list. put_for-value ended old item
          (λ same. ap (λ (i : Item). i.value) (sym (is_it item in_list same)))))
          (λ item has_item end. elim (has-cases out (map f inside) item has_item) [
            | inl taken ↦ inr (has-left out inside item taken)
            | inr in_list ↦
                let found = has-from f inside item in_list in
                elim (cases_eq found.0.call ended.call) [
                  | inl same ↦ inl (sym (sym (put_for-old ended old found.0 same) ∙ found.2))
                  | inr apart ↦ inr (has-right out inside item (subst (Has inside)
                      (sym (put_for-other ended old found.0 apart) ∙ found.2) found.1))
                ]
          ])
          (has-right out (map f inside) old (subst (Has (map f inside))
          (put_for-old ended old ended refl) (has-map f inside ended ended_there)))
          (λ item has_item end. elim (has-cases out inside item has_item) [
            | inl taken ↦ has-left out (map f inside) item taken
            | inr in_list ↦ has-right out (map f inside) item (subst (Has (map f inside))
                (put_for-other ended old item
                (λ same. none-some (length stream) (sym end
                ∙ ap (λ (i : Item). i.end) (is_it item in_list same))))
                (has-map f inside item in_list))
          ])

    -- what the description means after the return was left by it
    pub was_left_by : IsPutReturned one ended after → (left_at : Configuration)
        → Means container more after left_at → WasLeft left_at
    was_left_by ret left_at (inside, out, means) = elim ret.moves [
      | inl (m, of_it, picked, least, held_is) ↦
          was_taken left_at inside out means ret.placed ret.optional m of_it picked held_is
      | inr (never, held_is, taken_is) ↦
          was_held_there left_at inside out means ret.placed ret.optional held_is taken_is
    ]
