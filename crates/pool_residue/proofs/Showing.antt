-- What a take shows at a configuration is shown by the description that means it.
use Rattle.std.proofs.Common.{◌≡◌, ◌≢◌, ◌⊎◌, ◌∙◌, ℕ, suc, ◌<◌, List, [], ◌∷◌, ◌++◌, map, Some, None, refl, sym, ap, subst, inl, inr, arith}
use Rattle.std.specs.Prelude.{◌↔◌}
use Rattle.std.proofs.lemmas.Bool.{cases_eq}
use Rattle.std.proofs.lemmas.Option.{none-some, same_Some}
use Rattle.streams.specs.Stream.{StreamEvent}
use Rattle.streams.specs.StreamOrder.{StreamPlace}
use Rattle.seq_objects.specs.Replies.{reply_value}
use Rattle.residue_laws.specs.Residue.{Configuration}
use Rattle.residue_laws.proofs.Placing.{among-cons, among-first, among-later}
use Rattle.late_residue.specs.declared.open_call.OpenCall.{OpenCall}
use Rattle.late_residue.specs.Reached.{Has}
use Rattle.late_residue.specs.LateOnes.{AreOpen}
use Rattle.late_residue.specs.Placing.{IsPlacedAt}
use Rattle.late_residue.proofs.Items.{has-left, has-right, has-cases, has-cons}
use Rattle.late_residue.proofs.Meanings.{names}
use Rattle.pool_residue.specs.declared.container.Container.{Container}
use Rattle.pool_residue.specs.declared.container.Container.TheVariants.{Queue, PriorityQueue}
use Rattle.pool_residue.specs.Items.{Item, MustStandBefore, MayBeFirst, AreInOrder, AreDistinct, values_of}
use Rattle.pool_residue.specs.Description.{Description, TakenPut, IsOpenPut, AreTakenAs, MeansBy}
use Rattle.pool_residue.specs.Steps.{EndsFirst, MayBeTaken, IsHeldTaken, IsOpenTaken, IsPlacedTaking}
use Rattle.pool_residue.specs.Pooled.{IsOfStream}
use Rattle.pool_residue.proofs.Orders.{order-replace}
use Rattle.pool_residue.proofs.Distinct.{distinct-new, distinct-without, distinct-right, distinct-moved, distinct-same, has-other, has-more, has-there}
use Rattle.pool_residue.proofs.Picking.{held_or_it, was_held, held_new}
use Rattle.pool_residue.proofs.Taking.{called_before, has-swap, distinct-unswap, has-ended}
use Rattle.pool_residue.proofs.Pairing.{pairs-cut, pairs-join}
use Rattle.pool_residue.proofs.Relabelling.{put_for, put_for-other, put_for-old, map-new, map-there, put_for-value, split_at}

-- no item must stand before itself
pub must_not : (container : Container) (x : Item) (end : ℕ) → x.end ≡ Some end → x.call < end
    → MustStandBefore container x x → ⊥
must_not Queue x end ended after (e, is, less) =
    let same = same_Some end e (sym ended ∙ is) in omega (arith, after, less, same)
must_not PriorityQueue x end ended after less = omega (arith, less)

-- of two items of a value the one that returned first stands before all before which the other one
-- must stand
pub goes_first : (container : Container) (y x item : Item) → y.value ≡ x.value
    → (x.end ≡ None) ⊎ EndsFirst y x → MustStandBefore container x item
    → MustStandBefore container y item
goes_first Queue y x item same later (e, is, less) = elim later [
  | inl none ↦ absurd (none-some e (sym none ∙ is))
  | inr (end, ended, first) ↦ (end, ended, let le = first e is in omega (arith, le, less))
]
goes_first PriorityQueue y x item same later less = omega (arith, same, less)

module _ (container : Container) (stream : List StreamEvent) (calls : List OpenCall)
    (are : AreOpen stream calls) (one after : Description)
    (of : IsOfStream container stream one) (call : OpenCall) (value : ℕ)
    (taking : IsPlacedTaking container stream calls one call.call value after) where
  abbrev it : StreamPlace
  it = record { call = call.call; reply = reply_value value }

  -- the configuration after the take
  abbrev pub after_taking : Configuration → List Item → Configuration
  after_taking at rest = record { placed = it ∷ at.placed; list = values_of rest }

  -- what the description after the take means
  pub means_taken : (at : Configuration) (inside taken rest out : List Item)
      → MeansBy container calls one inside taken at → (IsPlacedAt at call.call → ⊥)
      → AreDistinct (out ++ rest)
      → ((item : Item) → Has after.held item → Has rest item)
      → ((item : Item) → Has rest item → Has after.held item ⊎ IsOpenPut container calls item)
      → AreInOrder container rest → AreTakenAs container calls after.taken out
      → ((item : Item) → item.end ≡ None
      → (Has (out ++ rest) item ↔ Has (taken ++ inside) item))
      → MeansBy container calls after rest out (after_taking at rest)
  means_taken at inside taken rest out means lacks distinct held items order outside same = record {
    distinct = distinct;
    held = held;
    items = items;
    order = order;
    outside = outside;
    list = refl;
    placed = λ place among. elim ((taking.placed place).0 among) [
      | inl is ↦ among-first it at.placed place is
      | inr old ↦ among-later it at.placed place (means.placed place old)
    ];
    puts = λ place (item, there, end, is). among-later it at.placed place
        (means.puts place (item, (same item end).0 there, end, is));
    either = λ place among. elim (among-cons it at.placed place among) [
      | inl is ↦ inl ((taking.placed place).1 (inl is))
      | inr old ↦ elim (means.either place old) [
        | inl placed ↦ inl ((taking.placed place).1 (inr placed))
        | inr (inl optional) ↦ inr (inl ((taking.optional place).1
            (optional, λ same_call. lacks (names at.placed place call.call same_call old))))
        | inr (inr (item, there, end, is)) ↦ inr (inr (item, (same item end).1 there, end, is))
      ]
    ];
    once = λ a b first second same_call. elim (among-cons it at.placed a first) [
      | inl is ↦ elim (among-cons it at.placed b second) [
        | inl also ↦ sym is ∙ also
        | inr old ↦ absurd (lacks (names at.placed b call.call
            (sym same_call ∙ sym (ap (λ (p : StreamPlace). p.call) is)) old))
      ]
      | inr old ↦ elim (among-cons it at.placed b second) [
        | inl also ↦ absurd (lacks (names at.placed a call.call
            (same_call ∙ sym (ap (λ (p : StreamPlace). p.call) also)) old))
        | inr older ↦ means.once a b old older same_call
      ]
    ];
  }

  -- What a take that shows the first item leaves: the first item may stand for another one, which is
  -- taken in its place.
  pub record IsShown (x : Item) (rest : List Item) (at : Configuration) : Type 0 where
    pub change : Item → Item
    pub same : (item : Item) → Has rest item → (change item).value ≡ item.value
    pub later : (item : Item) → Has rest item → (change item ≡ item)
        ⊎ ((change item ≡ x) × ((x.end ≡ None) ⊎ EndsFirst item x))
    pub out : List Item
    pub means : MeansBy container calls after (map change rest) out
        (after_taking at (map change rest))

  -- ---- a held item goes

  module _ (h : IsHeldTaken container one value after) (at : Configuration)
      (taken rest : List Item) (x : Item) (means : MeansBy container calls one (x ∷ rest) taken at)
      (lacks : IsPlacedAt at call.call → ⊥) (shows : x.value ≡ value) where
    abbrev y : Item
    y = h.item

    y_end : y.end ≡ Some (of.held y h.next.0).ended
    y_end = (of.held y h.next.0).end

    outside : AreTakenAs container calls after.taken taken
    outside = subst (λ (l : List TakenPut). AreTakenAs container calls l taken) (sym h.taken)
        means.outside

    -- the first item itself goes
    it_goes : x ≡ y → MeansBy container calls after rest taken (after_taking at rest)
    it_goes is = means_taken at (x ∷ rest) taken rest taken means lacks
        (distinct-without taken rest x means.distinct)
        (λ item held. elim (has-cons x rest item
        (means.held item (was_held container one after value h item held))) [
          | inl same ↦ absurd (held_new container one after value h of.distinct item held
              (ap (λ (i : Item). i.call) (sym same ∙ is)))
          | inr later ↦ later
        ])
        (λ item there. elim (means.items item (suc there.0, there.1)) [
          | inl held ↦ elim (held_or_it container one after value h item held) [
            | inl same ↦ absurd (distinct-new taken rest x means.distinct item
                (has-right taken rest item there)
                (ap (λ (i : Item). i.call) (sym same ∙ sym is)))
            | inr other ↦ inl other
          ]
          | inr put ↦ inr put
        ])
        means.order.1 outside
        (λ item end.
        let both = has-ended taken rest x item (of.held y h.next.0).ended
        (ap (λ (i : Item). i.end) is ∙ y_end) end in
        (both.1, both.0))

    -- another item of the value goes, and the first one stands in its place
    module _ (apart : x.call ≢ y.call) (left right : List Item) (split : rest ≡ left ++ y ∷ right)
      where
        meant : MeansBy container calls one (x ∷ (left ++ y ∷ right)) taken at
        meant = subst (λ (l : List Item). MeansBy container calls one (x ∷ l) taken at) split means

        x_held : Has one.held x → MayBeTaken container one.held value x
        x_held held = (
          held,
          shows,
          λ other there must. elim (has-cons x (left ++ y ∷ right) other
              (meant.held other there)) [
                | inl is ↦ must_not container x (of.held x held).ended (of.held x held).end
                    (of.held x held).returns.after
                    (subst (λ (i : Item). MustStandBefore container i x) (sym is) must)
                | inr later ↦ meant.order.0 other later must
              ],
        )

        x_later : (x.end ≡ None) ⊎ EndsFirst y x
        x_later = elim (meant.items x (0, refl)) [
          | inl held ↦ inr (h.first x (x_held held))
          | inr put ↦ inl put.end
        ]

        stands : AreInOrder container (left ++ x ∷ right)
        stands = order-replace container left right y x (record {
          after = λ item there. goes_first container y x item (h.next.1 ∙ sym shows) x_later;
          before = λ item there must. absurd (meant.order.0 item
              (has-right left (y ∷ right) item (has-right (y ∷ []) right item there)) must);
        }) meant.order.1

        other_goes : MeansBy container calls after (left ++ x ∷ right) taken
            (after_taking at (left ++ x ∷ right))
        other_goes =
            let inner = distinct-right taken (left ++ y ∷ right)
            (distinct-without taken (left ++ y ∷ right) x meant.distinct) in
            means_taken at (x ∷ (left ++ y ∷ right)) taken (left ++ x ∷ right) taken meant lacks
            (distinct-moved taken left right x y meant.distinct)
            (λ item held. elim (has-cons x (left ++ y ∷ right) item
            (meant.held item (was_held container one after value h item held))) [
              | inl same ↦ subst (Has (left ++ x ∷ right)) same (has-there left right x)
              | inr later ↦ elim (has-other left right y item later) [
                | inl is ↦ absurd (held_new container one after value h of.distinct item held
                    (ap (λ (i : Item). i.call) (sym is)))
                | inr other ↦ has-more left right x item other
              ]
            ])
            (λ item there. elim (has-other left right x item there) [
              | inl is ↦ elim (meant.items x (0, refl)) [
                | inl held ↦ elim (held_or_it container one after value h x held) [
                  | inl same ↦ absurd (apart (ap (λ (i : Item). i.call) (sym same)))
                  | inr other ↦ inl (subst (Has after.held) is other)
                ]
                | inr put ↦ inr (subst (IsOpenPut container calls) is put)
              ]
              | inr other ↦
                  let place = has-more left right y item other in
                  elim (meant.items item (suc place.0, place.1)) [
                    | inl held ↦ elim (held_or_it container one after value h item held) [
                      | inl same ↦ absurd (distinct-new left right y inner item other
                          (ap (λ (i : Item). i.call) (sym same)))
                      | inr still ↦ inl still
                    ]
                    | inr put ↦ inr put
                  ]
            ])
            stands outside
            (λ item end. (
              λ there. elim (has-cases taken (left ++ x ∷ right) item there) [
                | inl out ↦ has-left taken (x ∷ (left ++ y ∷ right)) item out
                | inr inside ↦ has-right taken (x ∷ (left ++ y ∷ right)) item
                    (elim (has-other left right x item inside) [
                      | inl is ↦ (0, ap (λ v. Some v) is)
                      | inr other ↦ let k = has-more left right y item other in (suc k.0, k.1)
                    ])
              ],
              λ there. elim (has-cases taken (x ∷ (left ++ y ∷ right)) item there) [
                | inl out ↦ has-left taken (left ++ x ∷ right) item out
                | inr inside ↦ has-right taken (left ++ x ∷ right) item
                    (elim (has-cons x (left ++ y ∷ right) item inside) [
                      | inl is ↦ subst (Has (left ++ x ∷ right)) is (has-there left right x)
                      | inr later ↦ elim (has-other left right y item later) [
                        | inl is ↦ absurd (none-some (of.held y h.next.0).ended
                            (sym end ∙ (ap (λ (i : Item). i.end) (sym is) ∙ y_end)))
                        | inr other ↦ has-more left right x item other
                      ]
                    ])
              ],
            ))

    -- the item that goes has the value of the first one
    value_kept : (item : Item) → Has rest item → (put_for y x item).value ≡ item.value
    value_kept item there = put_for-value y x item (λ same.
        let is : item ≡ y = distinct-same (taken ++ x ∷ rest) means.distinct item y
        (has-right taken (x ∷ rest) item (suc there.0, there.1))
        (has-right taken (x ∷ rest) y (means.held y h.next.0)) same in
        shows ∙ (sym h.next.1 ∙ ap (λ (i : Item). i.value) (sym is)))

    pub shown_held : IsShown x rest at
    shown_held = elim (cases_eq x.call y.call) [
      | inl same ↦
          let is : x ≡ y = distinct-same (taken ++ x ∷ rest) means.distinct x y
          (has-right taken (x ∷ rest) x (0, refl))
          (has-right taken (x ∷ rest) y (means.held y h.next.0)) same in
          let equal : map (put_for y x) rest ≡ rest =
          map-new y x rest (λ item there e. distinct-new taken rest x means.distinct item
          (has-right taken rest item there) (e ∙ sym same)) in
          record {
            change = put_for y x;
            same = value_kept;
            later = λ item there. inl (put_for-other y x item
                (λ e. distinct-new taken rest x means.distinct item
                (has-right taken rest item there) (e ∙ sym same)));
            out = taken;
            means = subst (λ (l : List Item). MeansBy container calls after l taken
                (after_taking at l)) (sym equal) (it_goes is);
          }
      | inr apart ↦ elim (has-cons x rest y (means.held y h.next.0)) [
        | inl is ↦ absurd (apart (ap (λ (i : Item). i.call) is))
        | inr later ↦
            let found = split_at rest y later in
            let inner = distinct-right taken rest (distinct-without taken rest x means.distinct) in
            let equal : map (put_for y x) rest ≡ found.0 ++ x ∷ found.1 =
            ap (map (put_for y x)) found.2
            ∙ map-there y x found.0 found.1 (subst AreDistinct found.2 inner) in
            record {
              change = put_for y x;
              same = value_kept;
              later = λ item there. elim (cases_eq item.call y.call) [
                | inl e ↦
                    let is : item ≡ y = distinct-same (taken ++ x ∷ rest) means.distinct item y
                    (has-right taken (x ∷ rest) item (suc there.0, there.1))
                    (has-right taken (x ∷ rest) y (means.held y h.next.0)) e in
                    inr (
                      put_for-old y x item e,
                      subst (λ (i : Item). (x.end ≡ None) ⊎ EndsFirst i x) (sym is)
                          (x_later apart found.0 found.1 found.2),
                    )
                | inr e ↦ inl (put_for-other y x item e)
              ];
              out = taken;
              means = subst (λ (l : List Item). MeansBy container calls after l taken
                  (after_taking at l)) (sym equal) (other_goes apart found.0 found.1 found.2);
            }
      ]
    ]

  -- ---- an item of an open put goes

  pub shown_open : IsOpenTaken container stream calls one value after → (at : Configuration)
      → (taken rest : List Item) (x : Item) → MeansBy container calls one (x ∷ rest) taken at
      → (IsPlacedAt at call.call → ⊥) → x.value ≡ value → IsShown x rest at
  shown_open o at taken rest x means lacks shows =
      let free : Has one.held x ⊎ IsOpenPut container calls x
      → MayBeFirst container one.held x = λ either other there must.
      elim (has-cons x rest other (means.held other there)) [
        | inl is ↦
            let held = subst (Has one.held) (sym is) there in
            must_not container x (of.held x held).ended (of.held x held).end
            (of.held x held).returns.after
            (subst (λ (i : Item). MustStandBefore container i x) (sym is) must)
        | inr later ↦ means.order.0 other later must
      ] in
      let put : IsOpenPut container calls x = elim (means.items x (0, refl)) [
        | inl held ↦ absurd (o.none x (held, shows, free (inl held)))
        | inr is ↦ is
      ] in
      let equal : map (put_for x x) rest ≡ rest = map-new x x rest
      (λ item there. distinct-new taken rest x means.distinct item
      (has-right taken rest item there)) in
      let unchanged : (item : Item) → Has rest item → put_for x x item ≡ item =
      λ item there. put_for-other x x item (distinct-new taken rest x means.distinct item
      (has-right taken rest item there)) in
      let c = pairs-cut container calls o.picked.before o.picked.after taken
      (subst (λ (l : List TakenPut). AreTakenAs container calls l taken) o.picked.others
      means.outside) in
      let all = subst (λ (l : List Item). AreDistinct (l ++ x ∷ rest)) c.is means.distinct in
      let out : List Item = c.left ++ x ∷ c.right in
      let swap : (item : Item) → (Has (taken ++ x ∷ rest) item ↔ Has (out ++ rest) item) =
      λ item. subst (λ (l : List Item). (Has (l ++ x ∷ rest) item ↔ Has (out ++ rest) item))
      (sym c.is) (has-swap c.left c.right rest x item) in
      record {
        change = put_for x x;
        same = λ item there. ap (λ (i : Item). i.value) (unchanged item there);
        later = λ item there. inl (unchanged item there);
        out = out;
        means = subst (λ (l : List Item). MeansBy container calls after l out
            (after_taking at l)) (sym equal)
            (means_taken at (x ∷ rest) taken rest out means lacks
            (distinct-unswap c.left c.right rest x all)
            (λ item held. elim (has-cons x rest item
            (means.held item (subst (λ (l : List Item). Has l item) o.held held))) [
              | inl is ↦
                  let there = of.held item (subst (λ (l : List Item). Has l item) o.held held)
                  in absurd (none-some there.ended
                  (sym put.end ∙ (ap (λ (i : Item). i.end) is ∙ there.end)))
              | inr later ↦ later
            ])
            (λ item there. elim (means.items item (suc there.0, there.1)) [
              | inl held ↦ inl (subst (λ (l : List Item). Has l item) (sym o.held) held)
              | inr other ↦ inr other
            ])
            means.order.1
            (subst (λ (l : List TakenPut). AreTakenAs container calls l out) (sym o.picked.whole)
            (pairs-join container calls o.picked.before
            (record { value = value; bound = o.bound } ∷ o.picked.after) c.left (x ∷ c.right)
            c.first (
              record {
                is_open = put;
                value = shows;
                before = (o.is_bound.1 x shows (called_before container stream calls are x put)).0
                    (free (inr put));
              },
              c.last,
            )))
            (λ item end. ((swap item).1, (swap item).0)));
      }

  pub shown : (at : Configuration) (taken rest : List Item) (x : Item)
      → MeansBy container calls one (x ∷ rest) taken at → (IsPlacedAt at call.call → ⊥)
      → x.value ≡ value → IsShown x rest at
  shown at taken rest x means lacks shows = elim taking.item [
    | inl h ↦ shown_held h at taken rest x means lacks shows
    | inr o ↦ shown_open o at taken rest x means lacks shows
  ]
