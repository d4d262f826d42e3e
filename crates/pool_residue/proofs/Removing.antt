-- Open puts that are placed last.
use Rattle.std.proofs.Common.{◌≡◌, ◌≢◌, ◌⊎◌, ◌∙◌, ℕ, List, ◌∷◌, ◌++◌, refl, sym, ap, subst, inl, inr, append_assoc, slice_get}
use Rattle.std.proofs.lemmas.Bool.{cases_eq}
use Rattle.std.proofs.lemmas.Option.{none-some, same_Some}
use Rattle.legal_orders.specs.Container.{value_put}
use Rattle.streams.specs.Stream.{StreamEvent, Called, Returned, Lost}
use Rattle.streams.specs.StreamOrder.{StreamPlace, IsAmong}
use Rattle.seq_objects.specs.Replies.{reply_done}
use Rattle.residue_laws.specs.Residue.{Configuration}
use Rattle.residue_laws.specs.Step.{AreAlike}
use Rattle.residue_laws.proofs.Placing.{among-cons, among-first, among-later}
use Rattle.late_residue.specs.declared.open_call.OpenCall.{OpenCall}
use Rattle.late_residue.specs.Reached.{Has}
use Rattle.late_residue.specs.LateOnes.{AreOpen}
use Rattle.late_residue.specs.Placing.{IsPlacedAt, with_call}
use Rattle.late_residue.proofs.Items.{has-right}
use Rattle.late_residue.proofs.Meanings.{same_place, others_of, others_are}
use Rattle.pool_residue.specs.declared.container.Container.{Container}
use Rattle.pool_residue.specs.Items.{Item, spec_of, effect_of, AreDistinct, values_of}
use Rattle.pool_residue.specs.Description.{Description, IsOpenPut, MeansBy}
use Rattle.pool_residue.specs.Pooled.{PutsNothing, IsOfStream}
use Rattle.pool_residue.proofs.Orders.{order-without}
use Rattle.pool_residue.proofs.Distinct.{distinct-without, distinct-new, has-other, has-more, has-there}
use Rattle.pool_residue.proofs.Objects.{after_put}
use Rattle.pool_residue.proofs.Inserting.{MayBeLast, list_with-order}

-- the operation word of an event that calls
abbrev op_of_event : StreamEvent → ℕ
op_of_event (Called process op) = op
op_of_event (Returned process reply) = 0
op_of_event (Lost process) = 0

-- the place of an item's put
abbrev pub put_place : Item → StreamPlace
put_place item = record { call = item.call; reply = reply_done }

module _ (container : Container) (stream : List StreamEvent) (calls : List OpenCall)
    (are : AreOpen stream calls) (one : Description) (of : IsOfStream container stream one) where
  -- a call that puts nothing in isn't that of an open put
  pub not_put : (place : StreamPlace) (x : Item) → PutsNothing container stream place
      → IsOpenPut container calls x → place.call ≢ x.call
  not_put place x nothing put same =
      let word : nothing.op ≡ put.one.op = ap op_of_event
      (same_Some (Called nothing.process nothing.op) (Called put.one.process put.one.op)
      (sym nothing.called ∙ (ap (slice_get stream) (same ∙ sym put.call)
      ∙ are.called put.one put.is_open))) in
      none-some x.value
      (sym nothing.nothing ∙ ap value_put (ap (effect_of container) word ∙ put.value))

  -- a held item isn't that of an open put
  pub not_held : (item x : Item) → Has one.held item → IsOpenPut container calls x → item ≢ x
  not_held item x has put same =
      let held = of.held item has in
      none-some held.ended (sym put.end ∙ (ap (λ (i : Item). i.end) (sym same) ∙ held.end))

  module _ (left right taken : List Item) (x : Item) (put : IsOpenPut container calls x)
      (last : MayBeLast container right) (at : Configuration)
      (means : MeansBy container calls one (left ++ x ∷ right) taken at) where
    -- the configuration without the put
    abbrev pub before_put : Configuration
    before_put =
        record { placed = others_of x.call at.placed; list = values_of (left ++ right) }

    split : taken ++ (left ++ x ∷ right) ≡ (taken ++ left) ++ x ∷ right
    split = sym (append_assoc taken left (x ∷ right))

    joined : (taken ++ left) ++ right ≡ taken ++ (left ++ right)
    joined = append_assoc taken left right

    fewer : (item : Item) → Has (taken ++ (left ++ right)) item
        → Has (taken ++ (left ++ x ∷ right)) item
    fewer item has = subst (λ (l : List Item). Has l item) (sym split)
        (has-more (taken ++ left) right x item
        (subst (λ (l : List Item). Has l item) (sym joined) has))

    others : (item : Item) → Has (taken ++ (left ++ x ∷ right)) item
        → (x ≡ item) ⊎ Has (taken ++ (left ++ right)) item
    others item has = elim (has-other (taken ++ left) right x item
        (subst (λ (l : List Item). Has l item) split has)) [
          | inl is ↦ inl is
          | inr other ↦ inr (subst (λ (l : List Item). Has l item) joined other)
        ]

    new : (item : Item) → Has (taken ++ (left ++ right)) item → item.call ≢ x.call
    new item has = distinct-new (taken ++ left) right x
        (subst AreDistinct split means.distinct) item
        (subst (λ (l : List Item). Has l item) (sym joined) has)

    stays : (place : StreamPlace) → IsAmong at.placed place → place.call ≢ x.call
        → IsAmong (others_of x.call at.placed) place
    stays place among apart = (others_are x.call at.placed place).1 (among, apart)

    was : (place : StreamPlace) → IsAmong (others_of x.call at.placed) place
        → IsAmong at.placed place × (place.call ≢ x.call)
    was place among = (others_are x.call at.placed place).0 among

    pub before_means : MeansBy container calls one (left ++ right) taken before_put
    before_means = record {
      distinct = subst AreDistinct joined (distinct-without (taken ++ left) right x
          (subst AreDistinct split means.distinct));
      held = λ item has. elim (has-other left right x item (means.held item has)) [
        | inl is ↦ absurd (not_held item x has put (sym is))
        | inr other ↦ other
      ];
      items = λ item has. means.items item (has-more left right x item has);
      order = order-without container left right x means.order;
      outside = means.outside;
      list = refl;
      placed = λ place among. stays place (means.placed place among)
          (not_put place x (of.placed place among) put);
      puts = λ place (item, has, end, is). stays place
          (means.puts place (item, fewer item has, end, is))
          (subst (λ (p : StreamPlace). p.call ≢ x.call) is (new item has));
      either = λ place among.
          let old = was place among in
          elim (means.either place old.0) [
            | inl placed ↦ inl placed
            | inr (inl optional) ↦ inr (inl optional)
            | inr (inr (item, has, end, is)) ↦ elim (others item has) [
              | inl same ↦ absurd (old.1 (sym (ap (λ (p : StreamPlace). p.call) is)
                  ∙ sym (ap (λ (i : Item). i.call) same)))
              | inr other ↦ inr (inr (item, other, end, is))
            ]
          ];
      once = λ a b first second same.
          means.once a b (was a first).0 (was b second).0 same;
    }

    -- a place at the configuration is that of the put, or one of another call
    either_call : (p : StreamPlace) → IsAmong at.placed p → IsAmong at.placed (put_place x)
        → (put_place x ≡ p) ⊎ (p.call ≢ x.call)
    either_call p among there = elim (cases_eq p.call x.call) [
      | inl same ↦ inl (means.once (put_place x) p there among (sym same))
      | inr apart ↦ inr apart
    ]

    pub before_lacks : IsPlacedAt before_put x.call → ⊥
    before_lacks (reply, among) = (was _ among).1 refl

    pub put_leads : AreAlike (with_call (spec_of container).next before_put put.one) at
    put_leads =
        let step = after_put container put.one.op x.value (values_of (left ++ right)) put.value in
        let place : StreamPlace = record {
          call = put.one.call;
          reply = ((spec_of container).next (values_of (left ++ right)) put.one.op).1;
        } in
        let is : place ≡ put_place x =
        same_place place (put_place x) put.call (ap (λ (r : List ℕ × ℕ). r.1) step) in
        let there : IsAmong at.placed (put_place x) =
        means.puts (put_place x)
        (x, has-right taken (left ++ x ∷ right) x (has-there left right x), put.end, refl) in (
          λ p. (
            λ among. elim (among-cons place (others_of x.call at.placed) p among) [
              | inl first ↦ subst (IsAmong at.placed) (sym is ∙ first) there
              | inr old ↦ (was p old).0
            ],
            λ among. elim (either_call p among there) [
              | inl first ↦ among-first place (others_of x.call at.placed) p (is ∙ first)
              | inr apart ↦ among-later place (others_of x.call at.placed) p
                  (stays p among apart)
            ],
          ),
          ap (λ (r : List ℕ × ℕ). r.0) step
              ∙ (list_with-order container left x right last means.order ∙ sym means.list),
        )
