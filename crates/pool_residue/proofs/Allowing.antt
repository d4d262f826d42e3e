-- Optional places are sound.
use Rattle.std.proofs.Common.{◌≡◌, ◌⊎◌, ◌∙◌, ℕ, zero, suc, ◌≤◌, List, [], ◌∷◌, ◌++◌, length, None, refl, sym, ap, subst, inl, inr, arith, append-nil, length-append}
use Rattle.legal_orders.specs.Container.{Takes, Neither, value_put}
use Rattle.streams.specs.Stream.{StreamEvent}
use Rattle.streams.specs.StreamOrder.{StreamPlace, IsAmong}
use Rattle.seq_objects.specs.Replies.{reply_none, reply_bad}
use Rattle.residue_laws.specs.Residue.{Configuration}
use Rattle.late_residue.specs.declared.open_call.OpenCall.{OpenCall}
use Rattle.late_residue.specs.Reached.{Has}
use Rattle.late_residue.specs.Known.{MayHaveReply}
use Rattle.late_residue.specs.LateOnes.{AreOpen}
use Rattle.late_residue.specs.Placing.{AreOf}
use Rattle.std.proofs.lemmas.Option.{none-some, same_Some}
use Rattle.late_residue.proofs.Items.{has-none, has-right, has-cases}
use Rattle.late_residue.proofs.Meanings.{among_or_not, names}
use Rattle.pool_residue.specs.declared.container.Container.{Container}
use Rattle.pool_residue.specs.declared.container.Container.TheVariants.{Queue, PriorityQueue}
use Rattle.pool_residue.specs.Items.{Item, spec_of, effect_of, values_of}
use Rattle.pool_residue.specs.Description.{Description, IsOpenPut, AreTakenAs, MeansBy, Means, TakenPut}
use Rattle.pool_residue.specs.Steps.{IsAllowed}
use Rattle.pool_residue.specs.Pooled.{IsOfStream}
use Rattle.pool_residue.proofs.Objects.{after_take, after_neither}
use Rattle.pool_residue.proofs.Inserting.{MayBeLast}
use Rattle.pool_residue.proofs.Sounding.{IsReached, HasPlacesBut, put_reached, last_reached, means_without}

-- a list is empty, or has a last item
pub last_of : {X : Type 0} (xs : List X) → (xs ≡ []) ⊎ ((left : List X) × (x : X) × (xs ≡ left ++ x ∷ []))
last_of [] = inl refl
last_of {X} (x ∷ xs) = elim (last_of xs) [
  | inl none ↦ inr ([], x, ap (λ (l : List X). x ∷ l) none)
  | inr (left, last, is) ↦ inr (x ∷ left, last, ap (λ (l : List X). x ∷ l) is)
]

pub may_be_last : (container : Container) → MayBeLast container []
may_be_last Queue = refl
may_be_last PriorityQueue = tt

-- what is taken is taken of open puts
pub taken_open : (container : Container) (calls : List OpenCall) (pairs : List TakenPut)
    (items : List Item) → AreTakenAs container calls pairs items → (item : Item) → Has items item
    → IsOpenPut container calls item
taken_open container calls [] [] are item has = absurd (has-none item has)
taken_open container calls [] (x ∷ items) are item has = absurd are
taken_open container calls (pair ∷ pairs) [] are item has = absurd are
taken_open container calls (pair ∷ pairs) (x ∷ items) are item (zero, at) =
    subst (IsOpenPut container calls) (same_Some x item at) are.0.is_open
taken_open container calls (pair ∷ pairs) (x ∷ items) are item (suc k, at) =
    taken_open container calls pairs items are.1 item (k, at)

module _ (container : Container) (stream : List StreamEvent) (calls : List OpenCall)
    (are : AreOpen stream calls) where
  -- an item that a description's configuration has and that hasn't returned is that of an open put
  pub open_item : (one : Description) → IsOfStream container stream one → (at : Configuration)
      (inside taken : List Item) → MeansBy container calls one inside taken at → (item : Item)
      → Has (taken ++ inside) item → item.end ≡ None → IsOpenPut container calls item
  open_item one of at inside taken means item has end =
      elim (has-cases taken inside item has) [
        | inl out ↦ taken_open container calls one.taken taken means.outside item out
        | inr there ↦ elim (means.items item there) [
          | inl held ↦
              let is = of.held item held in
              absurd (none-some is.ended (sym end ∙ is.end))
          | inr open_put ↦ open_put
        ]
      ]

  module _ (one after : Description) (of : IsOfStream container stream one)
      (of_after : IsOfStream container stream after) (call : OpenCall) (has : Has calls call)
      (reply : ℕ) (nothing : value_put (effect_of container call.op) ≡ None)
      (lacks : AreOf one.placed call.call → ⊥)
      (allowed : IsAllowed (record { call = call.call; reply = reply }) one after)
      (may : MayHaveReply call reply)
      (each : (at : Configuration) → Means container calls one at
      → IsReached container stream calls are at) where
    abbrev it : StreamPlace
    it = record { call = call.call; reply = reply }

    but : HasPlacesBut container stream calls are call.call one after
    but = record {
      placed = λ place among. (
        subst (λ (l : List StreamPlace). IsAmong l place) (sym allowed.placed) among,
        λ same. lacks (names one.placed place call.call same among),
      );
      fewer = λ place among apart.
          subst (λ (l : List StreamPlace). IsAmong l place) allowed.placed among;
      optional = λ place among apart. elim ((allowed.optional place).0 among) [
        | inl is ↦ absurd (apart (sym (ap (λ (p : StreamPlace). p.call) is)))
        | inr old ↦ old
      ];
    }

    -- the call stands where the list stays
    pub allowed_here : (at : Configuration) (inside taken : List Item)
        → MeansBy container calls after inside taken at
        → (spec_of container).next (values_of inside) call.op ≡ (values_of inside, reply)
        → IsReached container stream calls are at
    allowed_here at inside taken means stays = elim (among_or_not at.placed it) [
      | inl there ↦ last_reached container stream calls are at (values_of inside) call reply has
          means.once there
          (stays ∙ ap (λ (l : List ℕ). (l, reply)) (sym means.list)) may
          (each _ (
            inside,
            taken,
            means_without container stream calls are one after of call has
                nothing but at inside taken inside taken means means.distinct
                (λ item held. means.held item
                (subst (λ (l : List Item). Has l item) (sym allowed.held) held))
                (λ item is. elim (means.items item is) [
                  | inl held ↦ inl (subst (λ (l : List Item). Has l item) allowed.held held)
                  | inr open_put ↦ inr open_put
                ]) means.order
                (subst (λ (l : List TakenPut). AreTakenAs container calls l taken) allowed.taken
                means.outside) (λ item end. (λ h. h, λ h. h))
                (open_item after of_after at inside taken means),
          ))
      | inr none ↦ each at (
        inside,
        taken,
        record {
          distinct = means.distinct;
          held = λ item held. means.held item
              (subst (λ (l : List Item). Has l item) (sym allowed.held) held);
          items = λ item is. elim (means.items item is) [
            | inl held ↦ inl (subst (λ (l : List Item). Has l item) allowed.held held)
            | inr open_put ↦ inr open_put
          ];
          order = means.order;
          outside = subst (λ (l : List TakenPut). AreTakenAs container calls l taken) allowed.taken
              means.outside;
          list = means.list;
          placed = λ place among. means.placed place
              (subst (λ (l : List StreamPlace). IsAmong l place) (sym allowed.placed) among);
          puts = means.puts;
          either = λ place among. elim (means.either place among) [
            | inl placed ↦ inl
                (subst (λ (l : List StreamPlace). IsAmong l place) allowed.placed placed)
            | inr (inl optional) ↦ elim ((allowed.optional place).0 optional) [
              | inl is ↦ absurd (none (subst (IsAmong at.placed) (sym is) among))
              | inr old ↦ inr (inl old)
            ]
            | inr (inr put) ↦ inr (inr put)
          ];
          once = means.once;
        },
      )
    ]

    -- a call that the object doesn't know may be placed anywhere
    pub unknown_reached : effect_of container call.op ≡ Neither → reply ≡ reply_bad
        → (at : Configuration) → Means container calls after at
        → IsReached container stream calls are at
    unknown_reached neither bad at (inside, taken, means) = allowed_here at inside taken means
        (after_neither container call.op (values_of inside) neither
        ∙ ap (λ (r : ℕ). (values_of inside, r)) (sym bad))

    none_here : effect_of container call.op ≡ Takes → reply ≡ reply_none → (at : Configuration)
        → (inside taken : List Item) → inside ≡ []
        → MeansBy container calls after inside taken at → IsReached container stream calls are at
    none_here takes none at inside taken is means = allowed_here at inside taken means
        (subst (λ (l : List Item). (spec_of container).next (values_of l) call.op
        ≡ (values_of l, reply)) (sym is)
        (after_take container call.op [] takes ∙ ap (λ (r : ℕ). ([], r)) (sym none)))

    -- a take that finds nothing may be placed first where nothing is held
    pub none_reached : effect_of container call.op ≡ Takes → reply ≡ reply_none → one.held ≡ []
        → (n : ℕ) (at : Configuration) (inside taken : List Item) → length inside ≤ n
        → MeansBy container calls after inside taken at → IsReached container stream calls are at
    none_reached takes none empty zero at inside taken le means = elim (last_of inside) [
      | inl is ↦ none_here takes none at inside taken is means
      | inr (left, x, is) ↦ absurd (let more = length-append left (x ∷ []) in
          let same = ap (λ (l : List Item). length l) is in omega (arith, le, more, same))
    ]
    none_reached takes none empty (suc n) at inside taken le means = elim (last_of inside) [
      | inl is ↦ none_here takes none at inside taken is means
      | inr (left, x, is) ↦
          let meant = subst (λ (l : List Item). MeansBy container calls after l taken at) is means in
          put_reached container stream calls are after of_after left [] taken x
          (elim (meant.items x (has-right left (x ∷ []) x (0, refl))) [
            | inl held ↦ absurd (has-none x
                (subst (λ (l : List Item). Has l x) (allowed.held ∙ empty) held))
            | inr open_put ↦ open_put
          ]) (may_be_last container) at meant
          (λ before earlier. none_reached takes none empty n before (left ++ []) taken
          (let more = length-append left (x ∷ []) in
          let same = ap (λ (l : List Item). length l) (append-nil left) in
          let whole = ap (λ (l : List Item). length l) is in
          omega (arith, le, more, same, whole)) earlier)
    ]
