-- Placed takes are sound.
use Rattle.std.proofs.Common.{◌≡◌, ◌≢◌, ◌⊎◌, ◌∙◌, ℕ, zero, suc, ◌<◌, ◌≤◌, nat_lt, List, [], ◌∷◌, ◌++◌, length, Option, Some, None, refl, sym, ap, subst, inl, inr, arith, length-append, append_assoc}
use Rattle.std.specs.Prelude.{◌↔◌}
use Rattle.std.proofs.lemmas.Bool.{cases_Bool, ltb-true, ltb-false}
use Rattle.std.proofs.lemmas.Option.{none-some, same_Some, slice_get_within}
use Rattle.legal_orders.specs.Container.{Takes, value_put}
use Rattle.streams.specs.Stream.{StreamEvent, HasReturned}
use Rattle.streams.specs.StreamOrder.{StreamPlace}
use Rattle.seq_objects.specs.Replies.{reply_done, reply_value}
use Rattle.residue_laws.specs.Residue.{Configuration}
use Rattle.late_residue.specs.declared.open_call.OpenCall.{OpenCall}
use Rattle.late_residue.specs.Reached.{Has}
use Rattle.late_residue.specs.Known.{MayHaveReply}
use Rattle.late_residue.specs.LateOnes.{AreOpen}
use Rattle.late_residue.specs.Placing.{AreOf}
use Rattle.late_residue.proofs.Items.{has-none, has-cases, has-cons}
use Rattle.late_residue.proofs.Meanings.{names}
use Rattle.pool_residue.specs.declared.container.Container.{Container}
use Rattle.pool_residue.specs.declared.container.Container.TheVariants.{Queue, PriorityQueue}
use Rattle.pool_residue.specs.Items.{Item, effect_of, MustStandBefore, MayBeFirst, AreDistinct, values_of}
use Rattle.pool_residue.specs.Description.{Description, TakenPut, IsOpenPut, AreTakenAs, MeansBy, Means}
use Rattle.pool_residue.specs.Steps.{IsHeldTaken, IsOpenTaken, IsPlacedTaking}
use Rattle.pool_residue.specs.Pooled.{IsOfStream}
use Rattle.pool_residue.proofs.Picking.{held_or_it, was_held, held_new}
use Rattle.pool_residue.proofs.Pairing.{IsSplit, pairs-split, pairs-join}
use Rattle.pool_residue.proofs.Distinct.{distinct-insert, distinct-without, distinct-new, has-other, has-more, has-there}
use Rattle.pool_residue.proofs.Objects.{after_take}
use Rattle.pool_residue.proofs.Sounding.{IsReached, HasPlacesBut, put_reached, last_reached, means_without}
use Rattle.pool_residue.proofs.Inserting.{MayBeLast}
use Rattle.pool_residue.proofs.Allowing.{taken_open, open_item}

-- ---- whether an item may be first

ended_before : (end : Option ℕ) (n : ℕ)
    → ((e : ℕ) × (end ≡ Some e) × (e < n)) ⊎ ((e : ℕ) → end ≡ Some e → e < n → ⊥)
ended_before None n = inr (λ e is less. none-some e is)
ended_before (Some e) n = elim (cases_Bool (nat_lt e n)) [
  | inl less ↦ inl (e, refl, ltb-true e n less)
  | inr ge ↦ inr (λ other is less.
      let le = ltb-false e n ge in
      let same = same_Some e other is in
      omega (arith, less, le, same))
]

pub must_or_not : (container : Container) (z x : Item)
    → MustStandBefore container z x ⊎ (MustStandBefore container z x → ⊥)
must_or_not Queue z x = elim (ended_before z.end x.call) [
  | inl must ↦ inl must
  | inr never ↦ inr (λ (e, is, less). never e is less)
]
must_or_not PriorityQueue z x = elim (cases_Bool (nat_lt z.value x.value)) [
  | inl less ↦ inl (ltb-true z.value x.value less)
  | inr ge ↦ inr (λ less. let le = ltb-false z.value x.value ge in omega (arith, less, le))
]

-- An item of a list must stand before another one.
pub record HasBefore (container : Container) (items : List Item) (x : Item) : Type 0 where
  pub left : List Item
  pub z : Item
  pub right : List Item
  pub is : items ≡ left ++ z ∷ right
  pub must : MustStandBefore container z x

pub first_or_not : (container : Container) (items : List Item) (x : Item)
    → MayBeFirst container items x ⊎ HasBefore container items x
first_or_not container [] x = inl (λ other has. absurd (has-none other has))
first_or_not container (y ∷ items) x = elim (must_or_not container y x) [
  | inl must ↦ inr (record { left = []; z = y; right = items; is = refl; must = must })
  | inr never ↦ elim (first_or_not container items x) [
    | inl first ↦ inl (λ other has. elim (has-cons y items other has) [
      | inl same ↦ subst (λ (i : Item). MustStandBefore container i x → ⊥) same never
      | inr later ↦ first other later
    ])
    | inr found ↦ inr (record {
      left = y ∷ found.left;
      z = found.z;
      right = found.right;
      is = ap (λ (l : List Item). y ∷ l) found.is;
      must = found.must;
    })
  ]
]

-- an open put must stand before no item of a queue
pub open_is_free : (z x : Item) → z.end ≡ None → MustStandBefore Queue z x → ⊥
open_is_free z x open_end (e, is, less) = none-some e (sym open_end ∙ is)

-- an open put that must stand before an item is one of a priority queue, and may be placed last
last_or_free : (container : Container) (z x : Item) (right : List Item) → z.end ≡ None
    → MustStandBefore container z x → MayBeLast container right
last_or_free Queue z x right open_end must = absurd (open_is_free z x open_end must)
last_or_free PriorityQueue z x right open_end must = tt

-- an item that is taken, or first in the list
pub has-swap : (left right inside : List Item) (x item : Item)
    → (Has ((left ++ right) ++ x ∷ inside) item ↔ Has ((left ++ x ∷ right) ++ inside) item)
has-swap left right inside x item = (
  λ has. subst (λ (l : List Item). Has l item) (sym (append_assoc left (x ∷ right) inside))
      (elim (has-other (left ++ right) inside x item has) [
        | inl is ↦ subst (Has (left ++ x ∷ (right ++ inside))) is
            (has-there left (right ++ inside) x)
        | inr other ↦ has-more left (right ++ inside) x item
            (subst (λ (l : List Item). Has l item) (append_assoc left right inside) other)
      ]),
  λ has. elim (has-other left (right ++ inside) x item
      (subst (λ (l : List Item). Has l item) (append_assoc left (x ∷ right) inside) has)) [
        | inl is ↦ subst (Has ((left ++ right) ++ x ∷ inside)) is
            (has-there (left ++ right) inside x)
        | inr other ↦ has-more (left ++ right) inside x item
            (subst (λ (l : List Item). Has l item) (sym (append_assoc left right inside)) other)
      ],
)

pub distinct-swap : (left right inside : List Item) (x : Item)
    → AreDistinct ((left ++ x ∷ right) ++ inside) → AreDistinct ((left ++ right) ++ x ∷ inside)
distinct-swap left right inside x distinct =
    let whole = subst AreDistinct (append_assoc left (x ∷ right) inside) distinct in
    let joined = sym (append_assoc left right inside) in
    distinct-insert (left ++ right) inside x
    (subst AreDistinct joined (distinct-without left (right ++ inside) x whole))
    (λ item has. distinct-new left (right ++ inside) x whole item
    (subst (λ (l : List Item). Has l item) (sym joined) has))

pub distinct-unswap : (left right inside : List Item) (x : Item)
    → AreDistinct ((left ++ right) ++ x ∷ inside) → AreDistinct ((left ++ x ∷ right) ++ inside)
distinct-unswap left right inside x distinct =
    let joined = append_assoc left right inside in
    subst AreDistinct (sym (append_assoc left (x ∷ right) inside))
    (distinct-insert left (right ++ inside) x
    (subst AreDistinct joined (distinct-without (left ++ right) inside x distinct))
    (λ item has. distinct-new (left ++ right) inside x distinct item
    (subst (λ (l : List Item). Has l item) (sym joined) has)))

-- an item that hasn't returned is among some where one that has returned is put in, and where not
pub has-ended : (out inside : List Item) (y item : Item) (end : ℕ) → y.end ≡ Some end
    → item.end ≡ None → (Has (out ++ y ∷ inside) item ↔ Has (out ++ inside) item)
has-ended out inside y item end ended open_end = (
  λ has. elim (has-other out inside y item has) [
    | inl is ↦ absurd (none-some end
        (sym open_end ∙ (ap (λ (i : Item). i.end) (sym is) ∙ ended)))
    | inr other ↦ other
  ],
  λ has. has-more out inside y item has,
)

module _ (container : Container) (stream : List StreamEvent) (calls : List OpenCall)
    (are : AreOpen stream calls) where
  -- a held item is that of a call that has returned, so of no open put
  pub held_apart : (one : Description) → IsOfStream container stream one → (item x : Item)
      → Has one.held item → IsOpenPut container calls x → item.call ≢ x.call
  held_apart one of item x has put same =
      let held = of.held item has in
      are.pending put.one put.is_open
      (subst (λ (c : ℕ). HasReturned stream c) (same ∙ sym put.call)
      (held.ended, reply_done, held.returns))

  -- an open put was called before the stream's end
  pub called_before : (x : Item) → IsOpenPut container calls x → x.call < length stream
  called_before x put = subst (λ (c : ℕ). c < length stream) put.call
      (slice_get_within stream put.one.call _ (are.called put.one put.is_open))

  module _ (one after : Description) (of : IsOfStream container stream one)
      (of_after : IsOfStream container stream after) (call : OpenCall) (has : Has calls call)
      (takes : effect_of container call.op ≡ Takes) (value : ℕ)
      (lacks : AreOf one.placed call.call → ⊥)
      (taking : IsPlacedTaking container stream calls one call.call value after)
      (may : MayHaveReply call (reply_value value))
      (each : (at : Configuration) → Means container calls one at
      → IsReached container stream calls are at) where
    nothing : value_put (effect_of container call.op) ≡ None
    nothing = ap value_put takes

    abbrev it : StreamPlace
    it = record { call = call.call; reply = reply_value value }

    but : HasPlacesBut container stream calls are call.call one after
    but = record {
      placed = λ place among. (
        (taking.placed place).1 (inr among),
        λ same. lacks (names one.placed place call.call same among),
      );
      fewer = λ place among apart. elim ((taking.placed place).0 among) [
        | inl is ↦ absurd (apart (sym (ap (λ (p : StreamPlace). p.call) is)))
        | inr old ↦ old
      ];
      optional = λ place among apart. ((taking.optional place).0 among).0;
    }

    -- the take stands first, and shows an item that may be first
    taken_first : (at : Configuration) (inside taken out : List Item) (x : Item)
        → MeansBy container calls after inside taken at → x.value ≡ value
        → MayBeFirst container inside x → AreDistinct (out ++ x ∷ inside)
        → ((item : Item) → Has one.held item → Has (x ∷ inside) item)
        → ((item : Item) → Has (x ∷ inside) item
        → Has one.held item ⊎ IsOpenPut container calls item)
        → AreTakenAs container calls one.taken out
        → ((item : Item) → item.end ≡ None
        → (Has (out ++ x ∷ inside) item ↔ Has (taken ++ inside) item))
        → IsReached container stream calls are at
    taken_first at inside taken out x means value_is first distinct held items outside same =
        last_reached container stream calls are at (values_of (x ∷ inside)) call
        (reply_value value) has means.once (means.placed it ((taking.placed it).1 (inl refl)))
        (after_take container call.op (values_of (x ∷ inside)) takes
        ∙ (ap (λ (v : ℕ). (values_of inside, reply_value v)) value_is
        ∙ ap (λ (l : List ℕ). (l, reply_value value)) (sym means.list))) may
        (each _ (
          x ∷ inside,
          out,
          means_without container stream calls are one after of call has
              nothing but at inside taken (x ∷ inside) out means distinct held items
              (first, means.order) outside same
              (λ item there end. open_item container stream calls are after of_after at inside taken means
              item ((same item end).0 there) end),
        ))

    -- ---- a held item

    module _ (h : IsHeldTaken container one value after) where
      abbrev y : Item
      y = h.item

      open_new : (item : Item) → IsOpenPut container calls item → item.call ≢ y.call
      open_new item put same = held_apart one of y item h.next.0 put (sym same)

      held_first : (at : Configuration) (inside taken : List Item)
          → MeansBy container calls after inside taken at → MayBeFirst container inside y
          → IsReached container stream calls are at
      held_first at inside taken means first =
          taken_first at inside taken taken y means h.next.1 first
          (distinct-insert taken inside y means.distinct
          (λ item there. elim (has-cases taken inside item there) [
            | inl out ↦ open_new item
                (taken_open container calls after.taken taken means.outside item out)
            | inr in_list ↦ elim (means.items item in_list) [
              | inl held ↦ held_new container one after value h of.distinct item held
              | inr put ↦ open_new item put
            ]
          ]))
          (λ item held. elim (held_or_it container one after value h item held) [
            | inl is ↦ (0, ap (λ v. Some v) is)
            | inr other ↦ let there = means.held item other in (suc there.0, there.1)
          ])
          (λ item there. elim (has-cons y inside item there) [
            | inl is ↦ inl (subst (Has one.held) is h.next.0)
            | inr later ↦ elim (means.items item later) [
              | inl held ↦ inl (was_held container one after value h item held)
              | inr put ↦ inr put
            ]
          ])
          (subst (λ (l : List TakenPut). AreTakenAs container calls l taken) h.taken means.outside)
          (λ item end. has-ended taken inside y item (of.held y h.next.0).ended
          (of.held y h.next.0).end end)

      pub held_reached : (n : ℕ) (at : Configuration) (inside taken : List Item)
          → length inside ≤ n → MeansBy container calls after inside taken at
          → IsReached container stream calls are at
      held_reached zero at inside taken le means = elim (first_or_not container inside y) [
        | inl first ↦ held_first at inside taken means first
        | inr f ↦ absurd (let more = length-append f.left (f.z ∷ f.right) in
            let same = ap (λ (l : List Item). length l) f.is in omega (arith, le, more, same))
      ]
      held_reached (suc n) at inside taken le means = elim (first_or_not container inside y) [
        | inl first ↦ held_first at inside taken means first
        | inr f ↦
            let meant = subst (λ (l : List Item). MeansBy container calls after l taken at) f.is means
            in
            let put : IsOpenPut container calls f.z =
            elim (meant.items f.z (has-there f.left f.right f.z)) [
              | inl held ↦ absurd (h.next.2 f.z (was_held container one after value h f.z held) f.must)
              | inr open_put ↦ open_put
            ] in
            put_reached container stream calls are after of_after f.left f.right taken f.z put
            (last_or_free container f.z y f.right put.end f.must) at meant
            (λ before earlier. held_reached n before (f.left ++ f.right) taken
            (let more = length-append f.left (f.z ∷ f.right) in
            let less = length-append f.left f.right in
            let same = ap (λ (l : List Item). length l) f.is in
            omega (arith, le, more, less, same)) earlier)
      ]

    -- ---- an item of an open put

    module _ (o : IsOpenTaken container stream calls one value after) where
      abbrev pair : TakenPut
      pair = record { value = value; bound = o.bound }

      -- the item that is taken, and the other ones
      split : (taken : List Item) → AreTakenAs container calls after.taken taken
          → IsSplit container calls o.picked.before pair o.picked.after taken
      split taken are_taken = pairs-split container calls o.picked.before pair o.picked.after taken
          (subst (λ (l : List TakenPut). AreTakenAs container calls l taken) o.picked.whole
          are_taken)

      open_first : (at : Configuration) (inside taken : List Item)
          → MeansBy container calls after inside taken at
          → (s : IsSplit container calls o.picked.before pair o.picked.after taken)
          → MayBeFirst container inside s.x → IsReached container stream calls are at
      open_first at inside taken means s first =
          taken_first at inside taken (s.left ++ s.right) s.x means s.it.value first
          (distinct-swap s.left s.right inside s.x
          (subst (λ (l : List Item). AreDistinct (l ++ inside)) s.is means.distinct))
          (λ item held.
          let there = means.held item
          (subst (λ (l : List Item). Has l item) (sym o.held) held) in
          (suc there.0, there.1))
          (λ item there. elim (has-cons s.x inside item there) [
            | inl same ↦ inr (subst (IsOpenPut container calls) same s.it.is_open)
            | inr later ↦ elim (means.items item later) [
              | inl held ↦ inl (subst (λ (l : List Item). Has l item) o.held held)
              | inr put ↦ inr put
            ]
          ])
          (subst (λ (l : List TakenPut). AreTakenAs container calls l (s.left ++ s.right))
          (sym o.picked.others)
          (pairs-join container calls o.picked.before o.picked.after s.left s.right s.first s.last))
          (λ item end. subst (λ (l : List Item). (Has ((s.left ++ s.right) ++ s.x ∷ inside) item
          ↔ Has (l ++ inside) item)) (sym s.is) (has-swap s.left s.right inside s.x item))

      pub open_reached : (n : ℕ) (at : Configuration) (inside taken : List Item)
          → length inside ≤ n → MeansBy container calls after inside taken at
          → IsReached container stream calls are at
      open_reached zero at inside taken le means =
          let s = split taken means.outside in
          elim (first_or_not container inside s.x) [
            | inl first ↦ open_first at inside taken means s first
            | inr f ↦ absurd (let more = length-append f.left (f.z ∷ f.right) in
                let same = ap (λ (l : List Item). length l) f.is in omega (arith, le, more, same))
          ]
      open_reached (suc n) at inside taken le means =
          let s = split taken means.outside in
          elim (first_or_not container inside s.x) [
            | inl first ↦ open_first at inside taken means s first
            | inr f ↦
                let meant = subst
                (λ (l : List Item). MeansBy container calls after l taken at) f.is means in
                let free : MayBeFirst container one.held s.x =
                (o.is_bound.1 s.x s.it.value (called_before s.x s.it.is_open)).1 s.it.before in
                let put : IsOpenPut container calls f.z =
                elim (meant.items f.z (has-there f.left f.right f.z)) [
                  | inl held ↦ absurd
                      (free f.z (subst (λ (l : List Item). Has l f.z) o.held held) f.must)
                  | inr open_put ↦ open_put
                ] in
                put_reached container stream calls are after of_after f.left f.right taken f.z
                put (last_or_free container f.z s.x f.right put.end f.must) at meant
                (λ before earlier. open_reached n before (f.left ++ f.right) taken
                (let more = length-append f.left (f.z ∷ f.right) in
                let less = length-append f.left f.right in
                let same = ap (λ (l : List Item). length l) f.is in
                omega (arith, le, more, less, same)) earlier)
          ]

    -- all that the description means after the take is placed is reached
    pub taking_reached : (at : Configuration) → Means container calls after at
        → IsReached container stream calls are at
    taking_reached at (inside, taken, means) = elim taking.item [
      | inl h ↦ held_reached h (length inside) at inside taken (omega arith) means
      | inr o ↦ open_reached o (length inside) at inside taken (omega arith) means
    ]
