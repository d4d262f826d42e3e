-- What descriptions mean after a put, after an optional call, and with an item moved to the front.
use Rattle.std.proofs.Common.{◌≡◌, ◌≢◌, ◌∙◌, ℕ, suc, List, [], ◌∷◌, ◌++◌, Some, None, nat_lt, refl, sym, ap, subst, inl, inr, arith, append_assoc, append-nil}
use Rattle.std.proofs.lemmas.Bool.{cases_Bool, ltb-true, ltb-false}
use Rattle.streams.specs.Stream.{StreamEvent}
use Rattle.streams.specs.StreamOrder.{StreamPlace, IsAmong}
use Rattle.seq_objects.specs.Replies.{reply_done}
use Rattle.residue_laws.specs.Residue.{Configuration}
use Rattle.residue_laws.proofs.Placing.{among-cons, among-first, among-later}
use Rattle.late_residue.specs.declared.open_call.OpenCall.{OpenCall}
use Rattle.late_residue.specs.Reached.{Has}
use Rattle.late_residue.specs.LateOnes.{AreOpen}
use Rattle.late_residue.specs.Meaning.{AreOnce}
use Rattle.late_residue.specs.Placing.{AreOf, IsPlacedAt}
use Rattle.late_residue.proofs.Items.{has-none, has-left, has-right, has-cases, has-cons}
use Rattle.late_residue.proofs.Meanings.{names}
use Rattle.pool_residue.specs.declared.container.Container.{Container}
use Rattle.pool_residue.specs.declared.container.Container.TheVariants.{Queue, PriorityQueue}
use Rattle.pool_residue.specs.Items.{Item, MustStandBefore, MayBeFirst, AreInOrder, AreDistinct, values_of}
use Rattle.pool_residue.specs.Description.{Description, TakenPut, IsOpenPut, AreTakenAs, MeansBy}
use Rattle.pool_residue.specs.Pooled.{IsOfStream}
use Rattle.pool_residue.specs.Closing.{Serves}
use Rattle.pool_residue.proofs.Inserting.{MayBeLast}
use Rattle.pool_residue.proofs.Orders.{first_of_none, first_of_more, order-join, order-right, order-without}
use Rattle.pool_residue.proofs.Distinct.{distinct-insert, distinct-without, distinct-new, has-other, has-more, has-there}
use Rattle.pool_residue.proofs.Taking.{held_apart, open_is_free}
use Rattle.pool_residue.proofs.Allowing.{taken_open}

-- what a description means, one that serves for it means by the same items
pub serves_means : (container : Container) (calls : List OpenCall) (one other : Description)
    → Serves one other → (inside taken : List Item) (at : Configuration)
    → MeansBy container calls other inside taken at → MeansBy container calls one inside taken at
serves_means container calls one other serves inside taken at means = record {
  distinct = means.distinct;
  held = λ item has. means.held item (subst (λ (l : List Item). Has l item) serves.held has);
  items = λ item has. elim (means.items item has) [
    | inl held ↦ inl (subst (λ (l : List Item). Has l item) (sym serves.held) held)
    | inr put ↦ inr put
  ];
  order = means.order;
  outside = subst (λ (l : List TakenPut). AreTakenAs container calls l taken) (sym serves.taken)
      means.outside;
  list = means.list;
  placed = λ place among. means.placed place ((serves.placed place).0 among);
  puts = means.puts;
  either = λ place among. elim (means.either place among) [
    | inl placed ↦ inl ((serves.placed place).1 placed)
    | inr (inl optional) ↦ inr (inl (serves.optional place optional))
    | inr (inr put) ↦ inr (inr put)
  ];
  once = means.once;
}

-- Where an open item goes into a list in order.
pub record HasPlaceFor (container : Container) (items : List Item) (x : Item) : Type 0 where
  pub left : List Item
  pub right : List Item
  pub is : items ≡ left ++ right
  pub order : AreInOrder container (left ++ x ∷ right)
  pub last : MayBeLast container right

queue_place : (items : List Item) (x : Item) → x.end ≡ None → AreInOrder Queue items
    → HasPlaceFor Queue items x
queue_place items x open_end order = record {
  left = items;
  right = [];
  is = sym (append-nil items);
  order = order-join Queue items (x ∷ []) order (first_of_none Queue x, tt)
      (λ item has other there. elim (has-cons x [] other there) [
        | inl is ↦ subst (λ (i : Item). MustStandBefore Queue i item → ⊥) is
            (open_is_free x item open_end)
        | inr none ↦ absurd (has-none other none)
      ]);
  last = refl;
}

pqueue_place : (items : List Item) (x : Item) → AreInOrder PriorityQueue items
    → HasPlaceFor PriorityQueue items x
pqueue_place [] x order = record {
  left = [];
  right = [];
  is = refl;
  order = (first_of_none PriorityQueue x, tt);
  last = tt;
}
pqueue_place (y ∷ items) x order = elim (cases_Bool (nat_lt x.value y.value)) [
  | inl less ↦ record {
    left = [];
    right = y ∷ items;
    is = refl;
    order = (
      λ other has must. elim (has-cons y items other has) [
        | inl is ↦
            let lt = ltb-true x.value y.value less in
            let same = ap (λ (i : Item). i.value) is in
            omega (arith, lt, must, same)
        | inr later ↦
            let lt = ltb-true x.value y.value less in
            order.0 other later (omega (arith, lt, must))
      ],
      order,
    );
    last = tt;
  }
  | inr ge ↦
      let found = pqueue_place items x order.1 in
      let le = ltb-false x.value y.value ge in
      record {
        left = y ∷ found.left;
        right = found.right;
        is = ap (λ (l : List Item). y ∷ l) found.is;
        order = (
          λ other has must. elim (has-other found.left found.right x other has) [
            | inl is ↦
                let same = ap (λ (i : Item). i.value) is in omega (arith, le, must, same)
            | inr there ↦ order.0 other
                (subst (λ (l : List Item). Has l other) (sym found.is) there) must
          ],
          found.order,
        );
        last = tt;
      }
]

pub place_for_put : (container : Container) (items : List Item) (x : Item) → x.end ≡ None
    → AreInOrder container items → HasPlaceFor container items x
place_for_put Queue items x open_end order = queue_place items x open_end order
place_for_put PriorityQueue items x open_end order = pqueue_place items x order

-- a place more of a call that has none
pub once_more : (it : StreamPlace) (placed : List StreamPlace) → (AreOf placed it.call → ⊥)
    → AreOnce placed → AreOnce (it ∷ placed)
once_more it placed lacks once a b first second same = elim (among-cons it placed a first) [
  | inl is ↦ elim (among-cons it placed b second) [
    | inl also ↦ sym is ∙ also
    | inr old ↦ absurd (lacks (names placed b it.call
        (sym same ∙ sym (ap (λ (p : StreamPlace). p.call) is)) old))
  ]
  | inr old ↦ elim (among-cons it placed b second) [
    | inl also ↦ absurd (lacks (names placed a it.call
        (same ∙ sym (ap (λ (p : StreamPlace). p.call) also)) old))
    | inr older ↦ once a b old older same
  ]
]

module _ (container : Container) (stream : List StreamEvent) (calls : List OpenCall)
    (are : AreOpen stream calls) (one : Description) (of : IsOfStream container stream one) where
  -- ---- a put

  module _ (x : Item) (put : IsOpenPut container calls x) (left right taken : List Item)
      (from : Configuration) (means : MeansBy container calls one (left ++ right) taken from)
      (lacks : IsPlacedAt from x.call → ⊥) (order : AreInOrder container (left ++ x ∷ right)) where
    abbrev pub after_put_at : Configuration
    after_put_at = record {
      placed = record { call = x.call; reply = reply_done } ∷ from.placed;
      list = values_of (left ++ x ∷ right);
    }

    abbrev it : StreamPlace
    it = record { call = x.call; reply = reply_done }

    placed_already : (item : Item) → Has (taken ++ (left ++ right)) item → item.end ≡ None
        → item.call ≡ x.call → ⊥
    placed_already item has end same = lacks (
      reply_done,
      subst (λ (c : ℕ). IsAmong from.placed (record { call = c; reply = reply_done })) same
          (means.puts (record { call = item.call; reply = reply_done }) (item, has, end, refl)),
    )

    new : (item : Item) → Has (taken ++ (left ++ right)) item → item.call ≢ x.call
    new item has same = elim (has-cases taken (left ++ right) item has) [
      | inl out ↦
          let is = taken_open container calls one.taken taken means.outside item out in
          placed_already item has is.end same
      | inr there ↦ elim (means.items item there) [
        | inl held ↦ held_apart container stream calls are one of item x held put same
        | inr is ↦ placed_already item has is.end same
      ]
    ]

    joined : taken ++ (left ++ right) ≡ (taken ++ left) ++ right
    joined = sym (append_assoc taken left right)

    whole : taken ++ (left ++ x ∷ right) ≡ (taken ++ left) ++ x ∷ right
    whole = sym (append_assoc taken left (x ∷ right))

    pub put_means : MeansBy container calls one (left ++ x ∷ right) taken after_put_at
    put_means = record {
      distinct = subst AreDistinct (sym whole) (distinct-insert (taken ++ left) right x
          (subst AreDistinct joined means.distinct)
          (λ item has. new item (subst (λ (l : List Item). Has l item) (sym joined) has)));
      held = λ item held. has-more left right x item (means.held item held);
      items = λ item there. elim (has-other left right x item there) [
        | inl is ↦ inr (subst (IsOpenPut container calls) is put)
        | inr other ↦ means.items item other
      ];
      order = order;
      outside = means.outside;
      list = refl;
      placed = λ place among. among-later it from.placed place (means.placed place among);
      puts = λ place (item, there, end, is). elim (has-other (taken ++ left) right x item
          (subst (λ (l : List Item). Has l item) whole there)) [
            | inl same ↦ among-first it from.placed place
                (ap (λ (i : Item). record { call = i.call; reply = reply_done }) same ∙ is)
            | inr other ↦ among-later it from.placed place (means.puts place (
              item,
              subst (λ (l : List Item). Has l item) (sym joined) other,
              end,
              is,
            ))
          ];
      either = λ place among. elim (among-cons it from.placed place among) [
        | inl is ↦ inr (inr (
          x,
          has-right taken (left ++ x ∷ right) x (has-there left right x),
          put.end,
          is,
        ))
        | inr old ↦ elim (means.either place old) [
          | inl placed ↦ inl placed
          | inr (inl optional) ↦ inr (inl optional)
          | inr (inr (item, there, end, is)) ↦ inr (inr (
            item,
            subst (λ (l : List Item). Has l item) (sym whole)
                (has-more (taken ++ left) right x item
                (subst (λ (l : List Item). Has l item) joined there)),
            end,
            is,
          ))
        ]
      ];
      once = once_more it from.placed lacks means.once;
    }

  -- ---- an optional call

  pub optional_means : (place : StreamPlace) → IsAmong one.optional place
      → (inside taken : List Item) (from : Configuration)
      → MeansBy container calls one inside taken from → (IsPlacedAt from place.call → ⊥)
      → MeansBy container calls one inside taken
      (record { placed = place ∷ from.placed; list = from.list })
  optional_means it optional inside taken from means lacks = record {
    distinct = means.distinct;
    held = means.held;
    items = means.items;
    order = means.order;
    outside = means.outside;
    list = means.list;
    placed = λ place among. among-later it from.placed place (means.placed place among);
    puts = λ place is. among-later it from.placed place (means.puts place is);
    either = λ place among. elim (among-cons it from.placed place among) [
      | inl is ↦ inr (inl (subst (IsAmong one.optional) is optional))
      | inr old ↦ means.either place old
    ];
    once = once_more it from.placed lacks means.once;
  }

  -- ---- an item at the front

  pub moved_means : (first rest taken : List Item) (x : Item) (from : Configuration)
      → MeansBy container calls one (first ++ x ∷ rest) taken from
      → MayBeFirst container first x
      → MeansBy container calls one (x ∷ (first ++ rest)) taken
      (record { placed = from.placed; list = values_of (x ∷ (first ++ rest)) })
  moved_means first rest taken x from means free =
      let to : (item : Item) → Has (first ++ x ∷ rest) item → Has (x ∷ (first ++ rest)) item =
      λ item has. elim (has-other first rest x item has) [
        | inl is ↦ (0, ap (λ v. Some v) is)
        | inr (k, at) ↦ (suc k, at)
      ] in
      let back : (item : Item) → Has (x ∷ (first ++ rest)) item → Has (first ++ x ∷ rest) item =
      λ item has. elim (has-cons x (first ++ rest) item has) [
        | inl is ↦ subst (Has (first ++ x ∷ rest)) is (has-there first rest x)
        | inr later ↦ has-more first rest x item later
      ] in
      let apart = order-right container first (x ∷ rest) means.order in
      record {
        distinct = distinct-insert taken (first ++ rest) x
            (subst AreDistinct (append_assoc taken first rest)
            (distinct-without (taken ++ first) rest x
            (subst AreDistinct (sym (append_assoc taken first (x ∷ rest))) means.distinct)))
            (λ item has. distinct-new (taken ++ first) rest x
            (subst AreDistinct (sym (append_assoc taken first (x ∷ rest))) means.distinct) item
            (subst (λ (l : List Item). Has l item) (sym (append_assoc taken first rest)) has));
        held = λ item held. to item (means.held item held);
        items = λ item has. means.items item (back item has);
        order = (
          first_of_more container first rest x free apart.0,
          order-without container first rest x means.order,
        );
        outside = means.outside;
        list = refl;
        placed = means.placed;
        puts = λ place (item, has, end, is). means.puts place (
          item,
          elim (has-cases taken (x ∷ (first ++ rest)) item has) [
            | inl out ↦ has-left taken (first ++ x ∷ rest) item out
            | inr there ↦ has-right taken (first ++ x ∷ rest) item (back item there)
          ],
          end,
          is,
        );
        either = λ place among. elim (means.either place among) [
          | inl placed ↦ inl placed
          | inr (inl optional) ↦ inr (inl optional)
          | inr (inr (item, has, end, is)) ↦ inr (inr (
            item,
            elim (has-cases taken (first ++ x ∷ rest) item has) [
              | inl out ↦ has-left taken (x ∷ (first ++ rest)) item out
              | inr there ↦ has-right taken (x ∷ (first ++ rest)) item (to item there)
            ],
            end,
            is,
          ))
        ];
        once = means.once;
      }
