-- The return of a put.
use Rattle.std.proofs.Common.{◌≡◌, ◌≢◌, ◌⊎◌, ◌∙◌, ℕ, suc, ◌<◌, ◌≤◌, List, [], ◌∷◌, ◌++◌, map, length, Option, Some, None, refl, sym, ap, subst, inl, inr, arith, append_assoc, slice_get}
use Rattle.std.specs.Prelude.{◌↔◌}
use Rattle.std.proofs.lemmas.Bool.{cases_eq}
use Rattle.std.proofs.lemmas.Option.{none-some, same_Some, slice_get_within}
use Rattle.legal_orders.specs.Container.{Puts, value_put}
use Rattle.streams.specs.Stream.{StreamEvent}
use Rattle.streams.specs.StreamOrder.{StreamPlace, IsAmong, word_of_event}
use Rattle.seq_objects.specs.Replies.{reply_done}
use Rattle.residue_laws.specs.Residue.{Configuration}
use Rattle.residue_laws.specs.Step.{IsWithout}
use Rattle.residue_laws.proofs.Appending.{map-both}
use Rattle.late_residue.specs.declared.open_call.OpenCall.{OpenCall}
use Rattle.late_residue.specs.Reached.{Has}
use Rattle.late_residue.specs.Known.{MayHaveReply}
use Rattle.late_residue.specs.LateOnes.{AreOpen}
use Rattle.late_residue.proofs.Reaching.{op_of}
use Rattle.late_residue.proofs.Items.{has-none, has-left, has-right, has-cases, has-cons, has-map}
use Rattle.pool_residue.specs.declared.container.Container.{Container}
use Rattle.pool_residue.specs.declared.container.Container.TheVariants.{Queue, PriorityQueue}
use Rattle.pool_residue.specs.Items.{Item, spec_of, effect_of, MustStandBefore, AreInOrder, AreDistinct}
use Rattle.pool_residue.specs.Description.{Description, TakenPut, IsOpenPut, IsTakenAs, AreTakenAs, MeansBy}
use Rattle.pool_residue.specs.Steps.{IsPicked, MayBeOf, IsPutReturned}
use Rattle.pool_residue.specs.Pooled.{IsFree, IsOfStream}
use Rattle.pool_residue.proofs.Distinct.{distinct-new, distinct-without, distinct-right, has-other, has-more, has-there}
use Rattle.pool_residue.proofs.Removing.{not_put}
use Rattle.pool_residue.proofs.Taking.{called_before, held_apart}
use Rattle.pool_residue.proofs.Allowing.{taken_open, open_item}
use Rattle.pool_residue.proofs.Relabelling.{put_for, put_for-other, put_for-old, values-same, put_for-value, has-from, distinct-changed}
use Rattle.pool_residue.proofs.Pairing.{IsSplit, pairs-split, pairs-join, pairs-map, pair_of}

-- ---- items in order, of which one is changed

-- an item that may stand in the place of another one wherever this stands
pub record StandsFor (container : Container) (items : List Item) (old new : Item) : Type 0 where
  pub after : (item : Item) → Has items item → MustStandBefore container new item
      → MustStandBefore container old item
  pub before : (item : Item) → Has items item → MustStandBefore container item new
      → MustStandBefore container item old

pub order-changed : (container : Container) (old new : Item) (all items : List Item)
    → ((item : Item) → Has items item → Has all item) → AreDistinct items
    → ((item : Item) → Has items item → item.call ≡ old.call → item ≡ old)
    → StandsFor container all old new → AreInOrder container items
    → AreInOrder container (map (put_for old new) items)
order-changed container old new all [] inside distinct is stands order = tt
order-changed container old new all (x ∷ items) inside distinct is stands order = (
  λ other has.
      let found = has-from (put_for old new) items other has in
      subst (λ (i : Item). MustStandBefore container i (put_for old new x) → ⊥) found.2
      (λ must. order.0 found.0 found.1
      (elim (cases_eq x.call old.call) [
        | inl x_old ↦
            let x_is = is x (0, refl) x_old in
            let y_other : found.0.call ≢ old.call = λ (e : found.0.call ≡ old.call).
            distinct.0 found.0 found.1 (e ∙ sym x_old) in
            subst (MustStandBefore container found.0) (sym x_is)
            (stands.before found.0 (inside found.0 (suc found.1.0, found.1.1))
            (subst (λ (i : Item). MustStandBefore container i new)
            (put_for-other old new found.0 y_other)
            (subst (λ (i : Item). MustStandBefore container (put_for old new found.0) i)
            (put_for-old old new x x_old) must)))
        | inr x_other ↦
            let plain = subst (λ (i : Item). MustStandBefore container (put_for old new found.0) i)
            (put_for-other old new x x_other) must in
            elim (cases_eq found.0.call old.call) [
              | inl y_old ↦
                  let y_is = is found.0 (suc found.1.0, found.1.1) y_old in
                  subst (λ (i : Item). MustStandBefore container i x) (sym y_is)
                  (stands.after x (inside x (0, refl))
                  (subst (λ (i : Item). MustStandBefore container i x)
                  (put_for-old old new found.0 y_old) plain))
              | inr y_other ↦ subst (λ (i : Item). MustStandBefore container i x)
                  (put_for-other old new found.0 y_other) plain
            ]
      ])),
  order-changed container old new all items (λ item (k, at). inside item (suc k, at)) distinct.1
      (λ item (k, at). is item (suc k, at)) stands order.1,
)

-- an open put goes before what an item of its value goes before
pub new_goes : (container : Container) (new old item : Item) → new.end ≡ None
    → new.value ≡ old.value → MustStandBefore container new item
    → MustStandBefore container old item
new_goes Queue new old item none same (e, is, less) = absurd (none-some e (sym none ∙ is))
new_goes PriorityQueue new old item none same less = omega (arith, same, less)

-- what goes before an open put that a pair names goes before an item of its value
goes_to_new : (container : Container) (one : Description) (m : TakenPut) (new old item : Item)
    → Has one.held item ⊎ (item.end ≡ None) → IsFree container one.held m → new.call < m.bound
    → new.value ≡ old.value → MustStandBefore container item new
    → MustStandBefore container item old
goes_to_new Queue one m new old item either free before same (e, is, less) = elim either [
  | inl held ↦ absurd (free new item held before (e, is, less))
  | inr none ↦ absurd (none-some e (sym none ∙ is))
]
goes_to_new PriorityQueue one m new old item either free before same less =
    omega (arith, same, less)

-- an item that returns last goes before none that was called before
ended_goes : (container : Container) (new old item : Item) (end : ℕ) → new.end ≡ Some end
    → new.value ≡ old.value → item.call < end → MustStandBefore container new item
    → MustStandBefore container old item
ended_goes Queue new old item end ended same early (e, is, less) =
    let equal = same_Some end e (sym ended ∙ is) in
    absurd (let clash : end < end = omega (arith, less, equal, early) in omega (arith, clash))
ended_goes PriorityQueue new old item end ended same early less = omega (arith, same, less)

pub goes_to_same : (container : Container) (item new old : Item) → new.call ≡ old.call
    → new.value ≡ old.value → MustStandBefore container item new
    → MustStandBefore container item old
goes_to_same Queue item new old calls values (e, is, less) =
    (e, is, subst (λ (c : ℕ). e < c) calls less)
goes_to_same PriorityQueue item new old calls values less = omega (arith, values, less)

module _ (container : Container) (stream : List StreamEvent) (calls more : List OpenCall)
    (are : AreOpen stream calls) (one after : Description)
    (of : IsOfStream container stream one) (call : OpenCall) (has : Has calls call) (value : ℕ)
    (puts : effect_of container call.op ≡ Puts value) (may : MayHaveReply call reply_done)
    (others : (other : OpenCall) → (Has more other ↔ Has calls other × (other.call ≢ call.call)))
  where
    -- the item of the put before it returns, and after it
    abbrev pub item_before : Item
    item_before = record { call = call.call; value = value; end = None }

    abbrev pub item_after : Item
    item_after = record { call = call.call; value = value; end = Some (length stream) }

    pub it_is_open : IsOpenPut container calls item_before
    it_is_open =
        record { one = call; is_open = has; call = refl; value = puts; reply = may; end = refl }

    same_item : (a b : Item) → a.call ≡ b.call → a.value ≡ b.value → a.end ≡ b.end → a ≡ b
    same_item a b call_is value_is end_is =
        ap (λ (c : ℕ). record { call = c; value = a.value; end = a.end }) call_is
        ∙ (ap (λ (v : ℕ). record { call = b.call; value = v; end = a.end }) value_is
        ∙ ap (λ (e : Option ℕ). record { call = b.call; value = b.value; end = e }) end_is)

    -- an open put of the call is the item
    it_is : (item : Item) → IsOpenPut container calls item → item.call ≡ call.call
        → item ≡ item_before
    it_is item put same =
        let word : put.one.op ≡ call.op =
        sym (op_of (spec_of container) stream calls are put.one put.is_open)
        ∙ (ap (λ (c : ℕ). word_of_event (slice_get stream c)) (put.call ∙ same)
        ∙ op_of (spec_of container) stream calls are call has) in
        let effects : Puts item.value ≡ Puts value =
        sym put.value ∙ (ap (effect_of container) word ∙ puts) in
        same_item item item_before same (same_Some item.value value (ap value_put effects)) put.end

    still_open : (item : Item) → IsOpenPut container calls item → item.call ≢ call.call
        → IsOpenPut container more item
    still_open item put apart = record {
      one = put.one;
      is_open = (others put.one).1 (put.is_open, λ same. apart (sym put.call ∙ same));
      call = put.call;
      value = put.value;
      reply = put.reply;
      end = put.end;
    }

    module _ (at left_at : Configuration) (inside taken : List Item)
        (means : MeansBy container calls one inside taken at)
        (without : IsWithout call.call at left_at)
        (there : IsAmong at.placed (record { call = call.call; reply = reply_done })) where
      open_there : (item : Item) → Has (taken ++ inside) item → item.end ≡ None
          → IsOpenPut container calls item
      open_there = open_item container stream calls are one of at inside taken means

      -- an item of the call is the one before it returns
      items_are : (item : Item) → Has (taken ++ inside) item → item.call ≡ call.call
          → item ≡ item_before
      items_are item has_item same = elim (has-cases taken inside item has_item) [
        | inl out ↦ it_is item (taken_open container calls one.taken taken means.outside item out) same
        | inr in_list ↦ elim (means.items item in_list) [
          | inl held ↦ absurd
              (held_apart container stream calls are one of item item_before held it_is_open same)
          | inr put ↦ it_is item put same
        ]
      ]

      -- and it is in the list or taken
      it_is_there : Has (taken ++ inside) item_before
      it_is_there =
          let place : StreamPlace = record { call = call.call; reply = reply_done } in
          elim (means.either place there) [
            | inl placed ↦ absurd (not_put container stream calls are one of place item_before
                (of.placed place placed) it_is_open refl)
            | inr (inl optional) ↦ absurd (not_put container stream calls are one of place item_before
                (of.optional place optional) it_is_open refl)
            | inr (inr (item, has_item, end, is)) ↦ subst (Has (taken ++ inside))
                (items_are item has_item (ap (λ (p : StreamPlace). p.call) is)) has_item
          ]

      -- what is left is meant, where an item stands in the place of that of the call
      module _ (new : Item) (out : List Item) where
        abbrev change : Item → Item
        change = put_for item_before new

        left_means : after.placed ≡ one.placed → after.optional ≡ one.optional
            → new.value ≡ value
            → AreDistinct (map change out ++ map change inside)
            → ((item : Item) → Has after.held item → Has (map change inside) item)
            → ((item : Item) → Has (map change inside) item
            → Has after.held item ⊎ IsOpenPut container more item)
            → AreInOrder container (map change inside)
            → AreTakenAs container more after.taken (map change out)
            → ((item : Item) → Has (map change out ++ map change inside) item → item.end ≡ None
            → Has (taken ++ inside) item × (item.call ≢ call.call))
            → ((item : Item) → Has (taken ++ inside) item → item.call ≢ call.call
            → Has (map change out ++ map change inside) item)
            → MeansBy container more after (map change inside) (map change out) left_at
        left_means placed_is optional_is value_is distinct held items order outside from to = record {
          distinct = distinct;
          held = held;
          items = items;
          order = order;
          outside = outside;
          list = sym without.1 ∙ (means.list ∙ sym (values-same change inside
              (λ item in_list. put_for-value item_before new item (λ same. value_is
              ∙ sym (ap (λ (i : Item). i.value)
              (items_are item (has-right taken inside item in_list) same))))));
          placed = λ place among.
              let was = subst (λ (l : List StreamPlace). IsAmong l place) placed_is among in
              (without.0 place).1 (
                means.placed place was,
                not_put container stream calls are one of place item_before (of.placed place was)
                    it_is_open,
              );
          puts = λ place (item, has_item, end, is).
              let was = from item has_item end in
              (without.0 place).1 (
                means.puts place (item, was.0, end, is),
                subst (λ (p : StreamPlace). p.call ≢ call.call) is was.1,
              );
          either = λ place among.
              let was = (without.0 place).0 among in
              elim (means.either place was.0) [
                | inl placed ↦ inl
                    (subst (λ (l : List StreamPlace). IsAmong l place) (sym placed_is) placed)
                | inr (inl optional) ↦ inr (inl
                    (subst (λ (l : List StreamPlace). IsAmong l place) (sym optional_is) optional))
                | inr (inr (item, has_item, end, is)) ↦ inr (inr (
                  item,
                  to item has_item
                      (λ same. was.1 (sym (ap (λ (p : StreamPlace). p.call) is) ∙ same)),
                  end,
                  is,
                ))
              ];
          once = λ a b first second. means.once a b ((without.0 a).0 first).0
              ((without.0 b).0 second).0;
        }

      -- What a return leaves of the configuration is meant by the description after it.
      pub record IsLeft : Type 0 where
        pub change : Item → Item
        pub same : (item : Item) → Has inside item → (change item).value ≡ item.value
        pub out : List Item
        pub is_meant : MeansBy container more after (map change inside) out left_at

      left_values : (new : Item) → new.value ≡ value
          → (item : Item) → Has inside item → (put_for item_before new item).value ≡ item.value
      left_values new value_is item in_list = put_for-value item_before new item (λ same. value_is
          ∙ sym (ap (λ (i : Item). i.value)
          (items_are item (has-right taken inside item in_list) same)))

      -- the item was one of those that are taken
      module _ (m : TakenPut) (of_it : MayBeOf item_after m)
          (picked : IsPicked one.taken m after.taken)
          (least : (other : TakenPut) → Has one.taken other → MayBeOf item_after other
          → m.bound ≤ other.bound) (held_is : after.held ≡ one.held) where
        s : IsSplit container calls picked.before m picked.after taken
        s = pairs-split container calls picked.before m picked.after taken
            (subst (λ (l : List TakenPut). AreTakenAs container calls l taken) picked.whole
            means.outside)

        abbrev new : Item
        new = s.x

        abbrev f : Item → Item
        f = put_for item_before new

        abbrev out : List Item
        out = s.left ++ s.right

        new_is : new.value ≡ value
        new_is = s.it.value ∙ of_it.0

        new_there : Has (taken ++ inside) new
        new_there = has-left taken inside new
            (subst (λ (l : List Item). Has l new) (sym s.is) (has-there s.left s.right new))

        m_there : Has one.taken m
        m_there = subst (λ (l : List TakenPut). Has l m) (sym picked.whole)
            (has-there picked.before picked.after m)

        rejoined : taken ++ inside ≡ s.left ++ new ∷ (s.right ++ inside)
        rejoined = ap (λ (l : List Item). l ++ inside) s.is
            ∙ append_assoc s.left (new ∷ s.right) inside

        parted : s.left ++ (s.right ++ inside) ≡ out ++ inside
        parted = sym (append_assoc s.left s.right inside)

        all_distinct : AreDistinct (s.left ++ new ∷ (s.right ++ inside))
        all_distinct = subst AreDistinct rejoined means.distinct

        apart_from_new : (item : Item) → Has (out ++ inside) item → item.call ≢ new.call
        apart_from_new item has_item = distinct-new s.left (s.right ++ inside) new all_distinct item
            (subst (λ (l : List Item). Has l item) (sym parted) has_item)

        was_there : (item : Item) → Has (out ++ inside) item → Has (taken ++ inside) item
        was_there item has_item = subst (λ (l : List Item). Has l item) (sym rejoined)
            (has-more s.left (s.right ++ inside) new item
            (subst (λ (l : List Item). Has l item) (sym parted) has_item))

        stays_or_new : (item : Item) → Has (taken ++ inside) item
            → (new ≡ item) ⊎ Has (out ++ inside) item
        stays_or_new item has_item = elim (has-other s.left (s.right ++ inside) new item
            (subst (λ (l : List Item). Has l item) rejoined has_item)) [
              | inl is ↦ inl is
              | inr other ↦ inr (subst (λ (l : List Item). Has l item) parted other)
            ]

        f_other : (item : Item) → item.call ≢ call.call → f item ≡ item
        f_other item apart = put_for-other item_before new item apart

        -- where the item itself stands in the list or is taken of another pair, the new one is another
        new_apart : (item : Item) → Has (out ++ inside) item → item.call ≡ call.call
            → new.call ≢ call.call
        new_apart item has_item same e = apart_from_new item has_item (same ∙ sym e)

        both : map f out ++ map f inside ≡ map f (out ++ inside)
        both = sym (map-both f out inside)

        pub left_taken : after.placed ≡ one.placed → after.optional ≡ one.optional → IsLeft
        left_taken placed_is optional_is = record {
          change = f;
          same = left_values new new_is;
          out = map f out;
          is_meant = left_means new out placed_is optional_is new_is
              (subst AreDistinct (sym both) (distinct-changed item_before new (out ++ inside)
              (subst AreDistinct parted
              (distinct-without s.left (s.right ++ inside) new all_distinct))
              (λ item has_item apart. apart_from_new item has_item)))
              (λ item held.
              let was = subst (λ (l : List Item). Has l item) held_is held in
              subst (Has (map f inside)) (f_other item
              (held_apart container stream calls are one of item item_before was it_is_open))
              (has-map f inside item (means.held item was)))
              (λ item in_list.
              let found = has-from f inside item in_list in
              elim (cases_eq found.0.call call.call) [
                | inl same ↦ inr (subst (IsOpenPut container more)
                    (sym (put_for-old item_before new found.0 same) ∙ found.2)
                    (still_open new s.it.is_open
                    (new_apart found.0 (has-right out inside found.0 found.1) same)))
                | inr apart ↦
                    let is = sym (f_other found.0 apart) ∙ found.2 in
                    elim (means.items found.0 found.1) [
                      | inl held ↦ inl (subst (Has after.held) is
                          (subst (λ (l : List Item). Has l found.0) (sym held_is) held))
                      | inr put ↦ inr (subst (IsOpenPut container more) is
                          (still_open found.0 put apart))
                    ]
              ])
              (order-changed container item_before new inside inside (λ item h. h)
              (distinct-right taken inside means.distinct)
              (λ item in_list same. items_are item (has-right taken inside item in_list) same)
              (record {
                after = λ item in_list must. new_goes container new item_before item
                    s.it.is_open.end new_is must;
                before = λ item in_list must. goes_to_new container one m new item_before item
                    (elim (means.items item in_list) [
                      | inl held ↦ inl held
                      | inr put ↦ inr put.end
                    ]) (of.free m m_there) s.it.before new_is must;
              }) means.order)
              (subst (λ (l : List TakenPut). AreTakenAs container more l (map f out))
              (sym picked.others)
              (pairs-map container calls more f (picked.before ++ picked.after) out
              (pairs-join container calls picked.before picked.after s.left s.right s.first s.last)
              (λ p x has_pair has_x is. elim (cases_eq x.call call.call) [
                | inl same ↦
                    let x_is = it_is x is.is_open same in
                    let p_value : p.value ≡ value =
                    sym is.value ∙ ap (λ (i : Item). i.value) x_is in
                    let le = least p (subst (λ (l : List TakenPut). Has l p) (sym picked.whole)
                    (has-more picked.before picked.after m p has_pair))
                    (p_value, subst (λ (c : ℕ). c < p.bound) same is.before) in
                    subst (IsTakenAs container more p)
                    (sym (put_for-old item_before new x same))
                    (record {
                      is_open = still_open new s.it.is_open
                          (new_apart x (has-left out inside x has_x) same);
                      value = new_is ∙ sym p_value;
                      before = let less = s.it.before in omega (arith, less, le);
                    })
                | inr apart ↦ subst (IsTakenAs container more p) (sym (f_other x apart)) (record {
                  is_open = still_open x is.is_open apart;
                  value = is.value;
                  before = is.before;
                })
              ])))
              (λ item has_item end.
              let found = has-from f (out ++ inside) item
              (subst (λ (l : List Item). Has l item) both has_item) in
              elim (cases_eq found.0.call call.call) [
                | inl same ↦
                    let is = sym (put_for-old item_before new found.0 same) ∙ found.2 in (
                      subst (Has (taken ++ inside)) is new_there,
                      subst (λ (i : Item). i.call ≢ call.call) is
                          (new_apart found.0 found.1 same),
                    )
                | inr apart ↦
                    let is = sym (f_other found.0 apart) ∙ found.2 in (
                      subst (Has (taken ++ inside)) is (was_there found.0 found.1),
                      subst (λ (i : Item). i.call ≢ call.call) is apart,
                    )
              ])
              (λ item has_item apart. subst (λ (l : List Item). Has l item) (sym both)
              (elim (stays_or_new item has_item) [
                | inr other ↦ subst (Has (map f (out ++ inside))) (f_other item apart)
                    (has-map f (out ++ inside) item other)
                | inl is ↦ elim (stays_or_new item_before it_is_there) [
                  | inl same ↦ absurd (apart
                      (ap (λ (i : Item). i.call) (sym is ∙ same)))
                  | inr other ↦ subst (Has (map f (out ++ inside)))
                      (put_for-old item_before new item_before refl ∙ is)
                      (has-map f (out ++ inside) item_before other)
                ]
              ]));
        }

      -- the item is held
      module _ (never : (other : TakenPut) → Has one.taken other → MayBeOf item_after other → ⊥)
          (held_is : after.held ≡ one.held ++ item_after ∷ []) (taken_is : after.taken ≡ one.taken)
        where
          abbrev g : Item → Item
          g = put_for item_before item_after

          g_other : (item : Item) → item.call ≢ call.call → g item ≡ item
          g_other item apart = put_for-other item_before item_after item apart

          not_taken : (item : Item) → Has taken item → item.call ≢ call.call
          not_taken item out same =
              let found = pair_of container calls one.taken taken means.outside item out in
              let is = it_is item found.2.is_open same in
              never found.0 found.1 (
                sym found.2.value ∙ ap (λ (i : Item). i.value) is,
                subst (λ (c : ℕ). c < found.0.bound) same found.2.before,
              )

          it_in_list : Has inside item_before
          it_in_list = elim (has-cases taken inside item_before it_is_there) [
            | inl out ↦ absurd (not_taken item_before out refl)
            | inr in_list ↦ in_list
          ]

          -- an item of the list was called, or has returned, before the stream's end
          early : (item : Item) → Has inside item → item.call < length stream
          early item in_list = elim (means.items item in_list) [
            | inl held ↦ slice_get_within stream item.call _ (of.held item held).returns.called
            | inr put ↦ called_before container stream calls are item put
          ]

          joined : map g taken ++ map g inside ≡ map g (taken ++ inside)
          joined = sym (map-both g taken inside)

          pub left_held : after.placed ≡ one.placed → after.optional ≡ one.optional → IsLeft
          left_held placed_is optional_is = record {
            change = g;
            same = left_values item_after refl;
            out = map g taken;
            is_meant = left_means item_after taken placed_is optional_is refl
                (subst AreDistinct (sym joined) (distinct-changed item_before item_after
                (taken ++ inside) means.distinct (λ item has_item apart. apart)))
                (λ item held. elim (has-cases one.held (item_after ∷ []) item
                (subst (λ (l : List Item). Has l item) held_is held)) [
                  | inl was ↦ subst (Has (map g inside)) (g_other item
                      (held_apart container stream calls are one of item item_before was it_is_open))
                      (has-map g inside item (means.held item was))
                  | inr last ↦ elim (has-cons item_after [] item last) [
                    | inl is ↦ subst (Has (map g inside))
                        (put_for-old item_before item_after item_before refl ∙ is)
                        (has-map g inside item_before it_in_list)
                    | inr none ↦ absurd (has-none item none)
                  ]
                ])
                (λ item in_list.
                let found = has-from g inside item in_list in
                elim (cases_eq found.0.call call.call) [
                  | inl same ↦ inl (subst (λ (l : List Item). Has l item) (sym held_is)
                      (subst (Has (one.held ++ item_after ∷ []))
                      (sym (put_for-old item_before item_after found.0 same) ∙ found.2)
                      (has-there one.held [] item_after)))
                  | inr apart ↦
                      let is = sym (g_other found.0 apart) ∙ found.2 in
                      elim (means.items found.0 found.1) [
                        | inl held ↦ inl (subst (Has after.held) is
                            (subst (λ (l : List Item). Has l found.0) (sym held_is)
                            (has-left one.held (item_after ∷ []) found.0 held)))
                        | inr put ↦ inr (subst (IsOpenPut container more) is
                            (still_open found.0 put apart))
                      ]
                ])
                (order-changed container item_before item_after inside inside (λ item h. h)
                (distinct-right taken inside means.distinct)
                (λ item in_list same. items_are item (has-right taken inside item in_list) same)
                (record {
                  after = λ item in_list must.
                      ended_goes container item_after item_before item (length stream) refl refl
                      (early item in_list) must;
                  before = λ item in_list must.
                      goes_to_same container item item_after item_before refl refl must;
                }) means.order)
                (subst (λ (l : List TakenPut). AreTakenAs container more l (map g taken)) (sym taken_is)
                (pairs-map container calls more g one.taken taken means.outside
                (λ p x has_pair has_x is.
                let apart = not_taken x has_x in
                subst (IsTakenAs container more p) (sym (g_other x apart)) (record {
                  is_open = still_open x is.is_open apart;
                  value = is.value;
                  before = is.before;
                }))))
                (λ item has_item end.
                let found = has-from g (taken ++ inside) item
                (subst (λ (l : List Item). Has l item) joined has_item) in
                elim (cases_eq found.0.call call.call) [
                  | inl same ↦ absurd (none-some (length stream) (sym end
                      ∙ ap (λ (i : Item). i.end)
                      (sym found.2 ∙ put_for-old item_before item_after found.0 same)))
                  | inr apart ↦
                      let is = sym (g_other found.0 apart) ∙ found.2 in (
                        subst (Has (taken ++ inside)) is found.1,
                        subst (λ (i : Item). i.call ≢ call.call) is apart,
                      )
                ])
                (λ item has_item apart. subst (λ (l : List Item). Has l item) (sym joined)
                (subst (Has (map g (taken ++ inside))) (g_other item apart)
                (has-map g (taken ++ inside) item has_item)));
          }

      pub left_by_return : IsPutReturned one item_after after → IsLeft
      left_by_return ret = elim ret.moves [
        | inl (m, of_it, picked, least, held_is) ↦
            left_taken m of_it picked least held_is ret.placed ret.optional
        | inr (never, held_is, taken_is) ↦
            left_held never held_is taken_is ret.placed ret.optional
      ]
