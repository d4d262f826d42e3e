-- Configurations that further takes lead to from one that a description means.
use Rattle.std.proofs.Common.{◌≡◌, ◌≢◌, ◌⊎◌, ◌∙◌, ℕ, suc, ◌<◌, List, [], ◌∷◌, ◌++◌, map, Option, Some, None, refl, sym, ap, subst, inl, inr, append_assoc, append-nil, slice_get}
use Rattle.std.specs.Prelude.{◌↔◌}
use Rattle.std.proofs.lemmas.Bool.{cases_eq}
use Rattle.std.proofs.lemmas.Option.{none-some, same_Some}
use Rattle.legal_orders.specs.Container.{Effect, Puts, Takes, Neither}
use Rattle.streams.specs.Stream.{StreamEvent, IsCalledAt, HasReturned}
use Rattle.streams.specs.StreamOrder.{StreamPlace, IsAmong, word_of_event}
use Rattle.seq_objects.specs.Replies.{reply_done, reply_none, reply_value, reply_bad}
use Rattle.residue_laws.specs.Residue.{Configuration}
use Rattle.residue_laws.specs.Step.{AreAlike, with_place, ArePlaced}
use Rattle.residue_laws.proofs.Appending.{map-both, among-left, among-right, among-cases}
use Rattle.residue_laws.proofs.Placing.{among-cons, among-first, among-later, nothing_among}
use Rattle.late_residue.specs.declared.open_call.OpenCall.{OpenCall}
use Rattle.late_residue.specs.Reached.{Has}
use Rattle.late_residue.specs.Known.{MayHaveReply, IsKnownPlace}
use Rattle.late_residue.specs.LateOnes.{AreOpen}
use Rattle.late_residue.specs.Placing.{AreOf, IsPlacedAt, with_call}
use Rattle.late_residue.proofs.Items.{has-none, has-left, has-right, has-cases, has-cons, has-map}
use Rattle.late_residue.proofs.Meanings.{same_place, among_or_not, names}
use Rattle.late_residue.proofs.Reaching.{op_of}
use Rattle.pool_residue.specs.declared.container.Container.{Container}
use Rattle.pool_residue.specs.declared.container.Container.TheVariants.{Queue, PriorityQueue}
use Rattle.pool_residue.specs.Items.{Item, spec_of, effect_of, MustStandBefore, MayBeFirst, AreInOrder, values_of, list_with}
use Rattle.pool_residue.specs.Description.{Description, IsOpenPut, MeansBy, Means}
use Rattle.pool_residue.specs.Steps.{EndsFirst, IsPlacedTaking}
use Rattle.pool_residue.specs.Pooled.{IsOfStream}
use Rattle.pool_residue.specs.Closing.{Serves, MayFindNothing, IsNeeded, IsTried, AreClosed}
use Rattle.pool_residue.proofs.Objects.{after_put, after_take, after_neither}
use Rattle.pool_residue.proofs.Inserting.{MayBeLast, list_with-order}
use Rattle.pool_residue.proofs.Orders.{order-right}
use Rattle.pool_residue.proofs.Distinct.{distinct-new, distinct-left}
use Rattle.pool_residue.proofs.Relabelling.{values-same, has-from}
use Rattle.pool_residue.proofs.Showing.{IsShown, shown, must_not}
use Rattle.pool_residue.proofs.Needing.{needed_or_not, needed-before, needed-freeing, needed-first, needed-was}
use Rattle.pool_residue.proofs.Moving.{serves_means, place_for_put, put_means, optional_means, moved_means}

-- A take and the item that it takes.
pub record Spent : Type 0 where
  pub take : ℕ
  pub item : Item

abbrev pub spent_items : List Spent → List Item
spent_items spent = map (λ (s : Spent). s.item) spent

abbrev pub spent_place : Spent → StreamPlace
spent_place s = record { call = s.take; reply = reply_value s.item.value }

abbrev pub spent_places : List Spent → List StreamPlace
spent_places spent = map spent_place spent

-- no take takes two items
abbrev pub AreApart : List Spent → Type 0
AreApart [] = Unit {0}
AreApart (first ∷ rest) = ((s : Spent) → Has rest s → s.take ≢ first.take) × AreApart rest

pub apart-last : (spent : List Spent) (last : Spent) → AreApart spent
    → ((s : Spent) → Has spent s → s.take ≢ last.take) → AreApart (spent ++ last ∷ [])
apart-last [] last apart new = (λ s has. absurd (has-none s has), tt)
apart-last (first ∷ rest) last apart new = (
  λ s has. elim (has-cases rest (last ∷ []) s has) [
    | inl here ↦ apart.0 s here
    | inr there ↦ elim (has-cons last [] s there) [
      | inl is ↦ subst (λ (t : Spent). t.take ≢ first.take) is
          (λ same. new first (0, refl) (sym same))
      | inr none ↦ absurd (has-none s none)
    ]
  ],
  apart-last rest last apart.1 (λ s (k, at). new s (suc k, at)),
)

-- all items are needed where a take may find nothing
needs_all : (container : Container) (calls : List OpenCall) (said : Option ℕ) (one : Description)
    (item : Item) → MayFindNothing container calls one
    → IsNeeded container calls said one item
needs_all Queue calls None one item nothing = nothing
needs_all Queue calls (Some value) one item nothing = inl nothing
needs_all PriorityQueue calls said one item nothing = tt

-- all items of a priority queue are needed
all_needed : (container : Container) (calls : List OpenCall) (said : Option ℕ) (one : Description)
    (item : Item) → container ≡ PriorityQueue → IsNeeded container calls said one item
all_needed container calls said one item is =
    subst (λ (c : Container). IsNeeded c calls said one item) (sym is) tt

-- a list without items is empty
none_held : {X : Type 0} (items : List X) → ((item : X) → Has items item → ⊥) → items ≡ []
none_held [] none = refl
none_held (x ∷ items) none = absurd (none x (0, refl))

-- the only one of one
only : {X : Type 0} (x y : X) → Has (x ∷ []) y → x ≡ y
only x y has = elim (has-cons x [] y has) [
  | inl is ↦ is
  | inr none ↦ absurd (has-none y none)
]

-- Where an open item goes into the last items of a list in order.
pub record HasSpot (container : Container) (first rest : List Item) (x : Item) : Type 0 where
  pub left : List Item
  pub right : List Item
  pub is : rest ≡ left ++ right
  pub whole : AreInOrder container (first ++ (left ++ x ∷ right))
  pub last : MayBeLast container right

-- in a queue an item goes to the end, and in a priority queue to its place where nothing is first
spot_for : (container : Container) (first rest : List Item) (x : Item) → x.end ≡ None
    → (container ≡ PriorityQueue → first ≡ []) → AreInOrder container (first ++ rest)
    → HasSpot container first rest x
spot_for Queue first rest x open_end none order =
    let place = place_for_put Queue (first ++ rest) x open_end order in
    record {
      left = rest;
      right = [];
      is = sym (append-nil rest);
      whole = subst (AreInOrder Queue)
          (ap (λ (l : List Item). l ++ x ∷ [])
          (sym (append-nil place.left) ∙ (ap (λ (r : List Item). place.left ++ r) (sym place.last)
          ∙ sym place.is))
          ∙ append_assoc first rest (x ∷ []))
          (subst (λ (r : List Item). AreInOrder Queue (place.left ++ x ∷ r)) place.last place.order);
      last = refl;
    }
spot_for PriorityQueue first rest x open_end none order =
    let empty = none refl in
    let place = place_for_put PriorityQueue rest x open_end
    (subst (λ (l : List Item). AreInOrder PriorityQueue (l ++ rest)) empty order) in
    record {
      left = place.left;
      right = place.right;
      is = place.is;
      whole = subst (λ (l : List Item).
          AreInOrder PriorityQueue (l ++ (place.left ++ x ∷ place.right))) (sym empty) place.order;
      last = place.last;
    }

-- a take of an item in the place of another one
abbrev with_item : (Item → Item) → Spent → Spent
with_item change s = record { take = s.take; item = change s.item }

items-again : (change : Item → Item) (spent : List Spent)
    → map change (spent_items spent) ≡ spent_items (map (with_item change) spent)
items-again change [] = refl
items-again change (s ∷ spent) =
    ap (λ (l : List Item). change s.item ∷ l) (items-again change spent)

places-again : (change : Item → Item) (spent : List Spent)
    → ((s : Spent) → Has spent s → (change s.item).value ≡ s.item.value)
    → spent_places (map (with_item change) spent) ≡ spent_places spent
places-again change [] same = refl
places-again change (s ∷ spent) same =
    ap (λ (v : ℕ). record { call = s.take; reply = reply_value v }
    ∷ spent_places (map (with_item change) spent)) (same s (0, refl))
    ∙ ap (λ (l : List StreamPlace). spent_place s ∷ l)
    (places-again change spent (λ t (k, at). same t (suc k, at)))

apart-again : (change : Item → Item) (spent : List Spent) → AreApart spent
    → AreApart (map (with_item change) spent)
apart-again change [] apart = tt
apart-again change (s ∷ spent) apart = (
  λ t has_t.
      let found = has-from (with_item change) spent t has_t in
      subst (λ (u : Spent). u.take ≢ s.take) found.2 (apart.0 found.0 found.1),
  apart-again change spent apart.1,
)

module _ (container : Container) (stream : List StreamEvent) (calls : List OpenCall)
    (are : AreOpen stream calls) where
  -- A take that is open isn't placed at a configuration, and may show its item.
  pub record IsTaking (from : Configuration) (s : Spent) : Type 0 where
    pub call : OpenCall
    pub is_open : Has calls call
    pub is : call.call ≡ s.take
    pub takes : effect_of container call.op ≡ Takes
    pub reply : MayHaveReply call (reply_value s.item.value)
    pub unplaced : IsPlacedAt from s.take → ⊥

  -- takes of the first items of the list may be placed one after another
  pub leads_on : (spent : List Spent) (rest : List Item) (from at : Configuration)
      → from.list ≡ values_of (spent_items spent ++ rest) → at.list ≡ values_of rest
      → ((p : StreamPlace) → (IsAmong at.placed p
      ↔ IsAmong from.placed p ⊎ IsAmong (spent_places spent) p))
      → ((s : Spent) → Has spent s → IsTaking from s) → AreApart spent
      → ArePlaced (spec_of container).next stream from (spent_places spent) at
  leads_on [] rest from at list after placed taking apart = (
    λ p. (
      λ among. (placed p).1 (inl among),
      λ among. elim ((placed p).0 among) [
        | inl old ↦ old
        | inr none ↦ absurd (nothing_among p none)
      ],
    ),
    list ∙ sym after,
  )
  leads_on (s ∷ more) rest from at list after placed taking apart =
      let t = taking s (0, refl) in
      let place = spent_place s in
      let word : word_of_event (slice_get stream s.take) ≡ t.call.op =
      ap (λ (c : ℕ). word_of_event (slice_get stream c)) (sym t.is)
      ∙ op_of (spec_of container) stream calls are t.call t.is_open in
      let left : List Item = spent_items more ++ rest in
      let step : (spec_of container).next from.list (word_of_event (slice_get stream s.take))
      ≡ (values_of left, reply_value s.item.value) =
      ap ((spec_of container).next from.list) word
      ∙ (ap (λ (l : List ℕ). (spec_of container).next l t.call.op) list
      ∙ after_take container t.call.op (s.item.value ∷ values_of left) t.takes) in
      let event = are.called t.call t.is_open in (
        record {
          call = (
            t.call.process,
            t.call.op,
            subst (λ (c : ℕ). IsCalledAt stream c t.call.process t.call.op) t.is event,
          );
          pending = λ returned. are.pending t.call t.is_open
              (subst (HasReturned stream) (sym t.is) returned);
          unplaced = λ other among same. t.unplaced (names from.placed other s.take same among);
          reply = ap (λ (r : List ℕ × ℕ). r.1) step;
        },
        leads_on more rest (with_place (spec_of container).next stream from place) at
            (ap (λ (r : List ℕ × ℕ). r.0) step) after
            (λ p. (
              λ among. elim ((placed p).0 among) [
                | inl old ↦ inl (among-later place from.placed p old)
                | inr new ↦ elim (among-cons place (spent_places more) p new) [
                  | inl is ↦ inl (among-first place from.placed p is)
                  | inr later ↦ inr later
                ]
              ],
              λ either. elim either [
                | inl among ↦ elim (among-cons place from.placed p among) [
                  | inl is ↦ (placed p).1 (inr (among-first place (spent_places more) p is))
                  | inr old ↦ (placed p).1 (inl old)
                ]
                | inr later ↦ (placed p).1 (inr (among-later place (spent_places more) p later))
              ],
            ))
            (λ u (k, has).
            let other = taking u (suc k, has) in
            record {
              call = other.call;
              is_open = other.is_open;
              is = other.is;
              takes = other.takes;
              reply = other.reply;
              unplaced = λ (reply, among). elim (among-cons place from.placed _ among) [
                | inl is ↦ apart.0 u (k, has) (sym (ap (λ (p : StreamPlace). p.call) is))
                | inr old ↦ other.unplaced (reply, old)
              ];
            })
            apart.1,
      )

  module _ (returning : ℕ) (said : Option ℕ) (ones : List Description)
      (of : (one : Description) → Has ones one → IsOfStream container stream one)
      (closed : AreClosed container stream calls returning said ones) where
    -- A configuration is ahead of a description: takes that need not be placed lead to it from one
    -- that the description means.
    pub record IsAhead (one : Description) (at : Configuration) : Type 0 where
      pub from : Configuration
      pub spent : List Spent
      pub rest : List Item
      pub out : List Item
      pub means : MeansBy container calls one (spent_items spent ++ rest) out from
      pub list : at.list ≡ values_of rest
      pub placed : (p : StreamPlace) → (IsAmong at.placed p
          ↔ IsAmong from.placed p ⊎ IsAmong (spent_places spent) p)
      pub taking : (s : Spent) → Has spent s → IsTaking from s
      pub other : (s : Spent) → Has spent s → s.take ≢ returning
      pub spare : (s : Spent) → Has spent s → IsNeeded container calls said one s.item → ⊥
      pub apart : AreApart spent

    abbrev pub IsAheadOf : Configuration → Type 0
    IsAheadOf at = (one : Description) × Has ones one × IsAhead one at

    -- a configuration that a description means is ahead of it
    pub begins : (one : Description) (at : Configuration) → Means container calls one at
        → IsAhead one at
    begins one at (inside, taken, means) = record {
      from = at;
      spent = [];
      rest = inside;
      out = taken;
      means = means;
      list = means.list;
      placed = λ p. (
        λ among. inl among,
        λ either. elim either [
          | inl among ↦ among
          | inr none ↦ absurd (nothing_among p none)
        ],
      );
      taking = λ s has. absurd (has-none s has);
      other = λ s has. absurd (has-none s has);
      spare = λ s has. absurd (has-none s has);
      apart = tt;
    }

    module _ (one : Description) (has_one : Has ones one) (at : Configuration)
        (a : IsAhead one at) (call : OpenCall) (has : Has calls call)
        (lacks : IsPlacedAt at call.call → ⊥) where
      abbrev items : List Item
      items = spent_items a.spent

      -- the call isn't placed before the takes
      lacks_before : IsPlacedAt a.from call.call → ⊥
      lacks_before (reply, among) = lacks (reply, (a.placed _).1 (inl among))

      -- nor is it one of them
      not_spent : (s : Spent) → Has a.spent s → s.take ≢ call.call
      not_spent s has_s same = lacks (
        reply_value s.item.value,
        (a.placed _).1 (inr (subst (λ (c : ℕ). IsAmong (spent_places a.spent)
            (record { call = c; reply = reply_value s.item.value })) same
            (has-map spent_place a.spent s has_s))),
      )

      unplaced : AreOf one.placed call.call → ⊥
      unplaced (reply, among) = lacks_before (reply, a.means.placed _ among)

      -- the same takes, after one more call is placed before them
      still_taking : (it : StreamPlace) → it.call ≡ call.call → (list : List ℕ) → (s : Spent)
          → Has a.spent s
          → IsTaking (record { placed = it ∷ a.from.placed; list = list }) s
      still_taking it is list s has_s =
          let t = a.taking s has_s in
          record {
            call = t.call;
            is_open = t.is_open;
            is = t.is;
            takes = t.takes;
            reply = t.reply;
            unplaced = λ (reply, among). elim (among-cons it a.from.placed _ among) [
              | inl same ↦ not_spent s has_s
                  (sym (ap (λ (p : StreamPlace). p.call) same) ∙ is)
              | inr old ↦ t.unplaced (reply, old)
            ];
          }

      -- the places after one more call is placed before the takes
      places_with : (it : StreamPlace) (p : StreamPlace) → (IsAmong (it ∷ at.placed) p
          ↔ IsAmong (it ∷ a.from.placed) p ⊎ IsAmong (spent_places a.spent) p)
      places_with it p = (
        λ among. elim (among-cons it at.placed p among) [
          | inl is ↦ inl (among-first it a.from.placed p is)
          | inr old ↦ elim ((a.placed p).0 old) [
            | inl early ↦ inl (among-later it a.from.placed p early)
            | inr spent ↦ inr spent
          ]
        ],
        λ either. elim either [
          | inl among ↦ elim (among-cons it a.from.placed p among) [
            | inl is ↦ among-first it at.placed p is
            | inr early ↦ among-later it at.placed p ((a.placed p).1 (inl early))
          ]
          | inr spent ↦ among-later it at.placed p ((a.placed p).1 (inr spent))
        ],
      )

      -- ---- an optional call

      optional_step : (reply : ℕ)
          → IsAmong one.optional (record { call = call.call; reply = reply })
          → IsAhead one (record {
            placed = record { call = call.call; reply = reply } ∷ at.placed;
            list = at.list;
          })
      optional_step reply optional =
          let it : StreamPlace = record { call = call.call; reply = reply } in
          record {
            from = record { placed = it ∷ a.from.placed; list = a.from.list };
            spent = a.spent;
            rest = a.rest;
            out = a.out;
            means = optional_means container stream calls are one (of one has_one) it optional
                (items ++ a.rest) a.out a.from a.means lacks_before;
            list = a.list;
            placed = places_with it;
            taking = still_taking it refl a.from.list;
            other = a.other;
            spare = a.spare;
            apart = a.apart;
          }

      -- a take that finds nothing is optional
      none_optional : effect_of container call.op ≡ Takes → MayHaveReply call reply_none
          → a.rest ≡ [] → IsAmong one.optional (record { call = call.call; reply = reply_none })
      none_optional takes may empty =
          let it : StreamPlace = record { call = call.call; reply = reply_none } in
          elim (among_or_not one.optional it) [
            | inl there ↦ there
            | inr none ↦
                let nothing : MayFindNothing container calls one = record {
                  call = call;
                  is_open = has;
                  takes = takes;
                  reply = may;
                  unplaced = unplaced;
                  required = none;
                } in
                let no_spent : (s : Spent) → Has a.spent s → ⊥ = λ s has_s.
                a.spare s has_s (needs_all container calls said one s.item nothing) in
                let no_item : (item : Item) → Has (items ++ a.rest) item → ⊥ = λ item has_item.
                elim (has-cases items a.rest item has_item) [
                  | inl spent ↦
                      let found = has-from (λ (s : Spent). s.item) a.spent item spent in
                      no_spent found.0 found.1
                  | inr later ↦ has-none item
                      (subst (λ (l : List Item). Has l item) empty later)
                ] in
                closed.found_none one has_one
                (none_held one.held (λ item held. no_item item (a.means.held item held)))
                call has takes unplaced may
          ]

      -- ---- a put

      put_step : (value : ℕ) → effect_of container call.op ≡ Puts value
          → MayHaveReply call reply_done
          → IsAhead one (with_call (spec_of container).next at call)
      put_step value puts may =
          let x : Item = record { call = call.call; value = value; end = None } in
          let put : IsOpenPut container calls x = record {
            one = call;
            is_open = has;
            call = refl;
            value = puts;
            reply = may;
            end = refl;
          } in
          let place = spot_for container items a.rest x refl
          (λ is. ap spent_items (none_held a.spent
          (λ s has_s. a.spare s has_s (all_needed container calls said one s.item is))))
          a.means.order in
          let it : StreamPlace = record { call = call.call; reply = reply_done } in
          let step : (spec_of container).next at.list call.op
          ≡ (list_with container at.list value, reply_done) =
          after_put container call.op value at.list puts in
          let rest : List Item = place.left ++ x ∷ place.right in
          let same_rest : items ++ a.rest ≡ (items ++ place.left) ++ place.right =
          ap (λ (l : List Item). items ++ l) place.is
          ∙ sym (append_assoc items place.left place.right) in
          let whole : (items ++ place.left) ++ x ∷ place.right ≡ items ++ rest =
          append_assoc items place.left (x ∷ place.right) in
          let meant = put_means container stream calls are one (of one has_one) x put
          (items ++ place.left) place.right a.out a.from
          (subst (λ (l : List Item). MeansBy container calls one l a.out a.from) same_rest a.means)
          lacks_before (subst (AreInOrder container) (sym whole) place.whole) in
          record {
            from = record { placed = it ∷ a.from.placed; list = values_of (items ++ rest) };
            spent = a.spent;
            rest = rest;
            out = a.out;
            means = subst (λ (l : List Item). MeansBy container calls one l a.out
                (record { placed = it ∷ a.from.placed; list = values_of l })) whole meant;
            list = ap (λ (r : List ℕ × ℕ). r.0) step
                ∙ (ap (λ (l : List ℕ). list_with container l value)
                (a.list ∙ ap values_of place.is)
                ∙ list_with-order container place.left x place.right place.last
                (order-right container items rest place.whole));
            placed = λ p. subst (λ (q : StreamPlace). (IsAmong (q ∷ at.placed) p
                ↔ IsAmong (it ∷ a.from.placed) p ⊎ IsAmong (spent_places a.spent) p))
                (ap (λ (r : ℕ). record { call = call.call; reply = r })
                (sym (ap (λ (r : List ℕ × ℕ). r.1) step))) (places_with it p);
            taking = still_taking it refl (values_of (items ++ rest));
            other = a.other;
            spare = a.spare;
            apart = a.apart;
          }

      -- ---- a take that shows an item

      -- a take that need not be placed comes after the others
      spare_step : (x : Item) (rest : List Item) → a.rest ≡ x ∷ rest
          → effect_of container call.op ≡ Takes → MayHaveReply call (reply_value x.value)
          → call.call ≢ returning → (IsNeeded container calls said one x → ⊥)
          → IsAhead one (record {
            placed = record { call = call.call; reply = reply_value x.value } ∷ at.placed;
            list = values_of rest;
          })
      spare_step x rest is takes may other_call spare =
          let s : Spent = record { take = call.call; item = x } in
          let it : StreamPlace = spent_place s in
          let same : items ++ a.rest ≡ spent_items (a.spent ++ s ∷ []) ++ rest =
          ap (λ (l : List Item). items ++ l) is
          ∙ (sym (append_assoc items (x ∷ []) rest)
          ∙ ap (λ (l : List Item). l ++ rest)
          (sym (map-both (λ (t : Spent). t.item) a.spent (s ∷ [])))) in
          let more : spent_places (a.spent ++ s ∷ []) ≡ spent_places a.spent ++ it ∷ [] =
          map-both spent_place a.spent (s ∷ []) in
          record {
            from = a.from;
            spent = a.spent ++ s ∷ [];
            rest = rest;
            out = a.out;
            means = subst (λ (l : List Item). MeansBy container calls one l a.out a.from) same
                a.means;
            list = refl;
            placed = λ p. (
              λ among. elim (among-cons it at.placed p among) [
                | inl same_place ↦ inr (subst (λ (l : List StreamPlace). IsAmong l p) (sym more)
                    (among-right (spent_places a.spent) (it ∷ []) p
                    (among-first it [] p same_place)))
                | inr old ↦ elim ((a.placed p).0 old) [
                  | inl early ↦ inl early
                  | inr spent ↦ inr (subst (λ (l : List StreamPlace). IsAmong l p) (sym more)
                      (among-left (spent_places a.spent) (it ∷ []) p spent))
                ]
              ],
              λ either. elim either [
                | inl early ↦ among-later it at.placed p ((a.placed p).1 (inl early))
                | inr spent ↦ elim (among-cases (spent_places a.spent) (it ∷ []) p
                    (subst (λ (l : List StreamPlace). IsAmong l p) more spent)) [
                      | inl old ↦ among-later it at.placed p ((a.placed p).1 (inr old))
                      | inr last ↦ elim (among-cons it [] p last) [
                        | inl same_place ↦ among-first it at.placed p same_place
                        | inr none ↦ absurd (nothing_among p none)
                      ]
                    ]
              ],
            );
            taking = λ t has_t. elim (has-cases a.spent (s ∷ []) t has_t) [
              | inl old ↦ a.taking t old
              | inr last ↦ subst (IsTaking a.from) (only s t last) (record {
                call = call;
                is_open = has;
                is = refl;
                takes = takes;
                reply = may;
                unplaced = lacks_before;
              })
            ];
            other = λ t has_t. elim (has-cases a.spent (s ∷ []) t has_t) [
              | inl old ↦ a.other t old
              | inr last ↦ subst (λ (u : Spent). u.take ≢ returning) (only s t last) other_call
            ];
            spare = λ t has_t. elim (has-cases a.spent (s ∷ []) t has_t) [
              | inl old ↦ a.spare t old
              | inr last ↦ subst
                  (λ (u : Spent). IsNeeded container calls said one u.item → ⊥) (only s t last) spare
            ];
            apart = apart-last a.spent s a.apart (λ t has_t. not_spent t has_t);
          }

      tried_here : (x : Item) (rest : List Item) (after other : Description) → Has ones other
          → (taking : IsPlacedTaking container stream calls one call.call x.value after)
          → Serves other after
          → IsShown container stream calls are one after (of one has_one) call x.value taking x
          (items ++ rest) (record {
            placed = a.from.placed;
            list = values_of (x ∷ (items ++ rest));
          })
          → a.rest ≡ x ∷ rest → effect_of container call.op ≡ Takes
          → MayHaveReply call (reply_value x.value)
          → ((y : Item) → y.value ≡ x.value → (x.end ≡ None) ⊎ EndsFirst y x
          → (IsNeeded container calls said one y → ⊥)
          → IsNeeded container calls said one x → ⊥)
          → IsAheadOf (record {
            placed = record { call = call.call; reply = reply_value x.value } ∷ at.placed;
            list = values_of rest;
          })
      tried_here x rest after other has_other taking serves s is takes may first =
          let it : StreamPlace = record { call = call.call; reply = reply_value x.value } in
          let spent : List Spent = map (with_item s.change) a.spent in
          let rest_items : List Item = map s.change rest in
          let whole : map s.change (items ++ rest) ≡ spent_items spent ++ rest_items =
          map-both s.change items rest
          ∙ ap (λ (l : List Item). l ++ rest_items) (items-again s.change a.spent) in
          let value_is : (t : Spent) → Has a.spent t → (s.change t.item).value ≡ t.item.value =
          λ t has_t. s.same t.item (has-left items rest t.item
          (has-map (λ (u : Spent). u.item) a.spent t has_t)) in
          let same_places : spent_places spent ≡ spent_places a.spent =
          places-again s.change a.spent value_is in (
            other,
            has_other,
            record {
              from = record {
                placed = it ∷ a.from.placed;
                list = values_of (map s.change (items ++ rest));
              };
              spent = spent;
              rest = rest_items;
              out = s.out;
              means = subst (λ (l : List Item). MeansBy container calls other l s.out (record {
                placed = it ∷ a.from.placed;
                list = values_of (map s.change (items ++ rest));
              })) whole (serves_means container calls other after serves
                  (map s.change (items ++ rest)) s.out _ s.means);
              list = sym (values-same s.change rest
                  (λ item has_item. s.same item (has-right items rest item has_item)));
              placed = λ p. subst (λ (l : List StreamPlace). (IsAmong (it ∷ at.placed) p
                  ↔ IsAmong (it ∷ a.from.placed) p ⊎ IsAmong l p)) (sym same_places)
                  (places_with it p);
              taking = λ t has_t.
                  let found = has-from (with_item s.change) a.spent t has_t in
                  subst (IsTaking (record {
                    placed = it ∷ a.from.placed;
                    list = values_of (map s.change (items ++ rest));
                  })) found.2
                  (let old = still_taking it refl (values_of (map s.change (items ++ rest)))
                  found.0 found.1 in
                  record {
                    call = old.call;
                    is_open = old.is_open;
                    is = old.is;
                    takes = old.takes;
                    reply = subst (λ (v : ℕ). MayHaveReply old.call (reply_value v))
                        (sym (value_is found.0 found.1)) old.reply;
                    unplaced = old.unplaced;
                  });
              other = λ t has_t.
                  let found = has-from (with_item s.change) a.spent t has_t in
                  subst (λ (u : Spent). u.take ≢ returning) found.2 (a.other found.0 found.1);
              spare = λ t has_t needed.
                  let found = has-from (with_item s.change) a.spent t has_t in
                  let was = needed-was container stream calls one after other call.call x.value
                  taking serves said (s.change found.0.item)
                  (subst (λ (u : Spent). IsNeeded container calls said other u.item) (sym found.2)
                  needed) in
                  elim (s.later found.0.item (has-left items rest found.0.item
                  (has-map (λ (u : Spent). u.item) a.spent found.0 found.1))) [
                    | inl unchanged ↦ a.spare found.0 found.1
                        (subst (IsNeeded container calls said one) unchanged was)
                    | inr (is_x, ends) ↦ first found.0.item
                        (sym (value_is found.0 found.1)
                        ∙ ap (λ (i : Item). i.value) is_x) ends (a.spare found.0 found.1)
                        (subst (IsNeeded container calls said one) is_x was)
                  ];
              apart = apart-again s.change a.spent a.apart;
            },
          )

      -- a take that was tried takes the first item before the others, which need not be placed
      tried_step : (x : Item) (rest : List Item) → a.rest ≡ x ∷ rest
          → effect_of container call.op ≡ Takes → MayHaveReply call (reply_value x.value)
          → ((s : Spent) → Has a.spent s → MustStandBefore container s.item x → ⊥)
          → ((y : Item) → y.value ≡ x.value → (x.end ≡ None) ⊎ EndsFirst y x
          → (IsNeeded container calls said one y → ⊥)
          → IsNeeded container calls said one x → ⊥)
          → IsTried container stream calls ones one call x.value
          → IsAheadOf (record {
            placed = record { call = call.call; reply = reply_value x.value } ∷ at.placed;
            list = values_of rest;
          })
      tried_step x rest is takes may free first tried =
          let split : items ++ a.rest ≡ items ++ x ∷ rest = ap (λ (l : List Item). items ++ l) is in
          let meant = subst (λ (l : List Item). MeansBy container calls one l a.out a.from) split
          a.means in
          let none_before : MayBeFirst container items x = λ item has_item.
          let found = has-from (λ (s : Spent). s.item) a.spent item has_item in
          subst (λ (i : Item). MustStandBefore container i x → ⊥) found.2
          (free found.0 found.1) in
          let moved = moved_means container stream calls are one (of one has_one) items rest a.out x
          a.from meant none_before in
          let before : Configuration =
          record { placed = a.from.placed; list = values_of (x ∷ (items ++ rest)) } in
          let x_may_be : Has one.held x ⊎ IsOpenPut container calls x = moved.items x (0, refl) in
          let x_first : MayBeFirst container one.held x = λ other held must.
          elim (has-cons x (items ++ rest) other (moved.held other held)) [
            | inl same ↦
                let there = subst (Has one.held) (sym same) held in
                let it = (of one has_one).held x there in
                must_not container x it.ended it.end it.returns.after
                (subst (λ (i : Item). MustStandBefore container i x) (sym same) must)
            | inr later ↦ moved.order.0 other later must
          ] in
          elim tried [
            | inl (after, taking, (other, has_other, serves)) ↦ tried_here x rest after other
                has_other taking serves
                (shown container stream calls are one after (of one has_one) call x.value taking
                before a.out (items ++ rest) x moved lacks_before refl) is takes may first
            | inr cant ↦ absurd (elim x_may_be [
              | inl held ↦ cant.none_held x (held, refl, x_first)
              | inr put ↦ cant.none_open x put refl x_first a.out (
                λ item out. distinct-new a.out (items ++ rest) x moved.distinct item
                    (has-left a.out (items ++ rest) item out),
                distinct-left a.out (x ∷ (items ++ rest)) moved.distinct,
              ) moved.outside
            ])
          ]

      -- ---- any call

      -- an item that has returned was called before
      ends_after : (x : Item) → Has one.held x ⊎ IsOpenPut container calls x → (end : ℕ)
          → x.end ≡ Some end → x.call < end
      ends_after x either end ended = elim either [
        | inl held ↦
            let it = (of one has_one).held x held in
            subst (λ (e : ℕ). x.call < e) (same_Some it.ended end (sym it.end ∙ ended))
            it.returns.after
        | inr put ↦ absurd (none-some end (sym put.end ∙ ended))
      ]

      same_at : {list : List ℕ} {reply : ℕ}
          → (spec_of container).next at.list call.op ≡ (list, reply)
          → record {
            placed = record { call = call.call; reply = reply } ∷ at.placed;
            list = list;
          } ≡ with_call (spec_of container).next at call
      same_at step = ap (λ (r : List ℕ × ℕ). record {
        placed = record { call = call.call; reply = r.1 } ∷ at.placed;
        list = r.0;
      }) (sym step)

      take_step : (rest : List Item) → a.rest ≡ rest → effect_of container call.op ≡ Takes
          → (reply : ℕ) → ((spec_of container).next at.list call.op).1 ≡ reply
          → MayHaveReply call reply
          → (call.call ≡ returning → (item : Item) → reply ≡ reply_value item.value
          → Has one.held item ⊎ IsOpenPut container calls item → said ≡ Some item.value)
          → IsAheadOf (with_call (spec_of container).next at call)
      take_step [] is takes reply gives may aims =
          let list_is : at.list ≡ [] = a.list ∙ ap values_of is in
          let step : (spec_of container).next at.list call.op ≡ (at.list, reply_none) =
          ap (λ (l : List ℕ). (spec_of container).next l call.op) list_is
          ∙ (after_take container call.op [] takes
          ∙ ap (λ (l : List ℕ). (l, reply_none)) (sym list_is)) in
          let none : reply ≡ reply_none = sym gives ∙ ap (λ (r : List ℕ × ℕ). r.1) step in (
            one,
            has_one,
            subst (IsAhead one) (same_at step)
                (optional_step reply_none
                (none_optional takes (subst (MayHaveReply call) none may) is)),
          )
      take_step (x ∷ rest) is takes reply gives may aims =
          let list_is : at.list ≡ values_of (x ∷ rest) = a.list ∙ ap values_of is in
          let step : (spec_of container).next at.list call.op
          ≡ (values_of rest, reply_value x.value) =
          ap (λ (l : List ℕ). (spec_of container).next l call.op) list_is
          ∙ after_take container call.op (values_of (x ∷ rest)) takes in
          let shows : reply ≡ reply_value x.value =
          sym gives ∙ ap (λ (r : List ℕ × ℕ). r.1) step in
          let may_show = subst (MayHaveReply call) shows may in
          let x_there : Has one.held x ⊎ IsOpenPut container calls x = a.means.items x
          (has-right items a.rest x (subst (λ (l : List Item). Has l x) (sym is) (0, refl))) in
          let back : IsAheadOf (record {
            placed = record { call = call.call; reply = reply_value x.value } ∷ at.placed;
            list = values_of rest;
          }) → IsAheadOf (with_call (spec_of container).next at call) =
          λ (other, has_other, ahead).
          (other, has_other, subst (IsAhead other) (same_at step) ahead) in
          elim (cases_eq call.call returning) [
            | inl returns ↦
                let aim = aims returns x shows x_there in
                back (tried_step x rest is takes may_show
                (λ s has_s must. a.spare s has_s
                (needed-freeing container calls said one s.item x aim x_there must))
                (λ y same ends spare needed. spare
                (needed-first container calls said one y x same ends needed))
                (closed.tried one has_one call has takes unplaced x x_there may_show
                (inl (returns, aim))))
            | inr apart ↦ elim (needed_or_not container calls said one x) [
              | inl needed ↦ back (tried_step x rest is takes may_show
                  (λ s has_s must. a.spare s has_s
                  (needed-before container calls said one s.item x
                  (ends_after x x_there) must needed))
                  (λ y same ends spare x_needed. spare
                  (needed-first container calls said one y x same ends x_needed))
                  (closed.tried one has_one call has takes unplaced x x_there may_show (inr needed)))
              | inr spare ↦ back
                  (one, has_one, spare_step x rest is takes may_show apart spare)
            ]
          ]

      effect_step : (effect : Effect) → effect_of container call.op ≡ effect → (reply : ℕ)
          → ((spec_of container).next at.list call.op).1 ≡ reply → MayHaveReply call reply
          → (call.call ≡ returning → (item : Item) → reply ≡ reply_value item.value
          → Has one.held item ⊎ IsOpenPut container calls item → said ≡ Some item.value)
          → IsAheadOf (with_call (spec_of container).next at call)
      effect_step (Puts value) is reply gives may aims =
          let step = after_put container call.op value at.list is in (
            one,
            has_one,
            put_step value is
                (subst (MayHaveReply call) (sym gives ∙ ap (λ (r : List ℕ × ℕ). r.1) step) may),
          )
      effect_step Neither is reply gives may aims =
          let step = after_neither container call.op at.list is in
          let bad : reply ≡ reply_bad = sym gives ∙ ap (λ (r : List ℕ × ℕ). r.1) step in (
            one,
            has_one,
            subst (IsAhead one) (same_at step)
                (optional_step reply_bad
                (closed.unknown one has_one call has is unplaced (subst (MayHaveReply call) bad may))),
          )
      effect_step Takes is reply gives may aims = take_step a.rest refl is reply gives may aims

      -- a call that may be placed leads on
      pub call_step : (reply : ℕ) → ((spec_of container).next at.list call.op).1 ≡ reply
          → MayHaveReply call reply
          → (call.call ≡ returning → (item : Item) → reply ≡ reply_value item.value
          → Has one.held item ⊎ IsOpenPut container calls item → said ≡ Some item.value)
          → IsAheadOf (with_call (spec_of container).next at call)
      call_step reply gives may aims = effect_step (effect_of container call.op) refl reply gives may
          aims

    -- a configuration that is alike to one that is ahead is ahead
    ahead-alike : (one : Description) (from at : Configuration) → AreAlike from at
        → IsAhead one from → IsAhead one at
    ahead-alike one from at alike a = record {
      from = a.from;
      spent = a.spent;
      rest = a.rest;
      out = a.out;
      means = a.means;
      list = sym alike.1 ∙ a.list;
      placed = λ p. (
        λ among. (a.placed p).0 ((alike.0 p).1 among),
        λ either. (alike.0 p).0 ((a.placed p).1 either),
      );
      taking = a.taking;
      other = a.other;
      spare = a.spare;
      apart = a.apart;
    }

    -- calls that are placed one after another lead on, where each has a reply that it may have
    pub ahead_on : (rest : List StreamPlace) (from at : Configuration)
        → ArePlaced (spec_of container).next stream from rest at → IsAheadOf from
        → ((place : StreamPlace) → IsAmong rest place → IsKnownPlace calls place)
        → ((place : StreamPlace) → IsAmong rest place → place.call ≡ returning
        → (one : Description) → Has ones one → (item : Item)
        → place.reply ≡ reply_value item.value
        → Has one.held item ⊎ IsOpenPut container calls item → said ≡ Some item.value)
        → IsAheadOf at
    ahead_on [] from at alike (one, has_one, a) known aims =
        (one, has_one, ahead-alike one from at alike a)
    ahead_on (z ∷ rest) from at (may, later) (one, has_one, a) known aims =
        let found = are.whole z.call may.call may.pending in
        let call = found.0 in
        let has = found.1 in
        let same : call.call ≡ z.call = found.2 in
        let word : word_of_event (slice_get stream z.call) ≡ call.op =
        ap (λ (c : ℕ). word_of_event (slice_get stream c)) (sym same)
        ∙ op_of (spec_of container) stream calls are call has in
        let gives : ((spec_of container).next from.list call.op).1 ≡ z.reply =
        ap (λ (w : ℕ). ((spec_of container).next from.list w).1) (sym word) ∙ may.reply in
        let step = call_step one has_one from a call has
        (λ (reply, among). may.unplaced _ among same) z.reply gives
        (known z (0, refl) call has same)
        (λ returns item shows there.
        aims z (0, refl) (sym same ∙ returns) one has_one item shows there) in
        let equal : with_call (spec_of container).next from call
        ≡ with_place (spec_of container).next stream from z =
        ap (λ (p : StreamPlace). record {
          placed = p ∷ from.placed;
          list = ((spec_of container).next from.list call.op).0;
        }) (same_place (record {
          call = call.call;
          reply = ((spec_of container).next from.list call.op).1;
        }) z same gives)
        ∙ ap (λ (w : ℕ). record {
          placed = z ∷ from.placed;
          list = ((spec_of container).next from.list w).0;
        }) (sym word) in
        ahead_on rest (with_place (spec_of container).next stream from z) at later
        (step.0, step.1, subst (IsAhead step.0) equal step.2)
        (λ place (k, among). known place (suc k, among))
        (λ place (k, among). aims place (suc k, among))

    -- a configuration that is ahead of a description is one to which takes lead from what it means,
    -- at which a call that returns is placed as there
    pub ahead_means : (one : Description) (at : Configuration) → (a : IsAhead one at)
        → Means container calls one a.from
        × ArePlaced (spec_of container).next stream a.from (spent_places a.spent) at
    ahead_means one at a = (
      (spent_items a.spent ++ a.rest, a.out, a.means),
      leads_on a.spent a.rest a.from at a.means.list a.list a.placed a.taking a.apart,
    )

    pub returning_before : (one : Description) (at : Configuration) → (a : IsAhead one at)
        → (reply : ℕ) → IsAmong at.placed (record { call = returning; reply = reply })
        → IsAmong a.from.placed (record { call = returning; reply = reply })
    returning_before one at a reply among = elim ((a.placed _).0 among) [
      | inl before ↦ before
      | inr spent ↦
          let found = has-from spent_place a.spent (record { call = returning; reply = reply }) spent
          in absurd (a.other found.0 found.1 (ap (λ (p : StreamPlace). p.call) found.2))
    ]
