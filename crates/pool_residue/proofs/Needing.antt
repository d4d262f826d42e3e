-- Which items have to be taken.
use Rattle.std.proofs.Common.{◌≡◌, ◌≢◌, ◌⊎◌, ◌∙◌, ℕ, suc, ◌<◌, List, [], ◌∷◌, Option, Some, None, refl, sym, ap, subst, inl, inr, arith}
use Rattle.std.proofs.lemmas.Bool.{cases_eq}
use Rattle.std.proofs.lemmas.Option.{none-some, same_Some}
use Rattle.legal_orders.specs.Container.{Effect, Puts, Takes, Neither, value_put}
use Rattle.streams.specs.Stream.{StreamEvent}
use Rattle.streams.specs.StreamOrder.{IsAmong}
use Rattle.seq_objects.specs.Replies.{reply_done, reply_none, reply_value}
use Rattle.late_residue.specs.declared.open_call.OpenCall.{OpenCall}
use Rattle.late_residue.specs.Reached.{Has}
use Rattle.late_residue.specs.Known.{MayHaveReply}
use Rattle.late_residue.specs.Placing.{AreOf}
use Rattle.late_residue.proofs.Items.{has-none, has-cons}
use Rattle.late_residue.proofs.Meanings.{among_or_not, of_or_not}
use Rattle.pool_residue.specs.declared.container.Container.{Container}
use Rattle.pool_residue.specs.declared.container.Container.TheVariants.{Queue, PriorityQueue}
use Rattle.pool_residue.specs.Items.{Item, effect_of, MustStandBefore}
use Rattle.pool_residue.specs.Description.{Description, IsOpenPut}
use Rattle.pool_residue.specs.Steps.{EndsFirst, IsPlacedTaking}
use Rattle.pool_residue.specs.Closing.{Serves, MayFindNothing, Frees, IsNeeded}
use Rattle.pool_residue.proofs.Picking.{was_held}
use Rattle.pool_residue.proofs.Taking.{must_or_not}
use Rattle.pool_residue.proofs.Showing.{goes_first}

-- ---- what can be decided

abbrev pub Decided : Type 0 → Type 0
Decided P = P ⊎ (P → ⊥)

pub any_or_none : {X : Type 0} (P : X → Type 0) (xs : List X) → ((x : X) → Decided (P x))
    → ((x : X) × Has xs x × P x) ⊎ ((x : X) → Has xs x → P x → ⊥)
any_or_none P [] decide = inr (λ x has. absurd (has-none x has))
any_or_none P (x ∷ xs) decide = elim (decide x) [
  | inl is ↦ inl (x, (0, refl), is)
  | inr never ↦ elim (any_or_none P xs decide) [
    | inl (y, (k, at), is) ↦ inl (y, (suc k, at), is)
    | inr none ↦ inr (λ y has is. elim (has-cons x xs y has) [
      | inl same ↦ never (subst P (sym same) is)
      | inr later ↦ none y later is
    ])
  ]
]

known_or_not : (known : Option ℕ) (reply : ℕ)
    → ((n : ℕ) → known ≡ Some n → reply ≡ n) ⊎ (((n : ℕ) → known ≡ Some n → reply ≡ n) → ⊥)
known_or_not None reply = inl (λ n is. absurd (none-some n is))
known_or_not (Some m) reply = elim (cases_eq reply m) [
  | inl same ↦ inl (λ n is. same ∙ same_Some m n is)
  | inr apart ↦ inr (λ all. apart (all m refl))
]

may_or_not : (call : OpenCall) (reply : ℕ)
    → MayHaveReply call reply ⊎ (MayHaveReply call reply → ⊥)
may_or_not call reply = known_or_not call.reply reply

takes_or_not : (effect : Effect) → (effect ≡ Takes) ⊎ (effect ≡ Takes → ⊥)
takes_or_not (Puts v) = inr (λ is. none-some v (sym (ap value_put is)))
takes_or_not Takes = inl refl
takes_or_not Neither = inr (λ is. cc is)

both_or_not : {P Q : Type 0} → Decided P → Decided Q → Decided (P × Q)
both_or_not (inl p) (inl q) = inl (p, q)
both_or_not (inl p) (inr none) = inr (λ (x, y). none y)
both_or_not (inr none) q = inr (λ (x, y). none x)

not_or_is : {P : Type 0} → Decided P → Decided (P → ⊥)
not_or_is (inl p) = inr (λ none. none p)
not_or_is (inr none) = inl none

-- a take that may find nothing, as one of the calls
abbrev MayFind : Container → Description → OpenCall → Type 0
MayFind container one call = (effect_of container call.op ≡ Takes)
    × (MayHaveReply call reply_none × ((AreOf one.placed call.call → ⊥)
    × (IsAmong one.optional (record { call = call.call; reply = reply_none }) → ⊥)))

may_find : (container : Container) (one : Description) (call : OpenCall)
    → Decided (MayFind container one call)
may_find container one call = both_or_not (takes_or_not (effect_of container call.op))
    (both_or_not (may_or_not call reply_none) (both_or_not
    (not_or_is (of_or_not one.placed call.call))
    (not_or_is (among_or_not one.optional (record { call = call.call; reply = reply_none })))))

pub nothing_or_not : (container : Container) (calls : List OpenCall) (one : Description)
    → Decided (MayFindNothing container calls one)
nothing_or_not container calls one =
    elim (any_or_none (MayFind container one) calls (may_find container one)) [
      | inl (call, has, is) ↦ inl (record {
        call = call;
        is_open = has;
        takes = is.0;
        reply = is.1.0;
        unplaced = is.1.1.0;
        required = is.1.1.1;
      })
      | inr none ↦ inr (λ f. none f.call f.is_open
          (f.takes, (f.reply, (f.unplaced, f.required))))
    ]

must_same : (container : Container) (item one other : Item) → one.call ≡ other.call
    → one.value ≡ other.value → MustStandBefore container item one
    → MustStandBefore container item other
must_same Queue item one other calls values (e, is, less) =
    (e, is, subst (λ (c : ℕ). e < c) calls less)
must_same PriorityQueue item one other calls values less = omega (arith, values, less)

-- a put of a value before which an item must stand, as one of the calls
abbrev FreesPut : Container → ℕ → Item → OpenCall → Type 0
FreesPut container value item call = (effect_of container call.op ≡ Puts value)
    × (MayHaveReply call reply_done
    × MustStandBefore container item (record { call = call.call; value = value; end = None }))

puts_or_not : (effect : Effect) (v : ℕ) → Decided (effect ≡ Puts v)
puts_or_not (Puts w) v = elim (cases_eq w v) [
  | inl same ↦ inl (ap Puts same)
  | inr apart ↦ inr (λ is. apart (same_Some w v (ap value_put is)))
]
puts_or_not Takes v = inr (λ is. none-some v (ap value_put is))
puts_or_not Neither v = inr (λ is. none-some v (ap value_put is))

abbrev FreesHeld : Container → ℕ → Item → Item → Type 0
FreesHeld container value item freed = (freed.value ≡ value) × MustStandBefore container item freed

value_or_not : (item : Item) (value : ℕ) → Decided (item.value ≡ value)
value_or_not item value = elim (cases_eq item.value value) [
  | inl same ↦ inl same
  | inr apart ↦ inr apart
]

pub frees_or_not : (container : Container) (calls : List OpenCall) (one : Description)
    (value : ℕ) (item : Item) → Decided (Frees container calls one value item)
frees_or_not container calls one value item =
    elim (any_or_none (FreesHeld container value item) one.held
    (λ freed. both_or_not (value_or_not freed value) (must_or_not container item freed))) [
      | inl (freed, has, is) ↦
          inl (record { freed = freed; inside = inl has; value_is = is.0; must = is.1 })
      | inr no_held ↦ elim (any_or_none (FreesPut container value item) calls
          (λ call. both_or_not (puts_or_not (effect_of container call.op) value) (both_or_not
          (may_or_not call reply_done) (must_or_not container item
          (record { call = call.call; value = value; end = None }))))) [
            | inl (call, has, is) ↦ inl (record {
              freed = record { call = call.call; value = value; end = None };
              inside = inr (record {
                one = call;
                is_open = has;
                call = refl;
                value = is.0;
                reply = is.1.0;
                end = refl;
              });
              value_is = refl;
              must = is.1.1;
            })
            | inr no_put ↦ inr (λ f. elim f.inside [
              | inl held ↦ no_held f.freed held (f.value_is, f.must)
              | inr put ↦ no_put put.one put.is_open (
                put.value ∙ ap Puts f.value_is,
                (
                  put.reply,
                  must_same container item f.freed
                      (record { call = put.one.call; value = value; end = None })
                      (sym put.call) f.value_is f.must,
                ),
              )
            ])
          ]
    ]

pub needed_or_not : (container : Container) (calls : List OpenCall) (shown : Option ℕ)
    (one : Description) (item : Item) → Decided (IsNeeded container calls shown one item)
needed_or_not Queue calls None one item = nothing_or_not Queue calls one
needed_or_not Queue calls (Some value) one item = elim (nothing_or_not Queue calls one) [
  | inl is ↦ inl (inl is)
  | inr none ↦ elim (frees_or_not Queue calls one value item) [
    | inl frees ↦ inl (inr frees)
    | inr never ↦ inr (λ needed. elim needed [
      | inl is ↦ none is
      | inr frees ↦ never frees
    ])
  ]
]
needed_or_not PriorityQueue calls shown one item = inl tt

-- ---- what is needed before another item

-- an item before one that is needed is needed
pub needed-before : (container : Container) (calls : List OpenCall) (shown : Option ℕ)
    (one : Description) (first item : Item) → ((end : ℕ) → item.end ≡ Some end → item.call < end)
    → MustStandBefore container first item → IsNeeded container calls shown one item
    → IsNeeded container calls shown one first
needed-before Queue calls None one first item after must needed = needed
needed-before Queue calls (Some value) one first item after (e, is, less) needed = elim needed [
  | inl nothing ↦ inl nothing
  | inr f ↦
      let later = f.must in
      inr (record {
        freed = f.freed;
        inside = f.inside;
        value_is = f.value_is;
        must = (
          e,
          is,
          let mid = after later.0 later.1 in let last = later.2 in
              omega (arith, less, mid, last),
        );
      })
]
needed-before PriorityQueue calls shown one first item after must needed = tt

-- an item before one of the value that is shown is needed
pub needed-freeing : (container : Container) (calls : List OpenCall) (shown : Option ℕ)
    (one : Description) (first item : Item) → shown ≡ Some item.value
    → Has one.held item ⊎ IsOpenPut container calls item → MustStandBefore container first item
    → IsNeeded container calls shown one first
needed-freeing Queue calls None one first item is inside must = absurd (none-some item.value is)
needed-freeing Queue calls (Some value) one first item is inside must = inr (record {
  freed = item;
  inside = inside;
  value_is = sym (same_Some value item.value is);
  must = must;
})
needed-freeing PriorityQueue calls shown one first item is inside must = tt

-- where an item is needed, one of its value that returned first is needed
pub needed-first : (container : Container) (calls : List OpenCall) (shown : Option ℕ)
    (one : Description) (y x : Item) → y.value ≡ x.value → (x.end ≡ None) ⊎ EndsFirst y x
    → IsNeeded container calls shown one x → IsNeeded container calls shown one y
needed-first Queue calls None one y x same later needed = needed
needed-first Queue calls (Some value) one y x same later needed = elim needed [
  | inl nothing ↦ inl nothing
  | inr f ↦ inr (record {
    freed = f.freed;
    inside = f.inside;
    value_is = f.value_is;
    must = goes_first Queue y x f.freed same later f.must;
  })
]
needed-first PriorityQueue calls shown one y x same later needed = tt

needed-of : (container : Container) (calls : List OpenCall) (shown : Option ℕ)
    (one other : Description) (item : Item)
    → (MayFindNothing container calls other → MayFindNothing container calls one)
    → ((i : Item) → Has other.held i → Has one.held i)
    → IsNeeded container calls shown other item → IsNeeded container calls shown one item
needed-of Queue calls None one other item nothing held needed = nothing needed
needed-of Queue calls (Some value) one other item nothing held needed = elim needed [
  | inl is ↦ inl (nothing is)
  | inr f ↦ inr (record {
    freed = f.freed;
    inside = elim f.inside [
      | inl there ↦ inl (held f.freed there)
      | inr put ↦ inr put
    ];
    value_is = f.value_is;
    must = f.must;
  })
]
needed-of PriorityQueue calls shown one other item nothing held needed = tt

-- ---- what is needed after a take

module _ (container : Container) (stream : List StreamEvent) (calls : List OpenCall)
    (one after other : Description) (call value : ℕ)
    (taking : IsPlacedTaking container stream calls one call value after)
    (serves : Serves other after) where
  nothing_before : MayFindNothing container calls other → MayFindNothing container calls one
  nothing_before f =
      let apart : f.call.call ≢ call = λ same.
      f.unplaced (
        reply_value value,
        (serves.placed _).1 ((taking.placed _).1
            (inl (ap (λ (c : ℕ). record { call = c; reply = reply_value value }) (sym same)))),
      ) in
      record {
        call = f.call;
        is_open = f.is_open;
        takes = f.takes;
        reply = f.reply;
        unplaced = λ (reply, among).
            f.unplaced (reply, (serves.placed _).1 ((taking.placed _).1 (inr among)));
        required = λ optional.
            f.required (serves.optional _ ((taking.optional _).1 (optional, apart)));
      }

  still_held : (item : Item) → Has other.held item → Has one.held item
  still_held item held =
      let there = subst (λ (l : List Item). Has l item) serves.held held in
      elim taking.item [
        | inl h ↦ was_held container one after value h item there
        | inr o ↦ subst (λ (l : List Item). Has l item) o.held there
      ]

  -- what is needed at a description that serves for what a take leads to was needed before the take
  pub needed-was : (shown : Option ℕ) (item : Item) → IsNeeded container calls shown other item
      → IsNeeded container calls shown one item
  needed-was shown item needed = needed-of container calls shown one other item nothing_before
      still_held needed
