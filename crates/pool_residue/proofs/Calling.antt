-- The descriptions of a stream stay where a call comes.
use Rattle.std.proofs.Common.{◌≡◌, ◌≢◌, ◌⊎◌, ◌∙◌, ℕ, zero, suc, ◌≤◌, List, [], ◌∷◌, ◌++◌, length, refl, sym, ap, subst, inl, inr, arith, length-append}
use Rattle.std.proofs.lemmas.Bool.{cases_eq}
use Rattle.std.proofs.lemmas.Option.{slice_get_within}
use Rattle.streams.specs.Stream.{StreamEvent, Called, IsValidStream}
use Rattle.streams.specs.StreamOrder.{StreamPlace}
use Rattle.streams.proofs.Returning.{get-longer, returns-longer, call_within}
use Rattle.streams.proofs.Pushing.{no_return-called}
use Rattle.residue_laws.specs.Residue.{Configuration}
use Rattle.residue_laws.proofs.Events.{alike_itself}
use Rattle.residue_laws.proofs.Stepping.{residues_step}
use Rattle.late_residue.specs.declared.open_call.OpenCall.{OpenCall}
use Rattle.late_residue.specs.Reached.{Has}
use Rattle.late_residue.specs.LateOnes.{AreOpen}
use Rattle.late_residue.proofs.Items.{has-none, has-cases, has-cons}
use Rattle.pool_residue.proofs.Following.{placed_both, placed_longer}
use Rattle.late_residue.proofs.KnownReplies.{agree-before}
use Rattle.pool_residue.specs.declared.container.Container.{Container}
use Rattle.pool_residue.specs.declared.container.Container.TheVariants.{Queue, PriorityQueue}
use Rattle.pool_residue.specs.Items.{Item, spec_of, MustStandBefore, AreInOrder}
use Rattle.pool_residue.specs.Description.{Description, TakenPut, IsOpenPut, AreTakenAs, MeansBy, Means, AreMeant}
use Rattle.pool_residue.specs.Pooled.{PutsNothing, IsOfStream, ArePooled}
use Rattle.pool_residue.proofs.Orders.{order-apart}
use Rattle.pool_residue.proofs.Inserting.{MayBeLast}
use Rattle.pool_residue.proofs.Distinct.{has-there}
use Rattle.pool_residue.proofs.Relabelling.{split_at}
use Rattle.pool_residue.proofs.Sounding.{IsReached, put_reached}
use Rattle.pool_residue.proofs.Allowing.{last_of, may_be_last}
use Rattle.pool_residue.proofs.Pairing.{pairs-again}
use Rattle.pool_residue.proofs.Needing.{any_or_none}

pub puts_nothing-longer : (container : Container) (stream later : List StreamEvent)
    (place : StreamPlace) → PutsNothing container stream place
    → PutsNothing container (stream ++ later) place
puts_nothing-longer container stream later place nothing = record {
  process = nothing.process;
  op = nothing.op;
  called = get-longer stream later place.call (Called nothing.process nothing.op) nothing.called;
  nothing = nothing.nothing;
}

-- a description of a stream is one of a longer stream
pub of_longer : (container : Container) (stream later : List StreamEvent) (one : Description)
    → IsOfStream container stream one → IsOfStream container (stream ++ later) one
of_longer container stream later one of = record {
  held = λ item has.
      let held = of.held item has in
      record {
        ended = held.ended;
        end = held.end;
        returns = returns-longer stream later item.call held.ended _ held.returns;
        process = held.process;
        op = held.op;
        called = get-longer stream later item.call (Called held.process held.op) held.called;
        value = held.value;
      };
  distinct = of.distinct;
  bounds = λ taken has.
      let more = length-append stream later in
      let le = of.bounds taken has in
      omega (arith, more, le);
  free = of.free;
  placed = λ place among. puts_nothing-longer container stream later place
      (of.placed place among);
  optional = λ place among. puts_nothing-longer container stream later place
      (of.optional place among);
}

-- An open put of a list that may be placed last.
pub record HasLast (container : Container) (calls : List OpenCall) (inside : List Item)
    : Type 0 where
  pub left : List Item
  pub z : Item
  pub right : List Item
  pub is : inside ≡ left ++ z ∷ right
  pub put : IsOpenPut container calls z
  pub last : MayBeLast container right

module _ (container : Container) (stream : List StreamEvent) (process op : ℕ)
    (calls more : List OpenCall) (new : OpenCall) (new_is : new.call ≡ length stream)
    (old_or_new : (one : OpenCall) → Has more one → Has calls one ⊎ (one ≡ new))
    (still : (one : OpenCall) → Has calls one → Has more one)
    (are : AreOpen stream calls) (are_more : AreOpen (stream ++ Called process op ∷ []) more)
    (valid : IsValidStream (stream ++ Called process op ∷ [])) where
  abbrev longer : List StreamEvent
  longer = stream ++ Called process op ∷ []

  -- an open put is that of the new call or was one before it
  was_open : (item : Item) → IsOpenPut container more item → item.call ≢ length stream
      → IsOpenPut container calls item
  was_open item put apart = record {
    one = put.one;
    is_open = elim (old_or_new put.one put.is_open) [
      | inl old ↦ old
      | inr is ↦ absurd (apart (sym put.call
          ∙ (ap (λ (c : OpenCall). c.call) is ∙ new_is)))
    ];
    call = put.call;
    value = put.value;
    reply = put.reply;
    end = put.end;
  }

  stays_open : (item : Item) → IsOpenPut container calls item → IsOpenPut container more item
  stays_open item put = record {
    one = put.one;
    is_open = still put.one put.is_open;
    call = put.call;
    value = put.value;
    reply = put.reply;
    end = put.end;
  }

  meant_more : (at : Configuration) (ones : List Description) → AreMeant container calls ones at
      → AreMeant container more ones at
  meant_more at ones (one, has, (inside, taken, means)) = (
    one,
    has,
    (
      inside,
      taken,
      record {
        distinct = means.distinct;
        held = means.held;
        items = λ item there. elim (means.items item there) [
          | inl held ↦ inl held
          | inr put ↦ inr (stays_open item put)
        ];
        order = means.order;
        outside = pairs-again container calls more one.taken taken means.outside (λ p x is. record {
          is_open = stays_open x is.is_open;
          value = is.value;
          before = is.before;
        });
        list = means.list;
        placed = means.placed;
        puts = means.puts;
        either = means.either;
        once = means.once;
      },
    ),
  )

  -- a configuration that was reached before the call is reached after it
  reached_longer : (at : Configuration) → IsReached container stream calls are at
      → IsReached container longer more are_more at
  reached_longer at (residue, agrees) = (
    (residues_step (spec_of container) stream (Called process op) at valid).1
        (at, residue, ([], alike_itself at)),
    λ place among one has same. elim (old_or_new one has) [
      | inl old ↦ agrees place among one old same
      | inr is ↦
          let within = call_within stream place.call (residue.1.legal.calls place
          ((residue.1.placed place).0 among).0) in
          absurd (let equal = sym new_is
          ∙ (ap (λ (c : OpenCall). c.call) (sym is) ∙ same) in omega (arith, within, equal))
    ],
  )

  module _ (one : Description) (of : IsOfStream container stream one)
      (each : (at : Configuration) → Means container calls one at
      → IsReached container stream calls are at) where
    of_more : IsOfStream container longer one
    of_more = of_longer container stream (Called process op ∷ []) one of

    bounded : (pairs : List TakenPut) (items : List Item) → AreTakenAs container more pairs items
        → ((taken : TakenPut) → Has pairs taken → taken.bound ≤ length stream)
        → AreTakenAs container calls pairs items
    bounded [] [] taken le = tt
    bounded [] (x ∷ items) taken le = absurd taken
    bounded (p ∷ pairs) [] taken le = absurd taken
    bounded (p ∷ pairs) (x ∷ items) taken le = (
      record {
        is_open = was_open x taken.0.is_open (λ same.
            let before = taken.0.before in
            let bound = le p (0, refl) in
            omega (arith, before, bound, same));
        value = taken.0.value;
        before = taken.0.before;
      },
      bounded pairs items taken.1 (λ q (k, at). le q (suc k, at)),
    )

    -- where the new put isn't in the list, the configuration was meant before
    old_reached : (at : Configuration) (inside taken : List Item)
        → MeansBy container more one inside taken at
        → ((item : Item) → Has inside item → item.call ≡ length stream → ⊥)
        → IsReached container longer more are_more at
    old_reached at inside taken means none = reached_longer at (each at (
      inside,
      taken,
      record {
        distinct = means.distinct;
        held = means.held;
        items = λ item has. elim (means.items item has) [
          | inl held ↦ inl held
          | inr put ↦ inr (was_open item put (none item has))
        ];
        order = means.order;
        outside = bounded one.taken taken means.outside of.bounds;
        list = means.list;
        placed = means.placed;
        puts = means.puts;
        either = means.either;
        once = means.once;
      },
    ))

    -- the new put is open
    new_open : (x : Item) (at : Configuration) (inside taken : List Item)
        → MeansBy container more one inside taken at → Has inside x → x.call ≡ length stream
        → IsOpenPut container more x
    new_open x at inside taken means has is_new = elim (means.items x has) [
      | inr put ↦ put
      | inl held ↦
          let it = of.held x held in
          absurd (let within = slice_get_within stream x.call _ it.called in
          omega (arith, within, is_new))
    ]

    -- which put of a configuration with the new one can be placed last
    last_put : (c : Container) → c ≡ container → (at : Configuration) (inside taken : List Item)
        → MeansBy container more one inside taken at → (x : Item) → Has inside x
        → x.call ≡ length stream → HasLast container more inside
    last_put PriorityQueue same at inside taken means x has is_new =
        let found = split_at inside x has in
        record {
          left = found.0;
          z = x;
          right = found.1;
          is = found.2;
          put = new_open x at inside taken means has is_new;
          last = subst (λ (d : Container). MayBeLast d found.1) same tt;
        }
    last_put Queue same at inside taken means x has is_new = elim (last_of inside) [
      | inl none ↦ absurd (has-none x (subst (λ (l : List Item). Has l x) none has))
      | inr (left, z, is) ↦
          let has_z : Has inside z = subst (λ (l : List Item). Has l z) (sym is)
          (has-there left [] z) in
          record {
            left = left;
            z = z;
            right = [];
            is = is;
            put = elim (means.items z has_z) [
              | inr put ↦ put
              | inl held ↦ elim (has-cases left (z ∷ []) x
                  (subst (λ (l : List Item). Has l x) is has)) [
                    | inr last ↦ elim (has-cons z [] x last) [
                      | inl equal ↦ subst (IsOpenPut container more) (sym equal)
                          (new_open x at inside taken means has is_new)
                      | inr nothing ↦ absurd (has-none x nothing)
                    ]
                    | inl early ↦
                        let it = of.held z held in
                        let within = slice_get_within stream it.ended _ it.returns.returned in
                        let order = subst (AreInOrder container) is means.order in
                        absurd (order-apart container left (z ∷ []) order x early z (0, refl)
                        (subst (λ (d : Container). MustStandBefore d z x) same
                        (it.ended, it.end, omega (arith, within, is_new))))
                  ]
            ];
            last = may_be_last container;
          }
    ]

    -- what the description means after the call is reached
    more_reached : (n : ℕ) (at : Configuration) (inside taken : List Item) → length inside ≤ n
        → MeansBy container more one inside taken at → IsReached container longer more are_more at
    more_reached zero at inside taken le means = elim (last_of inside) [
      | inl none ↦ old_reached at inside taken means
          (λ item has same. has-none item (subst (λ (l : List Item). Has l item) none has))
      | inr (left, z, is) ↦ absurd (let more_items = length-append left (z ∷ []) in
          let same = ap (λ (l : List Item). length l) is in omega (arith, le, more_items, same))
    ]
    more_reached (suc n) at inside taken le means =
        elim (any_or_none (λ (item : Item). item.call ≡ length stream) inside
        (λ item. cases_eq item.call (length stream))) [
          | inr none ↦ old_reached at inside taken means none
          | inl (x, has, is_new) ↦
              let l = last_put container refl at inside taken means x has is_new in
              put_reached container longer more are_more one of_more l.left l.right taken l.z l.put
              l.last at
              (subst (λ (k : List Item). MeansBy container more one k taken at) l.is means)
              (λ before earlier. more_reached n before (l.left ++ l.right) taken
              (let whole = length-append l.left (l.z ∷ l.right) in
              let fewer = length-append l.left l.right in
              let same = ap (λ (k : List Item). length k) l.is in
              omega (arith, le, whole, fewer, same)) earlier)
        ]

  -- The descriptions of a stream are those of the stream with one more call.
  pub call_pooled : (ones : List Description) → ArePooled container stream calls ones
      → ArePooled container longer more ones
  call_pooled ones pooled = record {
    sound = λ one has.
        let sound = pooled.sound one has in
        record {
          of_stream = of_more one sound.of_stream sound.reached;
          reached = λ at (inside, taken, means). more_reached one sound.of_stream sound.reached
              (length inside) at inside taken (omega arith) means;
        };
    whole = λ at residue agrees.
        let step = (residues_step (spec_of container) stream (Called process op) at valid).0 residue
        in
        let before = agree-before (spec_of container).next longer more step.0 at step.2.0 step.2.1
        agrees in
        let led = pooled.whole step.0 step.1 (λ place among one has same.
        before place among one (still one has) same) in (
          led.0,
          meant_more led.0 ones led.1,
          (
            led.2.0 ++ step.2.0,
            placed_both (spec_of container).next longer led.0 step.0 at led.2.0 step.2.0
                (placed_longer (spec_of container).next stream (Called process op ∷ [])
                (no_return-called stream process op) led.0 step.0 led.2.0 led.2.1) step.2.1,
          ),
        );
  }
