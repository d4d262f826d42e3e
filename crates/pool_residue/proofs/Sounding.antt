-- What descriptions mean is reached.
use Rattle.std.proofs.Common.{◌≡◌, ◌≢◌, ◌⊎◌, ◌∙◌, ℕ, List, ◌∷◌, ◌++◌, None, refl, sym, ap, subst, inl, inr}
use Rattle.book_base.specs.SeqSpec.{SeqSpec}
use Rattle.std.specs.Prelude.{◌↔◌}
use Rattle.std.proofs.lemmas.Bool.{cases_eq}
use Rattle.legal_orders.specs.Container.{value_put}
use Rattle.streams.specs.Stream.{StreamEvent}
use Rattle.streams.specs.StreamOrder.{StreamPlace, IsAmong}
use Rattle.seq_objects.specs.Replies.{reply_done}
use Rattle.residue_laws.specs.Residue.{Configuration, IsInResidue}
use Rattle.residue_laws.specs.Step.{AreAlike}
use Rattle.residue_laws.proofs.Placing.{among-cons, among-first, among-later}
use Rattle.late_residue.specs.declared.open_call.OpenCall.{OpenCall}
use Rattle.late_residue.specs.Reached.{Has}
use Rattle.late_residue.specs.Meaning.{AreOnce}
use Rattle.late_residue.specs.Known.{MayHaveReply, IsKnownPlace, AgreesWithKnown}
use Rattle.late_residue.specs.LateOnes.{AreOpen}
use Rattle.late_residue.specs.Placing.{IsPlacedAt, with_call}
use Rattle.late_residue.proofs.KnownReplies.{known-placed}
use Rattle.late_residue.proofs.Meanings.{others_of, others_are}
use Rattle.late_residue.proofs.Reaching.{placed_is_reached}
use Rattle.pool_residue.specs.declared.container.Container.{Container}
use Rattle.pool_residue.specs.Items.{Item, spec_of, effect_of, AreDistinct, AreInOrder, values_of}
use Rattle.pool_residue.specs.Description.{Description, IsOpenPut, AreTakenAs, MeansBy}
use Rattle.pool_residue.specs.Pooled.{IsOfStream}
use Rattle.pool_residue.proofs.Objects.{after_put}
use Rattle.pool_residue.proofs.Inserting.{MayBeLast}
use Rattle.pool_residue.proofs.Removing.{not_put, before_put, before_means, before_lacks, put_leads}

module _ (container : Container) (stream : List StreamEvent) (calls : List OpenCall)
    (are : AreOpen stream calls) where
  abbrev spec : SeqSpec
  spec = spec_of container

  -- a configuration is reached, and agrees with what is known
  abbrev pub IsReached : Configuration → Type 0
  IsReached at = IsInResidue spec stream at × AgreesWithKnown calls at

  -- an open call that is placed leads from what is reached to what is reached
  pub reached_on : (before at : Configuration) (call : OpenCall) (reply : ℕ) → Has calls call
      → (IsPlacedAt before call.call → ⊥) → AreAlike (with_call spec.next before call) at
      → (spec.next before.list call.op).1 ≡ reply → MayHaveReply call reply
      → IsReached before → IsReached at
  reached_on before at call reply has lacks alike gives may (residue, agrees) = (
    placed_is_reached spec stream calls are before at call has lacks alike residue,
    λ place among. elim (among-cons
        (record { call = call.call; reply = (spec.next before.list call.op).1 }) before.placed place
        ((alike.0 place).1 among)) [
          | inl is ↦ subst (IsKnownPlace calls) is
              (known-placed stream calls are call (spec.next before.list call.op).1 has
              (subst (MayHaveReply call) (sym gives) may))
          | inr old ↦ agrees place old
        ],
  )

  module _ (one : Description) (of : IsOfStream container stream one) where
    -- a put that is placed last leads to what is reached
    pub put_reached : (left right taken : List Item) (x : Item)
        → IsOpenPut container calls x → MayBeLast container right → (at : Configuration)
        → MeansBy container calls one (left ++ x ∷ right) taken at
        → ((before : Configuration) → MeansBy container calls one (left ++ right) taken before
        → IsReached before) → IsReached at
    put_reached left right taken x put last at means each =
        let before = before_put container stream calls are one of left right taken x put last at means
        in
        reached_on before at put.one reply_done put.is_open
        (subst (λ (c : ℕ). IsPlacedAt before c → ⊥) (sym put.call)
        (before_lacks container stream calls are one of left right taken x put last at means))
        (put_leads container stream calls are one of left right taken x put last at means)
        (ap (λ (r : List ℕ × ℕ). r.1)
        (after_put container put.one.op x.value (values_of (left ++ right)) put.value)) put.reply
        (each before
        (before_means container stream calls are one of left right taken x put last at means))

  -- ---- a call that puts nothing in, placed last

  -- a call that was placed last leads to what is reached
  pub last_reached : (at : Configuration) (list : List ℕ) (call : OpenCall) (reply : ℕ)
      → Has calls call → AreOnce at.placed
      → IsAmong at.placed (record { call = call.call; reply = reply })
      → spec.next list call.op ≡ (at.list, reply) → MayHaveReply call reply
      → IsReached (record { placed = others_of call.call at.placed; list = list })
      → IsReached at
  last_reached at list call reply has once among gives may reached =
      let before : Configuration = record { placed = others_of call.call at.placed; list = list } in
      let it : StreamPlace = record { call = call.call; reply = reply } in
      let place : StreamPlace =
      record { call = call.call; reply = (spec.next list call.op).1 } in
      let is : place ≡ it =
      ap (λ (r : ℕ). record { call = call.call; reply = r }) (ap (λ (g : List ℕ × ℕ). g.1) gives) in
      reached_on before at call reply has
      (λ (other, placed). ((others_are call.call at.placed _).0 placed).1 refl) (
        λ p. (
          λ there. elim (among-cons place before.placed p there) [
            | inl first ↦ subst (IsAmong at.placed) (sym is ∙ first) among
            | inr old ↦ ((others_are call.call at.placed p).0 old).0
          ],
          λ there. elim (cases_eq p.call call.call) [
            | inl same ↦ among-first place before.placed p
                (is ∙ once it p among there (sym same))
            | inr apart ↦ among-later place before.placed p
                ((others_are call.call at.placed p).1 (there, apart))
          ],
        ),
        ap (λ (g : List ℕ × ℕ). g.0) gives,
      )
      (ap (λ (g : List ℕ × ℕ). g.1) gives) may reached

  -- a description has the places of another one, besides those of a call
  pub record HasPlacesBut (call : ℕ) (from after : Description) : Type 0 where
    pub placed : (place : StreamPlace) → IsAmong from.placed place
        → IsAmong after.placed place × (place.call ≢ call)
    pub fewer : (place : StreamPlace) → IsAmong after.placed place → place.call ≢ call
        → IsAmong from.placed place
    pub optional : (place : StreamPlace) → IsAmong after.optional place → place.call ≢ call
        → IsAmong from.optional place

  stays : (call : ℕ) (at : Configuration) (place : StreamPlace) → IsAmong at.placed place
      → place.call ≢ call → IsAmong (others_of call at.placed) place
  stays call at place among apart = (others_are call at.placed place).1 (among, apart)

  was : (call : ℕ) (at : Configuration) (place : StreamPlace)
      → IsAmong (others_of call at.placed) place → IsAmong at.placed place × (place.call ≢ call)
  was call at place among = (others_are call at.placed place).0 among

  -- what the description means without the call
  pub means_without : (from after : Description) → IsOfStream container stream from
      → (call : OpenCall) → Has calls call
      → value_put (effect_of container call.op) ≡ None → HasPlacesBut call.call from after
      → (at : Configuration) (inside taken first out : List Item)
      → MeansBy container calls after inside taken at
      → AreDistinct (out ++ first)
      → ((item : Item) → Has from.held item → Has first item)
      → ((item : Item) → Has first item → Has from.held item ⊎ IsOpenPut container calls item)
      → AreInOrder container first → AreTakenAs container calls from.taken out
      → ((item : Item) → item.end ≡ None
      → (Has (out ++ first) item ↔ Has (taken ++ inside) item))
      → ((item : Item) → Has (out ++ first) item → item.end ≡ None
      → IsOpenPut container calls item)
      → MeansBy container calls from first out
      (record { placed = others_of call.call at.placed; list = values_of first })
  means_without from after of call has nothing but at inside taken first out means distinct held items
      order outside same opens = record {
        distinct = distinct;
        held = held;
        items = items;
        order = order;
        outside = outside;
        list = refl;
        placed = λ place among. stays call.call at place
            (means.placed place (but.placed place among).0) (but.placed place among).1;
        puts = λ place (item, there, end, is). stays call.call at place
            (means.puts place (item, (same item end).0 there, end, is))
            (subst (λ (p : StreamPlace). p.call ≢ call.call) is
            (λ (e : item.call ≡ call.call).
            not_put container stream calls are from of
            (record { call = call.call; reply = 0 }) item
            (record {
              process = call.process;
              op = call.op;
              called = are.called call has;
              nothing = nothing;
            }) (opens item there end) (sym e)));
        either = λ place among.
            let old = was call.call at place among in
            elim (means.either place old.0) [
              | inl placed ↦ inl (but.fewer place placed old.1)
              | inr (inl optional) ↦ inr (inl (but.optional place optional old.1))
              | inr (inr (item, there, end, is)) ↦
                  inr (inr (item, (same item end).1 there, end, is))
            ];
        once = λ a b one two. means.once a b (was call.call at a one).0
            (was call.call at b two).0;
      }
