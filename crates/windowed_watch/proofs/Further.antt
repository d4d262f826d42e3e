-- What is said of a stream, where more events follow.
use Rattle.std.proofs.Common.{◌≡◌, ◌∙◌, ℕ, ◌≤◌, List, ◌∷◌, ◌++◌, take, drop, Option, Some, None, refl, sym, ap, subst, append_assoc, inl, inr}
use Rattle.std.proofs.lemmas.List.{take-append-drop, take-take}
use Rattle.book_base.specs.SeqSpec.{SeqSpec}
use Rattle.seq_objects.specs.declared.kind.Kind.{Kind}
use Rattle.seq_objects.specs.Objects.{kind_spec}
use Rattle.streams.specs.Stream.{StreamEvent}
use Rattle.streams.specs.StreamOrder.{HasLegalStreamOrder}
use Rattle.residue_laws.proofs.Settling.{prefixes_have_one}
use Rattle.stream_locality.specs.StreamParts.{IsStreamOfKey}
use Rattle.stream_locality.specs.KindKeys.{key_of_kind}
use Rattle.stream_locality.proofs.Growing.{parts_continue}
use Rattle.watch_core.specs.declared.verdict.Verdict.{Verdict}
use Rattle.watch_core.specs.declared.verdict.Verdict.TheVariants.{Legal, Illegal, Unsure}
use Rattle.watch_core.specs.Part.{Parted}
use Rattle.watch_core.specs.Verdict.{IsIllegalFrom, IsUnsureAt}
use Rattle.watch_core.specs.Watch.{Watched, IsHeld, HasTaken}
use Rattle.watch_core.proofs.Late.{known_further}
use Rattle.windowed_watch.specs.Ahead.{IsExact, IsFinal}

pub illegal_further : (spec : SeqSpec) (whole more : List StreamEvent) (first last : ℕ)
    → IsIllegalFrom spec whole first last → IsIllegalFrom spec (whole ++ more) first last
illegal_further spec whole more first last
    (before, event, near, far, parts, from, to, legal, none) = (
      before,
      event,
      near,
      far ++ more,
      ap (λ (l : List StreamEvent). l ++ more) parts
          ∙ append_assoc (before ++ event ∷ near) far more,
      from,
      to,
      legal,
      none,
    )

pub unsure_further : (kind : Kind) (limit : ℕ) (whole more : List StreamEvent) (number : ℕ)
    → IsUnsureAt kind limit whole number → IsUnsureAt kind limit (whole ++ more) number
unsure_further kind limit whole more number u =
    let next = parts_continue (key_of_kind kind) u.key (u.before ++ u.after) more
    (u.places ++ u.more) (u.events ++ u.rest) u.of_longer in
    record {
      before = u.before;
      after = u.after ++ more;
      split = ap (λ (l : List StreamEvent). l ++ more) u.split
          ∙ append_assoc u.before u.after more;
      at = u.at;
      legal = u.legal;
      key = u.key;
      places = u.places;
      events = u.events;
      of_key = u.of_key;
      more = u.more ++ next.0;
      rest = u.rest ++ next.1;
      of_longer = subst (λ (s : List StreamEvent). IsStreamOfKey (key_of_kind kind) u.key s
          (u.places ++ (u.more ++ next.0)) (u.events ++ (u.rest ++ next.1)))
          (append_assoc u.before u.after more)
          (subst (λ (ps : List ℕ). IsStreamOfKey (key_of_kind kind) u.key
          ((u.before ++ u.after) ++ more) ps (u.events ++ (u.rest ++ next.1)))
          (append_assoc u.places u.more next.0)
          (subst (λ (es : List StreamEvent). IsStreamOfKey (key_of_kind kind) u.key
          ((u.before ++ u.after) ++ more) ((u.places ++ u.more) ++ next.0) es)
          (append_assoc u.events u.rest next.1) next.2));
      calls = u.calls;
      are_open = u.are_open;
      known = known_further u.events (u.rest ++ next.1) u.rest next.1 u.calls refl u.known;
      beyond = u.beyond;
    }

exact_further : (kind : Kind) (limit : ℕ) (whole more : List StreamEvent) (first last : ℕ)
    → IsExact kind limit whole first last → IsExact kind limit (whole ++ more) first last
exact_further kind limit whole more first last (inl same) = inl same
exact_further kind limit whole more first last (inr (front, rest, number, parts, unsure)) = inr (
  front,
  rest ++ more,
  number,
  ap (λ (l : List StreamEvent). l ++ more) parts ∙ append_assoc front rest more,
  unsure,
)

pub final_further : (kind : Kind) (limit : ℕ) (whole more : List StreamEvent)
    (verdict : Verdict) → IsFinal kind limit whole verdict
    → IsFinal kind limit (whole ++ more) verdict
final_further kind limit whole more (Legal number) final = absurd final
final_further kind limit whole more (Illegal first last) (illegal, exact) = (
  illegal_further (kind_spec kind) whole more first last illegal,
  exact_further kind limit whole more first last exact,
)
final_further kind limit whole more (Unsure number) final =
    unsure_further kind limit whole more number final

held_further : (kind : Kind) (limit : ℕ) (stream later near more : List StreamEvent)
    (parts : List (ℕ × Parted)) (last : Option Verdict)
    → IsHeld kind limit stream later near parts last
    → IsHeld kind limit stream (later ++ more) near parts last
held_further kind limit stream later near more parts None held = held
held_further kind limit stream later near more parts (Some (Legal number)) held = absurd held
held_further kind limit stream later near more parts (Some (Illegal first last)) held =
    subst (λ (w : List StreamEvent). IsIllegalFrom (kind_spec kind) w first last)
    (append_assoc stream later more)
    (illegal_further (kind_spec kind) (stream ++ later) more first last held)
held_further kind limit stream later near more parts (Some (Unsure number)) held =
    subst (λ (w : List StreamEvent). IsUnsureAt kind limit w number)
    (append_assoc stream later more) (unsure_further kind limit (stream ++ later) more number held)

-- a watch has taken the same events where more events follow
pub taken_further : (watch : Watched) (stream later more : List StreamEvent)
    → HasTaken watch stream later → HasTaken watch stream (later ++ more)
taken_further watch stream later more has = record {
  valid = has.valid;
  count = has.count;
  table = has.table;
  near = has.near;
  far = has.far ++ more;
  split = ap (λ (l : List StreamEvent). l ++ more) has.split ∙ append_assoc has.near has.far more;
  seen = has.seen;
  held = held_further watch.kind watch.limit stream later has.near more watch.parts watch.last
      has.held;
}

pub taken_seen : (watch : Watched) (stream events : List StreamEvent) (n m : ℕ) → n ≤ m
    → HasTaken watch stream (take n events) → HasTaken watch stream (take m events)
taken_seen watch stream events n m less has =
    let parts : take n events ++ drop n (take m events) ≡ take m events =
    ap (λ (l : List StreamEvent). l ++ drop n (take m events)) (sym (take-take n m events less))
    ∙ take-append-drop n (take m events) in
    subst (λ (l : List StreamEvent). HasTaken watch stream l) parts
    (taken_further watch stream (take n events) (drop n (take m events)) has)

-- a stream of which some first events have no legal order has none
pub illegal_whole : (spec : SeqSpec) (whole : List StreamEvent) (first last : ℕ)
    → IsIllegalFrom spec whole first last → HasLegalStreamOrder spec whole → ⊥
illegal_whole spec whole first last (before, event, near, far, parts, from, to, legal, none) has =
    none (prefixes_have_one spec (before ++ event ∷ near) far
    (subst (λ (s : List StreamEvent). HasLegalStreamOrder spec s) parts has))
