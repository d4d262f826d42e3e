-- Streams without a legal order, and streams that aren't valid.
use Rattle.std.proofs.Common.{◌≡◌, ℕ, zero, suc, List, [], ◌∷◌, Some, refl, sym, ap, subst, slice_get, arith}
use Rattle.std.proofs.lemmas.Option.{same_Some, none-some}
use Rattle.streams.specs.Stream.{Called, Returned, IsStreamCall, Returns, IsValidStream}
use Rattle.streams.specs.StreamOrder.{StreamPlace, IsLegalStreamOrder, HasLegalStreamOrder}
use Rattle.residue_laws.specs.Residue.{Configuration}
use Rattle.residue_laws.specs.Step.{StepsTo}
use Rattle.stream_examples.specs.Counted.{counter, incremented, placed, first_one, one_too_many, no_call, two_calls}

only_call : (k : ℕ) → IsStreamCall one_too_many k → k ≡ 0
only_call zero is = refl
only_call (suc zero) (p, o, at) = absurd cc
only_call (suc (suc k)) (p, o, at) = absurd (none-some (Called p o) at)

only_returns : Returns one_too_many 0 1 1
only_returns = record {
  process = 7;
  op = 1;
  called = refl;
  returned = refl;
  after = omega arith;
  quiet = λ k event low high at is. omega arith;
}

illegal_order : (order : List StreamPlace) → IsLegalStreamOrder counter one_too_many order → ⊥
illegal_order [] legal = let none = legal.returned 0 1 1 only_returns in
    none-some (placed 0 1) none.1
illegal_order (place ∷ rest) legal =
    let found = legal.returned 0 1 1 only_returns in
    let only : place.call ≡ 0 = only_call place.call (legal.calls place (0, refl)) in
    let here : 0 ≡ found.0 = legal.once 0 found.0 place (placed 0 1) refl found.1 only in
    let same : place ≡ placed 0 1 = same_Some place (placed 0 1)
    (subst (λ (k : ℕ). slice_get (place ∷ rest) k ≡ Some (placed 0 1)) (sym here) found.1) in
    let first : 0 ≡ place.reply = legal.run.0 in
    omega (arith, first, ap (λ (p : StreamPlace). p.reply) same)

pub one_too_many_is_illegal : HasLegalStreamOrder counter one_too_many → ⊥
one_too_many_is_illegal (order, legal) = illegal_order order legal

first_reply : (k call : ℕ) → slice_get (placed 0 0 ∷ []) k ≡ Some (placed call 1) → ⊥
first_reply zero call at =
    let same : placed 0 0 ≡ placed call 1 = same_Some _ _ at in
    omega (arith, ap (λ (p : StreamPlace). p.reply) same)
first_reply (suc k) call at = none-some (placed call 1) at

pub no_step : (after : Configuration)
    → StepsTo incremented (Called 7 1 ∷ []) (Returned 7 1) first_one after → ⊥
no_step after (call, waits, (k, at), without) = first_reply k call at

pub empty_is_valid : IsValidStream []
empty_is_valid = record {
  calls = λ j k process op other less first second. absurd (none-some _ first);
  ends = λ end event at is. absurd (none-some event at);
}

pub idle_is_not_valid : IsValidStream no_call → ⊥
idle_is_not_valid valid =
    let found = valid.ends 0 (Returned 7 1) refl tt in omega (arith, found.2)

pub busy_is_not_valid : IsValidStream two_calls → ⊥
busy_is_not_valid valid =
    let found = valid.calls 0 1 7 1 1 (omega arith) refl refl in omega (arith, found.2, found.3)
