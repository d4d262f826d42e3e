-- Lists, runs and orders that are joined.
use Rattle.std.proofs.Common.{◌≡◌, ℕ, zero, suc, ◌+◌, ◌⊎◌, ◌∙◌, List, [], ◌∷◌, ◌++◌, length, map, Some, refl, ap, subst, inl, inr, slice_get, arith}
use Rattle.std.proofs.lemmas.Option.{slice_get_within}
use Rattle.list_laws.proofs.Prefixes.{slice_get-append_within}
use Rattle.book_base.specs.Sequential.{IsRunFrom}
use Rattle.book_base.specs.Reaching.{list_after_run}
use Rattle.streams.specs.Stream.{StreamEvent, IsStreamCall}
use Rattle.streams.specs.StreamOrder.{StreamPlace, word_of_event, stream_step, IsAmong}
use Rattle.streams.proofs.Returning.{call_within}

-- an item of the second list is past the first one
pub get-right : {X : Type 0} (xs ys : List X) (k : ℕ) (x : X) → slice_get ys k ≡ Some x
    → slice_get (xs ++ ys) (length xs + k) ≡ Some x
get-right [] ys k x at = let e : k ≡ 0 + k = omega arith in
    subst (λ (n : ℕ). slice_get ys n ≡ Some x) e at
get-right (y ∷ xs) ys k x at = let e : suc (length xs + k) ≡ suc (length xs) + k = omega arith in
    subst (λ (n : ℕ). slice_get (y ∷ (xs ++ ys)) n ≡ Some x) e (get-right xs ys k x at)

-- an item of two joined lists is in the first one, or past it in the second one
pub get-cases : {X : Type 0} (xs ys : List X) (k : ℕ) (x : X) → slice_get (xs ++ ys) k ≡ Some x
    → (slice_get xs k ≡ Some x) ⊎ ((j : ℕ) × (k ≡ length xs + j) × (slice_get ys j ≡ Some x))
get-cases [] ys k x at = inr (k, omega arith, at)
get-cases (y ∷ xs) ys zero x at = inl at
get-cases (y ∷ xs) ys (suc k) x at = elim (get-cases xs ys k x at) [
  | inl left ↦ inl left
  | inr (j, e, right) ↦ inr (j, omega arith, right)
]

-- a run is two runs, one after the other
pub run-first : (next : List ℕ → ℕ → List ℕ × ℕ) (list : List ℕ) (xs ys : List (ℕ × ℕ))
    → IsRunFrom next list (xs ++ ys) → IsRunFrom next list xs
run-first next list [] ys run = tt
run-first next list (x ∷ xs) ys run = (run.0, run-first next (next list x.0).0 xs ys run.1)

pub run-second : (next : List ℕ → ℕ → List ℕ × ℕ) (list : List ℕ) (xs ys : List (ℕ × ℕ))
    → IsRunFrom next list (xs ++ ys) → IsRunFrom next (list_after_run next list xs) ys
run-second next list [] ys run = run
run-second next list (x ∷ xs) ys run = run-second next (next list x.0).0 xs ys run.1

pub run-both : (next : List ℕ → ℕ → List ℕ × ℕ) (list : List ℕ) (xs ys : List (ℕ × ℕ))
    → IsRunFrom next list xs → IsRunFrom next (list_after_run next list xs) ys
    → IsRunFrom next list (xs ++ ys)
run-both next list [] ys first second = second
run-both next list (x ∷ xs) ys first second =
    (first.0, run-both next (next list x.0).0 xs ys first.1 second)

pub after-both : (next : List ℕ → ℕ → List ℕ × ℕ) (list : List ℕ) (xs ys : List (ℕ × ℕ))
    → list_after_run next list (xs ++ ys) ≡ list_after_run next (list_after_run next list xs) ys
after-both next list [] ys = refl
after-both next list (x ∷ xs) ys = after-both next (next list x.0).0 xs ys

pub map-both : {X Y : Type 0} (f : X → Y) (xs ys : List X) → map f (xs ++ ys) ≡ map f xs ++ map f ys
map-both f [] ys = refl
map-both f (x ∷ xs) ys = ap (λ zs. f x ∷ zs) (map-both f xs ys)

-- all places of an order are calls of a stream
abbrev pub AreCalls : List StreamEvent → List StreamPlace → Type 0
AreCalls stream order = (place : StreamPlace) → IsAmong order place
    → IsStreamCall stream place.call

-- a call of a stream has its word in each longer stream
pub word-longer : (stream later : List StreamEvent) (call : ℕ) → IsStreamCall stream call
    → word_of_event (slice_get (stream ++ later) call) ≡ word_of_event (slice_get stream call)
word-longer stream later call is =
    ap word_of_event (slice_get-append_within stream later call (call_within stream call is))

pub steps-longer : (stream later : List StreamEvent) (order : List StreamPlace)
    → AreCalls stream order
    → map (stream_step (stream ++ later)) order ≡ map (stream_step stream) order
steps-longer stream later [] calls = refl
steps-longer stream later (place ∷ order) calls =
    let rest = steps-longer stream later order (λ p (k, at). calls p (suc k, at)) in
    let head : ◌≡◌ {A = ℕ × ℕ} (stream_step (stream ++ later) place) (stream_step stream place) =
    ap (λ (w : ℕ). (w, place.reply))
    (word-longer stream later place.call (calls place (0, refl))) in
    ap (λ (s : ℕ × ℕ). s ∷ map (stream_step (stream ++ later)) order) head
    ∙ ap (λ (ss : List (ℕ × ℕ)). stream_step stream place ∷ ss) rest

-- what is among the first or the second list is among the joined ones
pub among-left : (xs ys : List StreamPlace) (place : StreamPlace) → IsAmong xs place
    → IsAmong (xs ++ ys) place
among-left xs ys place (k, at) =
    (k, slice_get-append_within xs ys k (slice_get_within xs k place at) ∙ at)

pub among-right : (xs ys : List StreamPlace) (place : StreamPlace) → IsAmong ys place
    → IsAmong (xs ++ ys) place
among-right xs ys place (k, at) = (length xs + k, get-right xs ys k place at)

pub among-cases : (xs ys : List StreamPlace) (place : StreamPlace) → IsAmong (xs ++ ys) place
    → IsAmong xs place ⊎ IsAmong ys place
among-cases xs ys place (k, at) = elim (get-cases xs ys k place at) [
  | inl left ↦ inl (k, left)
  | inr (j, e, right) ↦ inr (j, right)
]
