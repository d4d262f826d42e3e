-- Which calls of a stream return, and where.
use Rattle.std.proofs.Common.{◌≡◌, ℕ, zero, suc, ◌<◌, ◌≤◌, ◌⊎◌, ◌∙◌, List, ◌++◌, length, Option, Some, None, refl, sym, ap, subst, inl, inr, slice_get, arith}
use Rattle.std.proofs.lemmas.Bool.{cases_eq, cases_lt, cases_order}
use Rattle.std.proofs.lemmas.Option.{same_Some, none-some, slice_get_within}
use Rattle.list_laws.proofs.Prefixes.{slice_get-append_within}
use Rattle.streams.specs.Stream.{StreamEvent, Called, Returned, Lost, process_of, IsCalledAt, IsStreamCall, IsQuiet, Returns, HasReturned}

-- an event of a list is at the same place of a longer one
pub get-longer : {X : Type 0} (xs ys : List X) (k : ℕ) (x : X) → slice_get xs k ≡ Some x
    → slice_get (xs ++ ys) k ≡ Some x
get-longer xs ys k x at = slice_get-append_within xs ys k (slice_get_within xs k x at) ∙ at

-- an event of a longer list at a place of the shorter one is there in the shorter one
pub get-shorter : {X : Type 0} (xs ys : List X) (k : ℕ) (x : X) → k < length xs
    → slice_get (xs ++ ys) k ≡ Some x → slice_get xs k ≡ Some x
get-shorter xs ys k x low at = sym (slice_get-append_within xs ys k low) ∙ at

-- a return is no call
pub return_or_call : (stream : List StreamEvent) (k p r q o : ℕ)
    → slice_get stream k ≡ Some (Returned p r) → IsCalledAt stream k q o → ⊥
return_or_call stream k p r q o returned called = cc

-- there is one event at a place
pub one_event : (stream : List StreamEvent) (k : ℕ) (a b : StreamEvent)
    → slice_get stream k ≡ Some a → slice_get stream k ≡ Some b → a ≡ b
one_event stream k a b first second = same_Some a b (sym first ∙ second)

-- a call returns once
pub returns_once : (stream : List StreamEvent) (call end reply other last : ℕ)
    → Returns stream call end reply → Returns stream call other last
    → (end ≡ other) × (reply ≡ last)
returns_once stream call end reply other last first second =
    let same : first.process ≡ second.process =
    ap process_of (one_event stream call _ _ first.called second.called) in
    elim (cases_order end other) [
      | inl at ↦
          let there : slice_get stream other ≡ Some (Returned first.process reply) =
          subst (λ (k : ℕ). slice_get stream k ≡ Some (Returned first.process reply)) at
          first.returned in
          let event : Returned first.process reply ≡ Returned second.process last =
          one_event stream other _ _ there second.returned in
          let equal : reply ≡ last = cc in
          (at, equal)
      | inr (inl less) ↦ absurd (second.quiet end (Returned first.process reply) first.after less
          first.returned same)
      | inr (inr more) ↦ absurd (first.quiet other (Returned second.process last) second.after more
          second.returned (sym same))
    ]

-- what is quiet in a stream is quiet in a longer one, up to the end of the shorter one
pub quiet-longer : (stream later : List StreamEvent) (process after before : ℕ)
    → before ≤ length stream → IsQuiet stream process after before
    → IsQuiet (stream ++ later) process after before
quiet-longer stream later process after before within quiet k event low high at is =
    quiet k event low high (get-shorter stream later k event (omega arith) at) is

pub quiet-shorter : (stream later : List StreamEvent) (process after before : ℕ)
    → IsQuiet (stream ++ later) process after before → IsQuiet stream process after before
quiet-shorter stream later process after before quiet k event low high at is =
    quiet k event low high (get-longer stream later k event at) is

-- a call that returns in a stream returns in a longer one
pub returns-longer : (stream later : List StreamEvent) (call end reply : ℕ)
    → Returns stream call end reply → Returns (stream ++ later) call end reply
returns-longer stream later call end reply h =
    let within : end < length stream = slice_get_within stream end _ h.returned in
    record {
      process = h.process;
      op = h.op;
      called = get-longer stream later call _ h.called;
      returned = get-longer stream later end _ h.returned;
      after = h.after;
      quiet = quiet-longer stream later h.process call end (omega arith) h.quiet;
    }

-- a call that returns in a longer stream within the shorter one returns in the shorter one
pub returns-shorter : (stream later : List StreamEvent) (call end reply : ℕ)
    → end < length stream → Returns (stream ++ later) call end reply
    → Returns stream call end reply
returns-shorter stream later call end reply within h =
    let after : call < end = h.after in
    record {
      process = h.process;
      op = h.op;
      called = get-shorter stream later call _ (omega arith) h.called;
      returned = get-shorter stream later end _ within h.returned;
      after = h.after;
      quiet = quiet-shorter stream later h.process call end h.quiet;
    }

-- what is quiet up to a place at which the process has no event is quiet past it
quiet-more : (stream : List StreamEvent) (process after n : ℕ) → IsQuiet stream process after n
    → ((event : StreamEvent) → slice_get stream n ≡ Some event → process_of event ≡ process → ⊥)
    → IsQuiet stream process after (suc n)
quiet-more stream process after n quiet none k event low high at is = elim (cases_eq k n) [
  | inl same ↦ none event (subst (λ (i : ℕ). slice_get stream i ≡ Some event) same at) is
  | inr apart ↦ quiet k event low (omega arith) at is
]

-- the first event of a process between two places, or none
abbrev FirstOrQuiet : List StreamEvent → ℕ → ℕ → ℕ → Type 0
FirstOrQuiet stream process after n = IsQuiet stream process after n
    ⊎ ((m : ℕ) × (event : StreamEvent) × (after < m) × (m < n)
    × (slice_get stream m ≡ Some event) × (process_of event ≡ process)
    × IsQuiet stream process after m)

at_event : (stream : List StreamEvent) (process after n : ℕ) (o : Option StreamEvent) → after < n
    → slice_get stream n ≡ o → IsQuiet stream process after n
    → FirstOrQuiet stream process after (suc n)
at_event stream process after n None low is quiet =
    inl (quiet-more stream process after n quiet (λ event at same. none-some event (sym is ∙ at)))
at_event stream process after n (Some event) low is quiet =
    elim (cases_eq (process_of event) process) [
      | inl same ↦ inr (n, event, low, omega arith, is, same, quiet)
      | inr apart ↦ inl (quiet-more stream process after n quiet (λ other at same.
          apart (ap process_of (one_event stream n event other is at) ∙ same)))
    ]

pub first_or_quiet : (stream : List StreamEvent) (process after n : ℕ)
    → FirstOrQuiet stream process after n
first_or_quiet stream process after zero = inl (λ k event low high at is. absurd (omega arith))
first_or_quiet stream process after (suc n) = elim (first_or_quiet stream process after n) [
  | inl quiet ↦ elim (cases_lt after n) [
    | inl low ↦ at_event stream process after n (slice_get stream n) low refl quiet
    | inr past ↦ inl (λ k event low high at is. absurd (omega arith))
  ]
  | inr (m, event, low, high, at, is, quiet) ↦ inr (m, event, low, omega arith, at, is, quiet)
]

-- a call returns only at the first event of its process after it
pub returns_first : (stream : List StreamEvent) (call end reply process op m : ℕ)
    (event : StreamEvent)
    → IsCalledAt stream call process op → call < m → slice_get stream m ≡ Some event
    → process_of event ≡ process → IsQuiet stream process call m
    → Returns stream call end reply → m ≡ end
returns_first stream call end reply process op m event called after at is quiet h =
    let same : h.process ≡ process = ap process_of (one_event stream call _ _ h.called called) in
    elim (cases_order m end) [
      | inl equal ↦ equal
      | inr (inl less) ↦ absurd (h.quiet m event after less at (is ∙ sym same))
      | inr (inr more) ↦ absurd
          (quiet end (Returned h.process reply) h.after more h.returned same)
    ]

by_first : (stream : List StreamEvent) (call process op m : ℕ) (event : StreamEvent)
    → IsCalledAt stream call process op → call < m → slice_get stream m ≡ Some event
    → process_of event ≡ process → IsQuiet stream process call m
    → HasReturned stream call ⊎ (HasReturned stream call → ⊥)
by_first stream call process op m (Called p o) called after at is quiet = inr (λ (end, reply, h).
    let here : m ≡ end =
    returns_first stream call end reply process op m (Called p o) called after at is quiet h in
    return_or_call stream m h.process reply p o
    (subst (λ (k : ℕ). slice_get stream k ≡ Some (Returned h.process reply)) (sym here) h.returned)
    at)
by_first stream call process op m (Returned p r) called after at is quiet = inl (
  m,
  r,
  record {
    process = process;
    op = op;
    called = called;
    returned = at ∙ ap (λ (n : ℕ). Some (Returned n r)) is;
    after = after;
    quiet = quiet;
  },
)
by_first stream call process op m (Lost p) called after at is quiet = inr (λ (end, reply, h).
    let here : m ≡ end =
    returns_first stream call end reply process op m (Lost p) called after at is quiet h in
    let event : Lost p ≡ Returned h.process reply = one_event stream m _ _ at
    (subst (λ (k : ℕ). slice_get stream k ≡ Some (Returned h.process reply)) (sym here) h.returned)
    in absurd cc)

at_call : (stream : List StreamEvent) (call : ℕ) (o : Option StreamEvent)
    → slice_get stream call ≡ o → HasReturned stream call ⊎ (HasReturned stream call → ⊥)
at_call stream call None is = inr (λ (end, reply, h). none-some _ (sym is ∙ h.called))
at_call stream call (Some (Called p o)) is =
    elim (first_or_quiet stream p call (length stream)) [
      | inl quiet ↦ inr (λ (end, reply, h). quiet end (Returned h.process reply) h.after
          (slice_get_within stream end _ h.returned) h.returned
          (ap process_of (one_event stream call _ _ h.called is)))
      | inr (m, event, low, high, at, same, quiet) ↦
          by_first stream call p o m event is low at same quiet
    ]
at_call stream call (Some (Returned p r)) is =
    inr (λ (end, reply, h). return_or_call stream call p r h.process h.op is h.called)
at_call stream call (Some (Lost p)) is = inr (λ (end, reply, h).
    let event : Lost p ≡ Called h.process h.op = one_event stream call _ _ is h.called in absurd cc)

-- a call returns or it doesn't
pub cases_returned : (stream : List StreamEvent) (call : ℕ)
    → HasReturned stream call ⊎ (HasReturned stream call → ⊥)
cases_returned stream call = at_call stream call (slice_get stream call) refl

-- a call that returns is a call of the stream
pub returned_call : (stream : List StreamEvent) (call end reply : ℕ)
    → Returns stream call end reply → IsStreamCall stream call
returned_call stream call end reply h = (h.process, h.op, h.called)

-- a call of a stream is at a place of it
pub call_within : (stream : List StreamEvent) (call : ℕ) → IsStreamCall stream call
    → call < length stream
call_within stream call (process, op, at) = slice_get_within stream call (Called process op) at
