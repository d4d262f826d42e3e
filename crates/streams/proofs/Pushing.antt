-- What one more event changes of the calls of a stream and of their returns.
use Rattle.std.proofs.Common.{◌≡◌, ℕ, zero, suc, ◌<◌, ◌⊎◌, ◌∙◌, List, [], ◌∷◌, ◌++◌, length, Option, Some, None, refl, sym, ap, subst, inl, inr, slice_get, arith, append-nil}
use Rattle.std.proofs.lemmas.Bool.{cases_eq, cases_order}
use Rattle.std.proofs.lemmas.Option.{none-some, slice_get_within}
use Rattle.list_laws.proofs.Places.{slice_get-push_last, slice_get-push_cases}
use Rattle.streams.specs.Stream.{StreamEvent, Called, Returned, Lost, process_of, IsCalledAt, IsStreamCall, IsQuiet, Returns, HasReturned, IsWaiting, IsValidStream}
use Rattle.streams.proofs.Returning.{get-longer, get-shorter, one_event, returns_once, quiet-longer, quiet-shorter, returns-longer, returns-shorter}

-- No call returns in the events that follow.
abbrev pub NoneReturns : List StreamEvent → List StreamEvent → Type 0
NoneReturns stream later = (call end reply : ℕ) → Returns (stream ++ later) call end reply
    → Returns stream call end reply

-- a return in a stream with one more event is one of the stream, or the new event
new_return : (stream : List StreamEvent) (event : StreamEvent) (call end reply : ℕ)
    → (h : Returns (stream ++ event ∷ []) call end reply)
    → Returns stream call end reply
    ⊎ ((end ≡ length stream) × (Returned h.process reply ≡ event))
new_return stream event call end reply h =
    elim (slice_get-push_cases stream event end (Returned h.process reply) h.returned) [
      | inl old ↦ inl (returns-shorter stream (event ∷ []) call end reply
          (slice_get_within stream end _ old) h)
      | inr new ↦ inr new
    ]

pub no_return-called : (stream : List StreamEvent) (process op : ℕ)
    → NoneReturns stream (Called process op ∷ [])
no_return-called stream process op call end reply h =
    elim (new_return stream (Called process op) call end reply h) [
      | inl old ↦ old
      | inr new ↦ let e : Returned h.process reply ≡ Called process op = new.1 in absurd cc
    ]

pub no_return-lost : (stream : List StreamEvent) (process : ℕ)
    → NoneReturns stream (Lost process ∷ [])
no_return-lost stream process call end reply h =
    elim (new_return stream (Lost process) call end reply h) [
      | inl old ↦ old
      | inr new ↦ let e : Returned h.process reply ≡ Lost process = new.1 in absurd cc
    ]

-- a stream without further events has the same returns
end_within : (stream : List StreamEvent) (call end reply : ℕ)
    → Returns (stream ++ []) call end reply → end < length stream
end_within stream call end reply h =
    slice_get_within stream end _ (subst (λ (s : List StreamEvent). slice_get s end
    ≡ Some (Returned h.process reply)) (append-nil stream) h.returned)

pub no_return-none : (stream : List StreamEvent) → NoneReturns stream []
no_return-none stream call end reply h =
    returns-shorter stream [] call end reply (end_within stream call end reply h) h

-- an event that is no call adds no call
pub old_call : (stream : List StreamEvent) (event : StreamEvent)
    → ((process op : ℕ) → Called process op ≡ event → ⊥) → (call : ℕ)
    → IsStreamCall (stream ++ event ∷ []) call → IsStreamCall stream call
old_call stream event none call (process, op, at) =
    elim (slice_get-push_cases stream event call (Called process op) at) [
      | inl old ↦ (process, op, old)
      | inr new ↦ absurd (none process op new.1)
    ]

-- two calls that return at one place are one call
one_returns : (stream : List StreamEvent) (a b end reply other : ℕ) → Returns stream a end reply
    → Returns stream b end other → a ≡ b
one_returns stream a b end reply other first second =
    let process : first.process ≡ second.process =
    ap process_of (one_event stream end _ _ first.returned second.returned) in
    elim (cases_order a b) [
      | inl same ↦ same
      | inr (inl less) ↦ absurd (first.quiet b (Called second.process second.op) less second.after
          second.called (sym process))
      | inr (inr more) ↦ absurd (second.quiet a (Called first.process first.op) more first.after
          first.called process)
    ]

module _ (stream : List StreamEvent) (process call reply : ℕ)
    (waits : IsWaiting stream process call) where
  -- a call that a process waits for returns at the return of the process
  pub returns_now : Returns (stream ++ Returned process reply ∷ []) call (length stream) reply
  returns_now = record {
    process = process;
    op = waits.0;
    called = get-longer stream (Returned process reply ∷ []) call _ waits.1;
    returned = slice_get-push_last stream (Returned process reply);
    after = slice_get_within stream call _ waits.1;
    quiet = quiet-longer stream (Returned process reply ∷ []) process call (length stream)
        (omega arith) waits.2;
  }

  -- no other call returns there
  pub no_other_returns : (other end last : ℕ)
      → Returns (stream ++ Returned process reply ∷ []) other end last
      → Returns stream other end last
      ⊎ ((other ≡ call) × (last ≡ reply) × (end ≡ length stream))
  no_other_returns other end last h =
      elim (new_return stream (Returned process reply) other end last h) [
        | inl old ↦ inl old
        | inr new ↦
            let there : Returns (stream ++ Returned process reply ∷ []) other (length stream) last =
            subst (λ (n : ℕ). Returns (stream ++ Returned process reply ∷ []) other n last)
            new.0 h in
            let one : other ≡ call = one_returns (stream ++ Returned process reply ∷ []) other call
            (length stream) last reply there returns_now in
            let here : Returns (stream ++ Returned process reply ∷ []) call (length stream) last =
            subst (λ (n : ℕ). Returns (stream ++ Returned process reply ∷ []) n (length stream)
            last) one there in
            inr (
              one,
              (returns_once (stream ++ Returned process reply ∷ []) call (length stream)
                  last (length stream) reply here returns_now).1,
              new.0,
            )
      ]

  -- it hasn't returned before
  pub not_before : HasReturned stream call → ⊥
  not_before (end, last, h) =
      let same = returns_once (stream ++ Returned process reply ∷ []) call end last (length stream)
      reply (returns-longer stream (Returned process reply ∷ []) call end last h) returns_now in
      omega (arith, same.0, slice_get_within stream end _ h.returned)

-- the process of a return waits for a call before it
pub waits_before : (stream : List StreamEvent) (process reply : ℕ)
    → IsValidStream (stream ++ Returned process reply ∷ [])
    → (call : ℕ) × IsWaiting stream process call
waits_before stream process reply valid =
    let found = valid.ends (length stream) (Returned process reply)
    (slice_get-push_last stream (Returned process reply)) tt in (
      found.0,
      (
        found.1,
        get-shorter stream (Returned process reply ∷ []) found.0 (Called process found.1) found.2
            found.3,
        quiet-shorter stream (Returned process reply ∷ []) process found.0 (length stream) found.4,
      ),
    )

-- a prefix of a valid stream is valid
pub valid-prefix : (stream later : List StreamEvent) → IsValidStream (stream ++ later)
    → IsValidStream stream
valid-prefix stream later valid = record {
  calls = λ j k process op other less first second.
      let found = valid.calls j k process op other less (get-longer stream later j _ first)
      (get-longer stream later k _ second) in
      let before : found.0 < k = found.3 in
      let low : k < length stream = slice_get_within stream k _ second in (
        found.0,
        found.1,
        found.2,
        found.3,
        get-shorter stream later found.0 found.1 (omega arith)
            found.4,
        found.5,
        found.6,
      );
  ends = λ end event at is.
      let found = valid.ends end event (get-longer stream later end event at) is in
      let before : found.0 < end = found.2 in
      let low : end < length stream = slice_get_within stream end event at in (
        found.0,
        found.1,
        found.2,
        get-shorter stream later found.0 _ (omega arith) found.3,
        quiet-shorter stream later (process_of event) found.0 end found.4,
      );
}

-- the event at the end of a stream, or one before it
pub called_cases : (stream : List StreamEvent) (event : StreamEvent) (call process op : ℕ)
    → IsCalledAt (stream ++ event ∷ []) call process op
    → IsCalledAt stream call process op ⊎ ((call ≡ length stream) × (Called process op ≡ event))
called_cases stream event call process op at =
    slice_get-push_cases stream event call (Called process op) at

-- the last event of a process below a place, or none
abbrev pub LastOrNone : List StreamEvent → ℕ → ℕ → Type 0
LastOrNone stream process n =
    ((k : ℕ) (event : StreamEvent) → k < n → slice_get stream k ≡ Some event
    → process_of event ≡ process → ⊥)
    ⊎ ((m : ℕ) × (event : StreamEvent) × (m < n) × (slice_get stream m ≡ Some event)
    × (process_of event ≡ process) × IsQuiet stream process m n)

last-more : (stream : List StreamEvent) (process n : ℕ)
    → ((event : StreamEvent) → slice_get stream n ≡ Some event → process_of event ≡ process → ⊥)
    → LastOrNone stream process n → LastOrNone stream process (suc n)
last-more stream process n none (inl before) = inl (λ k event low at is. elim (cases_eq k n) [
  | inl same ↦ none event (subst (λ (i : ℕ). slice_get stream i ≡ Some event) same at) is
  | inr apart ↦ before k event (omega arith) at is
])
last-more stream process n none (inr (m, event, low, at, is, quiet)) = inr (
  m,
  event,
  omega arith,
  at,
  is,
  λ k other past below there same. elim (cases_eq k n) [
    | inl here ↦ none other (subst (λ (i : ℕ). slice_get stream i ≡ Some other) here there) same
    | inr apart ↦ quiet k other past (omega arith) there same
  ],
)

last_at : (stream : List StreamEvent) (process n : ℕ) (o : Option StreamEvent)
    → slice_get stream n ≡ o → LastOrNone stream process n → LastOrNone stream process (suc n)
last_at stream process n None is before =
    last-more stream process n (λ event at same. none-some event (sym is ∙ at)) before
last_at stream process n (Some event) is before = elim (cases_eq (process_of event) process) [
  | inl same ↦ inr (
    n,
    event,
    omega arith,
    is,
    same,
    λ k other past below there equal. absurd (omega arith),
  )
  | inr apart ↦ last-more stream process n (λ other at same.
      apart (ap process_of (one_event stream n event other is at) ∙ same)) before
]

pub last_or_none : (stream : List StreamEvent) (process n : ℕ) → LastOrNone stream process n
last_or_none stream process zero = inl (λ k event low at is. absurd (omega arith))
last_or_none stream process (suc n) =
    last_at stream process n (slice_get stream n) refl (last_or_none stream process n)
