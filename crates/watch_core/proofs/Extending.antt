-- Valid streams with one more event, and the calls for which processes wait then.
use Rattle.std.proofs.Common.{◌≡◌, ◌≢◌, ◌∙◌, ℕ, ◌<◌, List, [], ◌∷◌, ◌++◌, length, Some, slice_get, refl, sym, ap, subst, inl, inr, arith}
use Rattle.std.proofs.lemmas.Bool.{cases_order}
use Rattle.std.proofs.lemmas.Option.{slice_get_within}
use Rattle.list_laws.proofs.Places.{slice_get-push_last, slice_get-push_cases}
use Rattle.streams.specs.Stream.{StreamEvent, Called, Returned, Lost, process_of, Ends, IsCalledAt, IsQuiet, IsWaiting, IsValidStream}
use Rattle.streams.proofs.Returning.{get-longer, get-shorter, one_event, quiet-longer}
use Rattle.streams.proofs.Pushing.{called_cases, last_or_none}
use Rattle.watch_core.specs.Table.{Waits}

-- a process that isn't that of the next event still waits
pub waiting-longer : (stream : List StreamEvent) (event : StreamEvent) (process call : ℕ)
    → process_of event ≢ process → IsWaiting stream process call
    → IsWaiting (stream ++ event ∷ []) process call
waiting-longer stream event process call apart (op, called, quiet) = (
  op,
  get-longer stream (event ∷ []) call _ called,
  λ k other past below at same. elim (slice_get-push_cases stream event k other at) [
    | inl old ↦ quiet k other past (slice_get_within stream k other old) old same
    | inr new ↦ apart (ap process_of (sym new.1) ∙ same)
  ],
)

pub waiting-shorter : (stream : List StreamEvent) (event : StreamEvent) (process call : ℕ)
    → call < length stream → IsWaiting (stream ++ event ∷ []) process call
    → IsWaiting stream process call
waiting-shorter stream event process call within (op, called, quiet) = (
  op,
  get-shorter stream (event ∷ []) call _ within called,
  λ k other past below at same. quiet k other past
      (slice_get_within (stream ++ event ∷ []) k other (get-longer stream (event ∷ []) k other at))
      (get-longer stream (event ∷ []) k other at) same,
)

-- a call waits right after it is called
pub waiting_now : (stream : List StreamEvent) (process op : ℕ)
    → IsWaiting (stream ++ Called process op ∷ []) process (length stream)
waiting_now stream process op = (
  op,
  slice_get-push_last stream (Called process op),
  λ k other past below at same.
      elim (slice_get-push_cases stream (Called process op) k other at) [
        | inl old ↦ let low : k < length stream = slice_get_within stream k other old in
            absurd (omega (arith, past, low))
        | inr new ↦ absurd (omega (arith, past, new.0))
      ],
)

-- a process whose event comes waits for no earlier call
pub waits_not : (stream : List StreamEvent) (event : StreamEvent) (call : ℕ)
    → call < length stream → IsWaiting (stream ++ event ∷ []) (process_of event) call → ⊥
waits_not stream event call within (op, called, quiet) =
    quiet (length stream) event within
    (slice_get_within (stream ++ event ∷ []) (length stream) event
    (slice_get-push_last stream event))
    (slice_get-push_last stream event) refl

ended_or_waits : (stream : List StreamEvent) (process m : ℕ) (event : StreamEvent)
    → slice_get stream m ≡ Some event → process_of event ≡ process
    → IsQuiet stream process m (length stream) → (Waits stream process → ⊥) → Ends event
ended_or_waits stream process m (Called other op) at same quiet free = free (
  m,
  (
    op,
    subst (λ (p : ℕ). slice_get stream m ≡ Some (Called p op)) same at,
    quiet,
  ),
)
ended_or_waits stream process m (Returned other reply) at same quiet free = tt
ended_or_waits stream process m (Lost other) at same quiet free = tt

end_is_no_call : (event : StreamEvent) (process op : ℕ) → Ends event → Called process op ≡ event
    → ⊥
end_is_no_call event process op ends is = subst (λ (e : StreamEvent). Ends e) (sym is) ends

old-calls : (stream : List StreamEvent) (event : StreamEvent) → IsValidStream stream
    → (j k process op other : ℕ) → j < k → k < length stream
    → IsCalledAt (stream ++ event ∷ []) j process op → IsCalledAt stream k process other
    → (end : ℕ) × (ending : StreamEvent) × (j < end) × (end < k)
    × (slice_get (stream ++ event ∷ []) end ≡ Some ending) × (process_of ending ≡ process)
    × Ends ending
old-calls stream event valid j k process op other less low first second =
    let found = valid.calls j k process op other less
    (get-shorter stream (event ∷ []) j _ (omega (arith, less, low)) first) second in (
      found.0,
      found.1,
      found.2,
      found.3,
      get-longer stream (event ∷ []) found.0 found.1 found.4,
      found.5,
      found.6,
    )

old-ends : (stream : List StreamEvent) (event : StreamEvent) → IsValidStream stream
    → (end : ℕ) (ending : StreamEvent) → slice_get stream end ≡ Some ending → Ends ending
    → (call : ℕ) × (op : ℕ) × (call < end)
    × IsCalledAt (stream ++ event ∷ []) call (process_of ending) op
    × IsQuiet (stream ++ event ∷ []) (process_of ending) call end
old-ends stream event valid end ending at ends =
    let found = valid.ends end ending at ends in
    let low : end < length stream = slice_get_within stream end ending at in (
      found.0,
      found.1,
      found.2,
      get-longer stream (event ∷ []) found.0 _ found.3,
      quiet-longer stream (event ∷ []) (process_of ending) found.0 end (omega (arith, low)) found.4,
    )

-- a process that doesn't wait may call
pub valid_call : (stream : List StreamEvent) (process op : ℕ) → IsValidStream stream
    → (Waits stream process → ⊥) → IsValidStream (stream ++ Called process op ∷ [])
valid_call stream process op valid free = record {
  calls = λ j k p o other less first second.
      elim (called_cases stream (Called process op) k p other second) [
        | inl old ↦ old-calls stream (Called process op) valid j k p o other less
            (slice_get_within stream k _ old) first old
        | inr new ↦
            let same : p ≡ process = ap process_of new.1 in
            last_end j k p o less first new.0 same
      ];
  ends = λ end ending at ends.
      elim (slice_get-push_cases stream (Called process op) end ending at) [
        | inl old ↦ old-ends stream (Called process op) valid end ending old ends
        | inr new ↦ absurd (end_is_no_call ending process op ends (sym new.1))
      ];
}
  where
    last_end : (j k p o : ℕ) → j < k → IsCalledAt (stream ++ Called process op ∷ []) j p o
        → k ≡ length stream → p ≡ process
        → (end : ℕ) × (ending : StreamEvent) × (j < end) × (end < k)
        × (slice_get (stream ++ Called process op ∷ []) end ≡ Some ending)
        × (process_of ending ≡ p) × Ends ending
    last_end j k p o less first here same =
        let called : IsCalledAt stream j p o =
        get-shorter stream (Called process op ∷ []) j _ (omega (arith, less, here)) first in
        elim (last_or_none stream p (length stream)) [
          | inl none ↦ absurd (none j (Called p o) (omega (arith, less, here)) called refl)
          | inr (m, event, low, at, is, quiet) ↦
              let ends : Ends event = ended_or_waits stream p m event at is quiet
              (λ (w : Waits stream p). free (subst (λ (q : ℕ). Waits stream q) same w)) in
              elim (cases_order j m) [
                | inl equal ↦ absurd (end_is_no_call event p o ends (one_event stream m
                    (Called p o) event
                    (subst (λ (i : ℕ). slice_get stream i ≡ Some (Called p o)) equal called) at))
                | inr (inl before) ↦ (
                  m,
                  event,
                  before,
                  omega (arith, low, here),
                  get-longer stream (Called process op ∷ []) m event at,
                  is,
                  ends,
                )
                | inr (inr after) ↦ absurd (quiet j (Called p o) after
                    (slice_get_within stream j _ called) called refl)
              ]
        ]

-- a process that waits may return or lose its call
pub valid_end : (stream : List StreamEvent) (event : StreamEvent) → IsValidStream stream
    → Ends event → Waits stream (process_of event) → IsValidStream (stream ++ event ∷ [])
valid_end stream event valid is_end (call, (op, called, quiet)) = record {
  calls = λ j k p o other less first second. elim (called_cases stream event k p other second) [
    | inl old ↦ old-calls stream event valid j k p o other less
        (slice_get_within stream k _ old) first old
    | inr new ↦ absurd (end_is_no_call event p other is_end new.1)
  ];
  ends = λ end ending at ends. elim (slice_get-push_cases stream event end ending at) [
    | inl old ↦ old-ends stream event valid end ending old ends
    | inr new ↦ (
      call,
      op,
      subst (λ (n : ℕ). call < n) (sym new.0) (slice_get_within stream call _ called),
      subst (λ (e : StreamEvent). IsCalledAt (stream ++ event ∷ []) call (process_of e) op)
          (sym new.1) (get-longer stream (event ∷ []) call _ called),
      subst (λ (e : StreamEvent). IsQuiet (stream ++ event ∷ []) (process_of e) call end)
          (sym new.1) (subst (λ (n : ℕ).
          IsQuiet (stream ++ event ∷ []) (process_of event) call n) (sym new.0)
          (quiet-longer stream (event ∷ []) (process_of event) call (length stream)
          (omega arith) quiet)),
    )
  ];
}
