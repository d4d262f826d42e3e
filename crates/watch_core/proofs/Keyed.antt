-- The parts of a stream by key with one more event.
use Rattle.std.proofs.Common.{◌≡◌, ◌∙◌, ℕ, zero, suc, ◌-◌, ◌<◌, ◌≤◌, List, [], ◌∷◌, ◌++◌, length, get_or, Some, slice_get, refl, sym, ap, subst, inl, inr, arith}
use Rattle.std.proofs.lemmas.Bool.{cases_lt, cases_eq}
use Rattle.std.proofs.lemmas.Option.{slice_get_within, slice_get-get_or, get_or_from_slice_get}
use Rattle.list_laws.proofs.Places.{slice_get-push_last}
use Rattle.seq_objects.specs.declared.kind.Kind.{Kind}
use Rattle.seq_objects.specs.Objects.{kind_spec}
use Rattle.streams.specs.Stream.{StreamEvent, Called, Lost, process_of, Ends, IsCalledAt, IsWaiting, Returns}
use Rattle.streams.specs.StreamOrder.{HasLegalStreamOrder}
use Rattle.streams.proofs.Returning.{get-longer, get-shorter, quiet-longer, quiet-shorter, one_event}
use Rattle.late_residue.specs.declared.open_call.OpenCall.{OpenCall}
use Rattle.late_residue.specs.Reached.{Has}
use Rattle.late_residue.specs.Laws.{AreKnownFrom}
use Rattle.late_residue.proofs.Taking.{one_waits}
use Rattle.stream_locality.specs.StreamParts.{IsStreamOfKey}
use Rattle.stream_locality.specs.KindKeys.{key_of_kind}
use Rattle.stream_locality.proofs.Parts.{no_call, same_op, called_key, place_once, call_was, call_is, returns_is}
use Rattle.stream_locality.proofs.Growing.{parts_exist}
use Rattle.stream_locality.proofs.KindProducts.{kind_locality}
use Rattle.watch_core.specs.Parts.{AreKnownAt, IsNextOfKey}

-- a call is of the key of its operation word
pub next_call : (kind : Kind) (stream : List StreamEvent) (process op : ℕ)
    → IsNextOfKey kind (key_of_kind kind op) stream (Called process op)
next_call kind stream process op k = (
  λ of_key. called_key (key_of_kind kind) k (stream ++ Called process op ∷ []) (length stream)
      process op (slice_get-push_last stream (Called process op)) of_key,
  λ same. (
    length stream,
    process,
    op,
    slice_get-push_last stream (Called process op),
    same,
    inl refl,
  ),
)

-- a return or a loss is of the key of the call that it ends
pub next_end : (kind : Kind) (stream : List StreamEvent) (event : StreamEvent) (call op : ℕ)
    → Ends event → IsWaiting stream (process_of event) call
    → IsCalledAt stream call (process_of event) op
    → IsNextOfKey kind (key_of_kind kind op) stream event
next_end kind stream event call op ends waits called k = (
  λ (other, process, word, at, same, belongs). elim belongs [
    | inl place ↦ absurd (no_call (stream ++ event ∷ []) (length stream) process word event
        (slice_get-push_last stream event) ends
        (subst (λ (n : ℕ). IsCalledAt (stream ++ event ∷ []) n process word) (sym place) at))
    | inr end ↦
        let is_event : end.event ≡ event = one_event (stream ++ event ∷ []) (length stream)
        end.event event end.at (slice_get-push_last stream event) in
        let own : process_of event ≡ process = ap process_of (sym is_event) ∙ end.own in
        let there : IsCalledAt stream other process word =
        get-shorter stream (event ∷ []) other _ end.after at in
        let waiting : IsWaiting stream process other = (
          word,
          there,
          quiet-shorter stream (event ∷ []) process other (length stream) end.quiet,
        ) in
        let one : call ≡ other = one_waits stream process call other
        (subst (λ (p : ℕ). IsWaiting stream p call) own waits) waiting in
        ap (key_of_kind kind) (same_op stream call (process_of event) op process word called
        (subst (λ (c : ℕ). IsCalledAt stream c process word) (sym one) there))
        ∙ same
  ],
  λ same. (
    call,
    process_of event,
    op,
    get-longer stream (event ∷ []) call _ called,
    same,
    inr (record {
      event = event;
      at = slice_get-push_last stream event;
      own = refl;
      ends = ends;
      after = slice_get_within stream call _ called;
      quiet = quiet-longer stream (event ∷ []) (process_of event) call (length stream)
          (omega arith) waits.2;
    }),
  ),
)

rising_least : (places : List ℕ)
    → ((i j : ℕ) → i < j → j < length places → get_or places i 0 < get_or places j 0) → (j : ℕ)
    → j < length places
    → j ≤ get_or places j 0
rising_least places rising zero low = omega arith
rising_least places rising (suc j) low =
    let before = rising_least places rising j (omega (arith, low)) in
    let more = rising j (suc j) (omega arith) low in
    omega (arith, before, more)

module _ (key : ℕ → ℕ) (k : ℕ) (stream : List StreamEvent) (places : List ℕ)
    (events : List StreamEvent) (is : IsStreamOfKey key k stream places events) where
  -- a part is no longer than the whole stream
  pub part_short : length events ≤ length stream
  part_short = elim (cases_lt 0 (length events)) [
    | inl some ↦
        let last : ℕ = length events - 1 in
        let low : last < length places = omega (arith, some, is.long) in
        let within : last < length events = omega (arith, some) in
        let there = sym (is.same last (get_or places last 0) (slice_get-get_or places last 0 low))
        ∙ slice_get-get_or events last (Lost 0) within in
        omega (
          arith,
          some,
          rising_least places is.rising last low,
          slice_get_within stream (get_or places last 0) _ there,
        )
    | inr none ↦ omega (arith, none)
  ]

  -- a process that waits for a call of the key waits for it in the part
  pub waits_is : (process call op : ℕ) → IsWaiting stream process call
      → IsCalledAt stream call process op → key op ≡ k
      → (j : ℕ) × (slice_get places j ≡ Some call) × IsWaiting events process j
  waits_is process call op waits called same =
      let there = call_is key k stream places events is call process op called same in (
        there.0,
        slice_get-get_or places there.0 0 there.1 ∙ ap (λ (n : ℕ). Some n) there.2,
        (
          op,
          there.3,
          λ m event past below at own.
              let low : m < length places = omega (arith, below, is.long) in
              let here =
              sym (is.same m (get_or places m 0) (slice_get-get_or places m 0 low)) ∙ at in
              waits.2 (get_or places m 0) event
              (omega (arith, is.rising there.0 m past low, there.2))
              (slice_get_within stream (get_or places m 0) event here) here own,
        ),
      )

  -- what is known of a part's calls from the whole stream is known from its part
  pub known_in_part : (near : List StreamEvent) (more : List ℕ) (rest : List StreamEvent)
      (calls : List OpenCall)
      → IsStreamOfKey key k (stream ++ near) (places ++ more) (events ++ rest)
      → ((one : OpenCall) → Has calls one → IsCalledAt events one.call one.process one.op)
      → AreKnownAt (stream ++ near) places calls → AreKnownFrom events rest calls
  known_in_part near more rest calls longer called known one has reply given =
      let there = known one has reply given in
      let whole = stream ++ near in
      let was = call_was key k whole (places ++ more) (events ++ rest) longer one.call one.process
      one.op (get-longer events rest one.call _ (called one has)) in
      let here : get_or (places ++ more) one.call 0 ≡ there.0 =
      get_or_from_slice_get (places ++ more) one.call there.0 0
      (get-longer places more one.call there.0 there.2) in
      let same : key there.3.op ≡ k = ap key (same_op whole there.0 there.3.process there.3.op
      one.process one.op there.3.called
      (subst (λ (c : ℕ). IsCalledAt whole c one.process one.op) here was.1))
      ∙ was.2 in
      let mine = returns_is key k whole (places ++ more) (events ++ rest) longer there.0 there.1
      reply there.3 same in
      let own : mine.0 ≡ one.call = place_once key k whole (places ++ more) (events ++ rest)
      longer mine.0 one.call mine.2 was.0 (mine.4 ∙ sym here) in
      (mine.1, subst (λ (c : ℕ). Returns (events ++ rest) c mine.1 reply) own mine.6)

-- a part of a stream with a legal order has one
pub part_legal : (kind : Kind) (k : ℕ) (stream : List StreamEvent) (places : List ℕ)
    (events : List StreamEvent) → IsStreamOfKey (key_of_kind kind) k stream places events
    → HasLegalStreamOrder (kind_spec kind) stream → HasLegalStreamOrder (kind_spec kind) events
part_legal kind k stream places events is legal =
    subst (λ (e : List StreamEvent). HasLegalStreamOrder (kind_spec kind) e) ((family k).3 refl)
    ((kind_locality kind stream (λ j. (family j).0) (λ j. (family j).1) (λ j. (family j).2)).0
    legal k)
  where
    family : (j : ℕ) → (ps : List ℕ) × (es : List StreamEvent)
        × IsStreamOfKey (key_of_kind kind) j stream ps es × (j ≡ k → es ≡ events)
    family j = elim (cases_eq j k) [
      | inl same ↦ (
        places,
        events,
        subst (λ (i : ℕ). IsStreamOfKey (key_of_kind kind) i stream places events) (sym same) is,
        λ e. refl,
      )
      | inr apart ↦
          let there = parts_exist (key_of_kind kind) j stream in
          (there.0, there.1, there.2, λ e. absurd (apart e))
    ]
