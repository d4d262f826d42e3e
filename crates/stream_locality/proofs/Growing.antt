-- The part of a key while a stream goes on.
use Rattle.std.proofs.Common.{◌≡◌, ℕ, ◌<◌, ◌⊎◌, ◌∙◌, List, [], ◌∷◌, ◌++◌, length, get_or, slice_get, Some, refl, sym, ap, subst, inl, inr, arith, append-nil, append_assoc, length-append}
use Rattle.std.proofs.lemmas.Bool.{cases_eq, cases_lt, cases_order}
use Rattle.std.proofs.lemmas.Option.{same_Some, none-some, slice_get_within, slice_get-get_or}
use Rattle.list_laws.proofs.Places.{slice_get-push_last, slice_get-push_cases}
use Rattle.list_laws.proofs.Prefixes.{slice_get-append_within}
use Rattle.streams.specs.Stream.{StreamEvent, Called, Returned, Lost, process_of, Ends, IsCalledAt, IsQuiet}
use Rattle.streams.proofs.Returning.{get-longer, get-shorter, one_event, quiet-longer, quiet-shorter}
use Rattle.streams.proofs.Pushing.{LastOrNone, last_or_none}
use Rattle.smaller_book.specs.Part.{AreRising}
use Rattle.stream_locality.specs.StreamParts.{IsOneOf, IsOfKey, IsStreamOfKey, PartsGrow, PartsContinue, PartsExist}
use Rattle.stream_locality.proofs.Parts.{no_call, called_key}

-- an event of a key is an event of the stream
of_key-within : (key : ℕ → ℕ) (k : ℕ) (stream : List StreamEvent) (place : ℕ)
    → IsOfKey key k stream place → place < length stream
of_key-within key k stream place (call, process, op, called, same, inl equal) =
    omega (arith, equal, slice_get_within stream call (Called process op) called)
of_key-within key k stream place (call, process, op, called, same, inr ends) =
    slice_get_within stream place ends.event ends.at

-- in a longer stream an event keeps its key
of_key-longer : (key : ℕ → ℕ) (k : ℕ) (stream later : List StreamEvent) (place : ℕ)
    → IsOfKey key k stream place → IsOfKey key k (stream ++ later) place
of_key-longer key k stream later place (call, process, op, called, same, inl equal) =
    (call, process, op, get-longer stream later call (Called process op) called, same, inl equal)
of_key-longer key k stream later place (call, process, op, called, same, inr ends) = (
  call,
  process,
  op,
  get-longer stream later call (Called process op) called,
  same,
  let low : place < length stream = slice_get_within stream place ends.event ends.at in
      inr (record {
        event = ends.event;
        at = get-longer stream later place ends.event ends.at;
        own = ends.own;
        ends = ends.ends;
        after = ends.after;
        quiet = quiet-longer stream later process call place (omega (arith, low)) ends.quiet;
      }),
)

of_key-shorter : (key : ℕ → ℕ) (k : ℕ) (stream later : List StreamEvent) (place : ℕ)
    → place < length stream → IsOfKey key k (stream ++ later) place → IsOfKey key k stream place
of_key-shorter key k stream later place low (call, process, op, called, same, inl equal) = (
  call,
  process,
  op,
  get-shorter stream later call (Called process op) (omega (arith, low, equal)) called,
  same,
  inl equal,
)
of_key-shorter key k stream later place low (call, process, op, called, same, inr ends) = (
  call,
  process,
  op,
  get-shorter stream later call (Called process op) (omega (arith, low, ends.after)) called,
  same,
  inr (record {
    event = ends.event;
    at = get-shorter stream later place ends.event low ends.at;
    own = ends.own;
    ends = ends.ends;
    after = ends.after;
    quiet = quiet-shorter stream later process call place ends.quiet;
  }),
)

module _ (key : ℕ → ℕ) (k : ℕ) (stream : List StreamEvent) (event : StreamEvent)
    (places : List ℕ) (part : List StreamEvent) (is : IsStreamOfKey key k stream places part) where
  within : (place : ℕ) → IsOneOf places place → place < length stream
  within place one = of_key-within key k stream place ((is.events place).0 one)

  -- a place of the longer stream is one of the stream, or that of the new event
  old_or_new : (place : ℕ) → IsOfKey key k (stream ++ event ∷ []) place
      → (place < length stream) ⊎ (place ≡ length stream)
  old_or_new place of_key = elim (cases_lt place (length stream)) [
    | inl low ↦ inl low
    | inr past ↦ inr (omega (
      arith,
      past,
      of_key-within key k (stream ++ event ∷ []) place of_key,
      length-append stream (event ∷ []),
    ))
  ]

  old : (place : ℕ) → place < length stream → IsOfKey key k (stream ++ event ∷ []) place
      → IsOneOf places place
  old place low of_key =
      (is.events place).1 (of_key-shorter key k stream (event ∷ []) place low of_key)

  -- the events of the part are at the same places of the longer stream
  same_longer : (j place : ℕ) → slice_get places j ≡ Some place
      → slice_get part j ≡ slice_get (stream ++ event ∷ []) place
  same_longer j place at =
      is.same j place at
      ∙ sym (slice_get-append_within stream (event ∷ []) place (within place (j, at)))

  -- where the new event isn't of the key, the part stays
  pub part_stays : (IsOfKey key k (stream ++ event ∷ []) (length stream) → ⊥)
      → IsStreamOfKey key k (stream ++ event ∷ []) places part
  part_stays other = record {
    long = is.long;
    rising = is.rising;
    same = same_longer;
    events = λ place. (
      λ one. of_key-longer key k stream (event ∷ []) place ((is.events place).0 one),
      λ of_key. elim (old_or_new place of_key) [
        | inl low ↦ old place low of_key
        | inr new ↦ absurd
            (other (subst (λ (n : ℕ). IsOfKey key k (stream ++ event ∷ []) n) new of_key))
      ],
    );
  }

  -- the place of the new event after the others is greater than these
  rising_more : AreRising (places ++ length stream ∷ [])
  rising_more i j less low =
      let longer : List ℕ = places ++ length stream ∷ [] in
      let at : slice_get longer i ≡ Some (get_or longer i 0) =
      slice_get-get_or longer i 0 (omega (arith, less, low)) in
      let bt : slice_get longer j ≡ Some (get_or longer j 0) = slice_get-get_or longer j 0 low in
      elim (slice_get-push_cases places (length stream) i (get_or longer i 0) at) [
        | inr new ↦ absurd (omega (
          arith,
          new.0,
          less,
          low,
          length-append places (length stream ∷ []),
        ))
        | inl first ↦ elim (slice_get-push_cases places (length stream) j (get_or longer j 0) bt) [
          | inr last ↦ omega (arith, last.1, within (get_or longer i 0) (i, first))
          | inl second ↦
              let inside : j < length places =
              slice_get_within places j (get_or longer j 0) second in
              let one : get_or places i 0 ≡ get_or longer i 0 =
              same_Some (get_or places i 0) (get_or longer i 0)
              (sym (slice_get-get_or places i 0 (omega (arith, less, inside))) ∙ first) in
              let other : get_or places j 0 ≡ get_or longer j 0 =
              same_Some (get_or places j 0) (get_or longer j 0)
              (sym (slice_get-get_or places j 0 inside) ∙ second) in
              omega (arith, is.rising i j less inside, one, other)
        ]
      ]

  -- where it is of the key, it is the part's last event
  pub part_grows : IsOfKey key k (stream ++ event ∷ []) (length stream)
      → IsStreamOfKey key k (stream ++ event ∷ []) (places ++ length stream ∷ [])
      (part ++ event ∷ [])
  part_grows own = record {
    long = omega (
      arith,
      is.long,
      length-append part (event ∷ []),
      length-append places (length stream ∷ []),
    );
    rising = rising_more;
    same = λ j place at. elim (slice_get-push_cases places (length stream) j place at) [
      | inl first ↦
          slice_get-append_within part (event ∷ []) j
          (omega (arith, is.long, slice_get_within places j place first))
          ∙ same_longer j place first
      | inr last ↦
          let end : j ≡ length part = omega (arith, is.long, last.0) in
          ap (λ (n : ℕ). slice_get (part ++ event ∷ []) n) end
          ∙ (slice_get-push_last part event
          ∙ sym (ap (λ (n : ℕ). slice_get (stream ++ event ∷ []) n) last.1
          ∙ slice_get-push_last stream event))
    ];
    events = λ place. (
      λ (j, at). elim (slice_get-push_cases places (length stream) j place at) [
        | inl first ↦
            of_key-longer key k stream (event ∷ []) place ((is.events place).0 (j, first))
        | inr last ↦ subst (λ (n : ℕ). IsOfKey key k (stream ++ event ∷ []) n) (sym last.1) own
      ],
      λ of_key. elim (old_or_new place of_key) [
        | inl low ↦
            let one = old place low of_key in
            (one.0, get-longer places (length stream ∷ []) one.0 place one.1)
        | inr new ↦ (
          length places,
          slice_get-push_last places (length stream) ∙ ap Some (sym new),
        )
      ],
    );
  }

pub parts_grow : PartsGrow
parts_grow key k stream event places part is =
    (part_grows key k stream event places part is, part_stays key k stream event places part is)

-- ---- whether an event is of a key

-- a statement holds, or it doesn't
abbrev Decided : Type 0 → Type 0
Decided P = P ⊎ (P → ⊥)

module _ (key : ℕ → ℕ) (k : ℕ) (stream : List StreamEvent) where
  -- a call at the end of a stream
  decide_call : (process op : ℕ)
      → Decided (IsOfKey key k (stream ++ Called process op ∷ []) (length stream))
  decide_call process op =
      let longer : List StreamEvent = stream ++ Called process op ∷ [] in
      let at : slice_get longer (length stream) ≡ Some (Called process op) =
      slice_get-push_last stream (Called process op) in
      elim (cases_eq (key op) k) [
        | inl same ↦ inl (length stream, process, op, at, same, inl refl)
        | inr apart ↦ inr (λ of_key. apart
            (called_key key k longer (length stream) process op at of_key))
      ]

  -- a return or a loss at the end of a stream, after the last event of its process
  decide_end : (event : StreamEvent) → Ends event
      → LastOrNone (stream ++ event ∷ []) (process_of event) (length stream)
      → Decided (IsOfKey key k (stream ++ event ∷ []) (length stream))
  decide_end event ends last =
      let longer : List StreamEvent = stream ++ event ∷ [] in
      let at : slice_get longer (length stream) ≡ Some event = slice_get-push_last stream event in
      decide last
    where
      -- the call that the event ends is the last event of the process
      ended : (m : ℕ) (other : StreamEvent)
          → slice_get (stream ++ event ∷ []) m ≡ Some other
          → process_of other ≡ process_of event → m < length stream
          → IsQuiet (stream ++ event ∷ []) (process_of event) m (length stream)
          → IsOfKey key k (stream ++ event ∷ []) (length stream)
          → (op : ℕ) × (Called (process_of event) op ≡ other) × (key op ≡ k)
      ended m other here own low quiet (call, process, op, called, same, inl equal) =
          absurd (no_call (stream ++ event ∷ []) (length stream) process op event
          (slice_get-push_last stream event) ends
          (subst (λ (n : ℕ). IsCalledAt (stream ++ event ∷ []) n process op) (sym equal) called))
      ended m other here own low quiet (call, process, op, called, same, inr end) =
          let mine : process ≡ process_of event =
          sym end.own
          ∙ ap process_of (one_event (stream ++ event ∷ []) (length stream) end.event event end.at
          (slice_get-push_last stream event)) in
          let place : call ≡ m = elim (cases_order call m) [
            | inl equal ↦ equal
            | inr (inl less) ↦ absurd (end.quiet m other less low here (own ∙ sym mine))
            | inr (inr more) ↦ absurd (quiet call (Called process op) more end.after called mine)
          ] in (
            op,
            ap (λ (p : ℕ). Called p op) (sym mine)
                ∙ one_event (stream ++ event ∷ []) m (Called process op) other
                (subst (λ (n : ℕ). IsCalledAt (stream ++ event ∷ []) n process op) place called)
                here,
            same,
          )

      decide : LastOrNone (stream ++ event ∷ []) (process_of event) (length stream)
          → Decided (IsOfKey key k (stream ++ event ∷ []) (length stream))
      decide (inl none) = inr (λ of_key. first_of of_key)
        where
          first_of : IsOfKey key k (stream ++ event ∷ []) (length stream) → ⊥
          first_of (call, process, op, called, same, inl equal) =
              no_call (stream ++ event ∷ []) (length stream) process op event
              (slice_get-push_last stream event) ends
              (subst (λ (n : ℕ). IsCalledAt (stream ++ event ∷ []) n process op) (sym equal) called)
          first_of (call, process, op, called, same, inr end) =
              none call (Called process op) end.after called (sym end.own
              ∙ ap process_of (one_event (stream ++ event ∷ []) (length stream) end.event event
              end.at (slice_get-push_last stream event)))
      decide (inr (m, Called p o, low, here, own, quiet)) = elim (cases_eq (key o) k) [
        | inl same ↦ inl (
          m,
          p,
          o,
          here,
          same,
          inr (record {
            event = event;
            at = slice_get-push_last stream event;
            own = sym own;
            ends = ends;
            after = low;
            quiet = subst (λ (q : ℕ). IsQuiet (stream ++ event ∷ []) q m (length stream)) (sym own)
                quiet;
          }),
        )
        | inr apart ↦ inr (λ of_key.
            let found = ended m (Called p o) here own low quiet of_key in
            let op : found.0 ≡ o = same_word found.1 in
            apart (ap key (sym op) ∙ found.2))
      ]
        where
          same_word : {q w : ℕ} → Called q w ≡ Called p o → w ≡ o
          same_word is = cc
      decide (inr (m, Returned p r, low, here, own, quiet)) = inr (λ of_key.
          let found = ended m (Returned p r) here own low quiet of_key in
          let is : Called (process_of event) found.0 ≡ Returned p r = found.1 in absurd cc)
      decide (inr (m, Lost p, low, here, own, quiet)) = inr (λ of_key.
          let found = ended m (Lost p) here own low quiet of_key in
          let is : Called (process_of event) found.0 ≡ Lost p = found.1 in absurd cc)

  -- the event at the end of a stream is of a key or it isn't
  pub decide_key : (event : StreamEvent)
      → Decided (IsOfKey key k (stream ++ event ∷ []) (length stream))
  decide_key (Called process op) = decide_call process op
  decide_key (Returned process reply) = decide_end (Returned process reply) tt
      (last_or_none (stream ++ Returned process reply ∷ []) process (length stream))
  decide_key (Lost process) = decide_end (Lost process) tt
      (last_or_none (stream ++ Lost process ∷ []) process (length stream))

-- ---- several events

pub parts_continue : PartsContinue
parts_continue key k stream [] places part is = (
  [],
  [],
  subst (λ (ps : List ℕ). IsStreamOfKey key k (stream ++ []) ps (part ++ []))
      (sym (append-nil places))
      (subst (λ (p : List StreamEvent). IsStreamOfKey key k (stream ++ []) places p)
      (sym (append-nil part))
      (subst (λ (s : List StreamEvent). IsStreamOfKey key k s places part)
      (sym (append-nil stream)) is)),
)
parts_continue key k stream (event ∷ later) places part is =
    let whole : (stream ++ event ∷ []) ++ later ≡ stream ++ event ∷ later =
    append_assoc stream (event ∷ []) later in
    elim (decide_key key k stream event) [
      | inl own ↦
          let rest = parts_continue key k (stream ++ event ∷ []) later
          (places ++ length stream ∷ []) (part ++ event ∷ [])
          (part_grows key k stream event places part is own) in (
            length stream ∷ rest.0,
            event ∷ rest.1,
            subst (λ (s : List StreamEvent). IsStreamOfKey key k s
                (places ++ length stream ∷ rest.0) (part ++ event ∷ rest.1)) whole
                (subst (λ (ps : List ℕ). IsStreamOfKey key k ((stream ++ event ∷ []) ++ later) ps
                (part ++ event ∷ rest.1)) (append_assoc places (length stream ∷ []) rest.0)
                (subst (λ (p : List StreamEvent). IsStreamOfKey key k
                ((stream ++ event ∷ []) ++ later) ((places ++ length stream ∷ []) ++ rest.0) p)
                (append_assoc part (event ∷ []) rest.1) rest.2)),
          )
      | inr other ↦
          let rest = parts_continue key k (stream ++ event ∷ []) later places part
          (part_stays key k stream event places part is other) in (
            rest.0,
            rest.1,
            subst (λ (s : List StreamEvent). IsStreamOfKey key k s (places ++ rest.0)
                (part ++ rest.1)) whole rest.2,
          )
    ]

-- the part of the empty stream
pub empty_part : (key : ℕ → ℕ) (k : ℕ) → IsStreamOfKey key k [] [] []
empty_part key k = record {
  long = refl;
  rising = λ i j less low. absurd (omega (arith, low));
  same = λ j place at. absurd (none-some place at);
  events = λ place. (
    λ (j, at). absurd (none-some place at),
    λ of_key. absurd (omega (arith, of_key-within key k [] place of_key)),
  );
}

pub parts_exist : PartsExist
parts_exist key k whole = parts_continue key k [] whole [] [] (empty_part key k)
