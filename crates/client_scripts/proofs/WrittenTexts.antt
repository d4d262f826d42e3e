-- The bytes that are written of a plan are read as this plan.
use Rattle.std.proofs.Common.{◌≡◌, ℕ, zero, suc, ◌+◌, ◌*◌, ◌<◌, ◌≤◌, ◌^◌, List, [], ◌∷◌, ◌++◌, length, get_or, set, Option, Some, None, refl, sym, ap, subst, ◌∙◌, append_assoc, arith, inl, inr}
use Rattle.std.specs.List.{AllByRecursion, concat}
use Rattle.std.proofs.lemmas.List.{append-nil, length-append, length-map}
use Rattle.book_base.specs.declared.TheConstants.{MAX_CALLERS}
use Rattle.book_base.specs.declared.call.Call.{Call}
use Rattle.seq_objects.specs.declared.kind.Kind.{Kind}
use Rattle.text_fields.specs.declared.version.Version.{Version}
use Rattle.text_fields.specs.declared.version.Version.TheVariants.{First, Second}
use Rattle.text_fields.specs.Version.{most_callers, most_calls, word_limit}
use Rattle.text_fields.specs.Lines.{text_of, by_number}
use Rattle.text_fields.specs.Counts.{AreAtMost, AreNumbers}
use Rattle.text_fields.specs.Head.{TitleDue, ObjectDue, CallersDue, CountsDue, HeadRead}
use Rattle.text_fields.specs.Faults.{AllPass}
use Rattle.text_fields.proofs.Sharp.{AllPass-append}
use Rattle.book_text.specs.CallLines.{calls_from, all_calls}
use Rattle.book_text.specs.Grammar.{end_words}
use Rattle.client_scripts.specs.declared.TheConstants.{PHASES}
use Rattle.client_scripts.specs.Plans.{Plan, sizes, AreStops, IsPlan}
use Rattle.client_scripts.specs.Grammar.{call_line, caller_lines, stop_line, turns_words, script_lines, IsWrittenText}
use Rattle.client_scripts.specs.ScriptRules.{Begun, begin, with_operation, with_operations, with_stop, grouped, plan_with, InHead, InBody, Turned, AtEnd, ScriptPasses, script_rules, IsScriptText}
use Rattle.client_scripts.proofs.Groups.{grouped-concat, gap, set_after, length-stops}

pub few_callers : (version : Version) → most_callers version < 2 ^ 32
few_callers First = omega arith
few_callers Second = omega arith

pub most_both : (version : Version) → most_callers version ≤ MAX_CALLERS
most_both First = omega arith
most_both Second = omega arith

pub few_calls : (version : Version) → most_calls version < 2 ^ 32
few_calls First = omega arith
few_calls Second = omega arith

-- the state after calls, by their operations
pub after_calls : (kind : Kind) (begun : Begun) (due : List Call) (a b : List ℕ) → a ≡ b
    → InBody kind (record begun { operations = a }) due
    ≡ InBody kind (record begun { operations = b }) due
after_calls kind begun due a b e =
    ap (λ (ops : List ℕ). InBody kind (record begun { operations = ops }) due) e

at_most : (most : ℕ) (counts : List ℕ) (i : ℕ) → AreAtMost most counts → get_or counts i 0 ≤ most
at_most most [] i h = omega arith
at_most most (c ∷ counts) zero h = h.0
at_most most (c ∷ counts) (suc i) h = at_most most counts i h.1

module _ (version : Version) (kind : Kind) where
  abbrev AreSmall : List ℕ → Type 0
  AreSmall ops = AllByRecursion (λ op. op < word_limit version) ops

  -- the lines of a caller's calls are right
  caller_passes : (begun : Begun) (i k : ℕ) (ops : List ℕ) (due : List Call) → i < 2 ^ 64
      → k + length ops < 2 ^ 64 → AreSmall ops
      → AllPass (ScriptPasses version) (InBody kind begun (calls_from i k (length ops) ++ due))
      (by_number (call_line kind i) k ops) (InBody kind (with_operations begun ops) due)
  caller_passes begun i k [] due few small has = after_calls kind begun due begun.operations
      (begun.operations ++ []) (sym (append-nil begun.operations))
  caller_passes begun i k (op ∷ ops) due few small has =
      let next : Begun = with_operation begun op in
      let joined : (begun.operations ++ op ∷ []) ++ ops ≡ begun.operations ++ op ∷ ops =
      append_assoc begun.operations (op ∷ []) ops in (
        InBody kind next (calls_from i (k + 1) (length ops) ++ due),
        (op, record { named = (few, (omega arith, tt)); has = has.0; text = refl }, refl),
        subst (AllPass (ScriptPasses version) (InBody kind next
            (calls_from i (k + 1) (length ops) ++ due)) (by_number (call_line kind i) (k + 1) ops))
            (after_calls kind begun due _ _ joined)
            (caller_passes next i (k + 1) ops due few (omega arith) has.1),
      )

  -- the lines of all callers' calls are right
  callers_pass : (most : ℕ) (begun : Begun) (i : ℕ) (operations : List (List ℕ)) → most < 2 ^ 32
      → i + length operations < 2 ^ 64 → AreAtMost most (sizes operations)
      → AllByRecursion AreSmall operations
      → AllPass (ScriptPasses version) (InBody kind begun (all_calls i (sizes operations)))
      (by_number (caller_lines kind) i operations)
      (InBody kind (with_operations begun (concat operations)) [])
  callers_pass most begun i [] few small calls has = after_calls kind begun [] begun.operations
      (begun.operations ++ []) (sym (append-nil begun.operations))
  callers_pass most begun i (ops ∷ operations) few small calls has =
      let joined : (begun.operations ++ ops) ++ concat operations ≡ begun.operations
      ++ (ops ++ concat operations) = append_assoc begun.operations ops (concat operations) in
      let later : List Call = all_calls (i + 1) (sizes operations) in
      AllPass-append (script_rules version)
      (InBody kind begun (all_calls i (sizes (ops ∷ operations))))
      (InBody kind (with_operations begun ops) later)
      (InBody kind (with_operations begun (concat (ops ∷ operations))) [])
      (caller_lines kind i ops) (by_number (caller_lines kind) (i + 1) operations)
      (caller_passes begun i 0 ops later (omega arith) (omega (arith, calls.0)) has.0)
      (subst (AllPass (ScriptPasses version) (InBody kind (with_operations begun ops) later)
      (by_number (caller_lines kind) (i + 1) operations)) (after_calls kind begun [] _ _ joined)
      (callers_pass most (with_operations begun ops) (i + 1) operations few
      (omega arith) calls.1 has.1))

  -- the stops given so far are a prefix of all stops, and no caller after them has one yet
  record AreToldTo (calls : List ℕ) (stops whole : List (Option ℕ)) (i least : ℕ)
      (done counts : List ℕ) (rest : List (Option ℕ)) : Type 0 where
    pub prefix : List (Option ℕ)
    pub told : stops ≡ prefix ++ gap (length rest)
    pub all : whole ≡ prefix ++ rest
    pub here : i ≡ length prefix
    pub order : least ≤ i
    pub split : calls ≡ done ++ counts
    pub place : length done ≡ i

  get_middle : (done : List ℕ) (c : ℕ) (counts : List ℕ)
      → get_or (done ++ c ∷ counts) (length done) 0 ≡ c
  get_middle [] c counts = refl
  get_middle (d ∷ done) c counts = get_middle done c counts

  -- the lines after the calls are right
  tail_passes : (calls operations : List ℕ) (turns : List ℕ) (stops whole : List (Option ℕ))
      (i least : ℕ) (done counts : List ℕ) (rest : List (Option ℕ))
      → AreToldTo calls stops whole i least done counts rest → AreStops counts rest
      → length calls < 2 ^ 32 → AreAtMost (2 ^ 32) calls
      → AllByRecursion (λ caller. caller < length calls) turns → AreNumbers turns
      → AllPass (ScriptPasses version) (InBody kind
      (record { calls = calls; operations = operations; stops = stops; least = least }) [])
      (by_number stop_line i rest ++ turns_words turns ∷ [])
      (Turned
      (record { kind = kind; operations = grouped calls operations; stops = whole; turns = turns }))
  tail_passes calls operations turns stops whole i least done counts [] told may few small
      callers numbers =
      let begun : Begun =
      record { calls = calls; operations = operations; stops = stops; least = least } in (
        Turned (plan_with kind begun turns),
        inr (
          turns,
          record { may = record { callers = callers; numbers = numbers }; text = refl },
          refl,
        ),
        ap (λ (s : List (Option ℕ)). Turned (record {
          kind = kind;
          operations = grouped calls operations;
          stops = s;
          turns = turns;
        })) (told.told ∙ sym told.all),
      )
  tail_passes calls operations turns stops whole i least done [] (stop ∷ rest) told may few small
      callers numbers = absurd may
  tail_passes calls operations turns stops whole i least done (c ∷ counts)
      (None ∷ rest) told may few small callers numbers =
      let one : List (Option ℕ) = None ∷ [] in
      tail_passes calls operations turns stops whole (i + 1) least
      (done ++ c ∷ []) counts rest (record {
        prefix = told.prefix ++ one;
        told = told.told ∙ sym (append_assoc told.prefix (None ∷ []) (gap (length rest)));
        all = told.all ∙ sym (append_assoc told.prefix (None ∷ []) rest);
        here = omega (arith, told.here, length-append told.prefix one);
        order = omega (arith, told.order);
        split = told.split ∙ sym (append_assoc done (c ∷ []) counts);
        place = omega (arith, told.place, length-append done (c ∷ []));
      }) may.1 few small callers numbers
  tail_passes calls operations turns stops whole i least done (c ∷ counts)
      (Some phases ∷ rest) told may few small callers numbers =
      let begun : Begun =
      record { calls = calls; operations = operations; stops = stops; least = least } in
      let next : Begun = with_stop begun i phases in
      let inside : i < length calls =
      omega (arith, ap (length {A = ℕ}) told.split, length-append done (c ∷ counts), told.place) in
      let at : get_or calls i 0 ≡ c = ap (λ (xs : List ℕ). get_or xs i 0) told.split ∙ ap
      (λ (k : ℕ). get_or (done ++ c ∷ counts) k 0) (sym told.place) ∙ get_middle done c counts in
      let bound : c ≤ 2 ^ 32 = omega (arith, at, at_most (2 ^ 32) calls i small) in
      let early : phases < PHASES * get_or calls i 0 =
      subst (λ (n : ℕ). phases < PHASES * n) (sym at) may.0 in (
        InBody kind next [],
        inl (
          i,
          phases,
          record {
            may = record {
              rising = told.order;
              inside = inside;
              early = early;
              numbers = (omega arith, (omega arith, tt));
            };
            text = refl;
          },
          refl,
        ),
        tail_passes calls operations turns next.stops whole (i + 1) (i + 1)
            (done ++ c ∷ []) counts rest (record {
              prefix = told.prefix ++ Some phases ∷ [];
              told = ap (λ (s : List (Option ℕ)). set s i (Some phases)) told.told
                  ∙ set_after told.prefix (length (Some phases ∷ rest)) 0 (length rest) i
                  (Some phases)
                  (omega arith) (omega (arith, told.here));
              all = told.all ∙ sym (append_assoc told.prefix (Some phases ∷ []) rest);
              here = omega (arith, told.here, length-append told.prefix (Some phases ∷ []));
              order = omega arith;
              split = told.split ∙ sym (append_assoc done (c ∷ []) counts);
              place = omega (arith, told.place, length-append done (c ∷ []));
            }) may.1 few small callers numbers,
      )

module _ (version : Version) (plan : Plan) (w : IsPlan version plan) where
  turns_small : (turns : List ℕ) → AllByRecursion (λ caller. caller < length plan.operations) turns
      → AreNumbers turns
  turns_small [] h = tt
  turns_small (t ∷ turns) h = (
    let lt : t < length plan.operations = h.0 in omega (arith, w.callers, few_callers version),
    turns_small turns h.1,
  )

  wider : (counts : List ℕ) → AreAtMost (most_calls version) counts → AreAtMost (2 ^ 32) counts
  wider [] h = tt
  wider (c ∷ counts) h =
      (let le : c ≤ most_calls version = h.0 in omega (arith, few_calls version), wider counts h.1)

  counts_size : length (sizes plan.operations) ≡ length plan.operations
  counts_size = length-map plan.operations (λ (ops : List ℕ). length ops)

  -- the lines of a plan are right from the title to the end
  lines_pass : AllPass (ScriptPasses version) (InHead TitleDue) (script_lines version plan)
      (AtEnd plan)
  lines_pass =
      let counts : List ℕ = sizes plan.operations in
      let size : length counts ≡ length plan.operations = counts_size in
      let began : Begun = begin counts in
      let read : Begun = with_operations began (concat plan.operations) in
      let calls = callers_pass version plan.kind (most_calls version) began 0 plan.operations
      (few_calls version) (omega (arith, w.callers, few_callers version)) w.calls w.operations in
      let same : record plan { operations = grouped counts (concat plan.operations) } ≡ plan =
      ap (λ (ops : List (List ℕ)). record plan { operations = ops })
      (grouped-concat plan.operations) in
      let stops : List (List (List ℕ)) = by_number stop_line 0 plan.stops in
      let turns = turns_words plan.turns in
      let told = tail_passes version plan.kind counts
      (concat plan.operations) plan.turns began.stops plan.stops 0 0 [] counts plan.stops
      (record {
        prefix = [];
        told = ap gap (sym (length-stops counts plan.stops w.stops));
        all = refl;
        here = refl;
        order = omega arith;
        split = refl;
        place = refl;
      })
      w.stops (omega (arith, w.callers, few_callers version)) (wider counts w.calls)
      (subst (λ (n : ℕ). AllByRecursion (λ caller. caller < n) plan.turns) (sym size) w.turns)
      (turns_small plan.turns w.turns) in
      let tail : AllPass (ScriptPasses version) (InBody plan.kind read []) (stops ++ turns ∷ [])
      (Turned plan)
      = subst (λ (p : Plan). AllPass (ScriptPasses version) (InBody plan.kind read [])
      (stops ++ turns ∷ []) (Turned p)) same told in
      let last : AllPass (ScriptPasses version) (Turned plan) (end_words ∷ []) (AtEnd plan) =
      (AtEnd plan, (refl, refl), refl) in
      let ended = AllPass-append (script_rules version) (InBody plan.kind read []) (Turned plan)
      (AtEnd plan) (stops ++ turns ∷ []) (end_words ∷ []) tail last in
      let joined : (stops ++ turns ∷ []) ++ end_words ∷ [] ≡ stops ++ turns ∷ end_words ∷ [] =
      append_assoc stops (turns ∷ []) (end_words ∷ []) in
      let suffix = subst (λ (ls : List (List (List ℕ))).
      AllPass (ScriptPasses version) (InBody plan.kind read []) ls (AtEnd plan)) joined ended in (
        InHead ObjectDue,
        (ObjectDue, (refl, refl), refl),
        (
          InHead (CallersDue plan.kind),
          (CallersDue plan.kind, (plan.kind, w.kind_known, refl, refl), refl),
          (
            InHead (CountsDue plan.kind (length counts)),
            (
              CountsDue plan.kind (length counts),
              (
                length counts,
                record { some = omega (arith, w.some); few = omega (arith, w.callers) },
                refl,
                refl,
              ),
              refl,
            ),
            (
              InBody plan.kind began (all_calls 0 counts),
              (
                HeadRead plan.kind counts,
                (counts, record { count = refl; few = w.calls }, refl, refl),
                refl,
              ),
              AllPass-append (script_rules version) (InBody plan.kind began (all_calls 0 counts))
                  (InBody plan.kind read []) (AtEnd plan)
                  (by_number (caller_lines plan.kind) 0 plan.operations)
                  (stops ++ turns ∷ end_words ∷ []) calls suffix,
            ),
          ),
        ),
      )

-- the bytes that are written of a plan are read as this plan
pub written_is_read : (version : Version) (bytes : List ℕ) (plan : Plan)
    → IsWrittenText version bytes plan → IsScriptText version bytes plan
written_is_read version bytes plan h =
    let lines = script_lines version plan in (
      record { bytes = []; number = 1 + length lines },
      record {
        goes = record {
          lines = lines;
          right = lines_pass version plan h.writable;
          bytes = h.text ∙ sym (append-nil (text_of lines));
          number = refl;
        };
        through = refl;
      },
    )
