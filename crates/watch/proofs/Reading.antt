-- What a watching holds after it read one line more.
use Rattle.std.proofs.Common.{◌≡◌, ◌≢◌, ◌∙◌, ℕ, zero, suc, ◌+◌, ◌-◌, ◌<◌, ◌≤◌, Bool, true, false, cond, if◌then◌else◌, List, [], ◌∷◌, ◌++◌, length, Option, Some, None, slice_get, nat_eq, ◌⊎◌, refl, sym, ap, subst, inl, inr, arith, bytes_eq, length-append}
use Rattle.std.specs.Prelude.{not, ◌||◌}
use Rattle.std.specs.List.{list_any, position_or_len}
use Rattle.indexmap.specs.IndexSet.{contains}
use Rattle.list_laws.proofs.Places.{slice_get-push_old, slice_get-push_last, slice_get-push_cases}
use Rattle.streams.specs.Stream.{StreamEvent, Called, Returned, Lost as LostCall}
use Rattle.seq_objects.specs.declared.kind.Kind.{Kind}
use Rattle.std.proofs.lemmas.Option.{slice_get_within}
use Rattle.std.proofs.lemmas.Slice.Eq.{bytes_eq-Decides}
use Rattle.stream_text.specs.Reader.{HasRead, Tells as ReaderTells}
use Rattle.stream_text.specs.declared.reader.Phase.TheVariants as phases
use Rattle.stream_text.specs.declared.reader.Taken.{Taken}
use Rattle.stream_text.specs.declared.reader.Taken.TheVariants as takens
use Rattle.watch_core.specs.Event.{event_of}
use Rattle.watch_core.specs.declared.event.Event.{Event}
use Rattle.stream_text.specs.Source.{IsWholeLine}
use Rattle.stream_text.specs.Stream.{ObjectEvent, Said, Due, TitleDue, ObjectDue, EventDue, Ended, AllPass, Passes, Leads, ReadsAs, nothing_of, events_of, names_with, object_named, with_event}
use Rattle.stream_text.specs.declared.line.StreamLine.{StreamLine}
use Rattle.stream_text.specs.declared.line.StreamLine.TheVariants.{Call, Return, Lost, End}
use Rattle.watch.specs.Output.{OutputLine, Legal, Unsure}
use Rattle.watch.specs.Lines.{Says, IsNamed, head_lines}
use Rattle.watch.specs.Timely.{IsLegalBefore, IsReported, IsPunctual, IsPunctualBut}
use Rattle.watch.specs.Account.{Has, IsUnsureTold}
use Rattle.watch.specs.Watching.{SaysSoFar, AreEven, AreNamed, AreWatched, AreApart, Holds, IsNext}
use Rattle.watch.specs.declared.watching.Watching.{Watching}
use Rattle.stream_text.proofs.Names.{not_named}
use Rattle.watch.proofs.Outputs.{output_longer}
use Rattle.watch.proofs.Growing.{events_same}
use Rattle.watch.specs.declared.settings.Settings.{Settings}

-- lines that pass, and one more
pub one_passes : (due : Due) (lines : List (List ℕ)) (line : List ℕ) (mid after : Due)
    → AllPass due lines mid → IsWholeLine line → Passes mid line after
    → AllPass due (lines ++ line ∷ []) after
one_passes due [] line mid after e whole passes =
    (whole, (after, subst (λ (d : Due). Passes d line after) (sym e) passes, refl))
one_passes due (x ∷ xs) line mid after (first, (next, pass, rest)) whole passes =
    (first, (next, pass, one_passes next xs line mid after rest whole passes))

some_name : (b c : Bool) → b ≡ true → b || c ≡ true
some_name true c e = refl
some_name false c e = absurd cc

none_before : (b c : Bool) → b || c ≡ false → c ≡ false
none_before true c e = absurd cc
none_before false c e = e

-- a name is one of those where it stands
fresh_name : (name : List ℕ) (names : List (List ℕ)) (k : ℕ)
    → list_any (bytes_eq name) names ≡ false → slice_get names k ≡ Some name → ⊥
fresh_name name [] k none at = absurd cc
fresh_name name (x ∷ xs) zero none at =
    let same : name ≡ x = cc in
    let yes = some_name (bytes_eq name x) (list_any (bytes_eq name) xs)
    ((bytes_eq-Decides name x).1 same) in
    absurd (let e : true ≡ false = sym yes ∙ none in cc)
fresh_name name (x ∷ xs) (suc k) none at =
    fresh_name name xs k (none_before (bytes_eq name x) (list_any (bytes_eq name) xs) none) at

with_name : (b : Bool) (said : Said) (name : List ℕ) (object : ℕ)
    → (b ≡ false → object ≡ length said.names)
    → (b ≡ false → (k : ℕ) → slice_get said.names k ≡ Some name → ⊥)
    → object < length (if b then said.names else said.names ++ name ∷ [])
    → IsNext said (if b then said.names else said.names ++ name ∷ []) object
with_name true said name object new fresh low = inl (refl, low)
with_name false said name object new fresh low = inr (name, refl, new refl, fresh refl)

-- the names that are said where an event is due
names_due : Due → List (List ℕ)
names_due (EventDue said) = said.names
names_due _ = []

events_due : Due → List ObjectEvent
events_due (EventDue said) = said.events
events_due _ = []

object_at : Option ObjectEvent → ℕ
object_at (Some one) = one.object
object_at None = 0

same_names : (said : Said) (xs ys : List (List ℕ)) (a b : ℕ) (e f : StreamEvent)
    → EventDue (with_event said xs a e) ≡ EventDue (with_event said ys b f) → xs ≡ ys
unfolding names_due
same_names said xs ys a b e f same = ap names_due same

same_object : (said : Said) (xs ys : List (List ℕ)) (a b : ℕ) (e f : StreamEvent)
    → EventDue (with_event said xs a e) ≡ EventDue (with_event said ys b f) → a ≡ b
unfolding events_due object_at
same_object said xs ys a b e f same =
    let one : ObjectEvent = record { object = a; event = e } in
    let two : ObjectEvent = record { object = b; event = f } in
    let here = sym (slice_get-push_last said.events one)
    ∙ (ap (λ (d : Due). slice_get (events_due d) (length said.events)) same
    ∙ slice_get-push_last said.events two) in
    ap object_at here

-- where a line leads to an event more, its object has a name, which is the last one if it is new
pub next_said : (said : Said) (read : StreamLine) (names : List (List ℕ)) (object : ℕ)
    (event : StreamEvent) → Leads said read (EventDue (with_event said names object event))
    → object < length names → IsNext said names object
next_said said (Call process name op) names object event leads low =
    let ns = names_with said.names name.now in
    let o = object_named said.names name.now in
    let same : ns ≡ names =
    sym (same_names said names ns object o event (Called process op) leads.2) in
    let at : o ≡ object =
    sym (same_object said names ns object o event (Called process op) leads.2) in
    subst (λ (l : List (List ℕ)). IsNext said l object) same
    (subst (λ (n : ℕ). IsNext said ns n) at
    (with_name (list_any (bytes_eq name.now) said.names) said name.now o
    (not_named (bytes_eq name.now) said.names)
    (λ none k at. fresh_name name.now said.names k none at)
    (subst (λ (n : ℕ). n < length ns) (sym at)
    (subst (λ (l : List (List ℕ)). object < length l) (sym same) low))))
next_said said (Return process reply) names object event (o, pending, leads) low =
    let same : names ≡ said.names =
    same_names said names said.names object o event (Returned process reply) leads in
    inl (same, subst (λ (l : List (List ℕ)). object < length l) same low)
next_said said (Lost process) names object event (o, pending, leads) low =
    let same : names ≡ said.names =
    same_names said names said.names object o event (LostCall process) leads in
    inl (same, subst (λ (l : List (List ℕ)). object < length l) same low)
next_said said End names object event leads low = absurd cc

-- A watching has read one line more than another one, and all else is as there, but the objects.
pub record IsLineMore (a b : Watching) : Type 0 where
  pub settings : b.settings ≡ a.settings
  pub number : b.number ≡ a.number + 1
  pub said : b.said ≡ a.said
  pub flag : b.is_unsure ≡ a.is_unsure
  pub unsure : b.unsure ≡ a.unsure

-- a name stays where it is
named_still : (said : Said) (names : List (List ℕ)) (object k : ℕ) (name : List ℕ)
    → IsNext said names object → slice_get said.names k ≡ Some name
    → slice_get names k ≡ Some name
named_still said names object k name next at =
    elim next [
      | inl (same, low) ↦ ap (λ (l : List (List ℕ)). slice_get l k) same ∙ at
      | inr (new, more, is, fresh) ↦
          ap (λ (l : List (List ℕ)). slice_get l k) more
          ∙ slice_get-push_old said.names new k name at
    ]

grown : (said : Said) (names : List (List ℕ)) (object : ℕ) → IsNext said names object
    → (length said.names ≤ length names) × (object < length names)
grown said names object next =
    elim next [
      | inl (same, low) ↦ (omega (arith, ap length same), omega (arith, ap length same, low))
      | inr (new, more, is, fresh) ↦ (
        omega (arith, ap length more, length-append said.names (new ∷ [])),
        omega (arith, ap length more, length-append said.names (new ∷ []), is),
      )
    ]

apart_next : (said : Said) (names : List (List ℕ)) (object : ℕ) → IsNext said names object
    → AreApart said.names → AreApart names
apart_next said names object next apart =
    elim next [
      | inl (same, low) ↦ subst AreApart (sym same) apart
      | inr (new, more, is, fresh) ↦ subst AreApart (sym more) (λ j k name at other.
          elim (slice_get-push_cases said.names new j name at) [
            | inl old ↦ elim (slice_get-push_cases said.names new k name other) [
              | inl older ↦ apart j k name old older
              | inr last ↦ absurd (fresh j (old ∙ ap Some last.1))
            ]
            | inr here ↦ elim (slice_get-push_cases said.names new k name other) [
              | inl older ↦ absurd (fresh k (older ∙ ap Some here.1))
              | inr last ↦ here.0 ∙ sym last.0
            ]
          ])
    ]

told_still : (said : Said) (names : List (List ℕ)) (object k : ℕ) (event : StreamEvent)
    (output : List OutputLine) → IsNext said names object → IsUnsureTold said output k
    → IsUnsureTold (with_event said names object event) output k
told_still said names object k event output next (line, name, named, has) =
    (line, name, named_still said names object k name next named, has)

other_within : (said : Said) (names : List (List ℕ)) (object other : ℕ) → IsNext said names object
    → other < length names → other ≢ object → other < length said.names
other_within said names object other next low ne =
    elim next [
      | inl (same, within) ↦ omega (arith, ap length same, low)
      | inr (new, more, is, fresh) ↦
          let past : other ≢ length said.names = λ e. ne (e ∙ sym is) in
          omega (arith, ap length more, length-append said.names (new ∷ []), low, past)
    ]

reported_still : (said : Said) (names : List (List ℕ)) (object line : ℕ) (event : StreamEvent)
    (output : List OutputLine) → IsNext said names object → IsReported said output line
    → IsReported (with_event said names object event) output line
reported_still said names object line event output next reported =
    elim reported [
      | inl told ↦ inl told
      | inr (k, unsure) ↦ inr (k, told_still said names object k event output next unsure)
    ]

-- what was told in time is told but for the event that is read
pub punctual_event : (asked : Settings) (said : Said) (names : List (List ℕ)) (object : ℕ)
    (event : StreamEvent) (output : List OutputLine) → IsNext said names object
    → IsPunctual asked said output
    → IsPunctualBut asked (with_event said names object event) output object
punctual_event asked said names object event output next p = record {
  timely = λ other low ne.
      let same : events_of other (with_event said names object event).events
      ≡ events_of other said.events = events_same object other event said.events ne in
      elim (p.timely other (other_within said names object other next low ne)) [
        | inl legal ↦ inl (subst (IsLegalBefore asked said.kind) (sym same) legal)
        | inr unsure ↦ inr (told_still said names object other event output next unsure)
      ];
  reported = λ line low due.
      let one : ObjectEvent = record { object = object; event = event } in
      reported_still said names object line event output next
      (p.reported line (omega (arith, low, length-append said.events (one ∷ []))) due);
}

-- an event more is read
pub holds_event : (asked : Settings) (a b : Watching) (lines : List (List ℕ)) (line : List ℕ)
    (so_far said : Said) (output : List OutputLine) (names : List (List ℕ)) (object : ℕ)
    (event : StreamEvent) → IsLineMore a b → Holds asked a lines (EventDue so_far) said output
    → IsWholeLine line
    → Passes (EventDue so_far) line (EventDue (with_event so_far names object event))
    → IsNext so_far names object
    → HasRead b.reader (EventDue (with_event so_far names object event))
    → length b.objects.items ≡ length names
    → AreWatched asked b.objects.items (with_event so_far names object event)
    → Holds asked b (lines ++ line ∷ []) (EventDue (with_event so_far names object event))
    (with_event so_far names object event) output
holds_event asked a b lines line so_far said output names object event more h whole passes next
    reader size watched =
    let now = with_event so_far names object event in
    let one : ObjectEvent = record { object = object; event = event } in
    let g = grown so_far names object next in
    let told = λ (k : ℕ) (t : IsUnsureTold said output k). told_still so_far names object k event
    output next (subst (λ (s : Said). IsUnsureTold s output k) h.says t) in
    let apart = apart_next so_far names object next
    (subst (λ (s : Said). AreApart s.names) h.says h.apart) in
    let named = subst AreNamed h.says h.named in record {
      asked_is = more.settings ∙ h.asked_is;
      reads = one_passes TitleDue lines line (EventDue so_far) (EventDue now) h.reads whole passes;
      reader = reader;
      says = refl;
      even = omega (
        arith,
        h.even,
        length-append lines (line ∷ []),
        length-append so_far.events (one ∷ []),
      );
      number = omega (arith, more.number, h.number, length-append lines (line ∷ []));
      size = size;
      named = λ k other at. elim (slice_get-push_cases so_far.events one k other at) [
        | inl old ↦ omega (arith, named k other old, g.0)
        | inr new ↦ omega (arith, ap (λ (o : ObjectEvent). o.object) new.1, g.1)
      ];
      objects = watched;
      output_is = output_longer asked lines (line ∷ []) output h.output_is;
      goes_on = h.goes_on;
      told = λ n has. omega (arith, h.told n has, more.said);
      so_far = omega (arith, h.so_far, more.said, more.number);
      last = λ some. subst (λ (n : ℕ). Has output (Legal n)) (sym more.said)
          (h.last (omega (arith, some, more.said)));
      sure = λ none. h.sure (sym more.flag ∙ none);
      unsure = λ some. let t = h.unsure (sym more.flag ∙ some) in (t.0, told t.0 t.1);
      each = λ k e. told k (h.each k (subst (λ u. contains nat_eq u k ≡ true) more.unsure e));
      once = λ k none (n, who, at, has).
          let old = h.known n who has in
          let place = apart k old.0 who at
          (named_still so_far names object old.0 who next
          (subst (λ (s : Said). IsNamed s old.0 who) h.says old.1)) in
          h.once k (subst (λ u. contains nat_eq u k ≡ false) more.unsure none)
          (n, who, subst (λ (j : ℕ). IsNamed said j who) (sym place) old.1, has);
      known = λ n who has.
          let old = h.known n who has in (
            old.0,
            named_still so_far names object old.0 who next
                (subst (λ (s : Said). IsNamed s old.0 who) h.says old.1),
          );
      apart = apart;
    }

-- a line is read that says no event
pub holds_line : (asked : Settings) (a b : Watching) (lines : List (List ℕ)) (line : List ℕ)
    (due after : Due) (said : Said) (output : List OutputLine) → IsLineMore a b
    → b.objects ≡ a.objects → Holds asked a lines due said output → IsWholeLine line
    → Passes due line after → HasRead b.reader after → SaysSoFar after said
    → AreEven after (length lines + 1)
    → Holds asked b (lines ++ line ∷ []) after said output
holds_line asked a b lines line due after said output more objects h whole passes reader says even =
    record {
      asked_is = more.settings ∙ h.asked_is;
      reads = one_passes TitleDue lines line due after h.reads whole passes;
      reader = reader;
      says = says;
      even = subst (AreEven after) (sym (length-append lines (line ∷ []))) even;
      number = omega (arith, more.number, h.number, length-append lines (line ∷ []));
      size = ap (λ v. length v.items) objects ∙ h.size;
      named = h.named;
      objects = subst (λ v. AreWatched asked v.items said) (sym objects) h.objects;
      output_is = output_longer asked lines (line ∷ []) output h.output_is;
      goes_on = h.goes_on;
      told = λ n has. omega (arith, h.told n has, more.said);
      so_far = omega (arith, h.so_far, more.said, more.number);
      last = λ some. subst (λ (n : ℕ). Has output (Legal n)) (sym more.said)
          (h.last (omega (arith, some, more.said)));
      sure = λ none. h.sure (sym more.flag ∙ none);
      unsure = λ some. h.unsure (sym more.flag ∙ some);
      each = λ k e. h.each k (subst (λ u. contains nat_eq u k ≡ true) more.unsure e);
      once = λ k none. h.once k (subst (λ u. contains nat_eq u k ≡ false) more.unsure none);
      known = h.known;
      apart = h.apart;
    }

-- an object that was told to be unsure has its name in what else was said with these names
retold : (said other : Said) (output : List OutputLine) (k : ℕ) → said.names ≡ other.names
    → IsUnsureTold said output k → IsUnsureTold other output k
retold said other output k e (line, name, named, has) =
    (line, name, ap (λ (ns : List (List ℕ)). slice_get ns k) (sym e) ∙ named, has)

-- before the object line nothing is said, of whatever kind
holds_kind : (asked : Settings) (w : Watching) (lines : List (List ℕ)) (said other : Said)
    (output : List OutputLine) → other.names ≡ [] → other.events ≡ []
    → Holds asked w lines ObjectDue said output → Holds asked w lines ObjectDue other output
holds_kind asked w lines said other output names events h =
    let same = h.says.0 ∙ sym names in record {
      asked_is = h.asked_is;
      reads = h.reads;
      reader = h.reader;
      says = (names, events);
      even = h.even;
      number = h.number;
      size = h.size ∙ ap length same;
      named = λ k one at. absurd (let e : slice_get [] k ≡ Some one =
          ap (λ (es : List ObjectEvent). slice_get es k) (sym events) ∙ at in cc);
      objects = λ k object at. absurd (omega (
        arith,
        slice_get_within w.objects.items k object at,
        h.size,
        ap length h.says.0,
      ));
      output_is = h.output_is;
      goes_on = h.goes_on;
      told = h.told;
      so_far = h.so_far;
      last = h.last;
      sure = h.sure;
      unsure = λ some. let t = h.unsure some in (t.0, retold said other output t.0 same t.1);
      each = λ k e. retold said other output k same (h.each k e);
      once = λ k none told. h.once k none (retold other said output k (sym same) told);
      known = λ n who has.
          let old = h.known n who has in
          (old.0, ap (λ (ns : List (List ℕ)). slice_get ns old.0) (sym same) ∙ old.1);
      apart = subst AreApart same h.apart;
    }

-- where there is no event, all is told
pub nothing_late : (asked : Settings) (kind : Kind) (output : List OutputLine)
    → IsPunctual asked (nothing_of kind) output
nothing_late asked kind output = record {
  timely = λ object low. absurd (omega (arith, low));
  reported = λ line low due. absurd (omega (arith, low, due.0));
}

-- what is held after a line of the head, or the end
pub holds_head : (asked : Settings) (a b : Watching) (lines : List (List ℕ)) (line : List ℕ)
    (due after : Due) (said : Said) (output : List OutputLine) (taken : Taken)
    → (taken ≡ takens.Head) ⊎ (taken ≡ takens.End) → IsLineMore a b → b.objects ≡ a.objects
    → Holds asked a lines due said output → IsWholeLine line → Passes due line after
    → ReaderTells due taken after → HasRead b.reader after
    → (due_after : Due) × (now : Said) × Holds asked b (lines ++ line ∷ []) due_after now output
    × (IsPunctual asked said output → IsPunctual asked now output)
holds_head asked a b lines line TitleDue after said output taken is more objects h whole passes
    tells reader = (
      ObjectDue,
      said,
      holds_line asked a b lines line TitleDue ObjectDue said output more objects h
          whole (passes.0, refl) (subst (HasRead b.reader) passes.1 reader) h.says
          (omega (arith, h.even)),
      λ p. p,
    )
holds_head asked a b lines line ObjectDue after said output taken is more objects h whole passes
    tells reader =
    let kind = passes.0 in
    let now : Said = nothing_of kind in (
      EventDue now,
      now,
      holds_line asked a b lines line ObjectDue (EventDue now) now output more
          objects (holds_kind asked a lines said now output refl refl h) whole
          (kind, passes.1, refl) (subst (HasRead b.reader) passes.2 reader) refl
          (omega (arith, h.even)),
      λ p. nothing_late asked kind output,
    )
holds_head asked a b lines line (EventDue so_far) after said output taken (inl is) more objects h
    whole passes tells reader =
    absurd (subst (λ t. ReaderTells (EventDue so_far) t after) is tells)
holds_head asked a b lines line (EventDue so_far) after said output taken (inr is) more objects h
    whole passes tells reader =
    let ends = subst (λ t. ReaderTells (EventDue so_far) t after) is tells in (
      Ended so_far,
      said,
      holds_line asked a b lines line (EventDue so_far) (Ended so_far) said
          output more objects h whole
          (subst (λ (d : Due). Passes (EventDue so_far) line d) ends passes)
          (subst (HasRead b.reader) ends reader) h.says (omega (arith, h.even)),
      λ p. p,
    )
holds_head asked a b lines line (Ended so_far) after said output taken is more objects h whole
    passes tells reader = absurd passes

-- what is held after an event
pub holds_taken : (asked : Settings) (a b : Watching) (lines : List (List ℕ)) (line : List ℕ)
    (due after : Due) (said : Said) (output : List OutputLine) (object : ℕ) (event : Event)
    → IsLineMore a b → Holds asked a lines due said output → IsWholeLine line
    → Passes due line after → ReaderTells due (takens.Event object event) after
    → HasRead b.reader after
    → ((so_far : Said) (names : List (List ℕ)) → said ≡ so_far
    → b.reader.phase ≡ phases.Events so_far.kind
    → length lines ≡ length so_far.events + head_lines → IsNext so_far names object
    → (length b.objects.items ≡ length names)
    × AreWatched asked b.objects.items (with_event so_far names object (event_of event)))
    → (due_after : Due) × (now : Said) × Holds asked b (lines ++ line ∷ []) due_after now output
    × (due_after ≡ EventDue now)
    × (IsPunctual asked said output → IsPunctualBut asked now output object)
holds_taken asked a b lines line TitleDue after said output object event more h whole passes tells
    reader given = absurd tells
holds_taken asked a b lines line ObjectDue after said output object event more h whole passes tells
    reader given = absurd tells
holds_taken asked a b lines line (EventDue so_far) after said output object event more h whole
    passes (names, low, is) reader given =
    let now = with_event so_far names object (event_of event) in
    let goes = subst (λ (d : Due). Passes (EventDue so_far) line d) is passes in
    let next = next_said so_far goes.0 names object (event_of event) goes.2 low in
    let has = subst (HasRead b.reader) is reader in
    let got = given so_far names h.says has.0 h.even next in (
      EventDue now,
      now,
      holds_event asked a b lines line so_far said output names object
          (event_of event) more h whole goes next has got.0 got.1,
      refl,
      λ p. punctual_event asked so_far names object (event_of event) output next
          (subst (λ (s : Said). IsPunctual asked s output) h.says p),
    )
holds_taken asked a b lines line (Ended so_far) after said output object event more h whole passes
    tells reader given = absurd passes

-- what was to be written is written, and all else is as before
pub holds_written : (asked : Settings) (a b : Watching) (lines : List (List ℕ)) (due : Due) (said : Said)
    (output : List OutputLine) → b ≡ record a { out = b.out } → Holds asked a lines due said output
    → Holds asked b lines due said output
holds_written asked a b lines due said output e h =
    let number : b.number ≡ a.number = ap (λ w. w.number) e in
    let so_far : b.said ≡ a.said = ap (λ w. w.said) e in record {
      asked_is = ap (λ w. w.settings) e ∙ h.asked_is;
      reads = h.reads;
      reader = subst (λ r. HasRead r due) (sym (ap (λ w. w.reader) e)) h.reader;
      says = h.says;
      even = h.even;
      number = number ∙ h.number;
      size = ap (λ w. length w.objects.items) e ∙ h.size;
      named = h.named;
      objects = subst (λ v. AreWatched asked v.items said) (sym (ap (λ w. w.objects) e)) h.objects;
      output_is = h.output_is;
      goes_on = h.goes_on;
      told = λ n has. omega (arith, h.told n has, so_far);
      so_far = omega (arith, h.so_far, so_far, number);
      last = λ some. subst (λ (n : ℕ). Has output (Legal n)) (sym so_far)
          (h.last (omega (arith, some, so_far)));
      sure = λ none. h.sure (sym (ap (λ w. w.is_unsure) e) ∙ none);
      unsure = λ some. h.unsure (sym (ap (λ w. w.is_unsure) e) ∙ some);
      each = λ k has. h.each k
          (subst (λ u. contains nat_eq u k ≡ true) (ap (λ w. w.unsure) e) has);
      once = λ k none. h.once k
          (subst (λ u. contains nat_eq u k ≡ false) (ap (λ w. w.unsure) e) none);
      known = h.known;
      apart = h.apart;
    }
