-- What a watching holds after it told more.
use Rattle.std.proofs.Common.{◌≡◌, ◌∙◌, ℕ, ◌+◌, ◌<◌, ◌≤◌, Bool, true, false, cond, List, [], ◌∷◌, ◌++◌, length, get_or, Option, Some, None, slice_get, nat_eq, refl, sym, ap, subst, inl, inr, arith, append-nil, append_assoc}
use Rattle.std.specs.Prelude.{⊤}
use Rattle.std.proofs.lemmas.Bool.{eqb-true, eq-eqb}
use Rattle.indexmap.specs.IndexSet.{contains}
use Rattle.stream_text.specs.Reader.{HasRead}
use Rattle.stream_text.specs.Stream.{Said, Due, TitleDue, ObjectDue, EventDue, Ended, events_of}
use Rattle.watch.specs.Output.{OutputLine, Legal, Illegal, Unsure, text_of, output_text}
use Rattle.watch.specs.Lines.{Says, IsNamed, lines_of}
use Rattle.watch.specs.Account.{Has, IsUnsureTold}
use Rattle.watch.specs.Watching.{StandsAs, AreEven, AreWatched, Holds, Tells, AreSettled}
use Rattle.watch.specs.declared.objects.Standing.TheVariants as standing
use Rattle.watch.specs.declared.watching.Watching.{Watching}
use Rattle.watch.proofs.Outputs.{has_old, has_new, has_cases, output_more, unsure_more, settled_more, text_more}
use Rattle.watch.proofs.Findings.{name_of, written_unsure, written_legal}
use Rattle.watch.specs.declared.settings.Settings.{Settings}

-- A watching has what another one has of the stream.
pub record IsAlike (a b : Watching) : Type 0 where
  pub settings : b.settings ≡ a.settings
  pub reader : b.reader ≡ a.reader
  pub objects : b.objects ≡ a.objects
  pub number : b.number ≡ a.number

told_of : (said : Said) (output : List OutputLine) (unsure other : Bool) (line k object : ℕ)
    → object < length said.names → (unsure ≡ true → object ≡ k)
    → (other ≡ true → IsUnsureTold said output k) → cond unsure true other ≡ true
    → IsUnsureTold said (output ++ Unsure line (get_or said.names object []) ∷ []) k
told_of said output true other line k object low same old e =
    let name = get_or said.names object [] in
    subst (IsUnsureTold said (output ++ Unsure line name ∷ [])) (same refl)
    (line, name, name_of said object low, has_new output (Unsure line name))
told_of said output false other line k object low same old e =
    unsure_more said output (Unsure line (get_or said.names object []) ∷ []) k (old e)

neither : (a b : Bool) → cond a true b ≡ false → (a ≡ false) × (b ≡ false)
neither true b e = absurd cc
neither false b e = (refl, e)

-- an object is told to be unsure
pub holds_unsure : (asked : Settings) (a b : Watching) (lines : List (List ℕ)) (due : Due) (said : Said)
    (output : List OutputLine) (object line : ℕ) → IsAlike a b → b.said ≡ a.said
    → b.is_unsure ≡ true
    → ((q : ℕ) → contains nat_eq b.unsure q
    ≡ cond (nat_eq object q) true (contains nat_eq a.unsure q))
    → Holds asked a lines due said output → object < length said.names
    → StandsAs said.kind asked (events_of object said.events) (lines_of object said.events)
    (standing.Unsure line) → contains nat_eq a.unsure object ≡ false
    → Holds asked b lines due said (output ++ Unsure line (get_or said.names object []) ∷ [])
holds_unsure asked a b lines due said output object line alike same unsure set h low stands new =
    let name = get_or said.names object [] in
    let one : OutputLine = Unsure line name in record {
      asked_is = alike.settings ∙ h.asked_is;
      reads = h.reads;
      reader = subst (λ r. HasRead r due) (sym alike.reader) h.reader;
      says = h.says;
      even = h.even;
      number = alike.number ∙ h.number;
      size = ap (λ v. length v.items) alike.objects ∙ h.size;
      named = h.named;
      objects = subst (λ v. AreWatched asked v.items said) (sym alike.objects) h.objects;
      output_is = output_more asked lines output one h.output_is
          (written_unsure asked a lines due said output object line h low stands (h.once object new));
      goes_on = λ first last who has. elim (has_cases output (Illegal first last who) one has) [
        | inl old ↦ h.goes_on first last who old
        | inr new ↦ absurd cc
      ];
      told = λ n has. elim (has_cases output (Legal n) one has) [
        | inl old ↦ omega (arith, h.told n old, same)
        | inr new ↦ absurd cc
      ];
      so_far = omega (arith, h.so_far, same, alike.number);
      last = λ some. subst (λ (n : ℕ). Has (output ++ one ∷ []) (Legal n)) (sym same)
          (has_old output (Legal a.said) one (h.last (omega (arith, some, same))));
      sure = λ none. absurd cc;
      unsure = λ some. (object, (line, name, name_of said object low, has_new output one));
      each = λ k e. told_of said output (nat_eq object k) (contains nat_eq a.unsure k) line k object
          low (λ is. eqb-true object k is) (h.each k) (sym (set k) ∙ e);
      once = λ k none (n, who, named, has).
          let both = neither (nat_eq object k) (contains nat_eq a.unsure k) (sym (set k) ∙ none) in
          elim (has_cases output (Unsure n who) one has) [
            | inl old ↦ h.once k both.1 (n, who, named, old)
            | inr is ↦
                let who_is : who ≡ name = cc in
                let at : IsNamed said k name = subst (IsNamed said k) who_is named in
                let place = h.apart object k name (name_of said object low) at in
                absurd (let yes : true ≡ false = sym (eq-eqb object k place) ∙ both.0 in cc)
          ];
      known = λ n who has. elim (has_cases output (Unsure n who) one has) [
        | inl old ↦ h.known n who old
        | inr is ↦
            let who_is : name ≡ who = cc in
            (object, subst (IsNamed said object) who_is (name_of said object low))
      ];
      apart = h.apart;
    }

-- all lines are told to be legal
pub holds_legal : (asked : Settings) (a b : Watching) (lines : List (List ℕ)) (due : Due) (said : Said)
    (output : List OutputLine) → IsAlike a b → b.said ≡ a.number → b.is_unsure ≡ a.is_unsure
    → b.unsure ≡ a.unsure → a.is_unsure ≡ false → a.said < a.number → Says due said
    → AreSettled said output → Holds asked a lines due said output
    → Holds asked b lines due said (output ++ Legal a.number ∷ [])
holds_legal asked a b lines due said output alike same flag set sure less says settled h =
    let one : OutputLine = Legal a.number in record {
      asked_is = alike.settings ∙ h.asked_is;
      reads = h.reads;
      reader = subst (λ r. HasRead r due) (sym alike.reader) h.reader;
      says = h.says;
      even = h.even;
      number = alike.number ∙ h.number;
      size = ap (λ v. length v.items) alike.objects ∙ h.size;
      named = h.named;
      objects = subst (λ v. AreWatched asked v.items said) (sym alike.objects) h.objects;
      output_is = output_more asked lines output one h.output_is
          (written_legal asked a lines due said output says h settled (h.sure sure) less);
      goes_on = λ first last who has. elim (has_cases output (Illegal first last who) one has) [
        | inl old ↦ h.goes_on first last who old
        | inr new ↦ absurd cc
      ];
      told = λ n has. elim (has_cases output (Legal n) one has) [
        | inl old ↦ omega (arith, h.told n old, same, less)
        | inr new ↦ let is : n ≡ a.number = cc in omega (arith, is, same)
      ];
      so_far = omega (arith, same, alike.number);
      last = λ some. subst (λ (n : ℕ). Has (output ++ one ∷ []) (Legal n)) (sym same)
          (has_new output one);
      sure = λ none line who has. elim (has_cases output (Unsure line who) one has) [
        | inl old ↦ h.sure sure line who old
        | inr new ↦ absurd cc
      ];
      unsure = λ some. absurd (let e : a.is_unsure ≡ true = sym flag ∙ some in cc);
      each = λ k e. unsure_more said output (one ∷ []) k
          (h.each k (subst (λ u. contains nat_eq u k ≡ true) set e));
      once = λ k none (n, who, named, has). elim (has_cases output (Unsure n who) one has) [
        | inl old ↦ h.once k (subst (λ u. contains nat_eq u k ≡ false) set none)
            (n, who, named, old)
        | inr new ↦ absurd cc
      ];
      known = λ n who has. elim (has_cases output (Unsure n who) one has) [
        | inl old ↦ h.known n who old
        | inr new ↦ absurd cc
      ];
      apart = h.apart;
    }

-- the objects took all their events into account
pub holds_objects : (asked : Settings) (a b : Watching) (lines : List (List ℕ)) (due : Due) (said : Said)
    (output : List OutputLine) → b ≡ record a { objects = b.objects }
    → length b.objects.items ≡ length a.objects.items → AreWatched asked b.objects.items said
    → Holds asked a lines due said output → Holds asked b lines due said output
holds_objects asked a b lines due said output e size watched h =
    let number : b.number ≡ a.number = ap (λ w. w.number) e in
    let so_far : b.said ≡ a.said = ap (λ w. w.said) e in record {
      asked_is = ap (λ w. w.settings) e ∙ h.asked_is;
      reads = h.reads;
      reader = subst (λ r. HasRead r due) (sym (ap (λ w. w.reader) e)) h.reader;
      says = h.says;
      even = h.even;
      number = number ∙ h.number;
      size = size ∙ h.size;
      named = h.named;
      objects = watched;
      output_is = h.output_is;
      goes_on = h.goes_on;
      told = λ n has. omega (arith, h.told n has, so_far);
      so_far = omega (arith, h.so_far, so_far, number);
      last = λ some. subst (λ (n : ℕ). Has output (Legal n)) (sym so_far)
          (h.last (omega (arith, some, so_far)));
      sure = λ none. h.sure (sym (ap (λ w. w.is_unsure) e) ∙ none);
      unsure = λ some. h.unsure (sym (ap (λ w. w.is_unsure) e) ∙ some);
      each = λ k has. h.each k (subst (λ u. contains nat_eq u k ≡ true) (ap (λ w. w.unsure) e) has);
      once = λ k none. h.once k
          (subst (λ u. contains nat_eq u k ≡ false) (ap (λ w. w.unsure) e) none);
      known = h.known;
      apart = h.apart;
    }

-- the objects took all their events into account, and nothing is told
pub tells_objects : (asked : Settings) (a b : Watching) (lines : List (List ℕ)) (due : Due) (said : Said)
    (output : List OutputLine) (IsOne : List OutputLine → Type 0)
    → b ≡ record a { objects = b.objects } → length b.objects.items ≡ length a.objects.items
    → AreWatched asked b.objects.items said → Holds asked a lines due said output → IsOne output
    → Tells asked a b lines due said output IsOne
tells_objects asked a b lines due said output IsOne e size watched h one = (
  [],
  ap (λ w. w.out.items) e ∙ sym (append-nil a.out.items),
  subst (λ (o : List OutputLine). Holds asked b lines due said o) (sym (append-nil output))
      (holds_objects asked a b lines due said output e size watched h),
  subst IsOne (sym (append-nil output)) one,
)

-- all objects are settled, and then more is told
pub tells_after : (asked : Settings) (a b c : Watching) (lines : List (List ℕ)) (due : Due) (said : Said)
    (output : List OutputLine) (Q : List OutputLine → Type 0)
    → Tells asked a b lines due said output (AreSettled said)
    → ((after : List OutputLine) → AreSettled said after → Holds asked b lines due said after
    → Tells asked b c lines due said after Q)
    → Tells asked a c lines due said output (λ after. AreSettled said after × Q after)
tells_after asked a b c lines due said output Q (xs, text, holds, settled) next =
    let more = next (output ++ xs) settled holds in
    let all : (output ++ xs) ++ more.0 ≡ output ++ (xs ++ more.0) = append_assoc output xs more.0 in
    let each : AreSettled said ((output ++ xs) ++ more.0) =
    λ object low. settled_more said (output ++ xs) more.0 None object (settled object low) in (
      xs ++ more.0,
      more.1 ∙ (ap (λ (l : List ℕ). l ++ output_text more.0) text
          ∙ (append_assoc a.out.items (output_text xs) (output_text more.0)
          ∙ ap (λ (l : List ℕ). a.out.items ++ l) (sym (text_more xs more.0)))),
      subst (λ (o : List OutputLine). Holds asked c lines due said o) all more.2,
      (subst (AreSettled said) all each, subst Q all more.3),
    )

-- where a whole head is read, some lines are
pub some_lines : (due : Due) (said : Said) (lines : ℕ) → Says due said → AreEven due lines
    → 0 < lines
some_lines TitleDue said lines says even = absurd says
some_lines ObjectDue said lines says even = absurd says
some_lines (EventDue so_far) said lines says even = omega (arith, even)
some_lines (Ended so_far) said lines says even = omega (arith, even)
