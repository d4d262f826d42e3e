-- Which changes of words are events of a caller, by what its own local says of the words.
use Rattle.std.proofs.Common.{◌≡◌, ℕ, ◌+◌, ◌<◌, ◌≤◌, ◌^◌, ◌&&◌, nat_lt, true, slice_index, slice_set, refl, sym, ap, subst, IsTrue, eq-eqb}
use Rattle.std.proofs.lemmas.Bool.{and_from, lt-ltb}
use Rattle.world_core.specs.declared.region.Region.{Region}
use Rattle.world_core.specs.declared.region.Region.TheVariants.{N, M}
use Rattle.world_core.specs.Shape.{Shape}
use Rattle.world_core.specs.Layout.{places, count_index, place_index, object_index}
use Rattle.world_core.specs.Local.{Local, Asking, own_count}
use Rattle.world_core.specs.Event as event
use Rattle.world_core.specs.Event.{Event, is_word, is_staging, is_due, is_asking, may_begin, is_enabled, is_allowed, knows_row}
use Rattle.world_core.specs.Calls.{IsLocalOf}
use Rattle.world_laws.proofs.Locals.{locals_have_phases, known_rows_are_counted}
use Rattle.world_laws.proofs.Words.{may_stage}
use Rattle.row_table.specs.declared.action.Opening.{Opening}
use Rattle.row_table.specs.declared.action.Action.TheVariants.{Stage, Announce, Publish, Look, Peek}
use Rattle.row_table.specs.Actions.{opening_in, object_step, event_of}
use Rattle.row_table.specs.Seats.{Makes}
use Rattle.row_table.proofs.Keeping.{set_read}

lt-test : (a b : ℕ) → a < b → nat_lt a b ≡ true
lt-test a b low = lt-ltb a b low

-- The local of a caller in a reachable world counts no more rows of its own in a region than the
-- cap.
pub few_calls : (s : Shape) (i : ℕ) (l : Local) (r : Region) → IsLocalOf s i l
    → own_count l r ≤ s.cap
few_calls s i l r (locals, t, low, is) =
    subst (λ (m : Local). own_count m r ≤ s.cap) is ((locals_have_phases s locals t).2 i r low)

-- A row that the local of a caller in a reachable world knows is one of the table: its number is
-- less than the cap.
pub known_low : (s : Shape) (i : ℕ) (l : Local) (r : Region) (j k : ℕ) → IsLocalOf s i l
    → IsTrue (knows_row s.callers l r j k) → k < s.cap
known_low s i l r j k (locals, t, low, is) knows =
    (known_rows_are_counted s locals i j k r t low
    (subst (λ (m : Local). IsTrue (knows_row s.callers m r j k)) (sym is) knows)).1

module _ (s : Shape) (objects who : ℕ) (l : Local) (low : who < s.callers) where
  allowed : (e : Event) → IsTrue (is_enabled s who l e) → IsTrue (is_allowed s who l e)
  allowed e may =
      and_from (nat_lt who s.callers) (is_enabled s who l e) (lt-test who s.callers low) may

  -- A load of the count of caller `j` in a region is a look at it, where the look may begin what it
  -- is to begin.
  pub makes_look : (r : Region) (j : ℕ) (o : Opening) (word : ℕ) → j < s.callers
      → IsTrue (may_begin s who l r j (opening_in o)) → word ≡ count_index s.callers r j
      → Makes s objects who l word (λ x. x) (event_of (Look r j o))
  makes_look r j o word fits begins is =
      record {
        allowed = λ counted x few.
            allowed (event.Look r j x (opening_in o)) (and_from (nat_lt j s.callers)
            (may_begin s who l r j (opening_in o)) (lt-test j s.callers fits) begins);
        loads = λ words. eq-eqb (slice_index words word)
            (slice_index words (count_index s.callers r j)) (ap (slice_index words) is);
        writes = λ words. sym (set_read words word);
      }

  -- A load of the word at a place of a row that the caller knows is a peek.
  pub makes_peek : (r : Region) (j k place word : ℕ) → j < s.callers → place < places s.callers r
      → IsTrue (knows_row s.callers l r j k) → word ≡ place_index s.callers s.cap r j k place
      → Makes s objects who l word (λ x. x) (event_of (Peek r j k place))
  makes_peek r j k place word fits there knows is =
      record {
        allowed = λ counted x few.
            allowed (event.Peek r j k place x)
            (and_from (nat_lt j s.callers)
            (nat_lt place (places s.callers r) && knows_row s.callers l r j k)
            (lt-test j s.callers fits)
            (and_from (nat_lt place (places s.callers r)) (knows_row s.callers l r j k)
            (lt-test place (places s.callers r) there) knows));
        loads = λ words. eq-eqb (slice_index words word) (slice_index words
            (place_index s.callers s.cap r j k place)) (ap (slice_index words) is);
        writes = λ words. sym (set_read words word);
      }

  -- A store of a word that may be staged at a place of the caller's row under way stages it.
  pub makes_stage : (r : Region) (place x word : ℕ)
      → IsTrue (is_enabled s who l (event.Stage r place x))
      → word ≡ place_index s.callers s.cap r who (own_count l r) place
      → Makes s objects who l word (λ _. x) (event_of (Stage r place x))
  makes_stage r place x word may is =
      record {
        allowed = λ counted y few. allowed (event.Stage r place x) may;
        loads = λ words. refl;
        writes = λ words. ap (λ (i : ℕ). slice_set words i x) (sym is);
      }

  -- A store that raises the caller's own count in N by 1 is an announcement, where all places of
  -- its row there are staged.
  pub makes_announce : (word new : ℕ) → IsTrue (event.is_row_staged s.callers l N)
      → word ≡ count_index s.callers N who → new ≡ l.announced + 1
      → Makes s objects who l word (λ _. new) (event_of Announce)
  makes_announce word new may is up =
      record {
        allowed = λ counted y few. allowed event.Announce may;
        loads = λ words. refl;
        writes = λ words. λ i. slice_set words (sym is i) (sym up i);
      }

  -- A store that raises the caller's own count in M by 1 is a publication, where all places of its
  -- row there are staged.
  pub makes_publish : (word new : ℕ) → IsTrue (event.is_row_staged s.callers l M)
      → word ≡ count_index s.callers M who → new ≡ l.published + 1
      → Makes s objects who l word (λ _. new) (event_of Publish)
  makes_publish word new may is up =
      record {
        allowed = λ counted y few. allowed event.Publish may;
        loads = λ words. refl;
        writes = λ words. λ i. slice_set words (sym is i) (sym up i);
      }

  -- A change of an object word is an object step of a caller that has announced its call, where the
  -- program allows the step for each word that may be found.
  pub makes_object : (place word : ℕ) (g : ℕ → ℕ) → l.phase ≡ Asking → place < objects
      → ((x : ℕ) → x < 2 ^ 64 → g x < 2 ^ 64)
      → ((x : ℕ) → x < 2 ^ 64
      → IsTrue (s.program.may_step who l (record { place = place; old = x; new = g x })))
      → word ≡ object_index s.callers s.cap place
      → Makes s objects who l word g (λ x. object_step place x (g x))
  makes_object place word g asking there fits may is =
      record {
        allowed = λ counted x few.
            allowed (object_step place x (g x))
            (and_from (is_asking l.phase) (nat_lt place s.program.objects && (is_word (g x)
            && s.program.may_step who l (record { place = place; old = x; new = g x })))
            (ap is_asking asking)
            (and_from (nat_lt place s.program.objects) (is_word (g x)
            && s.program.may_step who l (record { place = place; old = x; new = g x }))
            (lt-test place s.program.objects (subst (λ (n : ℕ). place < n) counted there))
            (and_from (is_word (g x))
            (s.program.may_step who l (record { place = place; old = x; new = g x }))
            (lt-test (g x) (2 ^ 64) (fits x few)) (may x few))));
        loads = λ words. eq-eqb (slice_index words word)
            (slice_index words (object_index s.callers s.cap place)) (ap (slice_index words) is);
        writes = λ words. ap (λ (i : ℕ). slice_set words i (g (slice_index words word))) (sym is);
      }

-- Where a word may be staged at a place of a caller's row under way, the row and the place are ones
-- of the table.
pub staged_row : (s : Shape) (who : ℕ) (l : Local) (r : Region) (place x : ℕ)
    → IsTrue (is_enabled s who l (event.Stage r place x)) → (own_count l r < s.cap)
    × (place < places s.callers r)
staged_row s who l r place x may = let m = may_stage s who l r place x may in (m.row, m.place)
