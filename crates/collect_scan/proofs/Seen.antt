-- A scan that peeks into a row has looked at a count of that row's caller which is above the row's
-- number, so its caller knows the row.
use Rattle.std.proofs.Common.{◌≡◌, ◌⊎◌, ℕ, zero, suc, ◌+◌, ◌*◌, ◌<◌, ◌≤◌, Bool, true, ◌&&◌, ◌==◌, nat_lt, List, [], ◌∷◌, ◌++◌, length, take, slice_index, refl, sym, ap, ◌∙◌, subst, arith, inl, inr, IsTrue, length-append, length-drop, eq-eqb}
use Rattle.std.specs.List.{list_any}
use Rattle.std.proofs.Math.Nat.{zero-div}
use Rattle.std.proofs.Math.Seq.{take-suc}
use Rattle.std.proofs.lemmas.List.{get_or_append_left, get_or_push, take_all}
use Rattle.std.proofs.lemmas.Bool.{and_from, or_left, or_right, lt-ltb, cases_lt}
use Rattle.world_core.specs.declared.region.Region.{Region}
use Rattle.world_core.specs.declared.course.Course.{Course}
use Rattle.world_core.specs.declared.course.Course.TheVariants.{Collects, Borrows, Ends}
use Rattle.world_core.specs.declared.want.Want.{Want}
use Rattle.world_core.specs.declared.want.Want.TheVariants.{Look, Peek, Done}
use Rattle.world_core.specs.Scan.{rounds, open_round, last_of, course, course_after, wanted, wanted_by}
use Rattle.world_core.specs.Standing.{first_of}
use Rattle.std.specs.Option.{unwrap_or}
use Rattle.world_core.specs.Local.{Looked, Local}
use Rattle.world_core.specs.Event.{Opening, is_same_region, knows_row}
use Rattle.world_core.proofs.Scans.{open_lacks, rounds_more, rounds_whole, open_more, open_whole, course_kept, course_filled}
use Rattle.world_laws.proofs.Lending.{round_lends}
use Rattle.collect_scan.specs.Scanned.{ScannedWords, found_with, found_by, local_in_scan}
use Rattle.collect_scan.proofs.Going.{found_more, same_region_self}

-- The look is in the list of looks.
abbrev HasLook : List Looked → Looked → Type 0
HasLook [] look = ⊥
HasLook (l ∷ looks) look = (l ≡ look) ⊎ HasLook looks look

looks_stay : (n : ℕ) (region : Region) (w : Want) (x : ℕ) (f : ScannedWords) (look : Looked)
    → HasLook f.looks look → HasLook (found_with n region w x f).looks look
looks_stay n region (Look j) x f look h = inr h
looks_stay n region (Peek j row entry) x f look h = h
looks_stay n region (Done cut) x f look h = h

abbrev look_at : Region → ℕ → ℕ → Looked
look_at region j x = record { region = region; caller = j; count = x }

-- Among these looks is one at caller j in the region that found a count above k.
record HasLooked (looks : List Looked) (region : Region) (j k : ℕ) : Type 0 where
  count : ℕ
  above : k < count
  there : HasLook looks (look_at region j count)

-- A scan that collects has looked at each count of the collect under way; and a scan that borrows
-- from row k of caller j has looked at a count of j above k.
record HasSeen (n : ℕ) (region : Region) (taken : List ℕ) : Type 0 where
  words : course n taken ≡ Collects → (t : ℕ) → t < length (open_round n taken) → HasLook
      (found_by n region taken).looks (look_at region t (slice_index (open_round n taken) t))
  row : (j k : ℕ) → course n taken ≡ Borrows j k
      → HasLooked (found_by n region taken).looks region j k

module _ (n : ℕ) (region : Region) (some : 0 < n) where
  module _ (taken : List ℕ) (x : ℕ) (h : HasSeen n region taken) where
    abbrev latest : List ℕ
    latest = open_round n taken

    abbrev more : List ℕ
    more = taken ++ x ∷ []

    -- Each look that the scan had made it has made after one word more.
    stays : (look : Looked) → HasLook (found_by n region taken).looks look
        → HasLook (found_by n region more).looks look
    stays look old =
        subst (λ (f : ScannedWords). HasLook f.looks look) (sym (found_more n region taken x))
        (looks_stay n region (wanted n taken) x (found_by n region taken) look old)

    looks_now : course n taken ≡ Collects
        → HasLook (found_by n region more).looks (look_at region (length latest) x)
    looks_now going =
        subst (λ (f : ScannedWords). HasLook f.looks (look_at region (length latest) x))
        (ap (λ (w : Want). found_with n region w x (found_by n region taken))
        (sym (ap (λ (c : Course). wanted_by c latest) going)) ∙ sym (found_more n region taken x))
        (inl refl)

    words_now : course n taken ≡ Collects → (t : ℕ) → t < length (latest ++ x ∷ []) → HasLook
        (found_by n region more).looks (look_at region t (slice_index (latest ++ x ∷ []) t))
    words_now going t below = elim (cases_lt t (length latest)) [
      | inl old ↦
          subst (λ (y : ℕ). HasLook (found_by n region more).looks (look_at region t y))
          (sym (get_or_append_left latest (x ∷ []) 0 t old))
          (stays (look_at region t (slice_index latest t)) (h.words going t old))
      | inr past ↦
          let here : t ≡ length latest =
          omega (arith, length-append latest (x ∷ []), past, below) in
          subst (λ (p : ℕ × ℕ). HasLook (found_by n region more).looks (look_at region p.0 p.1))
          (λ i. (sym here i, sym (get_or_push latest x 0 t (sym here)) i)) (looks_now going)
    ]

    row_now : (j k : ℕ) → HasLooked (found_by n region taken).looks region j k
        → HasLooked (found_by n region more).looks region j k
    row_now j k old = record {
      count = old.count;
      above = old.above;
      there = stays (look_at region j old.count) old.there;
    }

    seen_more : length latest + 1 < n → HasSeen n region more
    seen_more lacks =
        let k : rounds n more ≡ rounds n taken = rounds_more n taken x some lacks in
        let same : course n more ≡ course n taken =
        ap (course_after n more) k ∙ course_kept n taken x some (rounds n taken) (omega arith) in
        let longer : open_round n more ≡ latest ++ x ∷ [] =
        open_more n taken x some (rounds n more) k in
        record {
          words = λ going t below.
              subst (λ (ws : List ℕ). HasLook (found_by n region more).looks
              (look_at region t (slice_index ws t))) (sym longer)
              (words_now (sym same ∙ going) t
              (subst (λ (ws : List ℕ). t < length ws) longer below));
          row = λ j row is. row_now j row (h.row j row (sym same ∙ is));
        }

    seen_whole : length latest + 1 ≡ n → HasSeen n region more
    seen_whole fills =
        let k : rounds n more ≡ suc (rounds n taken) = rounds_whole n taken x some fills in
        let none : open_round n more ≡ [] = open_whole n taken x some fills in
        let now =
        ap (course_after n more) k ∙ course_filled n taken x some fills (rounds n taken) refl in
        record {
          words = λ going t below. absurd (omega (arith, below, ap length none));
          row = λ j row is.
              let l = round_lends (unwrap_or (first_of n taken (rounds n taken)) (latest ++ x ∷ []))
              (last_of n taken (rounds n taken)) (latest ++ x ∷ []) (course n taken) j row
              (sym now ∙ is) in
              record {
                count = slice_index (latest ++ x ∷ []) j;
                above = l.lent.above;
                there = words_now l.was j l.lent.caller;
              };
        }

    seen_next : HasSeen n region more
    seen_next = elim (cases_lt (length latest + 1) n) [
      | inl lacks ↦ seen_more lacks
      | inr fills ↦ seen_whole
          (let lacks : length latest < n = open_lacks n taken x some in omega (arith, lacks, fills))
    ]

  seen_none : HasSeen n region []
  seen_none =
      record {
        words = λ going t below. absurd
            (omega (arith, below, length-drop (rounds n [] * n) (let none : List ℕ = [] in none)));
        row = λ j k is. let never : Collects ≡ Borrows j k =
            sym (ap (course_after n []) (zero-div n)) ∙ is in absurd cc;
      }

  seen_up_to : (taken : List ℕ) (p : ℕ) → p ≤ length taken → HasSeen n region (take p taken)
  seen_up_to taken zero le = seen_none
  seen_up_to taken (suc p) le =
      subst (HasSeen n region) (sym (take-suc taken p 0 (omega arith)))
      (seen_next (take p taken) (slice_index taken p) (seen_up_to taken p (omega arith)))

  seen_all : (taken : List ℕ) → HasSeen n region taken
  seen_all taken = subst (HasSeen n region) (take_all (length taken) taken (omega arith))
      (seen_up_to taken (length taken) (omega arith))

-- A scan that needs a peek into row k of caller j borrows from that row.
peek_borrows : (c : Course) (words : List ℕ) (j k entry : ℕ) → wanted_by c words ≡ Peek j k entry
    → c ≡ Borrows j k
peek_borrows Collects words j k entry h = absurd cc
peek_borrows (Borrows i row) words j k entry h = cc
peek_borrows (Ends cut) words j k entry h = absurd cc

abbrev is_above : Region → ℕ → ℕ → Looked → Bool
is_above region j k look =
    is_same_region look.region region && (look.caller == j && nat_lt k look.count)

looked_above : (looks before : List Looked) (region : Region) (j k count : ℕ) → k < count
    → HasLook looks (look_at region j count)
    → list_any (is_above region j k) (looks ++ before) ≡ true
looked_above [] before region j k count above h = absurd h
looked_above (l ∷ looks) before region j k count above (inl here) =
    or_left (is_above region j k l) (list_any (is_above region j k) (looks ++ before))
    (ap (is_above region j k) here
    ∙ and_from (is_same_region region region) (j == j && nat_lt k count) (same_region_self region)
    (and_from (j == j) (nat_lt k count) (eq-eqb j j refl) (lt-ltb k count above)))
looked_above (l ∷ looks) before region j k count above (inr later) =
    or_right (is_above region j k l) (list_any (is_above region j k) (looks ++ before))
    (looked_above looks before region j k count above later)

-- The local during a scan that needs a peek into row k of caller j knows that row.
pub peek_known : (n : ℕ) (before : Local) (region : Region) (opening : Opening) (taken : List ℕ)
    (j k entry : ℕ) → 0 < n → wanted n taken ≡ Peek j k entry
    → IsTrue (knows_row n (local_in_scan n before region opening taken) region j k)
peek_known n before region opening taken j k entry some is =
    let s = (seen_all n region some taken).row j k
    (peek_borrows (course n taken) (open_round n taken) j k entry is) in
    or_left _ _
    (looked_above (found_by n region taken).looks before.looked region j k s.count s.above s.there)
