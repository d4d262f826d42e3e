-- Which worked locals agree with words of the table, and which don't, by the part that fails.
use Rattle.std.proofs.Common.{◌≡◌, ℕ, zero, suc, ◌<◌, ◌≤◌, ◌==◌, Bool, true, false, ◌||◌, List, [], ◌∷◌, length, Some, None, slice_index, refl, sym, ap, ◌∙◌, ne_eqb, arith}
use Rattle.std.specs.Prelude.{IsTrue}
use Rattle.world_core.specs.declared.region.Region.{Region}
use Rattle.world_core.specs.declared.region.Region.TheVariants.{N, M}
use Rattle.world_core.specs.Layout.{places, content, count_index, place_index}
use Rattle.world_core.specs.Local.{Asking, Viewing, Local, fresh, Staged, own_count, word_of}
use Rattle.world_core.specs.Event.{is_staging, is_staged}
use Rattle.world_core.specs.World.{end_of}
use Rattle.world_core.specs.Agreement.{HasPhase, FitsPhase, IsInRow, Agrees}
use Rattle.world_examples.specs.Schedules.{single, local_after_all}
use Rattle.world_examples.specs.Parts.{scan_of, staged_word, reply_staged, published_alone, uncounted, crowded, asking_alone, asking_staged, asking_embeds, asking_views, staged_past, staged_beside, staged_entry, staged_low, no_words}

one_or_none : ◌≡◌ {A = ℕ} 1 0 → ⊥
one_or_none e = omega (arith, e)

fails : false ≡ true → ⊥
fails e = absurd cc

holds : true ≡ false → ⊥
holds e = absurd cc

-- a local in the phase announce with one announced call and no published record lacks the counts of
-- its phase
pub no_announced : HasPhase uncounted → ⊥
no_announced h = one_or_none h.announced

-- the fresh local with an operation added lacks the lengths of its phase
pub no_operation : HasPhase (record fresh { operations = 5 ∷ [] }) → ⊥
no_operation h = one_or_none h.operations

-- the fresh local with a reply added lacks the lengths of its phase
pub no_reply : HasPhase (record fresh { replies = 50 ∷ [] }) → ⊥
no_reply h = one_or_none h.replies

-- the fresh local with a view added lacks the lengths of its phase
pub no_view : HasPhase (record fresh { views = [] ∷ [] }) → ⊥
no_view h = one_or_none h.views

-- the fresh local with a seen cut added lacks the lengths of its phase
pub no_seen : HasPhase (record fresh { seen = [] ∷ [] }) → ⊥
no_seen h = one_or_none h.seen

-- the fresh local with a cut embedded in N added lacks the lengths of its phase
pub none_in_N : HasPhase (record fresh { embedded_in_N = [] ∷ [] }) → ⊥
none_in_N h = one_or_none h.embedded_in_N

-- the fresh local with a cut embedded in M added lacks the lengths of its phase
pub none_in_M : HasPhase (record fresh { embedded_in_M = [] ∷ [] }) → ⊥
none_in_M h = one_or_none h.embedded_in_M

-- the fresh local with a list of object steps added lacks the lengths of its phase
pub no_steps : HasPhase (record fresh { object_steps = [] ∷ [] }) → ⊥
no_steps h = one_or_none h.object_steps

-- in the phase view the view's scan under way isn't of M
pub not_view_of_M : FitsPhase Viewing (Some (scan_of M true)) → ⊥
not_view_of_M h = let regions : M ≡ N = h.1 in absurd cc

-- in the phase view the scan under way isn't another than the view's
pub not_view : FitsPhase Viewing (Some (scan_of N false)) → ⊥
not_view h = fails h.0

-- in the phase ask the view's scan isn't under way
pub not_in_asking : FitsPhase Asking (Some (scan_of N true)) → ⊥
not_in_asking h = holds h

-- a list of one staged word isn't empty
pub not_staged : staged_word 0 5 ∷ [] ≡ [] → ⊥
not_staged e = one_or_none (ap (λ (ws : List Staged). length ws) e)

-- the words of the table after the run in which the caller that is alone stages its reply, and the
-- caller's local then
abbrev words : List ℕ
words = (end_of single reply_staged).words

abbrev alone : Local
alone = local_after_all single reply_staged 0

counts : (region : Region) → slice_index words (count_index 1 region 0) ≡ own_count alone region
counts N = refl
counts M = refl

rows : (region : Region) (k place : ℕ) → k < own_count alone region → place < places 1 region
    → slice_index words (place_index 1 1 region 0 k place)
    ≡ word_of alone k (content 1 region place)
rows N zero zero low fits = refl
rows N zero (suc zero) low fits = refl
rows N zero (suc (suc zero)) low fits = refl
rows N zero (suc (suc (suc place))) low fits = absurd (omega (arith, fits))
rows N (suc k) place low fits = absurd (omega (arith, low))
rows M k place low fits = absurd (omega (arith, low))

staged : (region : Region) (place : ℕ) → IsTrue (is_staging alone.phase region)
    → IsTrue (is_staged alone.staged place) → IsInRow single words 0 alone region place
staged N place stages is = absurd (fails stages)
staged M zero stages is =
    record { row = omega arith; place_fits = omega arith; stands = refl; due = refl }
staged M (suc place) stages is =
    let apart : (0 == suc place) ≡ false =
    ne_eqb 0 (suc place) (λ (e : 0 ≡ suc place). omega (arith, e)) in
    absurd (fails (sym (ap (λ (b : Bool). b || false) apart) ∙ is))

-- the local of the caller that is alone agrees with the words of the table after the run in which
-- this caller stages its reply
pub agrees : Agrees single words 0 alone
agrees =
    record {
      counts = counts;
      few = omega arith;
      rows = rows;
      staged = staged;
      staged_in = tt;
      kept_in = tt;
      phase = record {
        announced = refl;
        operations = refl;
        replies = refl;
        views = refl;
        seen = refl;
        embedded_in_N = refl;
        embedded_in_M = refl;
        object_steps = refl;
      };
      scan = tt;
    }

-- the fresh local doesn't agree with words in which the count in N is 1
pub other_count_of_N : Agrees single (1 ∷ 0 ∷ 0 ∷ 0 ∷ 0 ∷ 0 ∷ 0 ∷ 0 ∷ []) 0 fresh → ⊥
other_count_of_N a = one_or_none (a.counts N)

-- the fresh local doesn't agree with words in which the count in M is 1
pub other_count_of_M : Agrees single (0 ∷ 1 ∷ 0 ∷ 0 ∷ 0 ∷ 0 ∷ 0 ∷ 0 ∷ []) 0 fresh → ⊥
other_count_of_M a = one_or_none (a.counts M)

-- a local that has announced two calls doesn't agree with words where the cap is 1
pub too_many : Agrees single (2 ∷ 1 ∷ 0 ∷ 0 ∷ 0 ∷ 0 ∷ 0 ∷ 0 ∷ []) 0 crowded → ⊥
too_many a = let few : 2 ≤ 1 = a.few in omega (arith, few)

-- a local doesn't agree with words in which its row of N has another high word
pub other_row_of_N : Agrees single (1 ∷ 0 ∷ 5 ∷ 1 ∷ 0 ∷ 0 ∷ 0 ∷ 0 ∷ []) 0 asking_alone → ⊥
other_row_of_N a = one_or_none (a.rows N 0 1 (omega arith) (omega arith))

-- a local doesn't agree with words in which its row of M has another entry of the view
pub other_row_of_M : Agrees single (1 ∷ 1 ∷ 5 ∷ 0 ∷ 0 ∷ 50 ∷ 0 ∷ 0 ∷ []) 0
    (local_after_all single published_alone 0) → ⊥
other_row_of_M a = let entries : 0 ≡ 1 = a.rows M 0 1 (omega arith) (omega arith) in
    omega (arith, entries)

-- a local that has staged 5 at place 0 doesn't agree with words that have 0 there
pub not_standing : Agrees single no_words 0 staged_low → ⊥
not_standing a = let words : 0 ≡ 5 = (a.staged N 0 refl refl).stands in omega (arith, words)

-- a local with a staged word in the phase ask doesn't agree with words
pub staged_as_asking : Agrees single (1 ∷ 0 ∷ 5 ∷ 0 ∷ 0 ∷ 0 ∷ 0 ∷ 0 ∷ []) 0 asking_staged → ⊥
staged_as_asking a = one_or_none (ap (λ (ws : List Staged). length ws) a.staged_in)

-- a local with a cut to embed in the phase ask doesn't agree with words
pub kept_as_asking : Agrees single (1 ∷ 0 ∷ 5 ∷ 0 ∷ 0 ∷ 0 ∷ 0 ∷ 0 ∷ []) 0 asking_embeds → ⊥
kept_as_asking a = let cuts : Some (0 ∷ []) ≡ None = a.kept_in in absurd cc

-- a local without the lengths of its phase doesn't agree with words
pub other_lists : Agrees single no_words 0 (record fresh { replies = 50 ∷ [] }) → ⊥
other_lists a = no_reply a.phase

-- a local with the view's scan under way in the phase ask doesn't agree with words
pub view_as_asking : Agrees single (1 ∷ 0 ∷ 5 ∷ 0 ∷ 0 ∷ 0 ∷ 0 ∷ 0 ∷ []) 0 asking_views → ⊥
view_as_asking a = holds a.scan

-- a word that was staged in a row beyond the cap isn't in its row
pub past_rows : IsInRow single no_words 0 staged_past N 0 → ⊥
past_rows h = let row : 1 < 1 = h.row in omega (arith, row)

-- a word that was staged at a place that the region doesn't have isn't in its row
pub past_places : IsInRow single no_words 0 staged_beside N 3 → ⊥
past_places h = let place : 3 < 3 = h.place_fits in omega (arith, place)

-- a staged word isn't in its row where the table has another word there
pub stands_not : IsInRow single no_words 0 staged_low N 0 → ⊥
stands_not h = let words : 0 ≡ 5 = h.stands in omega (arith, words)

-- a staged word that the table has isn't in its row where it doesn't belong there
pub not_due : IsInRow single (0 ∷ 0 ∷ 0 ∷ 0 ∷ 5 ∷ 0 ∷ 0 ∷ 0 ∷ []) 0 staged_entry N 2 → ⊥
not_due h = fails h.due
