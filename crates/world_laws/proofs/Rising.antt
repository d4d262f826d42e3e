-- Cuts and words that are high, with no count below those of a world, stay high along a run.
use Rattle.std.proofs.Common.{◌≡◌, ℕ, ◌<◌, ◌≤◌, true, ◌&&◌, nat_lt, List, [], ◌∷◌, length, Option, Some, None, slice_index_or, sym, ◌∙◌, subst, arith, IsTrue, inl, inr}
use Rattle.std.specs.Option.{unwrap_or}
use Rattle.std.proofs.lemmas.List.{get_or_append_left, get_or_push}
use Rattle.std.proofs.lemmas.Bool.{and_parts, eqb-true, cases_eq}
use Rattle.world_core.specs.declared.region.Region.{Region}
use Rattle.world_core.specs.declared.region.Region.TheVariants.{N, M}
use Rattle.world_core.specs.Layout.{Content, embedded_place, places}
use Rattle.world_core.specs.Shape.{Shape}
use Rattle.world_core.specs.Local.{Scan, Looked, Peeked, Local, own_count, embedded_in}
use Rattle.world_core.specs.Scan.{open_round, wanted}
use Rattle.world_core.specs.Event.{Event, Stage, Announce, Object, Look, Peek, Publish, Opening, is_enabled, may_begin, is_loaded, local_after, opened, with_look, with_peek, cut_to_embed, is_staging, is_row_staged, are_staged, is_entry_to_embed, staged_at, is_due, is_look_wanted, is_peek_wanted, knows_row}
use Rattle.world_core.specs.World.{World, Step, local_of, count_of, row_word, after, is_possible}
use Rattle.world_core.specs.Agreement.{Agrees}
use Rattle.world_laws.proofs.Endings.{content_embedded, embedded_fits}
use Rattle.world_laws.proofs.Raising.{row_staged}
use Rattle.world_laws.proofs.Since.{High, AllHigh, IsHighCut, IsHighKept, IsHighScan, AreHigh, look_high, peek_high, fed_high, opened_high}
use Rattle.world_laws.proofs.Knowing.{Sound, known_counted, none_asked, keeps_open}
use Rattle.world_laws.proofs.Running.{possible, own_local, other_local}

-- where a cut to embed has an entry it exists, so it is high
high_there : (s : Shape) (from : World) (r : Region) (kept : Option (List ℕ)) (j x : ℕ)
    → is_entry_to_embed kept j x ≡ true → IsHighKept s from r kept
    → IsHighCut s from r (unwrap_or kept [])
high_there s from r None j x e h = absurd cc
high_there s from r (Some cut) j x e h = h

no_scan : (s : Shape) (w : World) (j : ℕ) (l : Local)
    → ((r : Region) → count_of s w r j ≡ own_count l r) → (o : Option Scan) → IsHighScan s w j l o
no_scan s w j l counts None = tt
no_scan s w j l counts (Some scan) = λ since. absurd (omega (arith, counts scan.region, since))

-- Nothing was counted since the world itself.
pub none_since : (s : Shape) (w : World) → Sound s w → AllHigh s w w
none_since s w sound j low =
    let agrees = sound.kept.agree j low in
    record {
      grows = λ r. omega (arith, agrees.counts r);
      rows = λ r k since below. absurd (omega (arith, agrees.counts r, since, below));
      to_embed = λ r staging since. absurd (omega (arith, agrees.counts r, since));
      scan = no_scan s w j (local_of w j) (λ r. agrees.counts r) (local_of w j).scan;
    }

-- The caller that makes the step.
module _ (s : Shape) (w : World) (sound : Sound s w) (me : ℕ) (low : me < s.callers) where
  abbrev mine : Local
  mine = local_of w me

  agrees : Agrees s w.words me mine
  agrees = sound.kept.agree me low

  some : 0 < s.callers
  some = omega (arith, low)

  pub embedded_due : (r : Region) → IsTrue (is_row_staged s.callers mine r) → is_entry_to_embed
      mine.to_embed 0 (staged_at mine.staged (embedded_place s.callers r 0)) ≡ true
  embedded_due r whole =
      let place = embedded_place s.callers r 0 in
      let here =
      row_staged s w.words me mine r whole agrees place (embedded_fits s.callers r 0 some) in
      subst (λ (part : Content). is_due mine part (staged_at mine.staged place) ≡ true)
      (content_embedded s.callers r 0) here.due

  pub staging_of : (r : Region) → IsTrue (is_row_staged s.callers mine r)
      → is_staging mine.phase r ≡ true
  staging_of r whole =
      (and_parts (is_staging mine.phase r) (are_staged mine.staged (places s.callers r)) whole).0

  module _ (from : World) (all : AllHigh s from w) where
    was : High s from me mine
    was = all me low

    staged_high : (r : Region) → IsTrue (is_row_staged s.callers mine r)
        → count_of s from r me < own_count mine r → IsHighCut s from r (cut_to_embed mine)
    staged_high r whole since =
        high_there s from r mine.to_embed 0 (staged_at mine.staged (embedded_place s.callers r 0))
        (embedded_due r whole) (was.to_embed r (staging_of r whole) since)

    announced_grows : (r : Region)
        → count_of s from r me ≤ own_count (local_after s.callers mine Announce) r
    announced_grows N = let old : count_of s from N me ≤ mine.announced = was.grows N in
        omega (arith, old)
    announced_grows M = was.grows M

    published_grows : (r : Region)
        → count_of s from r me ≤ own_count (local_after s.callers mine Publish) r
    published_grows N = was.grows N
    published_grows M = let old : count_of s from M me ≤ mine.published = was.grows M in
        omega (arith, old)

    announced_rows : IsTrue (is_enabled s me mine Announce) → (r : Region) (k : ℕ)
        → count_of s from r me < k → k < own_count (local_after s.callers mine Announce) r
        → IsHighCut s from r
        (slice_index_or (embedded_in (local_after s.callers mine Announce) r) k [])
    announced_rows may N k since below = elim (cases_eq k mine.announced) [
      | inl here ↦
          subst (λ (c : List ℕ). IsHighCut s from N c) (sym (get_or_push mine.embedded_in_N
          (cut_to_embed mine) [] k (agrees.phase.embedded_in_N ∙ sym here)))
          (staged_high N may (omega (arith, since, here)))
      | inr away ↦
          let old : k < mine.announced = omega (arith, below, away) in
          subst (λ (c : List ℕ). IsHighCut s from N c)
          (sym (get_or_append_left mine.embedded_in_N (cut_to_embed mine ∷ []) [] k
          (omega (arith, old, agrees.phase.embedded_in_N)))) (was.rows N k since old)
    ]
    announced_rows may M k since below = was.rows M k since below

    published_rows : IsTrue (is_enabled s me mine Publish) → (r : Region) (k : ℕ)
        → count_of s from r me < k → k < own_count (local_after s.callers mine Publish) r
        → IsHighCut s from r
        (slice_index_or (embedded_in (local_after s.callers mine Publish) r) k [])
    published_rows may N k since below = was.rows N k since below
    published_rows may M k since below = elim (cases_eq k mine.published) [
      | inl here ↦
          subst (λ (c : List ℕ). IsHighCut s from M c) (sym (get_or_push mine.embedded_in_M
          (cut_to_embed mine) [] k (agrees.phase.embedded_in_M ∙ sym here)))
          (staged_high M may (omega (arith, since, here)))
      | inr away ↦
          let old : k < mine.published = omega (arith, below, away) in
          subst (λ (c : List ℕ). IsHighCut s from M c)
          (sym (get_or_append_left mine.embedded_in_M (cut_to_embed mine ∷ []) [] k
          (omega (arith, old, agrees.phase.embedded_in_M)))) (was.rows M k since old)
    ]

    -- what a look or a peek finds is high
    pub found_look : (q : Region) (j x : ℕ) (o : Opening)
        → IsTrue (is_loaded s w.words (Look q j x o)) → (taken : List ℕ) → AreHigh s from q taken
        → is_look_wanted j (wanted s.callers taken) ≡ true
        → count_of s from q (length (open_round s.callers taken)) ≤ x
    found_look q j x o loaded taken h wants =
        look_high s from some w sound all q j x taken (eqb-true x (count_of s w q j) loaded) wants

    pub found_peek : (q : Region) (j k t x : ℕ) → IsTrue (is_enabled s me mine (Peek q j k t x))
        → IsTrue (is_loaded s w.words (Peek q j k t x))
        → (taken : List ℕ) → AreHigh s from q taken
        → is_peek_wanted s.callers q j k t (wanted s.callers taken) ≡ true
        → count_of s from q (length (open_round s.callers taken)) ≤ x
    found_peek q j k t x may loaded taken h wants =
        let parts = and_parts (nat_lt j s.callers)
        (nat_lt t (places s.callers q) && knows_row s.callers mine q j k) may in
        let more =
        and_parts (nat_lt t (places s.callers q)) (knows_row s.callers mine q j k) parts.1 in
        let row = known_counted s w sound.kept sound.low mine (sound.low me low) q j k more.1 in
        peek_high s from some w sound all q j k t x taken row.0 row.1
        (eqb-true x (row_word s w q j k t) loaded) h wants

    own_high : (e : Event) → IsTrue (is_enabled s me mine e) → IsTrue (is_loaded s w.words e)
        → High s from me (local_after s.callers mine e)
    own_high (Stage q t x) may loaded =
        record {
          grows = λ r. was.grows r;
          rows = λ r k since below. was.rows r k since below;
          to_embed = λ r staging since. was.to_embed r staging since;
          scan = was.scan;
        }
    own_high (Object o) may loaded =
        record {
          grows = λ r. was.grows r;
          rows = λ r k since below. was.rows r k since below;
          to_embed = λ r staging since. was.to_embed r staging since;
          scan = was.scan;
        }
    own_high Announce may loaded =
        record {
          grows = announced_grows;
          rows = announced_rows may;
          to_embed = λ r staging since. tt;
          scan = tt;
        }
    own_high Publish may loaded =
        record {
          grows = published_grows;
          rows = published_rows may;
          to_embed = λ r staging since. tt;
          scan = tt;
        }
    own_high (Look q j x o) may loaded =
        let begins = (and_parts (nat_lt j s.callers) (may_begin s me mine q j o) may).1 in
        let opens = opened_high s from some me mine q o
        (none_asked s w sound.kept sound.low me low q j o begins) was in
        let look : Looked = record { region = q; caller = j; count = x } in
        fed_high s from some me (with_look (opened mine q o) look) (opened mine q o).scan q
        (is_look_wanted j) x
        (record {
          grows = λ r. opens.grows r;
          rows = λ r k since below. opens.rows r k since below;
          to_embed = λ r staging since. opens.to_embed r staging since;
          scan = opens.scan;
        })
        (keeps_open s w sound.kept sound.low me low q j o begins) opens.scan
        (found_look q j x o loaded)
    own_high (Peek q j k t x) may loaded =
        let peek : Peeked = record { region = q; caller = j; row = k; place = t; word = x } in
        fed_high s from some me (with_peek mine peek) mine.scan q
        (is_peek_wanted s.callers q j k t) x
        (record {
          grows = λ r. was.grows r;
          rows = λ r k since below. was.rows r k since below;
          to_embed = λ r staging since. was.to_embed r staging since;
          scan = was.scan;
        })
        agrees.kept_in was.scan (found_peek q j k t x may loaded)

-- all locals stay high at a step
pub step_high : (s : Shape) (from w : World) (step : Step) → Sound s w
    → IsTrue (is_possible s w step) → AllHigh s from w → AllHigh s from (after s w step)
step_high s from w step sound may all i low =
    let p = possible s w step may in
    elim (cases_eq i step.who) [
      | inl here ↦
          subst (λ (j : ℕ). High s from j (local_of (after s w step) j)) (sym here)
          (subst (λ (l : Local). High s from step.who l)
          (sym (own_local s w step sound.kept.locals_long p.caller))
          (own_high s w sound step.who p.caller from all step.event p.allowed p.loaded))
      | inr away ↦
          subst (λ (l : Local). High s from i l) (sym (other_local s w step i away)) (all i low)
    ]
