-- A scan that is under way, against the moments of the run: what a further word makes of it.
use Rattle.std.proofs.Common.{◌≡◌, ℕ, zero, suc, ◌+◌, ◌*◌, ◌<◌, ◌≤◌, Bool, true, false, if◌then◌else◌, List, [], ◌∷◌, ◌++◌, length, slice_index, Option, Some, None, refl, sym, ap, ◌∙◌, subst, arith, inl, inr, length-append}
use Rattle.std.proofs.lemmas.List.{get_or_append_left, get_or_push, append-nil, append_assoc}
use Rattle.std.proofs.lemmas.Bool.{cases_lt}
use Rattle.std.proofs.lemmas.Slice.Eq.{bytes_eq-Decides}
use Rattle.world_core.specs.declared.region.Region.{Region}
use Rattle.world_core.specs.declared.course.Course.{Course}
use Rattle.world_core.specs.declared.course.Course.TheVariants.{Collects, Borrows, Ends}
use Rattle.world_core.specs.declared.want.Want.TheVariants.{Done}
use Rattle.world_core.specs.Layout.{embedded_place}
use Rattle.world_core.specs.Shape.{Shape}
use Rattle.world_core.specs.Scan.{rounds, round, open_round, last_of, course, course_after, course_on, course_by, lent_by, mover, is_same_cut, wanted}
use Rattle.world_core.specs.Standing.{first_of}
use Rattle.world_core.specs.World.{World, Step, count_of, row_word, end_of}
use Rattle.world_core.proofs.Scans.{open_length, open_lacks, rounds_more, rounds_whole, round_kept, course_kept, open_more, open_whole, round_filled, course_filled}
use Rattle.std.specs.Option.{unwrap_or}
use Rattle.world_laws.proofs.Low.{AreLow}
use Rattle.world_laws.proofs.Endings.{done_ends, round_word}

-- At some moment of a run the counts of a region were exactly this cut.
pub record Was (s : Shape) (steps : List Step) (region : Region) (cut : List ℕ) : Type 0 where
  pub early : List Step
  pub later : List Step
  pub parts : steps ≡ early ++ later
  pub wide : length cut ≡ s.callers
  pub same : (j : ℕ) → j < s.callers → count_of s (end_of s early) region j ≡ slice_index cut j

pub was_on : (s : Shape) (steps more : List Step) (region : Region) (cut : List ℕ)
    → Was s steps region cut → Was s (steps ++ more) region cut
was_on s steps more region cut h =
    record {
      early = h.early;
      later = h.later ++ more;
      parts = ap (λ (xs : List Step). xs ++ more) h.parts ∙ append_assoc h.early h.later more;
      wide = h.wide;
      same = h.same;
    }

-- At some moment the counts were at least those of a whole collect, and at most those of the words
-- taken after it.
pub record Between (s : Shape) (steps : List Step) (region : Region)
    (closed words : List ℕ) : Type 0 where
  pub early : List Step
  pub later : List Step
  pub parts : steps ≡ early ++ later
  pub above : (j : ℕ) → j < s.callers → slice_index closed j ≤ count_of s (end_of s early) region j
  pub below : (j : ℕ) → j < length words
      → count_of s (end_of s early) region j ≤ slice_index words j

-- A word of a row, which is counted.
pub record FromRow (s : Shape) (w : World) (region : Region) (j k e x : ℕ) : Type 0 where
  pub caller : j < s.callers
  pub row : k < count_of s w region j
  pub word : x ≡ row_word s w region j k (embedded_place s.callers region e)

-- A collect under way has a moment between its own counts and those of the collect before it, and
-- the peeks of a borrowed cut are words of its row.
pub record Scanned (s : Shape) (steps : List Step) (w : World) (region : Region)
    (taken : List ℕ) : Type 0 where
  pub between : (k : ℕ) → rounds s.callers taken ≡ suc k → course s.callers taken ≡ Collects
      → Between s steps region (round s.callers taken k) (open_round s.callers taken)
  pub borrowed : (j k : ℕ) → course s.callers taken ≡ Borrows j k → (e : ℕ)
      → e < length (open_round s.callers taken)
      → FromRow s w region j k e (slice_index (open_round s.callers taken) e)

-- What a further word of a scan is: the count that the collect lacks, or the entry that the
-- borrowed cut lacks.
pub data TakenWord (s : Shape) (w : World) (region : Region) (taken : List ℕ) (x : ℕ) : Type 0 where
  OfCollect : course s.callers taken ≡ Collects
      → x ≡ count_of s w region (length (open_round s.callers taken)) → TakenWord s w region taken x
  OfBorrowed : (j k : ℕ) → course s.callers taken ≡ Borrows j k
      → FromRow s w region j k (length (open_round s.callers taken)) x
      → TakenWord s w region taken x

same_rows : (a b c d : ℕ) → (let p : Course = Borrows a b in p) ≡ Borrows c d → (a ≡ c) × (b ≡ d)
same_rows a b c d h = (cc, cc)

ends_lent : (latest cut : List ℕ) (m : Option ℕ) → lent_by latest m ≡ Ends cut → ⊥
ends_lent latest cut None h = cc
ends_lent latest cut (Some j) h = cc

-- two equal collects
record Ended (last : Option (List ℕ)) (latest cut : List ℕ) : Type 0 where
  before : List ℕ
  is : last ≡ Some before
  same : before ≡ latest
  cut_is : cut ≡ latest

ended_same : (b : Bool) (first before latest cut : List ℕ) → is_same_cut before latest ≡ b
    → (if b then Ends latest else lent_by latest (mover first latest)) ≡ Ends cut
    → Ended (Some before) latest cut
ended_same true first before latest cut e h =
    record { before = before; is = refl; same = (bytes_eq-Decides before latest).0 e; cut_is = cc }
ended_same false first before latest cut e h = absurd (ends_lent latest cut (mover first latest) h)

ended_by : (first : List ℕ) (last : Option (List ℕ)) (latest cut : List ℕ)
    → course_by first last latest ≡ Ends cut → Ended last latest cut
ended_by first None latest cut h = absurd cc
ended_by first (Some before) latest cut h =
    ended_same (is_same_cut before latest) first before latest cut refl h

module _ (s : Shape) (steps : List Step) (w : World) (some : 0 < s.callers) (region : Region)
    (taken : List ℕ) (x : ℕ)
    (rise : (early later : List Step) → steps ≡ early ++ later → (j : ℕ) → j < s.callers
    → count_of s (end_of s early) region j ≤ count_of s w region j)
    (now : end_of s steps ≡ w)
    (rows : (j k : ℕ) → j < s.callers → k < count_of s w region j → (cut : List ℕ)
    × Was s steps region cut
    × ((e : ℕ) → e < s.callers
    → row_word s w region j k (embedded_place s.callers region e) ≡ slice_index cut e))
    (low : AreLow s w region (taken ++ x ∷ [])) (h : Scanned s steps w region taken)
    (found : TakenWord s w region taken x) where
  abbrev n : ℕ
  n = s.callers

  abbrev words : List ℕ
  words = open_round s.callers taken

  abbrev more : List ℕ
  more = taken ++ x ∷ []

  -- the count that is looked at is at least that of each earlier moment
  above_moment : course n taken ≡ Collects → (early later : List Step) → steps ≡ early ++ later
      → count_of s (end_of s early) region (length words) ≤ x
  above_moment going early later parts = elim found [
    | OfCollect is count ↦
        let grown = rise early later parts (length words) (open_lacks n taken 0 some) in
        omega (arith, grown, count)
    | OfBorrowed j k is row ↦ let never : Collects ≡ Borrows j k = sym going ∙ is in absurd cc
  ]

  -- a moment between the collect before and the words so far is still one with one word more
  between_more : (k : ℕ) → rounds n taken ≡ suc k → course n taken ≡ Collects
      → Between s steps region (round n taken k) (words ++ x ∷ [])
  between_more k is going =
      let b = h.between k is going in
      record {
        early = b.early;
        later = b.later;
        parts = b.parts;
        above = b.above;
        below = λ j low_j. elim (cases_lt j (length words)) [
          | inl old ↦ omega (arith, b.below j old, get_or_append_left words (x ∷ []) 0 j old)
          | inr past ↦
              let here : length words ≡ j =
              omega (arith, length-append words (x ∷ []), past, low_j) in
              let bound : count_of s (end_of s b.early) region (length words) ≤ x =
              above_moment going b.early b.later b.parts in
              let there : count_of s (end_of s b.early) region j ≤ x =
              subst (λ (i : ℕ). count_of s (end_of s b.early) region i ≤ x) here bound in
              omega (arith, there, get_or_push words x 0 j here)
        ];
      }

  -- a word of a borrowed cut is one of the row
  newest : (j k : ℕ) → course n taken ≡ Borrows j k → FromRow s w region j k (length words) x
  newest j k going = elim found [
    | OfCollect is count ↦ let never : Collects ≡ Borrows j k = sym is ∙ going in absurd cc
    | OfBorrowed i m is row ↦
        let same = same_rows i m j k (sym is ∙ going) in
        subst (λ (b : ℕ). FromRow s w region j b (length words) x) same.1
        (subst (λ (a : ℕ). FromRow s w region a m (length words) x) same.0 row)
  ]

  -- the words of a borrowed row are those of the row, also with the word that was taken last
  borrowed_more : (j k : ℕ) → course n taken ≡ Borrows j k → (e : ℕ) → e < length (words ++ x ∷ [])
      → FromRow s w region j k e (slice_index (words ++ x ∷ []) e)
  borrowed_more j k going e low_e = elim (cases_lt e (length words)) [
    | inl old ↦ subst (λ (y : ℕ). FromRow s w region j k e y)
        (sym (get_or_append_left words (x ∷ []) 0 e old)) (h.borrowed j k going e old)
    | inr past ↦
        let here : length words ≡ e = omega (arith, length-append words (x ∷ []), past, low_e) in
        subst (λ (y : ℕ). FromRow s w region j k e y) (sym (get_or_push words x 0 e here))
        (subst (λ (i : ℕ). FromRow s w region j k i x) here (newest j k going))
  ]

  -- while the round lacks another word
  module _ (lacks : length words + 1 < n) where
    rounds_same : rounds n more ≡ rounds n taken
    rounds_same = rounds_more n taken x some lacks

    course_same : course n more ≡ course n taken
    course_same = ap (course_after n more) rounds_same
        ∙ course_kept n taken x some (rounds n taken) (omega arith)

    open_same : open_round n more ≡ words ++ x ∷ []
    open_same = open_more n taken x some (rounds n more) rounds_same

    scanned_more : Scanned s steps w region more
    scanned_more =
        record {
          between = λ k is going.
              let old : rounds n taken ≡ suc k = sym rounds_same ∙ is in
              let b = between_more k old (sym course_same ∙ going) in
              subst (λ (ws : List ℕ). Between s steps region (round n more k) ws) (sym open_same)
              (subst (λ (c : List ℕ). Between s steps region c (words ++ x ∷ []))
              (sym (round_kept n taken x some k (omega (arith, old)))) b);
          borrowed = λ j k going.
              subst (λ (ws : List ℕ). (e : ℕ) → e < length ws → FromRow s w region j k e
              (slice_index ws e)) (sym open_same) (borrowed_more j k (sym course_same ∙ going));
        }

    not_done : (cut : List ℕ) → wanted n more ≡ Done cut → ⊥
    not_done cut done =
        let ends : course n taken ≡ Ends cut =
        sym course_same ∙ done_ends (course n more) (open_round n more) cut done in
        elim found [
          | OfCollect is count ↦ let never : Collects ≡ Ends cut = sym is ∙ ends in cc
          | OfBorrowed j k is row ↦ let never : Borrows j k ≡ Ends cut = sym is ∙ ends in cc
        ]

  -- where the word is the round's last
  module _ (fills : length words + 1 ≡ n) where
    rounds_next : rounds n more ≡ suc (rounds n taken)
    rounds_next = rounds_whole n taken x some fills

    abbrev latest : List ℕ
    latest = words ++ x ∷ []

    round_is : round n more (rounds n taken) ≡ latest
    round_is = round_filled n taken x some fills (rounds n taken) refl

    open_none : open_round n more ≡ []
    open_none = open_whole n taken x some fills

    abbrev first : List ℕ
    first = unwrap_or (first_of n taken (rounds n taken)) latest

    course_next : course n more
        ≡ course_on first (last_of n taken (rounds n taken)) latest (course n taken)
    course_next = ap (course_after n more) rounds_next
        ∙ course_filled n taken x some fills (rounds n taken) refl

    -- a count of the latest collect is at most the count now
    latest_low : (j : ℕ) → j < n → slice_index latest j ≤ count_of s w region j
    latest_low j below =
        let word : slice_index (round n more (rounds n taken)) j
        ≡ slice_index more (rounds n taken * n + j) = round_word n more (rounds n taken) j below in
        let fits : rounds n taken * n + j < length more =
        omega (arith, length-append taken (x ∷ []), open_length n taken 0 some, fills, below) in
        let bound : slice_index more (rounds n taken * n + j) ≤ count_of s w region j =
        low (rounds n taken) j below fits in
        omega (arith, word, bound, ap (λ (c : List ℕ). slice_index c j) round_is)

    -- the moment of the latest collect is now
    now_between : Between s steps region latest []
    now_between =
        record {
          early = steps;
          later = [];
          parts = sym (append-nil steps);
          above = λ j below.
              let bound = latest_low j below in
              subst (λ (v : World). slice_index latest j ≤ count_of s v region j) (sym now) bound;
          below = λ j below. absurd (omega arith);
        }

    scanned_next : Scanned s steps w region more
    scanned_next =
        record {
          between = λ k is going.
              let here : rounds n taken ≡ k = omega (arith, rounds_next, is) in
              subst (λ (ws : List ℕ). Between s steps region (round n more k) ws) (sym open_none)
              (subst (λ (m : ℕ). Between s steps region (round n more m) []) here
              (subst (λ (c : List ℕ). Between s steps region c []) (sym round_is) now_between));
          borrowed = λ j k going. subst (λ (ws : List ℕ). (e : ℕ) → e < length ws → FromRow s w
              region j k e (slice_index ws e)) (sym open_none) (λ e below. absurd (omega arith));
        }

    latest_wide : length latest ≡ n
    latest_wide = omega (arith, length-append words (x ∷ []), fills)

    -- two equal collects were the counts between them
    equal_was : (m : ℕ) (cut : List ℕ) → rounds n taken ≡ m → course n taken ≡ Collects
        → Ended (last_of n taken m) latest cut → Was s steps region cut
    equal_was zero cut is going e = let never : None ≡ Some e.before = e.is in absurd cc
    equal_was (suc k) cut is going e =
        let b = between_more k is going in
        let closed : round n taken k ≡ latest =
        (let f : round n taken k ≡ e.before = cc in f) ∙ e.same in
        subst (λ (c : List ℕ). Was s steps region c) (sym e.cut_is)
        (record {
          early = b.early;
          later = b.later;
          parts = b.parts;
          wide = latest_wide;
          same = λ j below.
              let up = b.above j below in
              let down = b.below j (omega (arith, latest_wide, below)) in
              omega (arith, up, down, ap (λ (c : List ℕ). slice_index c j) closed);
        })

    -- a borrowed cut was the counts at the moment of its row's cut
    borrowed_was : (j k : ℕ) → course n taken ≡ Borrows j k → Was s steps region latest
    borrowed_was j k going =
        let last = borrowed_more j k going (length words) (omega (arith, latest_wide, fills)) in
        let (cut, was, entries) = rows j k last.caller last.row in
        record {
          early = was.early;
          later = was.later;
          parts = was.parts;
          wide = latest_wide;
          same = λ e below.
              let word = borrowed_more j k going e (omega (arith, latest_wide, below)) in
              was.same e below ∙ sym (entries e below) ∙ sym word.word;
        }

    ends_borrow : (j k : ℕ) (cut : List ℕ)
        → course_on first (last_of n taken (rounds n taken)) latest (Borrows j k) ≡ Ends cut
        → latest ≡ cut
    ends_borrow j k cut h = cc

    done_next : (cut : List ℕ) → wanted n more ≡ Done cut → Was s steps region cut
    done_next cut done =
        let ends : course_on first (last_of n taken (rounds n taken)) latest (course n taken)
        ≡ Ends cut =
        sym course_next ∙ done_ends (course n more) (open_round n more) cut done in
        elim found [
          | OfCollect is count ↦
              equal_was (rounds n taken) cut refl is
              (ended_by first (last_of n taken (rounds n taken)) latest cut
              (sym (ap (course_on first (last_of n taken (rounds n taken)) latest) is) ∙ ends))
          | OfBorrowed j k is row ↦
              subst (λ (c : List ℕ). Was s steps region c) (ends_borrow j k cut
              (sym (ap (course_on first (last_of n taken (rounds n taken)) latest) is) ∙ ends))
              (borrowed_was j k is)
        ]

  pub word_scanned : Scanned s steps w region more
  word_scanned = elim (cases_lt (length words + 1) n) [
    | inl lacks ↦ scanned_more lacks
    | inr full ↦ scanned_next (omega (arith, open_lacks n taken 0 some, full))
  ]

  pub word_done : (cut : List ℕ) → wanted n more ≡ Done cut → Was s steps region cut
  word_done cut done = elim (cases_lt (length words + 1) n) [
    | inl lacks ↦ absurd (not_done lacks cut done)
    | inr full ↦ done_next (omega (arith, open_lacks n taken 0 some, full)) cut done
  ]
