-- The state of a scan after one more word.
use Rattle.std.proofs.Common.{◌≡◌, ℕ, zero, suc, ◌+◌, ◌*◌, ◌/◌, ◌<◌, ◌≤◌, ◌≢◌, slice_set, List, [], ◌∷◌, ◌++◌, length, take, drop, Option, Some, refl, sym, ap, ◌∙◌, arith, length-append, length-drop}
use Rattle.std.specs.Option.{unwrap_or}
use Rattle.std.proofs.lemmas.List.{drop-append-le, take-append-le, take_all, drop_all, length-take-le, take_more_set, length-set}
use Rattle.std.proofs.lemmas.Nat.{div-mul-add, mul-le}
use Rattle.world_core.specs.declared.region.Region.{Region}
use Rattle.world_core.specs.declared.course.Course.{Course}
use Rattle.world_core.specs.Scan.{rounds, round, last_of, open_round, course, course_after, course_on}
use Rattle.world_core.specs.Standing.{ScanState, standing, first_of}
use Rattle.world_core.specs.declared.scan_core.ScanCore.TheInside.{Inside}
use Rattle.world_core.specs.ScanLayout.{standing_of}

-- states of scans of one caller and region are equal where they keep equal rounds, words and
-- courses
same_standing : (n me : ℕ) (region : Region) {e f l m : Option (List ℕ)} {c d : List ℕ}
    {a b : Course} → e ≡ f → l ≡ m → c ≡ d → a ≡ b
    → (let s : ScanState = record {
      callers = n;
      me = me;
      region = region;
      first = e;
      last = l;
      current = c;
      course = a;
    } in s)
    ≡ record { callers = n; me = me; region = region; first = f; last = m; current = d; course = b }
same_standing n me region p q r s = cc

-- the first whole round of these words, or the given words where there is no whole round
pub first_round : ℕ → List ℕ → List ℕ → List ℕ
first_round n taken words = unwrap_or (first_of n taken (rounds n taken)) words

module _ (n : ℕ) (taken : List ℕ) (w : ℕ) (some : 0 < n) where
  whole_words : rounds n taken * n ≤ length taken
  whole_words = omega arith

  -- the words are as many as the whole rounds and the round under way have together
  pub open_length : length (open_round n taken) + rounds n taken * n ≡ length taken
  open_length = let h : rounds n taken * n ≤ length taken = whole_words in
      omega (arith, length-drop (rounds n taken * n) taken)

  -- the round under way has fewer than n words
  pub open_lacks : length (open_round n taken) < n
  open_lacks = omega (arith, open_length)

  -- where the round under way has fewer than n - 1 words, one more word makes no further whole
  -- round
  pub rounds_more : length (open_round n taken) + 1 < n
      → rounds n (taken ++ w ∷ []) ≡ rounds n taken
  rounds_more lacks =
      ap (λ k. k / n)
      (let e : length (taken ++ w ∷ []) ≡ rounds n taken * n + (length (open_round n taken) + 1) =
      omega (arith, length-append taken (w ∷ []), open_length) in e)
      ∙ div-mul-add (rounds n taken) n (length (open_round n taken) + 1) lacks

  -- where the round under way has n - 1 words, one more word makes one further whole round
  pub rounds_whole : length (open_round n taken) + 1 ≡ n
      → rounds n (taken ++ w ∷ []) ≡ suc (rounds n taken)
  rounds_whole fills =
      ap (λ k. k / n) (let e : length (taken ++ w ∷ []) ≡ suc (rounds n taken) * n + 0 =
      omega (arith, length-append taken (w ∷ []), open_length, fills) in e)
      ∙ div-mul-add (suc (rounds n taken)) n 0 some

  -- one more word changes no whole round
  pub round_kept : (k : ℕ) → k < rounds n taken → round n (taken ++ w ∷ []) k ≡ round n taken k
  round_kept k below =
      let here : k * n + n ≤ length taken =
      omega (arith, mul-le (suc k) n (rounds n taken) n below (omega arith), whole_words) in
      ap (take n) (drop-append-le (k * n) taken (w ∷ []) (omega arith))
      ∙ take-append-le n (drop (k * n) taken) (w ∷ []) (omega (arith, length-drop (k * n) taken))

  -- with one more word, the words after the whole rounds that there were are those of the round
  -- under way and this word
  pub open_more : (k : ℕ) → k ≡ rounds n taken
      → drop (k * n) (taken ++ w ∷ []) ≡ open_round n taken ++ w ∷ []
  open_more k is = ap (λ m. drop (m * n) (taken ++ w ∷ [])) is
      ∙ drop-append-le (rounds n taken * n) taken (w ∷ []) whole_words

  first_kept : (k : ℕ) → k ≤ rounds n taken → first_of n (taken ++ w ∷ []) k ≡ first_of n taken k
  first_kept zero le = refl
  first_kept (suc k) le = ap Some (round_kept 0 (omega arith))

  -- one more word doesn't change the last of the first k whole rounds
  pub last_kept : (k : ℕ) → k ≤ rounds n taken → last_of n (taken ++ w ∷ []) k ≡ last_of n taken k
  last_kept zero le = refl
  last_kept (suc k) le = ap Some (round_kept k le)

  -- one more word doesn't change what the scan did after each of the whole rounds
  pub course_kept : (k : ℕ) → k ≤ rounds n taken
      → course_after n (taken ++ w ∷ []) k ≡ course_after n taken k
  course_kept zero le = refl
  course_kept (suc k) le =
      let before : course_after n (taken ++ w ∷ []) k ≡ course_after n taken k =
      course_kept k (omega arith) in
      let f : round n (taken ++ w ∷ []) 0 ≡ round n taken 0 = round_kept 0 (omega arith) in
      let l : last_of n (taken ++ w ∷ []) k ≡ last_of n taken k = last_kept k (omega arith) in
      let r : round n (taken ++ w ∷ []) k ≡ round n taken k = round_kept k le in
      cc (before, f, l, r)

  -- where the round under way has fewer than n - 1 words, one more word is added to it, and nothing
  -- else of the state changes
  pub standing_more : (me : ℕ) (region : Region) → length (open_round n taken) + 1 < n
      → standing n me region (taken ++ w ∷ [])
      ≡ record (standing n me region taken) { current = open_round n taken ++ w ∷ [] }
  standing_more me region lacks =
      let k : rounds n (taken ++ w ∷ []) ≡ rounds n taken = rounds_more lacks in
      same_standing n me region
      (ap (first_of n (taken ++ w ∷ [])) k ∙ first_kept (rounds n taken) (omega arith))
      (ap (last_of n (taken ++ w ∷ [])) k ∙ last_kept (rounds n taken) (omega arith))
      (open_more (rounds n (taken ++ w ∷ [])) k)
      (ap (course_after n (taken ++ w ∷ [])) k ∙ course_kept (rounds n taken) (omega arith))

  -- where the round under way has n - 1 words, it makes a whole round with one more word
  pub round_filled : length (open_round n taken) + 1 ≡ n → (k : ℕ) → k ≡ rounds n taken
      → round n (taken ++ w ∷ []) k ≡ open_round n taken ++ w ∷ []
  round_filled fills k is = ap (take n) (open_more k is) ∙ take_all n (open_round n taken ++ w ∷ [])
      (omega (arith, length-append (open_round n taken) (w ∷ [])))

  -- where one more word fills the round under way, the first round is the one that was first
  -- before, or the filled one where there was no whole round
  first_filled : length (open_round n taken) + 1 ≡ n → (k : ℕ) → k ≡ rounds n taken
      → round n (taken ++ w ∷ []) 0 ≡ unwrap_or (first_of n taken k) (open_round n taken ++ w ∷ [])
  first_filled fills zero is = round_filled fills 0 is
  first_filled fills (suc k) is = round_kept 0 (omega (arith, is))

  -- where one more word fills the round under way, what the scan does next follows from the first
  -- round, the last one before, the filled one, and what the scan did before
  pub course_filled : length (open_round n taken) + 1 ≡ n → (k : ℕ) → k ≡ rounds n taken
      → course_after n (taken ++ w ∷ []) (suc k)
      ≡ course_on (unwrap_or (first_of n taken k) (open_round n taken ++ w ∷ []))
      (last_of n taken k) (open_round n taken ++ w ∷ []) (course_after n taken k)
  course_filled fills k is =
      let f = first_filled fills k is in
      let l : last_of n (taken ++ w ∷ []) k ≡ last_of n taken k = last_kept k (omega (arith, is)) in
      let r : round n (taken ++ w ∷ []) k ≡ open_round n taken ++ w ∷ [] =
      round_filled fills k is in
      let before : course_after n (taken ++ w ∷ []) k ≡ course_after n taken k =
      course_kept k (omega (arith, is)) in
      cc (f, l, r, before)

  -- where one more word fills the round under way, the next round has no word yet
  pub open_whole : length (open_round n taken) + 1 ≡ n → open_round n (taken ++ w ∷ []) ≡ []
  open_whole fills =
      drop_all (rounds n (taken ++ w ∷ []) * n) (taken ++ w ∷ []) (omega
      (arith, ap (λ j. j * n) (rounds_whole fills), length-append taken (w ∷ []), open_length))

  -- where one more word fills the round under way, the state keeps this round as the last one, and
  -- as the first where there was none; the next round has no word yet; and what the scan does
  -- follows from the first round, the one before this, this one, and what the scan did
  pub standing_whole : (me : ℕ) (region : Region) → length (open_round n taken) + 1 ≡ n
      → standing n me region (taken ++ w ∷ [])
      ≡ record {
        callers = n;
        me = me;
        region = region;
        first = Some (first_round n taken (open_round n taken ++ w ∷ []));
        last = Some (open_round n taken ++ w ∷ []);
        current = [];
        course = course_on (first_round n taken (open_round n taken ++ w ∷ []))
            (last_of n taken (rounds n taken)) (open_round n taken ++ w ∷ []) (course n taken);
      }
  unfolding first_round
  standing_whole me region fills =
      let k : rounds n (taken ++ w ∷ []) ≡ suc (rounds n taken) = rounds_whole fills in
      same_standing n me region
      (ap (first_of n (taken ++ w ∷ [])) k ∙ ap Some (first_filled fills (rounds n taken) refl))
      (ap (last_of n (taken ++ w ∷ [])) k ∙ ap Some (round_filled fills (rounds n taken) refl))
      (open_whole fills)
      (ap (course_after n (taken ++ w ∷ [])) k ∙ course_filled fills (rounds n taken) refl)

-- states of scans are equal where they keep equal rounds, words and courses, and are of equal
-- numbers of callers, callers and regions
same_scanner : {n m i j : ℕ} {r q : Region} (e l : Option (List ℕ)) (c : List ℕ) (a : Course)
    → n ≡ m → i ≡ j → r ≡ q
    → (let s : ScanState =
    record { callers = n; me = i; region = r; first = e; last = l; current = c; course = a } in s)
    ≡ record { callers = m; me = j; region = q; first = e; last = l; current = c; course = a }
same_scanner e l c a p u v = cc

-- The state that the fields of a scan keep after one more word, where they kept that of these words
-- before.
module _ (c : Inside) (w : ℕ) (n me : ℕ) (region : Region) (taken : List ℕ)
    (stood : standing_of c ≡ standing n me region taken) (lacks : c.taken < length c.current) where
  callers : length c.current ≡ n
  callers = ap (λ (s : ScanState). s.callers) stood

  counted : c.taken ≡ length (open_round n taken)
  counted = sym (length-take-le c.taken c.current (omega arith))
      ∙ ap (λ (s : ScanState). length s.current) stood

  filled : take (c.taken + 1) (slice_set c.current c.taken w) ≡ open_round n taken ++ w ∷ []
  filled =
      take_more_set c.current c.taken w lacks ∙ ap (λ (s : ScanState). s.current ++ w ∷ []) stood

  -- where the word doesn't fill the round under way, the fields keep the state with one more word
  pub stands_more : c.taken + 1 ≢ length c.current
      → standing_of (record c { current = slice_set c.current c.taken w; taken = c.taken + 1 })
      ≡ standing n me region (taken ++ w ∷ [])
  stands_more more =
      same_scanner c.first c.last (take (c.taken + 1) (slice_set c.current c.taken w)) c.course
      (length-set c.current c.taken w ∙ callers) (ap (λ (s : ScanState). s.me) stood)
      (ap (λ (s : ScanState). s.region) stood)
      ∙ (same_standing n me region (ap (λ (s : ScanState). s.first) stood)
      (ap (λ (s : ScanState). s.last) stood) filled (ap (λ (s : ScanState). s.course) stood)
      ∙ sym (standing_more n taken w (omega (arith, callers)) me region
      (omega (arith, callers, counted))))

  -- where the word fills the round under way, the fields keep the state with one more word
  pub stands_whole : c.taken + 1 ≡ length c.current
      → standing_of (record c {
        current = slice_set c.current c.taken w;
        taken = 0;
        first = Some (unwrap_or c.first (slice_set c.current c.taken w));
        last = Some (slice_set c.current c.taken w);
        course = course_on (unwrap_or c.first (slice_set c.current c.taken w)) c.last
            (slice_set c.current c.taken w) c.course;
      }) ≡ standing n me region (taken ++ w ∷ [])
  unfolding first_round
  stands_whole whole =
      let new : slice_set c.current c.taken w ≡ open_round n taken ++ w ∷ [] =
      sym (take_all (c.taken + 1) (slice_set c.current c.taken w)
      (omega (arith, length-set c.current c.taken w, whole))) ∙ filled in
      let first : unwrap_or c.first (slice_set c.current c.taken w)
      ≡ first_round n taken (open_round n taken ++ w ∷ []) =
      ap (λ (s : ScanState). unwrap_or s.first (slice_set c.current c.taken w)) stood
      ∙ ap (unwrap_or (first_of n taken (rounds n taken))) new in
      let last : c.last ≡ last_of n taken (rounds n taken) = ap (λ (s : ScanState). s.last) stood in
      let old : c.course ≡ course n taken = ap (λ (s : ScanState). s.course) stood in
      same_scanner (Some (unwrap_or c.first (slice_set c.current c.taken w)))
      (Some (slice_set c.current c.taken w)) []
      (course_on (unwrap_or c.first (slice_set c.current c.taken w)) c.last
      (slice_set c.current c.taken w) c.course)
      (length-set c.current c.taken w ∙ callers) (ap (λ (s : ScanState). s.me) stood)
      (ap (λ (s : ScanState). s.region) stood)
      ∙ (same_standing n me region (ap Some first) (ap Some new) refl (cc (first, new, last, old))
      ∙ sym (standing_whole n taken w (omega (arith, callers)) me region
      (omega (arith, callers, counted))))
