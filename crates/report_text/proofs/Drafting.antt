-- The draft with one line more, and how a line fits a draft.
use Rattle.std.proofs.Common.{◌≡◌, ◌≢◌, ℕ, zero, suc, ◌+◌, ◌<◌, ◌≤◌, ◌⊎◌, List, [], ◌∷◌, ◌++◌, length, get_or, set, Some, None, refl, sym, ap, subst, ◌∙◌, arith, inl, inr}
use Rattle.std.specs.Prelude.{min}
use Rattle.std.proofs.lemmas.Bool.{cases_eq, cases_lt}
use Rattle.std.proofs.lemmas.Option.{same_Some}
use Rattle.std.proofs.lemmas.List.{get_or-set_same, get_or-set_other, length-set}
use Rattle.book_base.specs.declared.call.Call.{Call}
use Rattle.book_base.specs.declared.fault.What.TheVariants as what
use Rattle.book_base.specs.Cut.{Holds, IsWithin}
use Rattle.report_lines.specs.declared.line.LineEnd.{LineEnd}
use Rattle.report_lines.specs.declared.line.LineEnd.TheVariants.{Pending, Unchecked, Delivered, Error}
use Rattle.report_lines.specs.declared.line.Line.{Line}
use Rattle.report_lines.specs.Lines.{seen_in, delivered_in}
use Rattle.client_scripts.specs.ScriptRules.{grouped}
use Rattle.report_text.specs.declared.draft.Draft.{Draft}
use Rattle.report_text.specs.ReportRules.{IsPendingAt, IsWrongCut}
use Rattle.report_text.specs.Drafts.{StandBefore, AreLimits, AreSeenCounts, IsDraft, lowered, limits_with, AreJoined, AreSeenWith, FitsKept}
use Rattle.report_text.specs.Parts.{with_told, FitsCuts, AlwaysFits, IsAlwaysMisfit}
use Rattle.report_text.proofs.Pushing.{inside, book-push, line-here, pending-old, pending-cases, seen-here, held-cases, held-old}

module _ (counts : List ℕ) (told : List Line) (op : ℕ) (call : Call)
    (stand : StandBefore counts told call.caller call.number)
    (lt : call.number < get_or counts call.caller 0) where
  abbrev lines : List (List Line)
  lines = grouped counts told

  abbrev line : LineEnd → Line
  line end = record { op = op; end = end }

  abbrev after : LineEnd → List (List Line)
  after end = grouped counts (told ++ line end ∷ [])

  -- ---- limits

  -- a line that isn't pending leaves the limits
  limits-same : (end : LineEnd) (limits : List ℕ) → (end ≡ Pending → ⊥)
      → AreLimits counts lines limits → AreLimits counts (after end) limits
  limits-same end limits other h = record {
    wide = h.wide;
    within = h.within;
    pending = λ it at. elim (pending-cases counts told (line end) call stand lt it at) [
      | inl old ↦ h.pending it old
      | inr new ↦ absurd (other new.1)
    ];
    reached = λ j. elim (h.reached j) as (λ _. (get_or limits j 0 ≡ get_or counts j 0)
        ⊎ IsPendingAt (after end) (record { caller = j; number = get_or limits j 0 })) [
          | inl same ↦ inl same
          | inr at ↦ inr (pending-old counts told (line end) call stand lt _ at)
        ];
  }

  limits-lowered : (limits : List ℕ) → AreLimits counts lines limits
      → AreLimits counts (after Pending) (lowered limits call)
  limits-lowered limits h =
      let i = call.caller in
      let k = call.number in
      let low = min (get_or limits i 0) k in
      let room : i < length limits =
      omega (arith, h.wide, inside counts told (line Pending) call stand lt) in
      let here : get_or (set limits i low) i 0 ≡ low = get_or-set_same limits i low 0 room in
      let others : (j : ℕ) → j ≢ i → get_or (set limits i low) j 0 ≡ get_or limits j 0 =
      λ j other. get_or-set_other limits i j low 0 other in
      let below : (j : ℕ) → get_or (set limits i low) j 0 ≤ get_or limits j 0 =
      λ j. elim (cases_eq j i) [
        | inl same ↦ let at : get_or (set limits i low) j 0 ≡ low =
            ap (λ (m : ℕ). get_or (set limits i low) m 0) same ∙ here in
            let le : get_or limits j 0 ≡ get_or limits i 0 =
            ap (λ (m : ℕ). get_or limits m 0) same in omega arith
        | inr other ↦ omega (arith, others j other)
      ] in
      record {
        wide = length-set limits i low ∙ h.wide;
        within = λ j. omega (arith, below j, h.within j);
        pending = λ it at. elim (pending-cases counts told (line Pending) call stand lt it at) [
          | inl old ↦ omega (arith, below it.caller, h.pending it old)
          | inr new ↦ let at : get_or (set limits i low) it.caller 0 ≡ low =
              ap (λ (m : ℕ). get_or (set limits i low) m 0) new.0.caller ∙ here in
              omega (arith, new.0.number)
        ];
        reached = λ j. elim (cases_eq j i) [
          | inl same ↦ elim (cases_lt k (get_or limits i 0)) as
              (λ _. (get_or (set limits i low) j 0 ≡ get_or counts j 0) ⊎ IsPendingAt
              (after Pending) (record { caller = j; number = get_or (set limits i low) j 0 })) [
                | inl above ↦
                    let at : get_or (set limits i low) j 0 ≡ k =
                    ap (λ (m : ℕ). get_or (set limits i low) m 0) same ∙ here
                    ∙ (let lowest : low ≡ k = omega arith in lowest) in
                    let moved : Call → Type 0 = λ it. IsPendingAt (after Pending) it in
                    let made : ℕ → ℕ → Call = λ m n. record { caller = m; number = n } in
                    inr
                    (subst (λ (m : ℕ). moved (made m (get_or (set limits i low) j 0))) (sym same)
                    (subst (λ (n : ℕ). moved (made i n)) (sym at)
                    (line Pending, line-here counts told (line Pending) call stand lt, refl)))
                | inr under ↦
                    let at : get_or (set limits i low) j 0 ≡ get_or limits j 0 =
                    ap (λ (m : ℕ). get_or (set limits i low) m 0) same ∙ here
                    ∙ (let lowest : low ≡ get_or limits i 0 = omega arith in lowest)
                    ∙ ap (λ (m : ℕ). get_or limits m 0) (sym same) in
                    kept j (get_or (set limits i low) j 0) at (h.reached j)
              ]
          | inr other ↦ kept j (get_or (set limits i low) j 0) (others j other) (h.reached j)
        ];
      } where
        kept : (j m : ℕ) → m ≡ get_or limits j 0 → (get_or limits j 0 ≡ get_or counts j 0)
            ⊎ IsPendingAt lines (record { caller = j; number = get_or limits j 0 })
            → (m ≡ get_or counts j 0)
            ⊎ IsPendingAt (after Pending) (record { caller = j; number = m })
        kept j m e (inl same) = inl (e ∙ same)
        kept j m e (inr at) =
            inr (subst (λ (n : ℕ). IsPendingAt (after Pending) (record { caller = j; number = n }))
            (sym e) (pending-old counts told (line Pending) call stand lt _ at))

  limits-push : (end : LineEnd) (limits : List ℕ) → AreLimits counts lines limits
      → AreLimits counts (after end) (limits_with limits call end)
  limits-push Pending limits h = limits-lowered limits h
  limits-push (Unchecked r) limits h = limits-same (Unchecked r) limits (λ e. absurd cc) h
  limits-push (Delivered r cut) limits h = limits-same (Delivered r cut) limits (λ e. absurd cc) h
  limits-push (Error r cut) limits h = limits-same (Error r cut) limits (λ e. absurd cc) h

  -- ---- seen cuts

  seen-same : (end : LineEnd) (n : ℕ) (seen : List ℕ)
      → ((cut : List ℕ) → seen_in end ≡ Some cut → ⊥) → AreSeenCounts n lines seen
      → AreSeenCounts n (after end) seen
  seen-same end n seen none h = record {
    wide = h.wide;
    holds = λ it at. elim (held-cases counts told (line end) call stand lt it at) [
      | inl old ↦ h.holds it old
      | inr new ↦ absurd (none new.0 new.1)
    ];
    held = λ it at. held-old counts told (line end) call stand lt it (h.held it at);
  }

  seen-joined : (end : LineEnd) (n : ℕ) (seen cut both : List ℕ) → seen_in end ≡ Some cut
      → AreSeenCounts n lines seen → AreJoined seen cut both → AreSeenCounts n (after end) both
  seen-joined end n seen cut both e h j = record {
    wide = j.wide ∙ h.wide;
    holds = λ it at. elim (held-cases counts told (line end) call stand lt it at) [
      | inl old ↦ omega (arith, h.holds it old, j.greater it.caller)
      | inr new ↦ let same : new.0 ≡ cut = same_Some new.0 cut (sym new.1 ∙ e) in
          omega (arith, subst (λ (c : List ℕ). Holds c it) same new.2, j.greater it.caller)
    ];
    held = λ it at. elim (cases_lt it.number (get_or seen it.caller 0)) [
      | inl lt ↦ held-old counts told (line end) call stand lt' it (h.held it lt)
      | inr ge ↦
          let holds : Holds cut it = omega (arith, at, j.greater it.caller) in
          (call, cut, seen-here counts told (line end) call stand lt' cut e, holds)
    ];
  } where
    lt' : call.number < get_or counts call.caller 0
    lt' = lt

  seen-push : (end : LineEnd) (n : ℕ) (seen both : List ℕ) → AreSeenCounts n lines seen
      → AreSeenWith seen end both → AreSeenCounts n (after end) both
  seen-push Pending n seen both h e = subst (AreSeenCounts n (after Pending)) (sym e)
      (seen-same Pending n seen (λ cut e. absurd cc) h)
  seen-push (Unchecked r) n seen both h e = subst (AreSeenCounts n (after (Unchecked r))) (sym e)
      (seen-same (Unchecked r) n seen (λ cut e. absurd cc) h)
  seen-push (Delivered r cut) n seen both h e =
      seen-joined (Delivered r cut) n seen cut both refl h e
  seen-push (Error r cut) n seen both h e = seen-joined (Error r cut) n seen cut both refl h e

-- a draft after a line is the one before it with this line's call, limit and seen cut
pub draft-push : (counts : List ℕ) (told : List Line) (line : Line) (call : Call)
    (before after : Draft) → StandBefore counts told call.caller call.number
    → call.number < get_or counts call.caller 0
    → IsDraft counts told before → after.book ≡ with_told before.book call line
    → after.limits ≡ limits_with before.limits call line.end
    → AreSeenWith before.seen line.end after.seen → IsDraft counts (told ++ line ∷ []) after
draft-push counts told line call before after stand lt h book limits seen = record {
  book = book ∙ ap (λ (b : _). with_told b call line) h.book
      ∙ sym (book-push counts told line call stand lt);
  limits = subst (AreLimits counts (grouped counts (told ++ line ∷ []))) (sym limits)
      (limits-push counts told line.op call stand lt line.end before.limits h.limits);
  seen = seen-push counts told line.op call stand lt line.end
      (length counts) before.seen after.seen h.seen seen;
}

-- ---- how a line fits

within_cons : (x y : ℕ) (a b : List ℕ) → x ≤ y → IsWithin a b → IsWithin (x ∷ a) (y ∷ b)
within_cons x y a b le h zero = le
within_cons x y a b le h (suc i) = h i

within_none : (x : ℕ) (a : List ℕ) → x ≤ 0 → IsWithin a [] → IsWithin (x ∷ a) []
within_none x a le h zero = le
within_none x a le h (suc i) = h i

-- a cut that isn't within another has a greater count
not_within : (a b : List ℕ) → ¬ (IsWithin a b) → (j : ℕ) × (get_or b j 0 < get_or a j 0)
not_within [] b none = absurd (none (λ i. omega arith))
not_within (x ∷ a) [] none = elim (cases_lt 0 x) [
  | inl lt ↦ (0, lt)
  | inr le ↦ let rest = not_within a [] (λ h. none (within_none x a le h)) in (suc rest.0, rest.1)
]
not_within (x ∷ a) (y ∷ b) none = elim (cases_lt y x) [
  | inl lt ↦ (0, lt)
  | inr le ↦ let rest = not_within a b (λ h. none (within_cons x y a b le h)) in
      (suc rest.0, rest.1)
]

fits_cut : (counts : List ℕ) (lines : List (List Line)) (limits cut : List ℕ) (call : Call)
    → AreLimits counts lines limits → IsWithin cut limits → Holds cut call
    → IsWrongCut counts lines call cut → ⊥
fits_cut counts lines limits cut call h within own (inl above) =
    omega (arith, above.1, within above.0, h.within above.0)
fits_cut counts lines limits cut call h within own (inr (inl over)) =
    omega (arith, over.2, within over.0.caller, h.pending over.0 over.1)
fits_cut counts lines limits cut call h within own (inr (inr low)) = omega (arith, own, low)

fits_cuts : (counts : List ℕ) (lines : List (List Line)) (limits seen : List ℕ) (call : Call)
    (op : ℕ) (end : LineEnd) → AreLimits counts lines limits
    → AreSeenCounts (length counts) lines seen → FitsKept limits seen call end
    → FitsCuts counts lines call (record { op = op; end = end })
fits_cuts counts lines limits seen call op Pending h s fits =
    record { seen = λ cut e. absurd cc; pending = λ _ before. fits (s.holds call before) }
fits_cuts counts lines limits seen call op (Unchecked r) h s fits =
    record { seen = λ cut e. absurd cc; pending = λ e. absurd cc }
fits_cuts counts lines limits seen call op (Delivered r own) h s fits = record {
  seen = λ cut e wrong. fits_cut counts lines limits own call h fits.0 fits.1
      (subst (IsWrongCut counts lines call) (same_Some cut own (sym e)) wrong);
  pending = λ e. absurd cc;
}
fits_cuts counts lines limits seen call op (Error r own) h s fits = record {
  seen = λ cut e wrong. fits_cut counts lines limits own call h fits.0 fits.1
      (subst (IsWrongCut counts lines call) (same_Some cut own (sym e)) wrong);
  pending = λ e. absurd cc;
}

pub always_fits : (limits seen : List ℕ) (call : Call) (count : ℕ) (line : Line)
    → FitsKept limits seen call line.end
    → (delivered_in line.end ≡ None → call.number + 1 < count → ⊥)
    → AlwaysFits limits seen call count line
always_fits limits seen call count line fits last = λ counts lines h s size. record {
  cuts = fits_cuts counts lines limits seen call line.op line.end h s fits;
  last = λ early. last early.0 (omega (arith, early.1, size));
}

wrong_cut : (counts : List ℕ) (lines : List (List Line)) (limits cut : List ℕ) (call : Call)
    → AreLimits counts lines limits → ¬ (IsWithin cut limits × Holds cut call)
    → IsWrongCut counts lines call cut
wrong_cut counts lines limits cut call h none =
    elim (cases_lt call.number (get_or cut call.caller 0)) [
      | inr low ↦ inr (inr low)
      | inl own ↦
          let above = not_within cut limits (λ within. none (within, own)) in
          elim (h.reached above.0) as (λ _. IsWrongCut counts lines call cut) [
            | inl same ↦ inl (above.0, omega (arith, above.1, same))
            | inr pending ↦ inr
                (inl
                (record { caller = above.0; number = get_or limits above.0 0 }, pending, above.1))
          ]
    ]

misfits_cuts : (limits seen : List ℕ) (call : Call) (count op : ℕ) (end : LineEnd)
    → ¬ (FitsKept limits seen call end)
    → IsAlwaysMisfit limits seen call count (record { op = op; end = end }) what.Seen
misfits_cuts limits seen call count op Pending none = λ counts lines h s size. inr (
  refl,
  elim (cases_lt call.number (get_or seen call.caller 0)) [
    | inl holds ↦ s.held call holds
    | inr free ↦ absurd (none (λ holds. omega arith))
  ],
)
misfits_cuts limits seen call count op (Unchecked r) none = absurd (none tt)
misfits_cuts limits seen call count op (Delivered r cut) none =
    λ counts lines h s size. inl (cut, refl, wrong_cut counts lines limits cut call h none)
misfits_cuts limits seen call count op (Error r cut) none =
    λ counts lines h s size. inl (cut, refl, wrong_cut counts lines limits cut call h none)

pub misfits_seen : (limits seen : List ℕ) (call : Call) (count : ℕ) (line : Line)
    → ¬ (FitsKept limits seen call line.end) → IsAlwaysMisfit limits seen call count line what.Seen
misfits_seen limits seen call count line none =
    misfits_cuts limits seen call count line.op line.end none

pub misfits_last : (limits seen : List ℕ) (call : Call) (count : ℕ) (line : Line)
    → FitsKept limits seen call line.end → delivered_in line.end ≡ None → call.number + 1 < count
    → IsAlwaysMisfit limits seen call count line what.Last
misfits_last limits seen call count line fits none more = λ counts lines h s size. (
  fits_cuts counts lines limits seen call line.op line.end h s fits,
  (none, omega (arith, more, size)),
)
