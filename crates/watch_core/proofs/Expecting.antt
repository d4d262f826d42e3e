-- The table of open calls where a reply is told.
use Rattle.std.proofs.Common.{◌≡◌, ◌≢◌, ◌⊎◌, ◌∙◌, ℕ, Bool, ◌==◌, List, map, Some, slice_get, slice_set, refl, sym, ap, subst, inl, inr, if◌then◌else◌}
use Rattle.std.proofs.lemmas.Bool.{cases_eq, cases_Bool, eqb-true, eqb-false}
use Rattle.std.proofs.lemmas.Option.{same_Some}
use Rattle.streams.specs.Stream.{StreamEvent, IsCalledAt, IsWaiting, HasReturned}
use Rattle.late_residue.specs.declared.open_call.OpenCall.{OpenCall}
use Rattle.late_residue.specs.Reached.{Has}
use Rattle.late_residue.specs.Known.{with_reply}
use Rattle.late_residue.proofs.Items.{map-from, has-map}
use Rattle.watch_core.specs.Table.{IsTable, Derives}
use Rattle.late_residue.proofs.Items.{set-from, set-to, set-at}
use Rattle.watch_core.proofs.Tables.{same_replies}

module _ (stream : List StreamEvent) (calls : List OpenCall) (table : IsTable stream calls)
    (at reply : ℕ) (one : OpenCall) (here : slice_get calls at ≡ Some one) where
  abbrev told : OpenCall
  told = record one { reply = Some reply }

  abbrev now : List OpenCall
  now = slice_set calls at told

  -- an open call is the one that is told of, or another one
  told_cases : (k : ℕ) (other : OpenCall) → slice_get now k ≡ Some other
      → ((k ≡ at) × (told ≡ other)) ⊎ ((k ≢ at) × (slice_get calls k ≡ Some other))
  told_cases k other is = set-from calls at told k other is

  -- the call of a number was open before, and is lost where it was
  told_before : (other : OpenCall) → Has now other → (old : OpenCall) × Has calls old
      × (old.call ≡ other.call) × (old.process ≡ other.process) × (old.op ≡ other.op)
      × (old.is_lost ≡ other.is_lost)
  told_before other (k, is) = elim (told_cases k other is) [
    | inl (same, equal) ↦ (
      one,
      (at, here),
      ap (λ (c : OpenCall). c.call) equal,
      ap (λ (c : OpenCall). c.process) equal,
      ap (λ (c : OpenCall). c.op) equal,
      ap (λ (c : OpenCall). c.is_lost) equal,
    )
    | inr (apart, old) ↦ (other, (k, old), refl, refl, refl, refl)
  ]

  told_once : (j k : ℕ) (a b : OpenCall) → slice_get now j ≡ Some a → slice_get now k ≡ Some b
      → a.call ≡ b.call → j ≡ k
  told_once j k a b first second same =
      by j k a b (told_cases j a first) (told_cases k b second) same
    where
      by : (j k : ℕ) (a b : OpenCall)
          → ((j ≡ at) × (told ≡ a)) ⊎ ((j ≢ at) × (slice_get calls j ≡ Some a))
          → ((k ≡ at) × (told ≡ b)) ⊎ ((k ≢ at) × (slice_get calls k ≡ Some b))
          → a.call ≡ b.call → j ≡ k
      by j k a b (inl first) (inl second) same = first.0 ∙ sym second.0
      by j k a b (inl first) (inr second) same = first.0 ∙ table.once at k one b here second.1
          (ap (λ (c : OpenCall). c.call) first.1 ∙ same)
      by j k a b (inr first) (inl second) same = table.once j at a one first.1 here
          (same ∙ sym (ap (λ (c : OpenCall). c.call) second.1)) ∙ sym second.0
      by j k a b (inr first) (inr second) same = table.once j k a b first.1 second.1 same

  pub table_told : IsTable stream now
  table_told = record {
    are_open = record {
      called = λ other has.
          let old = told_before other has in
          subst (λ (c : ℕ). IsCalledAt stream c other.process other.op) old.2
          (subst (λ (p : ℕ). IsCalledAt stream old.0.call p other.op) old.3
          (subst (λ (o : ℕ). IsCalledAt stream old.0.call old.0.process o) old.4
          (table.are_open.called old.0 old.1)));
      pending = λ other has returned.
          let old = told_before other has in
          table.are_open.pending old.0 old.1
          (subst (λ (c : ℕ). HasReturned stream c) (sym old.2) returned);
      whole = λ call is not.
          let found = table.are_open.whole call is not in
          elim (cases_eq found.1.0 at) [
            | inl same ↦
                let equal : found.0 ≡ one = same_Some found.0 one (sym found.1.1
                ∙ (ap (λ (k : ℕ). slice_get calls k) same ∙ here)) in (
                  told,
                  (at, set-at calls at told one here),
                  ap (λ (c : OpenCall). c.call) (sym equal) ∙ found.2,
                )
            | inr apart ↦ (
              found.0,
              (found.1.0, set-to calls at told found.1.0 found.0 found.1.1 apart),
              found.2,
            )
          ];
      same = same_replies now told_once;
    };
    once = told_once;
    waiting = λ other has is.
        let old = told_before other has in
        subst (λ (p : ℕ). IsWaiting stream p other.call) old.3
        (subst (λ (c : ℕ). IsWaiting stream old.0.process c) old.2
        (table.waiting old.0 old.1 (old.5 ∙ is)));
    lost = λ other has is waits.
        let old = told_before other has in
        table.lost old.0 old.1 (old.5 ∙ is)
        (subst (λ (p : ℕ). IsWaiting stream p old.0.call) (sym old.3)
        (subst (λ (c : ℕ). IsWaiting stream other.process c) (sym old.2) waits));
  }

  revealed : (other : OpenCall) → other.call ≡ one.call
      → with_reply one.call reply other ≡ record other { reply = Some reply }
  revealed other same = elim (cases_Bool (other.call == one.call)) [
    | inl is ↦
        ap (λ (b : Bool). if b then record other { reply = Some reply } else other) is
    | inr differs ↦ absurd (eqb-false other.call one.call differs same)
  ]

  not_revealed : (other : OpenCall) → (other.call ≡ one.call → ⊥)
      → with_reply one.call reply other ≡ other
  not_revealed other apart = elim (cases_Bool (other.call == one.call)) [
    | inl is ↦ absurd (apart (eqb-true other.call one.call is))
    | inr differs ↦
        ap (λ (b : Bool). if b then record other { reply = Some reply } else other) differs
  ]

  other_call : (k : ℕ) (other : OpenCall) → k ≢ at → slice_get calls k ≡ Some other
      → other.call ≡ one.call → ⊥
  other_call k other apart old same = apart (table.once k at other one old here same)

  -- what is known now is what is known after the reply is told
  pub told_derives : Derives (map (with_reply one.call reply) calls) now
  told_derives other (k, is) known given = elim (told_cases k other is) [
    | inl (same, equal) ↦
        let now_is = revealed one refl in (
          with_reply one.call reply one,
          has-map (with_reply one.call reply) calls one (at, here),
          ap (λ (c : OpenCall). c.call) now_is ∙ ap (λ (c : OpenCall). c.call) equal,
          ap (λ (c : OpenCall). c.reply) now_is ∙ (ap (λ (c : OpenCall). c.reply) equal ∙ given),
        )
    | inr (apart, old) ↦
        let now_is = not_revealed other (other_call k other apart old) in (
          with_reply one.call reply other,
          has-map (with_reply one.call reply) calls other (k, old),
          ap (λ (c : OpenCall). c.call) now_is,
          ap (λ (c : OpenCall). c.reply) now_is ∙ given,
        )
  ]

  pub derives_told : Derives now (map (with_reply one.call reply) calls)
  derives_told other (k, is) known given =
      let old = map-from (with_reply one.call reply) calls k other is in
      elim (cases_eq k at) [
        | inl same ↦
            let equal : old.0 ≡ one = same_Some old.0 one (sym old.1
            ∙ (ap (λ (i : ℕ). slice_get calls i) same ∙ here)) in
            let now_is : told ≡ other = sym (revealed one refl)
            ∙ (ap (λ (c : OpenCall). with_reply one.call reply c) (sym equal) ∙ old.2) in (
              told,
              (at, set-at calls at told one here),
              ap (λ (c : OpenCall). c.call) now_is,
              ap (λ (c : OpenCall). c.reply) now_is ∙ given,
            )
        | inr apart ↦
            let now_is : old.0 ≡ other =
            sym (not_revealed old.0 (other_call k old.0 apart old.1)) ∙ old.2 in (
              old.0,
              (k, set-to calls at told k old.0 old.1 apart),
              ap (λ (c : OpenCall). c.call) now_is,
              ap (λ (c : OpenCall). c.reply) now_is ∙ given,
            )
      ]
