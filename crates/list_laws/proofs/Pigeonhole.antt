-- The pigeonhole principle: items that can be matched one each with numbers below a bound are no
-- more than the bound.
use Rattle.std.proofs.Common.{◌≡◌, ℕ, zero, suc, ◌<◌, ◌≤◌, ◌⊎◌, sym, subst, inl, inr, refl, arith}
use Rattle.std.proofs.lemmas.Bool.{cases_lt, cases_eq}

-- the matching without the last item and its match, where whoever had the last number gets that
-- match
abbrev Rematched : (ℕ → ℕ → Type 0) → ℕ → ℕ → ℕ → ℕ → ℕ → Type 0
Rematched match n m last i j = (i < n) × ((match i j × (j < m)) ⊎ (match i m × (j ≡ last)))

rematched_apart : (match : ℕ → ℕ → Type 0) (n m last : ℕ)
    → ((i k j : ℕ) → match i j → match k j → i ≡ k) → match n last
    → (i k j : ℕ) → Rematched match n m last i j → Rematched match n m last k j → i ≡ k
rematched_apart match n m last apart taken i k j a b =
    elim a.1 [
      | inl one ↦ elim b.1 [
        | inl other ↦ apart i k j one.0 other.0
        | inr other ↦ let wrong : i ≡ n = apart i n j one.0 (subst (match n) (sym other.1) taken) in
            absurd (omega (arith, a.0))
      ]
      | inr one ↦ elim b.1 [
        | inl other ↦ let wrong : k ≡ n = apart k n j other.0 (subst (match n) (sym one.1) taken) in
            absurd (omega (arith, b.0))
        | inr other ↦ apart i k m one.0 other.0
      ]
    ]

rematch : (match : ℕ → ℕ → Type 0) (n m last : ℕ) → ((i k j : ℕ) → match i j → match k j → i ≡ k)
    → match n last → last < suc m
    → (i : ℕ) → i < n → (j : ℕ) × (j < suc m) × match i j → (j : ℕ) × (j < m)
    × Rematched match n m last i j
rematch match n m last apart taken below i lt found =
    elim (cases_lt found.0 m) [
      | inl less ↦ (found.0, less, (lt, inl (found.2, less)))
      | inr ge ↦
          let top : found.0 ≡ m = omega (arith, found.1) in
          let at : match i m = subst (match i) top found.2 in
          elim (cases_eq last m) [
            | inl same ↦ let wrong : i ≡ n = apart i n m at (subst (match n) same taken) in
                absurd (omega arith)
            | inr other ↦ (
              last,
              elim (cases_lt last m) [
                | inl less ↦ less
                | inr over ↦ let e : last ≡ m = omega arith in absurd (other e)
              ],
              (lt, inr (at, refl)),
            )
          ]
    ]

pub pigeonhole : (match : ℕ → ℕ → Type 0) (n m : ℕ)
    → ((i : ℕ) → i < n → (j : ℕ) × (j < m) × match i j)
    → ((i k j : ℕ) → match i j → match k j → i ≡ k) → n ≤ m
pigeonhole match zero m all apart = omega arith
pigeonhole match (suc n) zero all apart = let found = all 0 (omega arith) in
    absurd (omega (arith, found.1))
pigeonhole match (suc n) (suc m) all apart =
    let last = all n (omega arith) in
    let rest = pigeonhole (Rematched match n m last.0) n m
    (λ i lt. rematch match n m last.0 apart last.2 last.1 i lt (all i (omega arith)))
    (rematched_apart match n m last.0 apart last.2) in
    omega (arith, rest)
