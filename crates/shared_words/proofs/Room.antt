-- A log within bounds has at most as many entries as all callers have calls, and fewer where a
-- caller has calls left.
use Rattle.std.proofs.Common.{◌≡◌, ◌≢◌, ℕ, zero, suc, ◌+◌, ◌*◌, ◌<◌, ◌≤◌, List, [], ◌∷◌, length, refl, sym, ap, subst, inl, inr, arith, suc-mul}
use Rattle.std.specs.List.{All}
use Rattle.std.proofs.lemmas.Bool.{cases_eq}
use Rattle.std.proofs.lemmas.List.Elements.{All-head, All-tail}
use Rattle.shared_words.specs.declared.entry.Entry.{Entry}
use Rattle.shared_words.specs.Entries.{calls_by, IsWithinCap}
use Rattle.shared_words.proofs.Logs.{calls_by-own, calls_by-other, calls_by-prefix}

-- The sum of a function over the numbers below a bound.
abbrev total : ℕ → (ℕ → ℕ) → ℕ
total zero f = 0
total (suc n) f = total n f + f n

total_zero : (n : ℕ) (f : ℕ → ℕ) → ((i : ℕ) → f i ≡ 0) → total n f ≡ 0
total_zero zero f none = refl
total_zero (suc n) f none = let rest = total_zero n f none in let last = none n in omega arith

total_same : (n : ℕ) (f g : ℕ → ℕ) → ((i : ℕ) → i < n → g i ≡ f i) → total n g ≡ total n f
total_same zero f g same = refl
total_same (suc n) f g same = let rest = total_same n f g (λ i low. same i (omega arith)) in
    let last = same n (omega arith) in omega arith

total_more : (n c : ℕ) (f g : ℕ → ℕ) → c < n → g c ≡ f c + 1 → ((i : ℕ) → i ≢ c → g i ≡ f i)
    → total n g ≡ total n f + 1
total_more zero c f g low more same = absurd (omega arith)
total_more (suc n) c f g low more same = elim (cases_eq n c) [
  | inl is ↦
      let rest = total_same n f g (λ i below. same i (λ e. absurd (omega arith))) in
      let last : g n ≡ f n + 1 = subst (λ (j : ℕ). g j ≡ f j + 1) (sym is) more in
      omega arith
  | inr ne ↦ let rest = total_more n c f g (omega arith) more same in
      let last = same n ne in omega arith
]

total_within : (n cap : ℕ) (f : ℕ → ℕ) → ((i : ℕ) → f i ≤ cap) → total n f ≤ n * cap
total_within zero cap f within = omega arith
total_within (suc n) cap f within = let rest = total_within n cap f within in let last = within n in
    omega (arith, suc-mul n cap)

total_less : (n cap c : ℕ) (f : ℕ → ℕ) → ((i : ℕ) → f i ≤ cap) → c < n → f c < cap
    → total n f < n * cap
total_less zero cap c f within low less = absurd (omega arith)
total_less (suc n) cap c f within low less = elim (cases_eq n c) [
  | inl is ↦
      let rest = total_within n cap f within in
      let last : f n < cap = subst (λ (j : ℕ). f j < cap) (sym is) less in
      omega (arith, suc-mul n cap)
  | inr ne ↦ let rest = total_less n cap c f within (omega arith) less in let last = within n in
      omega (arith, suc-mul n cap)
]

-- each entry is one of some caller's
entries_total : (n : ℕ) (log : List Entry) → All (λ e. e.caller < n) log
    → total n (λ i. length (calls_by i log)) ≡ length log
entries_total n [] callers = total_zero n (λ i. length (calls_by i [])) (λ i. refl)
entries_total n (e ∷ log) callers =
    let rest = entries_total n log (All-tail (λ (d : Entry). d.caller < n) e log callers) in
    let low : e.caller < n = All-head (λ (d : Entry). d.caller < n) e log callers in
    let own : length (calls_by e.caller (e ∷ log)) ≡ length (calls_by e.caller log) + 1 =
    (let parts = calls_by-prefix e.caller (e ∷ []) log in
    let one = ap length (calls_by-own e.caller e refl) in omega arith) in
    let others : (i : ℕ) → i ≢ e.caller → length (calls_by i (e ∷ log)) ≡ length (calls_by i log) =
    (λ i ne. let parts = calls_by-prefix i (e ∷ []) log in
    let none = ap length (calls_by-other i e (λ is. ne (sym is))) in omega arith) in
    let more = total_more n e.caller (λ i. length (calls_by i log))
    (λ i. length (calls_by i (e ∷ log))) low own others in
    omega arith

pub length-within : (n cap : ℕ) (log : List Entry) → IsWithinCap n cap log → length log ≤ n * cap
length-within n cap log h = let all = entries_total n log h.callers in
    let most = total_within n cap (λ i. length (calls_by i log)) h.calls in omega arith

pub length-left : (n cap i : ℕ) (log : List Entry) → IsWithinCap n cap log → i < n
    → length (calls_by i log) < cap → length log < n * cap
length-left n cap i log h low left =
    let all = entries_total n log h.callers in
    let less = total_less n cap i (λ j. length (calls_by j log)) h.calls low left in
    omega arith
