-- Right lines that lead to a goal: their first line, and the head with which they begin.
use Rattle.std.proofs.Common.{◌≡◌, ℕ, true, List, [], ◌∷◌, ◌++◌, length, refl, sym, ap, subst, ◌∙◌}
use Rattle.seq_objects.specs.declared.kind.Kind.{Kind}
use Rattle.text_fields.specs.declared.version.Version.{Version}
use Rattle.text_fields.specs.Version.{has_kind}
use Rattle.text_fields.specs.Faults.{Rules, AllPass}
use Rattle.text_fields.specs.Head.{HeadDue, TitleDue, ObjectDue, CallersDue, CountsDue, HeadRead, HeadPasses, AreCallers, AreCalls, head_lines, title_words, object_words, callers_words, calls_words}

module _ {Due : Type 0} (rules : Rules Due) (goal : Due) where
  abbrev pub Leads : Due → List (List (List ℕ)) → Type 0
  Leads due lines = AllPass rules.Passes due lines goal

  -- where the goal isn't reached yet, there is a next line
  pub record HasLine (due : Due) (lines : List (List (List ℕ))) : Type 0 where
    pub words : List (List ℕ)
    pub others : List (List (List ℕ))
    pub next : Due
    pub text : lines ≡ words ∷ others
    pub right : rules.Passes due words next
    pub leads : Leads next others

  pub has_line : (due : Due) (lines : List (List (List ℕ))) → (due ≡ goal → ⊥) → Leads due lines
      → HasLine due lines
  has_line due [] unlike h = absurd (unlike h)
  has_line due (words ∷ others) unlike h =
      record { words = words; others = others; next = h.0; text = refl; right = h.1; leads = h.2 }

  abbrev pub moved : (due next : Due) (lines : List (List (List ℕ))) → due ≡ next → Leads due lines
      → Leads next lines
  moved due next lines e h = subst (λ (d : Due). Leads d lines) e h

  -- ---- the head

  four_lines : (lines a b c d : List (List (List ℕ))) (p q r s t u v w : List (List ℕ))
      → lines ≡ p ∷ a → a ≡ q ∷ b → b ≡ r ∷ c → c ≡ s ∷ d → p ≡ t → q ≡ u → r ≡ v → s ≡ w
      → lines ≡ t ∷ u ∷ v ∷ w ∷ d
  four_lines lines a b c d p q r s t u v w h0 h1 h2 h3 e f g h = cc

  module _ (version : Version) (title : List ℕ) (in_head after_head : HeadDue → Due)
      (enters : (due : HeadDue) (words : List (List ℕ)) (after : Due)
      → rules.Passes (in_head due) words after → (next : HeadDue)
      × HeadPasses version title due words next × (after ≡ after_head next))
      (object_due : after_head ObjectDue ≡ in_head ObjectDue)
      (callers_due : (kind : Kind) → after_head (CallersDue kind) ≡ in_head (CallersDue kind))
      (counts_due : (kind : Kind) (n : ℕ)
      → after_head (CountsDue kind n) ≡ in_head (CountsDue kind n))
      (unlike : (due : HeadDue) → in_head due ≡ goal → ⊥) where
    -- the first four lines are those of a head
    pub record IsHeadRead (lines : List (List (List ℕ))) : Type 0 where
      pub object : Kind
      pub known : has_kind version object ≡ true
      pub n : ℕ
      pub callers : AreCallers version n
      pub counts : List ℕ
      pub calls : AreCalls version n counts
      pub others : List (List (List ℕ))
      pub text : lines ≡ head_lines version title object counts ++ others
      pub leads : Leads (after_head (HeadRead object counts)) others

    pub head_read : (lines : List (List (List ℕ))) → Leads (in_head TitleDue) lines
        → IsHeadRead lines
    head_read lines h =
        let first = has_line (in_head TitleDue) lines (unlike TitleDue) h in
        let one = enters TitleDue first.words first.next first.right in
        let at_object = moved first.next (in_head ObjectDue) first.others
        (one.2 ∙ ap after_head one.1.1 ∙ object_due) first.leads in
        let second = has_line (in_head ObjectDue) first.others (unlike ObjectDue) at_object in
        let two = enters ObjectDue second.words second.next second.right in
        let k = two.1.0 in
        let at_callers = moved second.next (in_head (CallersDue k)) second.others
        (two.2 ∙ ap after_head two.1.3 ∙ callers_due k) second.leads in
        let third =
        has_line (in_head (CallersDue k)) second.others (unlike (CallersDue k)) at_callers in
        let three = enters (CallersDue k) third.words third.next third.right in
        let n = three.1.0 in
        let at_counts = moved third.next (in_head (CountsDue k n)) third.others
        (three.2 ∙ ap after_head three.1.3 ∙ counts_due k n) third.leads in
        let fourth =
        has_line (in_head (CountsDue k n)) third.others (unlike (CountsDue k n)) at_counts in
        let four = enters (CountsDue k n) fourth.words fourth.next fourth.right in
        let counts = four.1.0 in
        let size : n ≡ length counts = sym four.1.1.count in
        record {
          object = k;
          known = two.1.1;
          n = n;
          callers = three.1.1;
          counts = counts;
          calls = four.1.1;
          others = fourth.others;
          text = four_lines lines first.others second.others third.others fourth.others first.words
              second.words third.words fourth.words
              (title_words version title) (object_words k) (callers_words (length counts))
              (calls_words counts)
              first.text second.text third.text fourth.text one.1.0 two.1.2
              (three.1.2 ∙ ap callers_words size) four.1.2;
          leads = moved fourth.next (after_head (HeadRead k counts)) fourth.others
              (four.2 ∙ ap after_head four.1.3) fourth.leads;
        }
