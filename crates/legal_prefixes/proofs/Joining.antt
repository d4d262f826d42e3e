-- Texts that are written one line after another.
use Rattle.std.proofs.Common.{◌≡◌, ℕ, zero, suc, ◌+◌, ◌<◌, ◌∙◌, List, [], ◌∷◌, ◌++◌, Some, sym, ap, subst, slice_get, flat_map, length, refl, arith}
use Rattle.std.specs.Prelude.{codes, decimal}
use Rattle.std.specs.List.{AllByRecursion}
use Rattle.seq_objects.specs.declared.kind.Kind.{Kind}
use Rattle.book_base.specs.Book.{Page}
use Rattle.legal_prefixes.specs.declared.prefix.LegalPrefix.{LegalPrefix}
use Rattle.legal_prefixes.specs.declared.blocked.Blocked.{Blocked}
use Rattle.legal_prefixes.specs.Longest.{AreAllBlocked}
use Rattle.legal_prefixes.specs.Texts.{item_text, held_text, place_line, blocked_line, prefix_text, head_text, more_text, TellsFirst}
use Rattle.std.proofs.lemmas.Bool.{cond-false, ne_eqb}
use Rattle.std.proofs.Math.Dec.{eqb}
use Rattle.std.proofs.lemmas.Option.{same_Some, slice_get_within}

-- Six texts that are appended one after another.
pub six_joined : (o1 o2 o3 o4 o5 o6 a b c d e f : List ℕ) → o1 ≡ a → o2 ≡ o1 ++ b → o3 ≡ o2 ++ c
    → o4 ≡ o3 ++ d → o5 ≡ o4 ++ e → o6 ≡ o5 ++ f → o6 ≡ a ++ b ++ c ++ d ++ e ++ f
six_joined o1 o2 o3 o4 o5 o6 a b c d e f e1 e2 e3 e4 e5 e6 =
    let g2 : o2 ≡ a ++ b = e2 ∙ ap (λ (t : List ℕ). t ++ b) e1 in
    let g3 : o3 ≡ (a ++ b) ++ c = e3 ∙ ap (λ (t : List ℕ). t ++ c) g2 in
    let g4 : o4 ≡ ((a ++ b) ++ c) ++ d = e4 ∙ ap (λ (t : List ℕ). t ++ d) g3 in
    let g5 : o5 ≡ (((a ++ b) ++ c) ++ d) ++ e = e5 ∙ ap (λ (t : List ℕ). t ++ e) g4 in
    e6 ∙ ap (λ (t : List ℕ). t ++ f) g5

-- What holds of all items holds of the one at an index.
pub all_at : {X : Type 0} (P : X → Type 0) (xs : List X) → AllByRecursion P xs → (k : ℕ) (x : X)
    → slice_get xs k ≡ Some x → P x
all_at P [] all k x has = absurd (omega (arith, slice_get_within [] k x has))
all_at P (y ∷ ys) all zero x has = subst P (same_Some y x has) all.0
all_at P (y ∷ ys) all (suc k) x has = all_at P ys all.1 k x has

-- The text of an empty list says that there is nothing.
pub held_none : (kind : Kind) (items : List ℕ) → length items ≡ 0
    → held_text kind items ≡ codes " nothing"
held_none kind [] none = refl
held_none kind (item ∷ items) none = absurd (omega (arith, none))

-- The text of a list with items is that of all of them.
pub held_some : (kind : Kind) (items : List ℕ) → 0 < length items
    → flat_map (item_text kind) items ≡ held_text kind items
held_some kind [] some = absurd (omega (arith, some))
held_some kind (item ∷ items) some = refl

-- One more prefix that is told.
pub tells_next : (kind : Kind) (book : List Page) (prefixes : List LegalPrefix) (index : ℕ)
    (before middle after : List ℕ) (prefix : LegalPrefix) (all : List Blocked)
    → TellsFirst kind book prefixes index before → slice_get prefixes index ≡ Some prefix
    → AreAllBlocked kind book prefix.cut prefix.words.items all
    → middle ≡ before ++ head_text index prefix
    → after ≡ middle ++ prefix_text kind book prefix all
    → TellsFirst kind book prefixes (index + 1) after
tells_next kind book prefixes index before middle after prefix all told has blocked head_is after_is =
    let same : suc index ≡ index + 1 = omega arith in
    let joined : after ≡ before ++ head_text index prefix ++ prefix_text kind book prefix all =
    after_is ∙ ap (λ (t : List ℕ). t ++ prefix_text kind book prefix all) head_is in
    let here : TellsFirst kind book prefixes (suc index) after =
    (before, prefix, all, told, has, blocked, joined) in
    subst (λ (n : ℕ). TellsFirst kind book prefixes n after) same here

-- Five texts after another one are appended one by one or as one text.
five_after : (a b c d e f : List ℕ)
    → a ++ b ++ c ++ d ++ e ++ f ≡ a ++ (b ++ c ++ d ++ e ++ f)
five_after [] b c d e f = refl
five_after (x ∷ a) b c d e f = ap (λ (t : List ℕ). x ∷ t) (five_after a b c d e f)

-- Three texts after another one are appended one by one or as one text.
three_after : (a b c d : List ℕ) → a ++ b ++ c ++ d ≡ a ++ (b ++ c ++ d)
three_after [] b c d = refl
three_after (x ∷ a) b c d = ap (λ (t : List ℕ). x ∷ t) (three_after a b c d)

-- The parts of a prefix's text, appended one after another.
pub prefix_joined : (kind : Kind) (book : List Page) (prefix : LegalPrefix) (all : List Blocked)
    (o1 o2 o3 o4 o5 o6 : List ℕ) → o2 ≡ o1 ++ flat_map (place_line kind book) prefix.places.items
    → o3 ≡ o2 ++ codes "then the object holds" → o4 ≡ o3 ++ held_text kind prefix.words.items
    → o5 ≡ o4 ++ codes "\n" → o6 ≡ o5 ++ flat_map (blocked_line kind book) all
    → o6 ≡ o1 ++ prefix_text kind book prefix all
prefix_joined kind book prefix all o1 o2 o3 o4 o5 o6 e2 e3 e4 e5 e6 =
    let places = flat_map (place_line kind book) prefix.places.items in
    let held = held_text kind prefix.words.items in
    let blocked = flat_map (blocked_line kind book) all in
    six_joined o1 o2 o3 o4 o5 o6 o1 places (codes "then the object holds") held (codes "\n") blocked
    refl e2 e3 e4 e5 e6
    ∙ five_after o1 places (codes "then the object holds") held (codes "\n") blocked

-- The parts of the line that says how many prefixes aren't told.
pub more_joined : (more : ℕ) (o1 o2 o3 o4 : List ℕ) → (more ≡ 0 → ⊥)
    → o2 ≡ o1 ++ codes "longest legal prefixes that aren't told here: "
    → o3 ≡ o2 ++ decimal more → o4 ≡ o3 ++ codes "\n" → o4 ≡ o1 ++ more_text more
more_joined more o1 o2 o3 o4 some e2 e3 e4 =
    let line = codes "longest legal prefixes that aren't told here: " in
    let g3 : o3 ≡ o1 ++ line ++ decimal more = e3 ∙ ap (λ (t : List ℕ). t ++ decimal more) e2 in
    let is : more_text more ≡ line ++ decimal more ++ codes "\n" =
    cond-false (eqb more 0) [] (line ++ decimal more ++ codes "\n") (ne_eqb more 0 some) in
    e4 ∙ ap (λ (t : List ℕ). t ++ codes "\n") g3
    ∙ three_after o1 line (decimal more) (codes "\n") ∙ ap (λ (t : List ℕ). o1 ++ t) (sym is)
