-- A text that is written line by line.
use Rattle.std.proofs.Common.{◌≡◌, ℕ, zero, suc, ◌+◌, ◌<◌, ◌≤◌, ◌^◌, List, [], ◌∷◌, ◌++◌, length, map, take, get_or, Option, Some, refl, sym, ap, subst, ◌∙◌, append_assoc, arith}
use Rattle.std.specs.Prelude.{codes, unwrap_or}
use Rattle.std.proofs.Common.{inl, inr}
use Rattle.std.proofs.lemmas.Bool.{lt-ltb, cases_lt}
use Rattle.std.proofs.lemmas.Option.{slice_get_within}
use Rattle.std.proofs.lemmas.List.{append-nil, map-append, take_more, length-take, length-map, take_all}
use Rattle.std.proofs.lemmas.List.Concat.{flat_map-cons, flat_map-append}
use Rattle.book_base.specs.declared.call.Call.{Call}
use Rattle.book_base.specs.Book.{Page, announced, calls_of, page_of, IsCall, IsValid, IsSmall}
use Rattle.book_base.proofs.PageLemmas.{caller_from_call}
use Rattle.book_base.proofs.GrowthLemmas.{announced_at}
use Rattle.text_fields.specs.Lines.{line_text, text_of}
use Rattle.book_text.specs.CallLines.{calls_from, all_calls}
use Rattle.text_fields.specs.Operations.{kind_operations}
use Rattle.text_fields.specs.declared.version.Version.TheVariants.{Second}
use Rattle.text_fields.specs.Head.{head_lines}
use Rattle.seq_objects.specs.declared.kind.Kind.{Kind}
use Rattle.book_text.specs.Grammar.{line_of, book_lines, end_words, IsWrittenText}
use Rattle.book_text.specs.Fields.{HasWords}
use Rattle.book_text.proofs.WrittenLines.{both_pieces}

pub text_of-both : (a b : List (List (List ℕ))) → text_of (a ++ b) ≡ text_of a ++ text_of b
text_of-both a b = flat_map-append line_text a b

pub text_of-one : (words : List (List ℕ)) → text_of (words ∷ []) ≡ line_text words
text_of-one words = flat_map-cons line_text words [] ∙ append-nil (line_text words)

-- the text with one line more
pub one_more : (old middle new : List ℕ) (lines : List (List (List ℕ))) (words : List (List ℕ))
    → middle ≡ old ++ text_of lines → new ≡ middle ++ line_text words
    → new ≡ old ++ text_of (lines ++ words ∷ [])
one_more old middle new lines words h k =
    both_pieces old middle new (text_of lines) (line_text words) h k
    ∙ ap (λ (x : List ℕ). old ++ x) (ap (λ (x : List ℕ). text_of lines ++ x)
    (sym (text_of-one words)) ∙ sym (text_of-both lines (words ∷ [])))

-- the text with more lines
pub lines_more : (old middle new : List ℕ) (lines more : List (List (List ℕ))) → middle
    ≡ old ++ text_of lines → new ≡ middle ++ text_of more → new ≡ old ++ text_of (lines ++ more)
lines_more old middle new lines more h k =
    both_pieces old middle new (text_of lines) (text_of more) h k
    ∙ ap (λ (x : List ℕ). old ++ x) (sym (text_of-both lines more))

module _ {X : Type 0} (line : X → List (List ℕ)) where
  -- the lines of a list of items, with one more item
  pub lines_push : (xs : List X) (x : X) → map line (xs ++ x ∷ []) ≡ map line xs ++ line x ∷ []
  lines_push xs x = map-append line xs (x ∷ [])

calls_from-push : (i b m k : ℕ) → b + m ≡ k
    → calls_from i b (suc m) ≡ calls_from i b m ++ record { caller = i; number = k } ∷ []
calls_from-push i b zero k e = let here : b ≡ k = omega arith in
    ap (λ (n : ℕ). let call : Call = record { caller = i; number = n } in call ∷ []) here
calls_from-push i b (suc m) k e =
    let first : Call = record { caller = i; number = b } in
    ap (λ (calls : List Call). first ∷ calls) (calls_from-push i (b + 1) m k (omega arith))

pub calls_more : (i k : ℕ)
    → calls_from i 0 (k + 1) ≡ calls_from i 0 k ++ record { caller = i; number = k } ∷ []
calls_more i k = let next : k + 1 ≡ suc k = omega arith in
    ap (calls_from i 0) next ∙ calls_from-push i 0 k k (omega arith)

all_calls-push : (b : ℕ) (counts : List ℕ) (c : ℕ)
    → all_calls b (counts ++ c ∷ []) ≡ all_calls b counts ++ calls_from (b + length counts) 0 c
all_calls-push b [] c = let here : b ≡ b + 0 = omega arith in
    append-nil (calls_from b 0 c) ∙ ap (λ (i : ℕ). calls_from i 0 c) here
all_calls-push b (d ∷ counts) c =
    let there : b + 1 + length counts ≡ b + suc (length counts) = omega arith in
    ap (λ (calls : List Call). calls_from b 0 d ++ calls) (all_calls-push (b + 1) counts c
    ∙ ap (λ (i : ℕ). all_calls (b + 1) counts ++ calls_from i 0 c) there)
    ∙ sym (append_assoc (calls_from b 0 d) (all_calls (b + 1) counts)
    (calls_from (b + length (d ∷ counts)) 0 c))

pub callers_more : (book : List Page) (i : ℕ) → i < length book
    → all_calls 0 (take (i + 1) (announced book))
    ≡ all_calls 0 (take i (announced book)) ++ calls_from i 0 (calls_of book i)
callers_more book i lt =
    let size : Page → ℕ = λ p. length p.operations in
    let inside : i < length (announced book) = omega (arith, length-map book size) in
    let there : 0 + length (take i (announced book)) ≡ i =
    omega (arith, length-take i (announced book)) in
    ap (all_calls 0) (take_more (announced book) i 0 inside)
    ∙ all_calls-push 0 (take i (announced book)) (get_or (announced book) i 0)
    ∙ ap (λ (k : ℕ).
    all_calls 0 (take i (announced book)) ++ calls_from k 0 (get_or (announced book) i 0)) there
    ∙ ap (λ (n : ℕ). all_calls 0 (take i (announced book)) ++ calls_from i 0 n)
    (announced_at book i)

-- an option with this value is unwrapped to it, whatever the default
pub value_is : {X : Type 0} (o : Option X) (x d : X) → o ≡ Some x → unwrap_or o d ≡ x
value_is {X = X} o x d e = ap (λ (p : Option X). unwrap_or p d) e

-- the operations and replies of one more caller's calls are words that texts can have
pub words_more : (book : List Page) (i : ℕ)
    → ((call : Call) → call.caller < i → IsCall book call → HasWords book call) → ((number : ℕ)
    → number < calls_of book i → HasWords book (record { caller = i; number = number }))
    → (call : Call) → call.caller < i + 1 → IsCall book call → HasWords book call
words_more book i h k call lt is = elim (cases_lt call.caller i) [
  | inl before ↦ h call before is
  | inr le ↦
      let same : i ≡ call.caller = omega arith in
      subst (λ (j : ℕ). HasWords book (record { caller = j; number = call.number })) same
      (k call.number (subst (λ (j : ℕ). call.number < calls_of book j) (sym same) is))
]

-- the lines of the callers before one, with those of one caller more
pub caller_written : (kind : Kind) (book : List Page) (middle new : List ℕ) (i : ℕ)
    → i < length book
    → middle ≡ text_of (head_lines Second (codes "book") kind (announced book) ++ map
    (line_of Second (kind_operations Second kind) book) (all_calls 0 (take i (announced book))))
    → new ≡ middle ++ text_of
    (map (line_of Second (kind_operations Second kind) book) (calls_from i 0 (calls_of book i)))
    → new ≡ text_of (head_lines Second (codes "book") kind (announced book) ++ map (line_of Second
    (kind_operations Second kind) book) (all_calls 0 (take (i + 1) (announced book))))
caller_written kind book middle new i lt h k =
    let line : Call → List (List ℕ) = line_of Second (kind_operations Second kind) book in
    let head : List (List (List ℕ)) = head_lines Second (codes "book") kind (announced book) in
    let before : List Call = all_calls 0 (take i (announced book)) in
    let more : List Call = calls_from i 0 (calls_of book i) in
    lines_more [] middle new (head ++ map line before) (map line more) h k
    ∙ ap text_of (append_assoc head (map line before) (map line more)
    ∙ ap (λ (ls : List (List (List ℕ))). head ++ ls)
    (sym (map-append line before more) ∙ ap (map line) (sym (callers_more book i lt))))

-- all callers are written, and then the end
pub end_written : (kind : Kind) (book : List Page) (middle new : List ℕ) (i : ℕ) → length book ≤ i
    → middle ≡ text_of (head_lines Second (codes "book") kind (announced book) ++ map
    (line_of Second (kind_operations Second kind) book) (all_calls 0 (take i (announced book))))
    → new ≡ middle ++ line_text end_words → new ≡ text_of (book_lines Second kind book)
end_written kind book middle new i le h k =
    let line : Call → List (List ℕ) = line_of Second (kind_operations Second kind) book in
    let head : List (List (List ℕ)) = head_lines Second (codes "book") kind (announced book) in
    let size : Page → ℕ = λ p. length p.operations in
    let whole : take i (announced book) ≡ announced book =
    take_all i (announced book) (omega (arith, length-map book size)) in
    one_more [] middle new (head ++ map line (all_calls 0 (take i (announced book)))) end_words h k
    ∙ ap text_of
    (append_assoc head (map line (all_calls 0 (take i (announced book)))) (end_words ∷ [])
    ∙ ap (λ (counts : List ℕ). head ++ (map line (all_calls 0 counts) ++ end_words ∷ [])) whole)

-- a book within the limits of texts is written
pub book_written : (kind : Kind) (book : List Page) (bytes : List ℕ) → IsValid book → IsSmall book
    → ((call : Call) → call.caller < length book → IsCall book call → HasWords book call)
    → bytes ≡ text_of (book_lines Second kind book) → IsWrittenText Second bytes kind book
book_written kind book bytes valid small words e = record {
  writable = record {
    valid = valid;
    kind_known = refl;
    some = small.some;
    callers = omega (arith, small.callers);
    calls = λ i. omega (arith, small.calls i);
    operations = λ call op at.
        let is : IsCall book call =
        slice_get_within (page_of book call.caller).operations call.number op at in
        lt-ltb op (2 ^ 128)
        ((words call (caller_from_call book call.caller call.number is) is).operation op at);
    replies = λ call answer at.
        let within = slice_get_within (page_of book call.caller).records call.number answer at in
        let is : IsCall book call = omega (arith, within, valid.answers call.caller) in
        (words call (caller_from_call book call.caller call.number is) is).reply answer at;
  };
  text = e;
}
