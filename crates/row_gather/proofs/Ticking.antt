-- How often the counter of steps ticks while a book is read.
use Rattle.std.proofs.Common.{◌≡◌, ℕ, ◌+◌, ◌*◌, ◌<◌, ◌≤◌, List, length, sum, take, slice_index, sym, ap, ◌∙◌, arith}
use Rattle.std.proofs.lemmas.List.{ext_get_or, take_all, length-map}
use Rattle.std.proofs.lemmas.List.Sums.{sum_by_more}
use Rattle.book_base.specs.Book.{Page, calls_of, answers_of, announced, answered}
use Rattle.book_base.proofs.GrowthLemmas.{announced_at}
use Rattle.book_base.proofs.ViewLemmas.{answered_at}
use Rattle.row_gather.specs.Words.{words_of_book}

ticks_joined : (w a b c s t x y : ℕ) → b + w * s ≡ a + w * t → c + w * x ≡ b + w * y
    → c + w * (s + x) ≡ a + w * (t + y)
ticks_joined w a b c s t x y before now = omega arith

words_joined : (n a b c k s r t : ℕ) → b + (1 + n) * s ≡ a + (1 + n) * t → c + 2 * k ≡ b + 2 * r
    → c + (2 * k + (1 + n) * s) ≡ a + (2 * r + (1 + n) * t)
words_joined n a b c k s r t first second = omega arith

-- Where the counter has risen by w for each 1 by which the sum of the first j numbers of `ys`
-- exceeds that of `xs`, and then by w for each 1 by which number j of `ys` exceeds that of `xs`, it
-- has risen by w for each 1 by which the sum of the first j + 1 numbers of `ys` exceeds that of
-- `xs`.
pub ticks_more : (w a b c : ℕ) (xs ys : List ℕ) (j x y : ℕ) → j < length xs → j < length ys
    → x ≡ slice_index xs j → y ≡ slice_index ys j
    → b + w * sum (take j xs) ≡ a + w * sum (take j ys) → c + w * x ≡ b + w * y
    → c + w * sum (take (j + 1) xs) ≡ a + w * sum (take (j + 1) ys)
ticks_more w a b c xs ys j x y low inside is at before now =
    let first : sum (take (j + 1) xs) ≡ sum (take j xs) + x =
    sum_by_more (λ (z : ℕ). z) xs j 0 low ∙ ap (λ (z : ℕ). sum (take j xs) + z) (sym is) in
    let second : sum (take (j + 1) ys) ≡ sum (take j ys) + y =
    sum_by_more (λ (z : ℕ). z) ys j 0 inside ∙ ap (λ (z : ℕ). sum (take j ys) + z) (sym at) in
    ap (λ (z : ℕ). c + w * z) first ∙ (ticks_joined w a b c (sum (take j xs))
    (sum (take j ys)) x y before now ∙ ap (λ (z : ℕ). a + w * z) (sym second))

pub ticks_all : (w a b n : ℕ) (xs ys : List ℕ) → length xs ≤ n → length ys ≤ n
    → b + w * sum (take n xs) ≡ a + w * sum (take n ys) → b + w * sum xs ≡ a + w * sum ys
ticks_all w a b n xs ys low inside h =
    ap (λ (zs : List ℕ). b + w * sum zs) (sym (take_all n xs low))
    ∙ (h ∙ ap (λ (zs : List ℕ). a + w * sum zs) (take_all n ys inside))

-- The counter has risen by the number of words that the whole book has and the book `start` lacks,
-- where it has risen first for the records that were read, and then for the calls that were added.
pub words_read : (start book whole : List Page) (cut : List ℕ) (n a b c : ℕ) → length start ≡ n
    → length book ≡ n → length whole ≡ n → length cut ≡ n
    → ((j : ℕ) → calls_of whole j ≡ calls_of book j)
    → ((j : ℕ) → j < n → answers_of whole j ≡ slice_index cut j)
    → b + (1 + n) * sum (answered start) ≡ a + (1 + n) * sum cut → c + 2 * sum (announced start)
    ≡ b + 2 * sum (announced book) → c + words_of_book start ≡ a + words_of_book whole
words_read start book whole cut n a b c some long all wide calls answers first second =
    let size : Page → ℕ = λ p. length p.operations in
    let count : Page → ℕ = λ p. length p.records in
    let made : announced whole ≡ announced book
    = ext_get_or 0 (announced whole) (announced book)
    (length-map whole size ∙ (all ∙ (sym long ∙ sym (length-map book size))))
    (λ i low. announced_at whole i ∙ (calls i ∙ sym (announced_at book i))) in
    let told : answered whole ≡ cut
    = ext_get_or 0 (answered whole) cut (length-map whole count ∙ (all ∙ sym wide)) (λ i low.
    answered_at whole i ∙ answers i (omega (arith, low, length-map whole count, all))) in
    let was : words_of_book start ≡ 2 * sum (announced start) + (1 + n) * sum (answered start)
    = ap (λ (k : ℕ). 2 * sum (announced start) + (1 + k) * sum (answered start)) some in
    let is : words_of_book whole ≡ 2 * sum (announced book) + (1 + n) * sum cut
    = λ i. 2 * sum (made i) + (1 + all i) * sum (told i) in
    ap (λ (y : ℕ). c + y) was
    ∙ (words_joined n a b c (sum (announced start)) (sum (answered start)) (sum (announced book))
    (sum cut) first second ∙ ap (λ (y : ℕ). a + y) (sym is))
