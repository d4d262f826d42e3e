-- At which words a caller makes an exchange.
use Rattle.std.proofs.Common.{◌≡◌, ◌≢◌, ℕ, ◌+◌, ◌≤◌, List, [], ◌∷◌, ◌++◌, length, refl, sym, ap, ◌∙◌, subst, inl, inr, arith, append_assoc, length-append}
use Rattle.std.proofs.lemmas.List.{append-nil}
use Rattle.std.specs.Prelude.{Some, None}
use Rattle.shared_words.specs.declared.entry.Entry.{Entry}
use Rattle.shared_words.specs.Words.{ticket_index, AreTickets, HasTried, MayHaveTried}
use Rattle.shared_words.specs.Hands.{Hand}
use Rattle.shared_words.specs.Entries.{BeginsWith}
use Rattle.shared_words.specs.LogRule.{Looks, Places, Tries, Finds}

-- a caller that makes no exchange has tried no further words
pub tried_none : (n cap from past : ℕ) (tried : List ℕ) → HasTried n cap from past tried tried
tried_none n cap from past tried = ([], sym (append-nil tried), tt)

-- tickets of places before a bound are tickets of places before a greater one
tickets_further : (n cap from past past' : ℕ) (words : List ℕ) → past ≤ past'
    → AreTickets n cap from past words → AreTickets n cap from past' words
tickets_further n cap from past past' [] on h = tt
tickets_further n cap from past past' (word ∷ words) on h =
    let low = h.2 in
    (h.0, h.1, omega arith, h.3, tickets_further n cap (h.0 + 1) past past' words on h.4)

-- tickets from a place on, with the ticket of the next place at the end, are tickets from that
-- place on
tickets_push : (n cap from past : ℕ) (words : List ℕ) (word : ℕ) → from ≤ past
    → word ≡ ticket_index n cap past → AreTickets n cap from past words
    → AreTickets n cap from (past + 1) (words ++ word ∷ [])
tickets_push n cap from past [] word on is h = (past, on, omega arith, is, tt)
tickets_push n cap from past (first ∷ words) word on is h =
    let low = h.2 in
    (h.0, h.1, omega arith, h.3, tickets_push n cap (h.0 + 1) past words word (omega arith) is h.4)

-- a hand that has tried at most the places before one, and may have tried this one too, has tried
-- at most the places before the next
pub tries_on : (n cap from past word : ℕ) (before between after : List ℕ) → from ≤ past
    → word ≡ ticket_index n cap past
    → HasTried n cap from past before between → MayHaveTried word between after
    → HasTried n cap from (past + 1) before after
tries_on n cap from past word before between after on is h (inl none) =
    (h.0, none ∙ h.1, tickets_further n cap from past (past + 1) h.0 (omega arith) h.2)
tries_on n cap from past word before between after on is h (inr one) = (
  h.0 ++ word ∷ [],
  one ∙ ap (λ (ws : List ℕ). ws ++ word ∷ []) h.1 ∙ append_assoc before h.0 (word ∷ []),
  tickets_push n cap from past h.0 word on is h.2,
)

-- with one entry more in the log, and at most one exchange at this entry's ticket, a caller has
-- still tried at most the tickets of the log's places
tries_more : (n cap place : ℕ) (first log more : List Entry) (e : Entry)
    (before between after : List ℕ) → BeginsWith log first → place ≡ length log
    → more ≡ log ++ e ∷ []
    → HasTried n cap (length first) (length log) before between
    → MayHaveTried (ticket_index n cap place) between after
    → HasTried n cap (length first) (length more) before after
tries_more n cap place first log more e before between after begins at is h may =
    let long = ap (λ (l : List Entry). length l) begins.1 in
    let on : length first ≤ length log = omega (arith, length-append first begins.0) in
    let more_long = ap (λ (l : List Entry). length l) is in
    let up : length log + 1 ≡ length more = omega (arith, length-append log (e ∷ [])) in
    subst (λ (k : ℕ). HasTried n cap (length first) k before after) up
    (tries_on n cap (length first) (length log) (ticket_index n cap place) before between after on
    (ap (ticket_index n cap) at) h may)

-- a caller that has found the entry of the next place has still tried at most the tickets of the
-- log's places
pub found_more : (n cap who op place : ℕ) (first log more : List Entry) (e : Entry)
    (before : List ℕ) (h next : Hand) → BeginsWith log first → place ≡ length log
    → more ≡ log ++ e ∷ []
    → HasTried n cap (length first) (length log) before h.tried
    → Finds n cap who (ticket_index n cap place) op h next (Some e)
    → HasTried n cap (length first) (length more) before next.tried
found_more n cap who op place first log more e before h next begins at is tried found =
    subst (λ (ts : List ℕ). HasTried n cap (length first) (length more) before ts)
    (sym (ap (λ (g : Hand). g.tried) found.2))
    (tries_more n cap place first log more e before h.tried found.0 begins at is tried found.1)

pub placed_more : (n cap who op place : ℕ) (first log more : List Entry) (e : Entry)
    (before : List ℕ) (h next : Hand) → BeginsWith log first → place ≡ length log
    → more ≡ log ++ e ∷ []
    → HasTried n cap (length first) (length log) before h.tried
    → Finds n cap who (ticket_index n cap place) op h next None
    → HasTried n cap (length first) (length more) before next.tried
placed_more n cap who op place first log more e before h next begins at is tried found =
    subst (λ (ts : List ℕ). HasTried n cap (length first) (length more) before ts)
    (sym (ap (λ (g : Hand). g.tried) found.0))
    (tries_more n cap place first log more e before h.tried
    (h.tried ++ ticket_index n cap place ∷ []) begins at is tried (inr refl))

-- a load that finds the ticket filled is a try of this place
pub looked : (n cap who word found : ℕ) (h next : Hand) → Looks n cap who found h next → found ≢ 0
    → Tries n cap who word found h next
looked n cap who word found h next l filled =
    record {
      placed = λ free. absurd (filled free);
      filled = λ _. (h.tried, inl refl, l.filled filled);
    }

-- a load that found the ticket free and an exchange after it are one try, which found what the
-- exchange found
pub exchanged : (n cap who word index seen found : ℕ) (h between next : Hand) → index ≡ word
    → seen ≡ 0 → Looks n cap who seen h between → Places n cap who index found between next
    → Tries n cap who word found h next
exchanged n cap who word index seen found h between next at free l p =
    let same : between ≡ h = l.free free in
    subst (λ (y : ℕ × Hand). Tries n cap who y.0 found y.1 next) (λ i. (at i, same i))
    (record {
      placed = p.placed;
      filled = λ filled. (between.tried ++ index ∷ [], inr refl, p.filled filled);
    })
