-- What a ticket determines of the entry that a caller learns.
use Rattle.std.proofs.Common.{◌≡◌, ℕ, ◌-◌, ◌*◌, ◌/◌, ◌<◌, List, [], ◌∷◌, ◌++◌, length, sym, ap, ◌∙◌, subst, arith}
use Rattle.std.proofs.lemmas.Nat.{div-mul-add}
use Rattle.std.specs.Prelude.{Some}
use Rattle.shared_words.specs.declared.entry.Entry.{Entry}
use Rattle.shared_words.specs.Entries.{calls_by, IsWithinCap}
use Rattle.shared_words.specs.Words.{number_after, MayHaveTried}
use Rattle.shared_words.specs.Hands.{Hand}
use Rattle.shared_words.specs.LogRule.{Learns, Finds}
use Rattle.shared_words.proofs.Logs.{within_at}
use Rattle.shared_words.proofs.Numbers.{number_low}

module _ (n cap who found : ℕ) (tried : List ℕ) (h next : Hand)
    (l : Learns n cap who found tried h next) where
  standing : (l.entry.caller < n) × (length (calls_by l.entry.caller h.log) < cap)
  standing =
      within_at n cap h.log [] l.entry
      (subst (λ (g : Hand). IsWithinCap n cap g.log) l.log l.within)

  number_is : found - 1 ≡ number_after cap h.log l.entry
  number_is = let ticket = l.ticket in omega arith

  pub learnt_low : found - 1 < n * cap
  learnt_low = let low = number_low n cap l.entry.caller
      (length (calls_by l.entry.caller h.log)) standing.0 standing.1 in
      let is = number_is in omega arith

  pub learnt_caller : (found - 1) / cap ≡ l.entry.caller
  learnt_caller = ap (λ (k : ℕ). k / cap) number_is
      ∙ div-mul-add l.entry.caller cap (length (calls_by l.entry.caller h.log)) standing.1

  pub caller_low : (found - 1) / cap < n
  caller_low = subst (λ (k : ℕ). k < n) (sym learnt_caller) standing.0

  pub finds_entry : (word own : ℕ) (after : Hand) (op : ℕ) → MayHaveTried word h.tried tried
      → after ≡ next
      → ((before rest : List Entry) (e : Entry) → next.log ≡ before ++ e ∷ rest
      → found - 1 ≡ number_after cap before e → op ≡ e.op)
      → Finds n cap who word own h after (Some (record { caller = (found - 1) / cap; op = op }))
  finds_entry word own after op may is reads =
      let op_is : op ≡ l.entry.op =
      reads h.log [] l.entry (ap (λ (g : Hand). g.log) l.log) number_is in
      let entry_is : l.entry ≡ record { caller = (found - 1) / cap; op = op } =
      (λ i. record { caller = sym learnt_caller i; op = sym op_is i }) in (
        tried,
        may,
        is ∙ l.log
            ∙ (λ i. record { log = h.log ++ entry_is i ∷ []; staged = h.staged; tried = tried }),
        ap (λ (g : Hand). calls_by who g.log) is ∙ l.other,
        subst (λ (g : Hand). IsWithinCap n cap g.log) (sym is) l.within,
      )
