-- A script that is read is the one of which the bytes are written.
use Rattle.std.proofs.Common.{◌≡◌, ℕ, zero, suc, ◌+◌, ◌-◌, ◌<◌, ◌≤◌, ◌^◌, List, [], ◌∷◌, ◌++◌, length, set, Option, Some, refl, sym, ap, subst, ◌∙◌, append_assoc, arith, inl, inr}
use Rattle.std.specs.Prelude.{codes}
use Rattle.std.specs.List.{AllByRecursion, concat}
use Rattle.std.proofs.lemmas.List.{append-nil, length-append, length-map}
use Rattle.book_base.specs.declared.call.Call.{Call}
use Rattle.seq_objects.specs.declared.kind.Kind.{Kind}
use Rattle.text_fields.specs.declared.version.Version.{Version}
use Rattle.text_fields.specs.declared.version.Version.TheVariants.{First, Second}
use Rattle.text_fields.specs.Version.{most_calls, word_limit}
use Rattle.text_fields.specs.Lines.{text_of, by_number}
use Rattle.text_fields.specs.Counts.{AreAtMost}
use Rattle.text_fields.specs.Head.{HeadDue, TitleDue, HeadPasses, head_lines}
use Rattle.text_fields.proofs.Leading.{Leads, has_line, moved, head_read}
use Rattle.book_text.specs.CallLines.{calls_from, all_calls}
use Rattle.book_text.specs.Grammar.{end_words}
use Rattle.client_scripts.specs.Plans.{Plan, sizes, AreStops, IsPlan}
use Rattle.client_scripts.specs.Grammar.{call_line, call_words, caller_lines, stop_words, stop_line, turns_words, script_lines, IsWrittenText}
use Rattle.client_scripts.specs.ScriptRules.{Begun, begin, with_operation, with_operations, with_stop, grouped, plan_with, ScriptDue, InHead, InBody, Turned, AtEnd, after_head, IsCallLine, ScriptPasses, script_rules, IsScriptText}
use Rattle.client_scripts.proofs.Groups.{grouped-concat, gap, set_after, lines_after_gap, no_lines, length-gap, AreStops-none, AreStops-set}
use Rattle.client_scripts.proofs.WrittenTexts.{after_calls}

module _ (version : Version) (plan : Plan) where
  abbrev To : ScriptDue → List (List (List ℕ)) → Type 0
  To due lines = Leads (script_rules version) (AtEnd plan) due lines

  module _ (kind : Kind) where
    abbrev AreSmall : List ℕ → Type 0
    AreSmall ops = AllByRecursion (λ op. op < word_limit version) ops

    -- the lines of a caller's calls give its operations
    record IsCallerRead (begun : Begun) (i k more : ℕ) (due : List Call)
        (lines : List (List (List ℕ))) : Type 0 where
      pub ops : List ℕ
      pub others : List (List (List ℕ))
      pub count : length ops ≡ more
      pub small : AreSmall ops
      pub text : lines ≡ by_number (call_line kind i) k ops ++ others
      pub leads : To (InBody kind (with_operations begun ops) due) others

    read_caller : (begun : Begun) (i k more : ℕ) (due : List Call) (lines : List (List (List ℕ)))
        → To (InBody kind begun (calls_from i k more ++ due)) lines
        → IsCallerRead begun i k more due lines
    read_caller begun i k zero due lines h = record {
      ops = [];
      others = lines;
      count = refl;
      small = tt;
      text = refl;
      leads = moved (script_rules version) (AtEnd plan) (InBody kind begun due)
          (InBody kind (with_operations begun []) due) lines (after_calls kind begun due
          begun.operations (begun.operations ++ []) (sym (append-nil begun.operations))) h;
    }
    read_caller begun i k (suc more) due lines h =
        let first = has_line (script_rules version) (AtEnd plan)
        (InBody kind begun (calls_from i k (suc more) ++ due)) lines (λ e. absurd cc) h in
        let op : ℕ = first.right.0 in
        let read : IsCallLine version kind (record { caller = i; number = k }) first.words op =
        first.right.1 in
        let next : Begun = with_operation begun op in
        let rest = read_caller next i (k + 1) more due first.others
        (moved (script_rules version) (AtEnd plan) first.next (InBody kind next
        (calls_from i (k + 1) more ++ due)) first.others first.right.2 first.leads) in
        record {
          ops = op ∷ rest.ops;
          others = rest.others;
          count = ap suc rest.count;
          small = (read.has, rest.small);
          text = first.text ∙ ap (λ (w : List (List ℕ)). w ∷ first.others) read.text
              ∙ ap (λ (ls : List (List (List ℕ))).
              call_words kind (record { caller = i; number = k }) op ∷ ls) rest.text;
          leads = moved (script_rules version) (AtEnd plan)
              (InBody kind (with_operations next rest.ops) due)
              (InBody kind (with_operations begun (op ∷ rest.ops)) due) rest.others
              (after_calls kind begun due ((begun.operations ++ op ∷ []) ++ rest.ops)
              (begun.operations ++ op ∷ rest.ops)
              (append_assoc begun.operations (op ∷ []) rest.ops)) rest.leads;
        }

    -- the lines of all calls give the operations of all callers
    record AreCallersRead (begun : Begun) (i : ℕ) (counts : List ℕ)
        (lines : List (List (List ℕ))) : Type 0 where
      pub operations : List (List ℕ)
      pub others : List (List (List ℕ))
      pub count : sizes operations ≡ counts
      pub small : AllByRecursion AreSmall operations
      pub text : lines ≡ by_number (caller_lines kind) i operations ++ others
      pub leads : To (InBody kind (with_operations begun (concat operations)) []) others

    read_callers : (begun : Begun) (i : ℕ) (counts : List ℕ) (lines : List (List (List ℕ)))
        → To (InBody kind begun (all_calls i counts)) lines → AreCallersRead begun i counts lines
    read_callers begun i [] lines h = record {
      operations = [];
      others = lines;
      count = refl;
      small = tt;
      text = refl;
      leads = moved (script_rules version) (AtEnd plan) (InBody kind begun [])
          (InBody kind (with_operations begun []) []) lines (after_calls kind
          begun [] begun.operations (begun.operations ++ []) (sym (append-nil begun.operations))) h;
    }
    read_callers begun i (count ∷ counts) lines h =
        let first = read_caller begun i 0 count (all_calls (i + 1) counts) lines h in
        let next : Begun = with_operations begun first.ops in
        let rest = read_callers next (i + 1) counts first.others first.leads in
        let mine = caller_lines kind i first.ops in
        record {
          operations = first.ops ∷ rest.operations;
          others = rest.others;
          count = ap (λ (n : ℕ). n ∷ sizes rest.operations) first.count
              ∙ ap (λ (ns : List ℕ). count ∷ ns) rest.count;
          small = (first.small, rest.small);
          text = first.text ∙ ap (λ (ls : List (List (List ℕ))). mine ++ ls) rest.text
              ∙ sym (append_assoc mine
              (by_number (caller_lines kind) (i + 1) rest.operations) rest.others);
          leads = moved (script_rules version) (AtEnd plan)
              (InBody kind (with_operations next (concat rest.operations)) []) (InBody kind
              (with_operations begun (first.ops ++ concat rest.operations)) []) rest.others
              (after_calls kind begun [] ((begun.operations ++ first.ops) ++ concat rest.operations)
              (begun.operations ++ (first.ops ++ concat rest.operations))
              (append_assoc begun.operations first.ops (concat rest.operations))) rest.leads;
        }

    -- the lines after the calls give the stops and the turns
    record IsTailRead (begun : Begun) (prefix : List (Option ℕ))
        (lines : List (List (List ℕ))) : Type 0 where
      pub rest : List (Option ℕ)
      pub turns : List ℕ
      pub whole : plan ≡ record {
        kind = kind;
        operations = grouped begun.calls begun.operations;
        stops = prefix ++ rest;
        turns = turns;
      }
      pub stops : AreStops begun.calls (prefix ++ rest)
      pub callers : AllByRecursion (λ caller. caller < length begun.calls) turns
      pub text : lines ≡ by_number stop_line begun.least rest ++ turns_words turns ∷ end_words ∷ []

    same_end : (p : Plan) → AtEnd p ≡ AtEnd plan → plan ≡ p
    same_end p e = cc

    read_end : (p : Plan) (lines : List (List (List ℕ))) → To (Turned p) lines → (plan ≡ p)
        × (lines ≡ end_words ∷ [])
    read_end p lines h =
        let first =
        has_line (script_rules version) (AtEnd plan) (Turned p) lines (λ e. absurd cc) h in
        let last = moved (script_rules version) (AtEnd plan) first.next
        (AtEnd p) first.others first.right.1 first.leads in
        ended first.others last first.text first.right.0 where
          ended : {words : List (List ℕ)} (others : List (List (List ℕ))) → To (AtEnd p) others
              → lines ≡ words ∷ others → words ≡ end_words → (plan ≡ p) × (lines ≡ end_words ∷ [])
          ended [] e text is = (same_end p e, text ∙ ap (λ (w : List (List ℕ)). w ∷ []) is)
          ended (w ∷ others) e text is = absurd e.1

    read_tail : (begun : Begun) (prefix : List (Option ℕ)) (m : ℕ) (lines : List (List (List ℕ)))
        → begun.stops ≡ prefix ++ gap m → length prefix ≡ begun.least
        → begun.least + m ≡ length begun.calls → AreStops begun.calls begun.stops
        → To (InBody kind begun []) lines → IsTailRead begun prefix lines
    read_tail begun prefix m [] told here size may h = absurd cc
    read_tail begun prefix m (words ∷ lines) told here size may (next, inl stop, leads) =
        let c : ℕ = stop.0 in
        let p : ℕ = stop.1 in
        let line = stop.2 in
        let after : Begun = with_stop begun c p in
        let d : ℕ = c - begun.least in
        let e : ℕ = m - d - 1 in
        let at : begun.least + d ≡ c = omega (arith, line.may.rising) in
        let left : m ≡ d + e + 1 = omega (arith, line.may.rising, line.may.inside) in
        let shown : List (Option ℕ) = gap d ++ Some p ∷ [] in
        let stops : after.stops ≡ (prefix ++ shown) ++ gap e =
        ap (λ (s : List (Option ℕ)). set s c (Some p)) told
        ∙ set_after prefix m d e c (Some p) left (omega arith) in
        let more = read_tail after (prefix ++ shown) e lines stops (omega
        (arith, length-append prefix shown, length-append (gap d) (Some p ∷ []), length-gap d))
        (omega (arith, line.may.rising, line.may.inside))
        (AreStops-set begun.calls begun.stops c p may line.may.inside line.may.early) (moved
        (script_rules version) (AtEnd plan) next (InBody kind after []) lines stop.3 leads) in
        let joined : (prefix ++ shown) ++ more.rest ≡ prefix ++ (gap d ++ Some p ∷ more.rest) =
        append_assoc prefix shown more.rest ∙ ap (λ (s : List (Option ℕ)). prefix ++ s)
        (append_assoc (gap d) (Some p ∷ []) more.rest) in
        record {
          rest = gap d ++ Some p ∷ more.rest;
          turns = more.turns;
          whole = more.whole ∙ ap (λ (s : List (Option ℕ)). record {
            kind = kind;
            operations = grouped begun.calls begun.operations;
            stops = s;
            turns = more.turns;
          }) joined;
          stops = subst (AreStops begun.calls) joined more.stops;
          callers = more.callers;
          text = ap (λ (w : List (List ℕ)). w ∷ lines) line.text
              ∙ ap (λ (ls : List (List (List ℕ))). stop_words c p ∷ ls) more.text
              ∙ ap (λ (ls : List (List (List ℕ))). ls ++ turns_words more.turns ∷ end_words ∷ [])
              (sym (lines_after_gap begun.least d c p more.rest at));
        }
    read_tail begun prefix m (words ∷ lines) told here size may (next, inr turned, leads) =
        let end = read_end (plan_with kind begun turned.0) lines (moved (script_rules version)
        (AtEnd plan) next (Turned (plan_with kind begun turned.0)) lines turned.2 leads) in
        record {
          rest = gap m;
          turns = turned.0;
          whole = end.0 ∙ ap (λ (s : List (Option ℕ)). record {
            kind = kind;
            operations = grouped begun.calls begun.operations;
            stops = s;
            turns = turned.0;
          }) told;
          stops = subst (AreStops begun.calls) told may;
          callers = turned.1.may.callers;
          text = ap (λ (w : List (List ℕ)). w ∷ lines) turned.1.text
              ∙ ap (λ (ls : List (List (List ℕ))). turns_words turned.0 ∷ ls) end.1
              ∙ ap (λ (ls : List (List (List ℕ))). ls ++ turns_words turned.0 ∷ end_words ∷ [])
              (sym (no_lines begun.least m));
        }

  enters : (due : HeadDue) (words : List (List ℕ)) (after : ScriptDue)
      → ScriptPasses version (InHead due) words after → (next : HeadDue)
      × HeadPasses version (codes "script") due words next × (after ≡ after_head next)
  enters due words after h = h

  -- ---- all lines

  record IsWholeRead (lines : List (List (List ℕ))) : Type 0 where
    pub writable : IsPlan version plan
    pub text : lines ≡ script_lines version plan

  -- the parts that were read are those of the plan
  whole_read : (lines : List (List (List ℕ))) → To (InHead TitleDue) lines → IsWholeRead lines
  whole_read lines h =
      let head = head_read (script_rules version) (AtEnd plan) version (codes "script") InHead
      after_head enters refl (λ kind. refl) (λ kind n. refl) (λ due e. absurd cc) lines h in
      let kind = head.object in
      let calls = read_callers kind (begin head.counts) 0 head.counts head.others head.leads in
      let begun : Begun = with_operations (begin head.counts) (concat calls.operations) in
      let tail = read_tail kind begun [] (length head.counts) calls.others refl refl (omega arith)
      (AreStops-none head.counts) calls.leads in
      let cut : grouped head.counts (concat calls.operations) ≡ calls.operations =
      ap (λ (ns : List ℕ). grouped ns (concat calls.operations)) (sym calls.count)
      ∙ grouped-concat calls.operations in
      let made : Plan = record {
        kind = kind;
        operations = calls.operations;
        stops = tail.rest;
        turns = tail.turns;
      } in
      let is : plan ≡ made = tail.whole ∙ ap (λ (ops : List (List ℕ)).
      record { kind = kind; operations = ops; stops = tail.rest; turns = tail.turns }) cut in
      let size : length calls.operations ≡ length head.counts =
      sym (length-map calls.operations (λ (ops : List ℕ). length ops))
      ∙ ap (length {A = ℕ}) calls.count in
      let written : lines ≡ script_lines version made
      = head.text ∙ ap (λ (ls : List (List (List ℕ))). head_lines version
      (codes "script") kind head.counts ++ ls) (calls.text ∙ ap (λ (ls : List (List (List ℕ))).
      by_number (caller_lines kind) 0 calls.operations ++ ls) tail.text)
      ∙ ap (λ (ns : List ℕ). head_lines version (codes "script") kind ns
      ++ (by_number (caller_lines kind) 0 calls.operations
      ++ (by_number stop_line 0 tail.rest ++ turns_words tail.turns ∷ end_words ∷ [])))
      (sym calls.count) in
      record {
        writable = subst (IsPlan version) (sym is) (record {
          kind_known = head.known;
          some = omega (arith, size, head.callers.some, head.calls.count);
          callers = omega (arith, size, head.callers.few, head.calls.count);
          calls = subst (AreAtMost (most_calls version)) (sym calls.count) head.calls.few;
          operations = calls.small;
          stops = subst (λ (ns : List ℕ). AreStops ns tail.rest) (sym calls.count) tail.stops;
          turns = subst (λ (n : ℕ). AllByRecursion (λ caller. caller < n) tail.turns)
              (sym size) tail.callers;
        });
        text = written ∙ ap (script_lines version) (sym is);
      }

-- a script that is read is the one of which the bytes are written
pub read_is_written : (version : Version) (bytes : List ℕ) (plan : Plan)
    → IsScriptText version bytes plan → IsWrittenText version bytes plan
read_is_written version bytes plan h =
    let lines = h.1.goes.lines in
    let read = whole_read version plan lines h.1.goes.right in
    record {
      writable = read.writable;
      text = h.1.goes.bytes ∙ ap (λ (b : List ℕ). text_of lines ++ b) h.1.through
          ∙ append-nil (text_of lines) ∙ ap text_of read.text;
    }

-- a script has at most one text in a version
pub one_text : (version : Version) (a b : List ℕ) (plan : Plan) → IsScriptText version a plan
    → IsScriptText version b plan → a ≡ b
one_text version a b plan h k =
    (read_is_written version a plan h).text ∙ sym (read_is_written version b plan k).text

-- ---- the plans of texts of version 1 are plans of texts of version 2

wider_counts : (m n : ℕ) (counts : List ℕ) → m ≤ n → AreAtMost m counts → AreAtMost n counts
wider_counts m n [] le h = tt
wider_counts m n (c ∷ counts) le h =
    (let small : c ≤ m = h.0 in omega arith, wider_counts m n counts le h.1)

wider_words : (m n : ℕ) (ops : List ℕ) → m ≤ n → AllByRecursion (λ op. op < m) ops
    → AllByRecursion (λ op. op < n) ops
wider_words m n [] le h = tt
wider_words m n (op ∷ ops) le h =
    (let small : op < m = h.0 in omega arith, wider_words m n ops le h.1)

wider_operations : (m n : ℕ) (operations : List (List ℕ)) → m ≤ n
    → AllByRecursion (AllByRecursion (λ op. op < m)) operations
    → AllByRecursion (AllByRecursion (λ op. op < n)) operations
wider_operations m n [] le h = tt
wider_operations m n (ops ∷ operations) le h =
    (wider_words m n ops le h.0, wider_operations m n operations le h.1)

pub plan_of_both : (version : Version) (plan : Plan) → IsPlan version plan → IsPlan Second plan
plan_of_both First plan w = record {
  kind_known = refl;
  some = w.some;
  callers = omega (arith, w.callers);
  calls = wider_counts (most_calls First) (most_calls Second) (sizes plan.operations)
      (omega arith) w.calls;
  operations = wider_operations (2 ^ 64) (2 ^ 128) plan.operations (omega arith) w.operations;
  stops = w.stops;
  turns = w.turns;
}
plan_of_both Second plan w = w
