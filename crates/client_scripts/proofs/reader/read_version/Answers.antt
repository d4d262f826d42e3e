use Rattle.std.proofs.Common.{[], sym, subst, arith}
use Rattle.std.specs.Prelude.{codes}
use Rattle.std.proofs.lemmas.Result.{err_from_is_err_and}
use Rattle.text_fields.specs.Lines.{Unread}
use Rattle.text_fields.specs.Head.{TitleDue, head_rules}
use Rattle.text_fields.specs.Faults.{IsFirstFault}
use Rattle.text_fields.proofs.Sharp.{stops_later}
use Rattle.text_fields.proofs.Within.{fault_within}
use Rattle.book_text.specs.BookRules.{whole_text}
use Rattle.book_text.specs.CallLines.{all_calls}
use Rattle.book_text.proofs.CallTexts.{stops_then}
use Rattle.client_scripts.specs.Plans.{Plan}
use Rattle.client_scripts.specs.ScriptRules.{InHead, InBody, Turned, begin, script_rules, IsScriptText}
use Rattle.client_scripts.specs.ScriptLayout.{plan_in, told}
use Rattle.client_scripts.proofs.Readings.{head_within, script_no_end}
use Rattle.client_scripts.proofs.Stages.{goes_to_calls, goes_to_stops, goes_to_end_line, is_text_read}
use Rattle.client_scripts.proofs.ReadTexts.{read_is_written, plan_of_both}
use Rattle.client_scripts.proofs.WrittenTexts.{most_both}
use Rattle.client_scripts.proofs.reader.read_version.Goals as goal

pub read_tail-requires : goal.read_tail-requires
read_tail-requires c = omega (
  arith,
  c.in_ok-clients.ensures.count,
  c.in_ok-head.ensures.says.1.count,
  c.in_ok-head.ensures.says.0.few,
  most_both c.args.version,
)

pub returns-in_err-head-clause-refused : goal.returns-in_err-head-clause-refused
returns-in_err-head-clause-refused c =
    let p = err_from_is_err_and c.from_residual.result c.from_residual.ensures.1 in
    let fault = subst (λ (t : Unread). IsFirstFault (head_rules c.args.version (codes "script"))
    TitleDue t c.in_err-head.field-0.0) c.new-lines.ensures c.in_err-head.ensures.refused in
    rw (p.1, p.2) (fault_within (head_within c.args.version) TitleDue
    (whole_text c.args.bytes.now) c.in_err-head.field-0.0 fault)

pub returns-in_err-clients-clause-refused : goal.returns-in_err-clients-clause-refused
returns-in_err-clients-clause-refused c =
    let p = err_from_is_err_and c.from_residual-in_err-clients.result
    c.from_residual-in_err-clients.ensures.1 in
    let version = c.args.version in
    let kind = c.in_ok-head.head.kind in
    let calls = c.in_ok-head.head.calls in
    let start = goes_to_calls version c.args.bytes.now kind calls c.new-lines.result
    c.read_head_of.new.lines c.new-lines.ensures c.in_ok-head.ensures.found in
    rw (p.1, p.2) (stops_then (script_rules version) (InHead TitleDue)
    (InBody kind (begin calls) (all_calls 0 calls)) (whole_text c.args.bytes.now)
    c.read_head_of.new.lines c.in_err-clients.field-0.0 start c.in_err-clients.ensures.refused)

pub returns-in_err-turns-clause-refused : goal.returns-in_err-turns-clause-refused
returns-in_err-turns-clause-refused c =
    let p = err_from_is_err_and c.from_residual-in_err-turns.result
    c.from_residual-in_err-turns.ensures.1 in
    let version = c.args.version in
    let kind = c.in_ok-head.head.kind in
    let begun = told c.in_ok-clients.clients.items 0 in
    let so_far =
    goes_to_stops version c.args.bytes.now kind c.in_ok-head.head.calls c.new-lines.result
    c.read_head_of.new.lines c.new-lines.ensures c.in_ok-head.ensures.found begun
    c.read_clients.new.lines c.in_ok-clients.ensures.found in
    rw (p.1, p.2) (stops_then (script_rules version) (InHead TitleDue) (InBody kind begun [])
    (whole_text c.args.bytes.now) c.read_clients.new.lines c.in_err-turns.field-0.0 so_far
    (c.in_err-turns.ensures.refused version kind))

pub returns-in_err-read_end-clause-refused : goal.returns-in_err-read_end-clause-refused
returns-in_err-read_end-clause-refused c =
    let p = err_from_is_err_and c.from_residual-in_err-read_end.result
    c.from_residual-in_err-read_end.ensures.1 in
    let version = c.args.version in
    let kind = c.in_ok-head.head.kind in
    let plan : Plan = plan_in kind c.read_tail.new.clients.items c.in_ok-turns.turns.items in
    let so_far =
    goes_to_end_line version c.args.bytes.now kind c.in_ok-head.head.calls c.new-lines.result
    c.read_head_of.new.lines c.new-lines.ensures c.in_ok-head.ensures.found
    (told c.in_ok-clients.clients.items 0) c.read_clients.new.lines c.in_ok-clients.ensures.found
    plan c.read_tail.new.lines (c.in_ok-turns.ensures.found version kind) in
    rw (p.1, p.2) (stops_later (script_rules version) (InHead TitleDue) (Turned plan)
    (whole_text c.args.bytes.now) c.read_tail.new.lines c.in_err-read_end.field-0.0 so_far
    (script_no_end version plan c.read_tail.new.lines c.in_err-read_end.field-0.0
    c.in_err-read_end.ensures.refused))

pub from_parts-requires : goal.from_parts-requires
from_parts-requires c =
    let version = c.args.version in
    let kind = c.in_ok-head.head.kind in
    let plan : Plan = plan_in kind c.read_tail.new.clients.items c.in_ok-turns.turns.items in
    let text = is_text_read version c.args.bytes.now kind c.in_ok-head.head.calls c.new-lines.result
    c.read_head_of.new.lines c.new-lines.ensures c.in_ok-head.ensures.found
    (told c.in_ok-clients.clients.items 0) c.read_clients.new.lines c.in_ok-clients.ensures.found
    plan c.read_tail.new.lines (c.in_ok-turns.ensures.found version kind) c.read_end.new.lines
    c.in_ok-read_end.ensures.found in
    plan_of_both version plan (read_is_written version c.args.bytes.now plan text).writable

pub returns-clause-found : goal.returns-clause-found
returns-clause-found c =
    let version = c.args.version in
    let kind = c.in_ok-head.head.kind in
    let plan : Plan = plan_in kind c.read_tail.new.clients.items c.in_ok-turns.turns.items in
    let text = is_text_read version c.args.bytes.now kind c.in_ok-head.head.calls c.new-lines.result
    c.read_head_of.new.lines c.new-lines.ensures c.in_ok-head.ensures.found
    (told c.in_ok-clients.clients.items 0) c.read_clients.new.lines c.in_ok-clients.ensures.found
    plan c.read_tail.new.lines (c.in_ok-turns.ensures.found version kind) c.read_end.new.lines
    c.in_ok-read_end.ensures.found in
    subst (IsScriptText version c.args.bytes.now) (sym c.from_parts.ensures) text
