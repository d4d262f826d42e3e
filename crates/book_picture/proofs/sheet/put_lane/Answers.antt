use Rattle.std.proofs.Common.{◌≡◌, ℕ, ◌+◌, List, ◌++◌, string_bytes, append_assoc, sym, ap, ◌∙◌, arith}
use Rattle.book_picture.specs.Groups.{is_plain}
use Rattle.book_picture.specs.Heads.{lane_at, lane_middle, lane_text}
use Rattle.book_picture.specs.Rows.{capped, lane_top}
use Rattle.book_picture.proofs.PlainTexts.{plain_lane}
use Rattle.book_picture.proofs.sheet.put_lane.Goals as goal

-- a lane at the heights that are computed for a caller is this caller's
lane_same : (top right caller begin middle base : ℕ) → begin ≡ lane_top top caller
    → middle ≡ capped (begin + 22) → base ≡ capped (middle + 4)
    → lane_at middle base right caller ≡ lane_text top right caller
lane_same top right caller begin middle base e f g =
    let half : middle ≡ lane_middle top caller = f ∙ ap (λ (n : ℕ). capped (n + 22)) e in
    ap (λ (n : ℕ). lane_at middle n right caller) (g ∙ ap (λ (n : ℕ). capped (n + 4)) half)
    ∙ ap (λ (n : ℕ). lane_at n (capped (lane_middle top caller + 4)) right caller) half

pub returns : goal.returns
returns c =
    let middle = c.saturating_add-middle.result in
    let base = c.saturating_add-base.result in
    let same : lane_at middle base c.args.right c.args.caller
    ≡ lane_text c.args.top c.args.right c.args.caller =
    lane_same c.args.top c.args.right c.args.caller c.lane_top.result middle base c.lane_top.ensures
    c.saturating_add-middle.ensures c.saturating_add-base.ensures in
    let bytes : string_bytes c.write.new.self
    ≡ string_bytes c.args.out.now ++ lane_at middle base c.args.right c.args.caller =
    unfold lane_at in simp (c.in_ok-write.ensures.bytes, append_assoc) in
    record {
      plain = ap is_plain (sym same) ∙ plain_lane middle base c.args.right c.args.caller
          (omega arith) (omega arith) (omega arith) (omega arith);
      grown = bytes ∙ ap (λ (t : List ℕ). string_bytes c.args.out.now ++ t) same;
    }
