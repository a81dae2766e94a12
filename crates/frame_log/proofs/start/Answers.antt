-- `frame_log::start` prints what is to be printed of the whole input. Each text lies in its buffer, and the site file in the octets at hand. The site that is run
-- on is the one that the file is loaded to. Assumes nothing.
use Rattle.std.proofs.Common.{◌≡◌, ◌+◌, ◌-◌, arith, sym, ap, ◌∙◌, length, length-drop}
use Rattle.std.proofs.lemmas.Result.{on_ok_weaker}
use Rattle.meaning.specs.Records.{width_of, limit_of, start_by}
use Rattle.meaning.specs.File.{file_most}
use Rattle.meaning.specs.Site.{place_of, site_len}
use Rattle.frame_log.specs.Buffers.{kept}
use Rattle.frame_log.specs.Hand.{held}
use Rattle.frame_log.proofs.Hands.{length-held}
use Rattle.frame_log.proofs.Openings.{file-fits, none-zeros, zeros-are}
use Rattle.lines.proofs.Puts.{taken, then}
use Rattle.frame_log.proofs.Inputs.{cut-printed, site-long, site-printed}
use Rattle.frame_log.proofs.Whole.{prints-write, prints-last, prints-all}
use Rattle.frame_log.proofs.start.Goals as goal

pub overflow_add-n : goal.overflow_add-n
unfolding file_most start_by width_of limit_of
overflow_add-n g c =
    let f = file-fits _ _ _ c.beginning.ensures c.in-Ok.is in
    omega (arith, f.0)

pub overflow_add-n-in-Ok : goal.overflow_add-n-in-Ok
unfolding file_most start_by width_of limit_of
overflow_add-n-in-Ok g c =
    let f = file-fits _ _ _ c.beginning.ensures c.in-Ok.is in
    omega (arith, f.0)

pub slice_bounds-open_site-end : goal.slice_bounds-open_site-end
slice_bounds-open_site-end g c =
    let f = file-fits _ _ _ c.beginning.ensures c.in-Ok.is in
    omega (arith, f.1, ap length c.hand.ensures, ap length c.hand-in-Ok.ensures)

pub open_site-ok-requires : goal.open_site-ok-requires
unfolding site_len place_of start_by width_of limit_of
open_site-ok-requires g c = zeros-are

pub site_in-requires : goal.site_in-requires
site_in-requires g c = record { ok = c.open_site-ok.ensures.rule; zeros = none-zeros c.open_site-ok.ensures }

pub skip-requires : goal.skip-requires
skip-requires g c =
    let f = file-fits _ _ _ c.beginning.ensures c.in-Ok.is in
    omega (arith, f.1, ap length c.hand.ensures)

pub returns-in-Err-Cut : goal.returns-in-Err-Cut
returns-in-Err-Cut g c = λ end long.
    let i = held c.args.window.now in
    let w = cut-printed i _ (rw c.hand.ensures at c.beginning.ensures) (rw c.in-Err-Cut.field-0-is at c.in-Err-Cut.is) in
    let t = rw c.new-head.ensures.at at (taken (then c.heading.ensures.put c.cut.ensures.put)) in
    on_ok_weaker c.write_all.result (λ p. prints-last _ _ _ _ _ _ p (end (omega (arith, w.0, length-held c.args.window.now, c.requires.0))) (w.1 ∙ sym t))
    (rw c.written.ensures at c.write_all.ensures.bytes)

pub returns-in-Err-Long : goal.returns-in-Err-Long
returns-in-Err-Long g c = λ end long.
    let i = held c.args.window.now in
    let w = site-long i _ (rw c.hand.ensures at c.beginning.ensures) (rw c.in-Err-Long.field-0-is at c.in-Err-Long.is) in
    let t = rw c.new-head.ensures.at at (taken (then c.heading.ensures.put c.site.ensures.put)) in
    on_ok_weaker c.write_all-in-Err-Long.result (λ p. prints-all _ _ _ _ _ _ p (λ y. w y ∙ sym t))
    (rw c.written-in-Err-Long.ensures at c.write_all-in-Err-Long.ensures.bytes)

pub returns-in_ok-write_all-in-Ok : goal.returns-in_ok-write_all-in-Ok
returns-in_ok-write_all-in-Ok g c = λ end long.
    let i = held c.args.window.now in
    let p = rw c.hand.ensures at c.beginning.ensures in
    let f = file-fits i _ c.in-Ok.n p c.in-Ok.is in
    let e : 2 + c.in-Ok.n - 2 ≡ c.in-Ok.n = omega arith in
    let site = c.new-gate.ensures.site ∙ c.site_in.ensures.site ∙ rw (c.hand-in-Ok.ensures, e) at c.open_site-ok.ensures.site in
    let w = rw (← c.new-gate.ensures.out, ← c.skip.ensures.hand) at (site-printed i _ p c.in-Ok.n c.in-Ok.is (kept c.new-gate.result.site) site) in
    let t = rw c.new-head.ensures.at at (taken c.heading.ensures.put) in
    on_ok_weaker c.run.result
    (prints-write _ _ _ _ _ _ _ _ _ (rw (c.written-in-Ok.ensures, t) at c.in_ok-write_all-in-Ok.ensures.bytes) w
    (omega (arith, f.1, ap length c.skip.ensures.hand, length-drop (2 + c.in-Ok.n) i)))
    (c.run.ensures (λ q. end (omega (arith, q, c.skip.ensures.have, ap length c.skip.ensures.octets))) (omega (arith, long, ap length c.skip.ensures.octets)))
