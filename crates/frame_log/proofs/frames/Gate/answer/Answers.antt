-- `Gate::answer` meets its contract: by whether there is a site that keeps its rules. Assumes nothing.
use Rattle.std.proofs.lemmas.Result.{err_from_is_err_and}
use Rattle.frame_log.proofs.Replies.{answered-ok, answered-err, answered-none}
use Rattle.frame_log.proofs.frames.Gate.answer.Goals as goal

pub returns-in_default : goal.returns-in_default
returns-in_default c = rw c.in_default.is record { same_site = tt; answered = answered-none c.args.frame.now c.args.self.now.out }

pub returns-in_err-answer : goal.returns-in_err-answer
returns-in_err-answer c =
    let p = err_from_is_err_and c.from_residual.result c.from_residual.ensures.1 in
    let e = c.in_err-answer.ensures in
    rw (p.1, p.2, c.in-Some.is) record { same_site = e.same_reference; answered = answered-err _ _ _ _ _ c.in-Some.site.holds _ e.outcome }

pub returns : goal.returns
returns c =
    let e = c.in_ok-answer.ensures in
    rw c.in-Some.is record { same_site = e.same_reference; answered = answered-ok _ _ _ _ _ c.in-Some.site.holds _ e.outcome }
