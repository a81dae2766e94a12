-- 2, then by the judgment: a refusal, a frame without security, or a secured one. Assumes nothing.
use mathlib.Core.Path.{sym, ◌∙◌}
use Rattle.std.proofs.lemmas.Result.{err_from_is_err_and}
use Rattle.receiver.proofs.Commits.{judged-by, passed-fits, plain-in, secured-in, no-room, front-whole, front-room, on-refused, on-plain, on-secure}
use Rattle.receiver.proofs.receive_valid.Goals as goal

pub returns-in_default-clause-outcome : goal.returns-in_default-clause-outcome
returns-in_default-clause-outcome c = no-room _ _ _ c.in_default.ensures.cases

pub new-body-requires : goal.new-body-requires
new-body-requires c = passed-fits _ _ _ (sym c.judge.ensures ∙ c.in_ok-passed.was)

pub accept_plain-requires : goal.accept_plain-requires
accept_plain-requires c = rw c.new-body.ensures (plain-in _ _ _ _ c.view.result.holds c.judge.ensures c.in_ok-passed.was c.in-Plain.is)

pub settle-requires-clause-key_bound : goal.settle-requires-clause-key_bound
settle-requires-clause-key_bound c = (secured-in _ _ _ _ c.args.site.now.holds (judged-by _ _ _ _ c.view.ensures c.judge.ensures) c.in_ok-passed.was _ _ _ c.in-Secure.is).0

pub settle-requires-clause-device_bound : goal.settle-requires-clause-device_bound
settle-requires-clause-device_bound c = (secured-in _ _ _ _ c.args.site.now.holds (judged-by _ _ _ _ c.view.ensures c.judge.ensures) c.in_ok-passed.was _ _ _ c.in-Secure.is).1

pub returns-in_err-passed-clause-outcome : goal.returns-in_err-passed-clause-outcome
returns-in_err-passed-clause-outcome c =
    let p = err_from_is_err_and c.from_residual.result c.from_residual.ensures.1 in
    rw (p.1, p.2) (on-refused _ _ _ _ _ _ (front-whole _ _ c.in-Some.ensures.cases) (front-room _ _ c.in-Some.ensures.cases) (judged-by _ _ _ _ c.view.ensures c.judge.ensures) _ c.in_err-passed.was)

pub returns-in-Plain-clause-outcome : goal.returns-in-Plain-clause-outcome
returns-in-Plain-clause-outcome c =
    on-plain _ _ _ _ _ _ (front-whole _ _ c.in-Some.ensures.cases) (front-room _ _ c.in-Some.ensures.cases) (judged-by _ _ _ _ c.view.ensures c.judge.ensures) _ c.in_ok-passed.was _
    c.new-body.ensures c.new-body.result.short _ _ c.in-Plain.is c.accept_plain.ensures

pub returns-in-Secure-clause-outcome : goal.returns-in-Secure-clause-outcome
returns-in-Secure-clause-outcome c =
    on-secure _ _ _ _ _ _ (front-whole _ _ c.in-Some.ensures.cases) (front-room _ _ c.in-Some.ensures.cases) (judged-by _ _ _ _ c.view.ensures c.judge.ensures) _ c.in_ok-passed.was _
    c.new-body.ensures c.new-body.result.short _ _ _ _ c.in-Secure.is (c.settle.ensures.outcome _)
