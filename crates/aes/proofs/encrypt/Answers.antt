-- `aes::encrypt` meets its contract: by the key's schedule, the cipher under the key. Assumes nothing.
use Rattle.std.proofs.Common.{List, ℕ, ap, ◌∙◌}
use Rattle.aes.specs.Schedule.{cipher_by}
use Rattle.aes.proofs.Laws.{by-schedule}
use Rattle.aes.proofs.encrypt.Goals as goal

pub returns : goal.returns
returns c = let block = c.args.block in
    c.encrypt.ensures ∙ ap (λ (w : List ℕ). cipher_by w block) c.new.ensures ∙ by-schedule c.args.key block
