-- `Cipher::encrypt` meets its contract: before round i the state is that after i - 1 whole rounds. Assumes nothing.
use Rattle.std.proofs.Common.{◌≡◌, refl, arith}
use Rattle.meaning.specs.Cipher.{rounds}
use Rattle.aes.specs.Schedule.{cipher_by}
use Rattle.aes.proofs.Turns.{state-more, finish}
use Rattle.aes.proofs.rounds.Cipher.encrypt.Goals as goal

pub loop-i-init : goal.loop-i-init
unfolding rounds
loop-i-init c = refl

pub loop-i-preserved : goal.loop-i-preserved
loop-i-preserved c = let w = c.args.self.now.schedule in
    state-more w _ c.loop-i.i (omega arith) c.loop-i.invariant c.sub_and_shift.ensures
    c.mix_columns-mixed.ensures c.add_round_key-s-in-loop-i.ensures

pub returns : goal.returns
unfolding cipher_by
returns c = let w = c.args.self.now.schedule in
    let e : c.loop-i.i ≡ 10 = omega arith in
    finish w c.args.block c.load.ensures c.add_round_key-s.ensures (rw e at c.loop-i.invariant)
    c.sub_and_shift-2.ensures c.add_round_key.ensures c.store.ensures
