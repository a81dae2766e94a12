-- `octets::writer::Writer::word` meets its contract: so many octets stand there. Assumes nothing.
use mathlib.Core.Path.{refl, ap, sym, ◌∙◌}
use Prim.Native.Nat.{ℕ, ◌+◌}
use Rattle.meaning.proofs.Numbers.{length-octs}
use Rattle.octets.proofs.writer.Writer.word.Goals as goal

pub returns : goal.returns
returns g c = let n = g.T.Word.OCTETS in
    record {
      next = ap (λ (m : ℕ). c.args.self.now.at + m) (c.OCTETS.ensures ∙ sym (length-octs n (g.T.Word.value c.args.v)));
      same = c.put.ensures;
      out = refl;
    }
