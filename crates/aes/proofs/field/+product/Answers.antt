-- `product` meets its contract: none, or by the multiplier's last bit. Assumes nothing.
use Rattle.std.proofs.Common.{ℕ, ◌/◌, sym, ap, ◌∙◌, arith}
use Rattle.meaning.specs.Field.{product}
use Rattle.aes.proofs.Products.{none, odd, even}
use Rattle.aes.proofs.field.+product.Goals as goal

pub returns-then-b-eq0 : goal.returns-then-b-eq0
returns-then-b-eq0 t c = sym (ap (product c.args.a) c.if-b-eq0.true ∙ none c.args.a)

pub returns-then-b-eq1 : goal.returns-then-b-eq1
returns-then-b-eq1 t c = odd c.args.a c.args.b c.product-rest.result (omega arith) c.if-b-eq1.true
    (c.product-rest.ensures ∙ ap (λ (k : ℕ). product k (c.args.b / 2)) c.double.ensures)

pub returns-else-b-eq1 : goal.returns-else-b-eq1
returns-else-b-eq1 t c = even c.args.a c.args.b c.product-rest.result (omega arith) c.if-b-eq1.false
    (c.product-rest.ensures ∙ ap (λ (k : ℕ). product k (c.args.b / 2)) c.double.ensures)
