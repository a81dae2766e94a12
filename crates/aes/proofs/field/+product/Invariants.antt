-- The measure is the multiplier, which halves at each call.
use Rattle.aes.proofs.field.+product.Given as goal

abbrev pub decreases-product : goal.decreases-product
decreases-product l = l.b
