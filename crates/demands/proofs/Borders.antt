-- The borders marked P hold: the table by computing it, the last by its two cases. Assumes nothing.
use mathlib.Core.Path.{◌≡◌, refl}
use mathlib.Core.Bool.{false, not}
use Prim.Native.Nat.{ℕ, ◌≤◌, ◌<◌}
use native.Mathlib.Omega.{arith}
use native.Mathlib.Decide.{dec_lt}
use lib.Dec.{eqb, leb}
use borrow.Author.Tests.{eq-eqb, lt-leb}
use Rattle.meaning.specs.Octets.{octs, same, le_at}
use Rattle.meaning.specs.Fcs.{fcs, sum, summed, fed, shifted}
use Rattle.meaning.specs.Frame.{
  at_least,
  level_of,
  mode_of,
  aux_m,
  key_id_len,
  key_source_len,
  head_m,
  header_of,
  type_of,
  security_of,
  pending_of,
  request_of,
  compression_of,
  destination_mode,
  version_of,
  source_mode,
  address_len,
  destination_len,
  source_len,
  address_at,
  destination_of,
  source_of,
}
use Rattle.meaning.specs.Field.{xtime, product_bits, product}
use Rattle.meaning.specs.Sbox.{square, inverse, bit, affine_bit, affine_bits, sbox}
use Rattle.meaning.specs.Ccm.{flags_of}
use Rattle.meaning.specs.Receive.{timely, raised}
use Rattle.meaning.proofs.Tests.{and_right}
use Rattle.demands.specs.Borders.{table, holds, Borders}

ended : (c : ℕ) → c ≤ 0xffff_ffff → Dec (c < 0xffff_ffff) → timely 0xffff_ffff c ≡ false
unfolding timely
ended c h (yes l) = and_right (not (eqb c 0xffff_ffff)) (leb 0xffff_ffff c) (lt-leb 0xffff_ffff c l)
ended c h (no n) = let e : c ≡ 0xffff_ffff = omega arith in rw (eq-eqb c 0xffff_ffff e)

pub borders : Borders
unfolding table holds same fcs octs sum summed fed shifted at_least level_of mode_of aux_m key_id_len key_source_len head_m header_of type_of security_of pending_of request_of compression_of destination_mode version_of source_mode address_len destination_len source_len address_at destination_of source_of le_at xtime product_bits product square inverse bit affine_bit affine_bits sbox flags_of timely raised
borders = record { rows = refl; ends = λ c h. ended c h (dec_lt c 0xffff_ffff) }
