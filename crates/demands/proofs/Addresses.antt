-- An address that was written is read again, for every address whose fields have their widths: by its mode, each field where it stands. Assumes nothing.
use mathlib.Core.Path.{◌≡◌, refl, sym, ◌∙◌}
use mathlib.Core.Logic.{◌≢◌}
use Prim.Native.Nat.{ℕ, ◌+◌, ◌^◌, ◌<◌}
use native.Mathlib.Omega.{arith}
use mathlib.Core.Bool.{Bool, true, false}
use mathlib.Core.List.{List, [], ◌++◌, append_assoc, append-nil}
use lib.ListN.{length, length-append}
use lib.Dec.{eqb}
use borrow.Author.Tests.{eqb-true, eqb-false, ne_eqb}
use Rattle.meaning.specs.Octets.{pick, le_at, octs}
use Rattle.meaning.specs.Frame.{absent, address_len, address_at}
use Rattle.meaning.specs.Build.{address_octets, placed_octets}
use Rattle.meaning.specs.declared.Address.{Address}
use Rattle.meaning.proofs.Numbers.{length-octs, le_at-after, le_at-octs}

-- ---- an address that a header can carry
pub record Carried (a : Address) : Type 0 where
  pub none : a.mode ≡ 0 → a ≡ absent
  pub mode : a.mode < 4
  pub pan : a.pan < 256 ^ 2
  pub address : a.address < 256 ^ address_len a.mode

-- a number of k octets that stands at place at
pub stands-at : (k n : ℕ) (y z : List ℕ) (at : ℕ) → length y ≡ at → n < 256 ^ k → le_at k (y ++ (octs k n ++ z)) at ≡ n
stands-at k n y z at e h =
    let d : at ≡ length y + 0 = omega arith in
    rw d (le_at-after k y (octs k n ++ z) 0 ∙ le_at-octs k n z h)

pub placed-len : (a : Address) → length (placed_octets a) ≡ pick (eqb a.mode 0) 0 (2 + address_len a.mode)
unfolding placed_octets address_octets
placed-len a = go (eqb a.mode 0)
  where
    go : (t : Bool) → length (pick t [] (octs 2 a.pan ++ octs (address_len a.mode) a.address)) ≡ pick t 0 (2 + address_len a.mode)
    go true = refl
    go false = rw (length-append (octs 2 a.pan) (octs (address_len a.mode) a.address), length-octs 2 a.pan, length-octs (address_len a.mode) a.address)

pub address-len : (a : Address) → length (address_octets a) ≡ address_len a.mode
unfolding address_octets
address-len a = length-octs (address_len a.mode) a.address

pub no-address : address_len 0 ≡ 0
unfolding address_len
no-address = refl

-- an address is read where its PAN and its octets stand
pub read-at : (a : Address) → Carried a → (l : List ℕ) (p at : ℕ) → (a.mode ≢ 0 → le_at 2 l p ≡ a.pan)
    → (a.mode ≢ 0 → le_at (address_len a.mode) l at ≡ a.address) → address_at l a.mode p at ≡ a
unfolding address_at
read-at a c l p at hp ha = go (eqb a.mode 0) refl
  where
    go : (t : Bool) → eqb a.mode 0 ≡ t
        → pick t absent (record { mode = a.mode; pan = le_at 2 l p; address = le_at (address_len a.mode) l at }) ≡ a
    go true e = sym (c.none (eqb-true a.mode 0 e))
    go false e = let n : a.mode ≢ 0 = eqb-false a.mode 0 e in rw (hp n, ha n)

-- PAN and address, after y
module _ (a : Address) (c : Carried a) (y z : List ℕ) (at : ℕ) (long : length y ≡ at) where
  pub pan-read : a.mode ≢ 0 → le_at 2 (y ++ (placed_octets a ++ z)) at ≡ a.pan
  unfolding placed_octets
  pan-read n = rw (ne_eqb a.mode 0 n, append_assoc) (stands-at 2 a.pan y (address_octets a ++ z) at long c.pan)

  address-read : a.mode ≢ 0 → le_at (address_len a.mode) (y ++ (placed_octets a ++ z)) (2 + at) ≡ a.address
  unfolding placed_octets address_octets
  address-read n =
      rw (ne_eqb a.mode 0 n, append_assoc, ← append_assoc y (octs 2 a.pan))
      (stands-at (address_len a.mode) a.address (y ++ octs 2 a.pan) z (2 + at) (simp (length-append, length-octs) (omega arith)) c.address)

  pub placed-read : address_at (y ++ (placed_octets a ++ z)) a.mode at (2 + at) ≡ a
  placed-read = read-at a c (y ++ (placed_octets a ++ z)) at (2 + at) pan-read address-read

-- the address alone, after y
pub alone-read : (a : Address) → Carried a → (y : List ℕ) (at : ℕ) → length y ≡ at → le_at (address_len a.mode) (y ++ address_octets a) at ≡ a.address
unfolding address_octets
alone-read a c y at long =
    rw (← append-nil (octs (address_len a.mode) a.address)) (stands-at (address_len a.mode) a.address y [] at long c.address)
